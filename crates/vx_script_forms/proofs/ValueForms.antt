-- Values of parts are what the parts say, one after the other.
use Rattle.std.proofs.Common.{◌≡◌, ap₂, refl, ℕ, Bool, true, false, Option, Some, None, List, [], ◌∷◌}
use Rattle.std.proofs.lemmas.Bool.{and_parts}
use Rattle.vx_script_forms.specs.ValuesOf.{maybe_value, count_value}
use Rattle.vx_script_words.specs.Fits.{is_of, maybe_of, of_item, are_of}
use Rattle.vx_script_words.specs.declared.class.Item.{Item}
use Rattle.vx_script_words.specs.declared.class.Item.TheVariants.{One, Maybe, Group, NoGroup, Names, Pairs, Blocks}
use Rattle.vx_script_words.specs.declared.class.Sort.{Sort}
use Rattle.vx_script_words.specs.declared.class.Sort.TheVariants as sort
use Rattle.vx_script_words.specs.declared.value.DiskAt.{DiskAt}
use Rattle.vx_script_words.specs.declared.value.Value.{Value}
use Rattle.vx_script_words.specs.declared.value.Value.TheVariants as value

-- what a break-off names
pub record Parts : Type 0 where
  pub vol : List ℕ
  pub snap : List ℕ
  pub plex : Option (List ℕ)

-- what a value of a sort is of
abbrev pub SaidOf : Sort → Type 0
SaidOf sort.Word = Unit {0}
SaidOf sort.Named = List ℕ
SaidOf (sort.Number low high) = ℕ
SaidOf sort.Length = ℕ
SaidOf sort.Byte = ℕ
SaidOf sort.Pair = DiskAt
SaidOf sort.BreakOff = Parts

abbrev pub value_said : (s : Sort) → SaidOf s → Value
value_said sort.Word x = value.Word
value_said sort.Named x = value.Named x
value_said (sort.Number low high) x = value.Number x
value_said sort.Length x = value.Number x
value_said sort.Byte x = value.Number x
value_said sort.Pair x = value.Pair x
value_said sort.BreakOff x = value.BreakOff x.vol x.snap x.plex

abbrev pub MaybeSaid : Sort → Type 0
MaybeSaid sort.Word = Bool
MaybeSaid sort.Named = Option (List ℕ)
MaybeSaid (sort.Number low high) = Option ℕ
MaybeSaid sort.Length = Option ℕ
MaybeSaid sort.Byte = Option ℕ
MaybeSaid sort.Pair = Option DiskAt
MaybeSaid sort.BreakOff = Option Parts

abbrev pub word_value : Bool → Value
word_value true = value.Word
word_value false = value.Nothing

abbrev pub pair_value : Option DiskAt → Value
pair_value None = value.Nothing
pair_value (Some x) = value.Pair x

abbrev pub parts_value : Option Parts → Value
parts_value None = value.Nothing
parts_value (Some x) = value.BreakOff x.vol x.snap x.plex

abbrev pub maybe_said : (s : Sort) → MaybeSaid s → Value
maybe_said sort.Word x = word_value x
maybe_said sort.Named x = maybe_value x
maybe_said (sort.Number low high) x = count_value x
maybe_said sort.Length x = count_value x
maybe_said sort.Byte x = count_value x
maybe_said sort.Pair x = pair_value x
maybe_said sort.BreakOff x = parts_value x

abbrev pub Said : Item → Type 0
Said (One class) = SaidOf class.sort
Said (Maybe class) = MaybeSaid class.sort
Said Group = Option (List ℕ)
Said NoGroup = Unit {0}
Said Names = List (List ℕ)
Said Pairs = List DiskAt
Said Blocks = List ℕ

abbrev pub item_value : (i : Item) → Said i → Value
item_value (One class) x = value_said class.sort x
item_value (Maybe class) x = maybe_said class.sort x
item_value Group x = maybe_value x
item_value NoGroup x = value.Nothing
item_value Names x = value.Names x
item_value Pairs x = value.Pairs x
item_value Blocks x = value.Blocks x

abbrev pub Saids : List Item → Type 0
Saids [] = Unit {0}
Saids (i ∷ is) = Said i × Saids is

abbrev pub said_values : (is : List Item) → Saids is → List Value
said_values [] x = []
said_values (i ∷ is) x = item_value i x.0 ∷ said_values is x.1

one_said : (s : Sort) (v : Value) → is_of s v ≡ true → (x : SaidOf s) × (v ≡ value_said s x)
one_said sort.Word value.Word h = (tt, refl)
one_said sort.Named (value.Named name) h = (name, refl)
one_said (sort.Number low high) (value.Number n) h = (n, refl)
one_said sort.Length (value.Number n) h = (n, refl)
one_said sort.Byte (value.Number n) h = (n, refl)
one_said sort.Pair (value.Pair pair) h = (pair, refl)
one_said sort.BreakOff (value.BreakOff vol snap plex) h = (record { vol = vol; snap = snap; plex = plex }, refl)
one_said s v h = absurd cc

nothing_said : (s : Sort) → (x : MaybeSaid s) × (value.Nothing ≡ maybe_said s x)
nothing_said sort.Word = (false, refl)
nothing_said s = (None, refl)

some_said : (s : Sort) (v : Value) → is_of s v ≡ true → (x : MaybeSaid s) × (v ≡ maybe_said s x)
some_said sort.Word v h = (true, (one_said sort.Word v h).1)
some_said s v h = let x = one_said s v h in (Some x.0, x.1)

or_nothing : (s : Sort) (v : Value) → maybe_of s v ≡ true → (x : MaybeSaid s) × (v ≡ maybe_said s x)
or_nothing s value.Nothing h = nothing_said s
or_nothing s v h = some_said s v h

item_said : (i : Item) (v : Value) → of_item i v ≡ true → (x : Said i) × (v ≡ item_value i x)
item_said (One class) v h = one_said class.sort v h
item_said (Maybe class) v h = or_nothing class.sort v h
item_said Group v h = or_nothing sort.Named v h
item_said NoGroup value.Nothing h = (tt, refl)
item_said Names (value.Names names) h = (names, refl)
item_said Pairs (value.Pairs pairs) h = (pairs, refl)
item_said Blocks (value.Blocks bytes) h = (bytes, refl)
item_said i v h = absurd cc

pub decoded : (is : List Item) (vs : List Value) → are_of is vs ≡ true → (x : Saids is) × (vs ≡ said_values is x)
decoded [] [] h = (tt, refl)
decoded (i ∷ is) (v ∷ vs) h =
    let parts = and_parts (of_item i v) (are_of is vs) h in
    let first = item_said i v parts.0 in
    let rest = decoded is vs parts.1 in
    ((first.0, rest.0), ap₂ (λ (y : Value) (ys : List Value). y ∷ ys) first.1 rest.1)
decoded is vs h = absurd cc
