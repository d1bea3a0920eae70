-- The first column of a plex in the map from one on, and its pieces there.
use Rattle.std.proofs.Common.{◌≡◌, ℕ, ◌≤◌, Bool, true, false, List, Option, Some, None, Ordering, Less, Equal, Greater, refl, sym, ap, ◌∙◌, subst, inl, inr, arith, is_lt, nat_cmp, nat_le, ◌&&◌, ◌==◌}
use Rattle.std.specs.Ordering.{is_gt, ordering_then, ordering_reverse}
use Rattle.std.specs.Option.{IsSome, is_some}
use Rattle.std.specs.List.{list_any}
use Rattle.std.specs.Str.{bytes_eq}
use Rattle.std.specs.Cmp.Lexicographic.{slice_cmp}
use Rattle.std.specs.BTreeMap.{BTreeMap, get}
use Rattle.std.proofs.lemmas.Bool.{false≢true, and_parts, and_from, cases_Bool, false_from_ne_true, leb-true, le-leb, eqb-true, eq-eqb}
use Rattle.std.proofs.lemmas.Bool.Decides.{nat_tests}
use Rattle.std.proofs.lemmas.Cmp.{nat_list_cmp_total, tied_itself}
use Rattle.std.proofs.lemmas.Map.Keys.{le_from_not_gt}
use Rattle.vx_base.specs.Named.{Word}
use Rattle.vx_base.proofs.NamedLemmas.{bytes_eq_self, bytes_eq_same}
use Rattle.vx_config_parts.specs.declared.subdisk.Subdisk.{Subdisk}
use Rattle.vx_config_parts.specs.declared.object.Object.{Object}
use Rattle.vx_config_parts.specs.declared.object.Object.TheVariants.{SubdiskRecord}
use Rattle.vx_config_parts.specs.Objects.{is_subdisk, refers}
use Rattle.vx_rules.specs.declared.column.Column.{Column}
use Rattle.vx_rules.specs.Keys.{Key, key_cmp}
use Rattle.vx_rules.specs.Columns.{is_in_column}
use Rattle.vx_rules.specs.Indexed.{IsIndexed, column_is_there, has_piece_from}
use Rattle.vx_rules.proofs.NameOrder.{same_place}
use Rattle.vx_rules.proofs.ListTests.{any_weaker, any_witness}

-- a subdisk that passes the one passes the other
pub subdisk_weaker : (p q : Subdisk → Bool) → ((s : Subdisk) → p s ≡ true → q s ≡ true) → (o : Object) → is_subdisk p o ≡ true → is_subdisk q o ≡ true
subdisk_weaker p q w (SubdiskRecord s) h = w s h
subdisk_weaker p q w o h = absurd (false≢true h)

front_not_after : (o r : Ordering) → is_gt (ordering_then o r) ≡ false → is_gt o ≡ false
front_not_after Less r h = refl
front_not_after Equal r h = refl
front_not_after Greater r h = h

turned : (o r : Ordering) → o ≡ ordering_reverse r → is_gt r ≡ false → is_lt o ≡ false
turned o Less e h = ap is_lt e
turned o Equal e h = ap is_lt e
turned o Greater e h = absurd (false≢true (sym h))

-- a key between two of one name has that name
same_name : (name other : Word) (x y z : ℕ) → is_gt (key_cmp (name, x) (other, y)) ≡ false → is_gt (key_cmp (other, y) (name, z)) ≡ false → other ≡ name
same_name name other x y z h k =
    let up = front_not_after (slice_cmp nat_cmp name other) (nat_cmp x y) h in
    let down = front_not_after (slice_cmp nat_cmp other name) (nat_cmp y z) k in
    same_place other name (turned (slice_cmp nat_cmp other name) (slice_cmp nat_cmp name other) (nat_list_cmp_total.antisymm other name) up)
    (turned (slice_cmp nat_cmp name other) (slice_cmp nat_cmp other name) (nat_list_cmp_total.antisymm name other) down)

-- under one name the numbers decide
not_after : (name : Word) (x y : ℕ) → x ≤ y → is_gt (key_cmp (name, x) (name, y)) ≡ false
not_after name x y le = rw (tied_itself nat_list_cmp_total name) (by x y le)
  where
    by : (x y : ℕ) → x ≤ y → is_gt (nat_cmp x y) ≡ false
    by x y le = grind (arith, nat_tests)

number_le : (name other : Word) (x y : ℕ) → other ≡ name → is_gt (key_cmp (name, x) (other, y)) ≡ false → x ≤ y
number_le name other x y same h =
    let tie : slice_cmp nat_cmp name other ≡ Equal = subst (λ n. slice_cmp nat_cmp n other ≡ Equal) same (tied_itself nat_list_cmp_total other) in
    le_from_not_gt x y (rw tie at h)

-- a subdisk in the same column of the plex
abbrev pub beside : Word → Object → Object → Bool
beside plex (SubdiskRecord s) o = is_subdisk (λ t. is_in_column plex s.col t) o
beside plex _ o = false

-- the column of a piece that is there, from that one on
record IsThere (all : List Object) (plex : Word) (col at : ℕ) : Type 0 where
  le : col ≤ at
  is : column_is_there all plex at ≡ true

there_from : (all : List Object) (plex : Word) (col : ℕ) → has_piece_from all plex col ≡ true → (at : ℕ) × IsThere all plex col at
there_from all plex col h = found (any_witness _ (beside plex) all itself h)
  where
    itself : (o : Object) → is_subdisk (λ s. refers s.plex plex && nat_le col s.col) o ≡ true → beside plex o o ≡ true
    itself (SubdiskRecord s) k = and_from _ _ (and_parts (refers s.plex plex) (nat_le col s.col) k).0 (eq-eqb s.col s.col refl)
    itself o k = absurd (false≢true k)

    at_object : (o : Object) → is_subdisk (λ s. refers s.plex plex && nat_le col s.col) o ≡ true → list_any (beside plex o) all ≡ true → (at : ℕ) × IsThere all plex col at
    at_object (SubdiskRecord s) k any = (s.col, record { le = leb-true col s.col (and_parts (refers s.plex plex) (nat_le col s.col) k).1; is = any })
    at_object o k any = absurd (false≢true k)

    found : (o : Object) × (is_subdisk (λ s. refers s.plex plex && nat_le col s.col) o ≡ true) × (list_any (beside plex o) all ≡ true) → (at : ℕ) × IsThere all plex col at
    found w = at_object w.0 w.1 w.2

some_is : {A : Type 0} (o : Option A) → is_some o ≡ true → IsSome o
some_is o h = h

-- the first column from that one on is of the plex where it has a piece there
pub first_answers : (all : List Object) (columns : BTreeMap Key Column) (plex : Word) (col : ℕ) (place : Key) (c : Column) → IsIndexed all columns → get key_cmp columns place ≡ Some c → is_gt (key_cmp (plex, col) place) ≡ false → ((q : Key) → is_gt (key_cmp (plex, col) q) ≡ false → IsSome (get key_cmp columns q) → is_gt (key_cmp place q) ≡ false) → bytes_eq place.0 plex ≡ has_piece_from all plex col
first_answers all columns plex col place c indexed there from least =
    elim (cases_Bool (bytes_eq place.0 plex)) [
      | inl same ↦ same ∙ sym (has same)
      | inr other ↦ other ∙ sym (false_from_ne_true _ (λ h. has_none other (there_from all plex col h)))
    ]
  where
    has : bytes_eq place.0 plex ≡ true → has_piece_from all plex col ≡ true
    has e =
        let same : place.0 ≡ plex = bytes_eq_same place.0 plex e in
        let le : col ≤ place.1 = number_le plex place.0 col place.1 same from in
        let here : column_is_there all place.0 place.1 ≡ true = sym (indexed.there place.0 place.1) ∙ ap is_some there in
        any_weaker _ _ all (subdisk_weaker (λ s. is_in_column place.0 place.1 s) (λ s. refers s.plex plex && nat_le col s.col) (λ s k.
        let parts = and_parts (refers s.plex place.0) (s.col == place.1) k in
        let number : s.col ≡ place.1 = eqb-true s.col place.1 parts.1 in
        and_from _ _ (subst (λ n. refers s.plex n ≡ true) same parts.0) (le-leb col s.col (omega arith)))) here

    has_none : bytes_eq place.0 plex ≡ false → (at : ℕ) × IsThere all plex col at → ⊥
    has_none other found =
        let some : IsSome (get key_cmp columns (plex, found.0)) = some_is _ (indexed.there plex found.0 ∙ found.1.is) in
        let behind = least (plex, found.0) (not_after plex col found.0 found.1.le) some in
        let same : place.0 ≡ plex = same_name plex place.0 col place.1 found.0 from behind in
        false≢true (sym other ∙ subst (λ n. bytes_eq n plex ≡ true) (sym same) (bytes_eq_self plex))

-- nothing is there from that one on
pub none_answers : (all : List Object) (columns : BTreeMap Key Column) (plex : Word) (col : ℕ) → IsIndexed all columns → ((q : Key) → is_gt (key_cmp (plex, col) q) ≡ false → get key_cmp columns q ≡ None) → false ≡ has_piece_from all plex col
none_answers all columns plex col indexed none = sym (false_from_ne_true _ (λ h. missing (there_from all plex col h)))
  where
    missing : (at : ℕ) × IsThere all plex col at → ⊥
    missing found = false≢true (sym (ap is_some (none (plex, found.0) (not_after plex col found.0 found.1.le))) ∙ (indexed.there plex found.0 ∙ found.1.is))
