-- What a word says is in the range of its sort.
use Rattle.std.proofs.Common.{◌≡◌, ◌∙◌, sym, ap, subst, refl, ℕ, zero, suc, ◌-◌, ◌*◌, ◌^◌, ◌<◌, ◌≤◌, ◌⊎◌, inl, inr, Bool, true, false, cond, not, is_some, Option, Some, None, List, [], ◌∷◌, ◌++◌, length, take, drop, replicate, get_or, arith, eqb, leb, leb-true, eqb-true, lt-ltb, le-leb, codes, append_assoc, slice_index}
use Rattle.std.specs.Prelude.{◌&&◌, is_none}
use Rattle.std.specs.List.{list_all, position_or_len}
use Rattle.std.specs.Str.{bytes_eq}
use Rattle.std.proofs.lemmas.Bool.{and_parts, and_from, true≢false, cases_lt, cases_Bool, or_cases, both_ways, cond-true, cond-false}
use Rattle.std.proofs.lemmas.Bool.Decides.{nat_tests}
use Rattle.std.proofs.lemmas.List.{length-replicate, drop_all}
use Rattle.std.proofs.lemmas.List.Sums.{split_at_first, prefix_len_stops}
use Rattle.std.proofs.lemmas.Option.{cond_some, same_Some}
use Rattle.vx_block.specs.Reading.{byte_value, bytes_of, digit_value, is_block_word, is_hex_digit, is_long_word, is_short_word, spelled_block}
use Rattle.vx_names.specs.Form.{is_name}
use Rattle.vx_names.specs.Length.{numeral_front, unit_sectors}
use Rattle.vx_names.specs.Number.{digits_value, is_numeral}
use Rattle.vx_script_words.specs.Class.{as_name, as_number, as_pair, as_word, sort_value, value_behind, class_value}
use Rattle.vx_script_words.specs.Fits.{is_between, is_byte, is_of, is_pair, maybe_name}
use Rattle.vx_script_words.specs.Hex.{byte_of, block_of}
use Rattle.vx_script_words.specs.Number.{number_of, within, length_of}
use Rattle.vx_script_words.specs.Parts.{behind, name_of, name_behind, number_behind, cut_of, both, pair_of, three, just, plex_of, break_off_of}
use Rattle.vx_script_words.specs.Words.{up_to, past}
use Rattle.vx_script_words.specs.declared.class.Class.{Class}
use Rattle.vx_script_words.specs.declared.class.Sort.{Sort}
use Rattle.vx_script_words.specs.declared.class.Sort.TheVariants as sort
use Rattle.vx_script_words.specs.declared.value.DiskAt.{DiskAt}
use Rattle.vx_script_words.specs.declared.value.Value.{Value}
use Rattle.vx_script_words.specs.declared.value.Value.TheVariants as value

-- ---- tests

-- which way a choice went
pub chosen : {A : Type 0} (b : Bool) (x y z : A) → cond b x y ≡ z → ((b ≡ true) × (x ≡ z)) ⊎ ((b ≡ false) × (y ≡ z))
chosen true x y z e = inl (refl, e)
chosen false x y z e = inr (refl, e)

-- where one of the two is nothing
pub held : {A : Type 0} (b : Bool) (o : Option A) (x : A) → cond b o None ≡ Some x → (b ≡ true) × (o ≡ Some x)
held true o x e = (refl, e)
held false o x e = absurd cc

pub held_not : {A : Type 0} (b : Bool) (o : Option A) (x : A) → cond b None o ≡ Some x → (b ≡ false) × (o ≡ Some x)
held_not true o x e = absurd cc
held_not false o x e = (refl, e)

pub not_some : {A : Type 0} (o : Option A) → is_some o ≡ false → o ≡ None
not_some None e = refl
not_some (Some x) e = absurd cc

not_not : (b : Bool) → not (not b) ≡ true → b ≡ true
not_not true e = refl
not_not false e = absurd cc

-- ---- values

named_is : (o : Option (List ℕ)) (v : Value) → as_name o ≡ Some v → (name : List ℕ) × (o ≡ Some name) × (v ≡ value.Named name)
named_is None v e = absurd cc
named_is (Some name) v e = (name, refl, cc)

numbered_is : (o : Option ℕ) (v : Value) → as_number o ≡ Some v → (n : ℕ) × (o ≡ Some n) × (v ≡ value.Number n)
numbered_is None v e = absurd cc
numbered_is (Some n) v e = (n, refl, cc)

paired_is : (o : Option DiskAt) (v : Value) → as_pair o ≡ Some v → (pair : DiskAt) × (o ≡ Some pair) × (v ≡ value.Pair pair)
paired_is None v e = absurd cc
paired_is (Some pair) v e = (pair, refl, cc)

word_is : (word : List ℕ) (v : Value) → as_word word ≡ Some v → v ≡ value.Word
word_is [] v e = cc
word_is (b ∷ bs) v e = absurd cc

-- ---- names and numbers

pub name_ok : (word name : List ℕ) → name_of word ≡ Some name → (is_name name ≡ true) × (word ≡ name)
name_ok word name e =
    let c = cond_some (is_name word) word name e in
    (subst (λ (w : List ℕ). is_name w ≡ true) c.1 c.0, c.1)

name_behind_ok : (o : Option (List ℕ)) (name : List ℕ) → name_behind o ≡ Some name → is_name name ≡ true
name_behind_ok None name e = absurd cc
name_behind_ok (Some word) name e = (name_ok word name e).0

pub within_ok : (low high n : ℕ) (o : Option ℕ) → within low high o ≡ Some n → (low ≤ n) × (n ≤ high)
within_ok low high n None e = absurd cc
within_ok low high n (Some m) e =
    let c = cond_some (leb low m && leb m high) m n e in
    let p = and_parts (leb low m) (leb m high) c.0 in
    let above : low ≤ m = leb-true low m p.0 in
    let below : m ≤ high = leb-true m high p.1 in
    (omega arith, omega arith)

pub length_ok : (word : List ℕ) (sectors : ℕ) → length_of word ≡ Some sectors → (1 ≤ sectors) × (sectors ≤ 2 ^ 40)
length_ok word sectors e =
    let number = take (numeral_front word) word in
    let unit = drop (numeral_front word) word in
    let product = Some (digits_value number * unit_sectors unit) in
    within_ok 1 (2 ^ 40) sectors product (held (is_numeral number) (within 1 (2 ^ 40) product) sectors e).1

pub cut_ok : (o : Option (List ℕ)) (n : ℕ) → number_behind o ≡ Some n → n < 2 ^ 40
cut_ok None n e = absurd cc
cut_ok (Some word) n e = let w = within_ok 0 (2 ^ 40 - 1) n (number_of word) e in omega arith

-- ---- bytes and blocks

digit_small : (b : ℕ) → is_hex_digit b ≡ true → digit_value b < 16
digit_small b h = grind (arith, nat_tests)

two_digits : (a b : ℕ) → is_hex_digit a ≡ true → is_hex_digit b ≡ true → byte_value a b < 256
two_digits a b h k = omega (arith, digit_small a h, digit_small b k)

pub byte_ok : (word : List ℕ) (n : ℕ) → byte_of word ≡ Some n → n < 256
byte_ok [] n e = absurd cc
byte_ok (a ∷ []) n e = absurd cc
byte_ok (a ∷ b ∷ []) n e =
    let c = cond_some (is_hex_digit a && is_hex_digit b) (byte_value a b) n e in
    let p = and_parts (is_hex_digit a) (is_hex_digit b) c.0 in
    omega (arith, c.1, two_digits a b p.0 p.1)
byte_ok (a ∷ b ∷ c ∷ ds) n e = absurd cc

pub all_joined : {X : Type 0} (test : X → Bool) (xs ys : List X) → list_all test xs ≡ true → list_all test ys ≡ true → list_all test (xs ++ ys) ≡ true
all_joined test [] ys h k = k
all_joined test (x ∷ xs) ys h k =
    let p = and_parts (test x) (list_all test xs) h in
    and_from _ _ p.0 (all_joined test xs ys p.1 k)

pub all_pushed : {X : Type 0} (test : X → Bool) (xs : List X) (x : X) → list_all test xs ≡ true → test x ≡ true → list_all test (xs ++ x ∷ []) ≡ true
all_pushed test xs x h k = all_joined test xs (x ∷ []) h (and_from _ _ k refl)

all_replicated : (n b : ℕ) → b < 256 → list_all is_byte (replicate n b) ≡ true
all_replicated zero b h = refl
all_replicated (suc n) b h = and_from _ _ (lt-ltb b 256 h) (all_replicated n b h)

abbrev pub AreBytes : List ℕ → Type 0
AreBytes bytes = (length bytes ≡ 512) × (list_all is_byte bytes ≡ true)

short_ok : (word : List ℕ) → is_short_word word ≡ true → AreBytes (replicate 512 (byte_value (slice_index word 1) (slice_index word 2)))
short_ok [] h = absurd cc
short_ok (a ∷ []) h = absurd cc
short_ok (a ∷ b ∷ []) h = absurd cc
short_ok (a ∷ b ∷ c ∷ []) h =
    let p = and_parts (is_hex_digit b) (is_hex_digit c && true) (and_parts (eqb 3 3 && eqb a 61) _ h).1 in
    (length-replicate 512 (byte_value b c), all_replicated 512 (byte_value b c) (two_digits b c p.0 (and_parts (is_hex_digit c) true p.1).0))
short_ok (a ∷ b ∷ c ∷ d ∷ ds) h =
    let long = eqb-true (length (a ∷ b ∷ c ∷ d ∷ ds)) 3 (and_parts _ _ (and_parts (eqb (length (a ∷ b ∷ c ∷ d ∷ ds)) 3 && eqb a 61) _ h).0).0 in
    absurd (omega arith)

-- a byte for every two digits
digits_ok : (ds : List ℕ) (n : ℕ) → length ds ≡ 2 * n → list_all is_hex_digit ds ≡ true → (length (bytes_of ds) ≡ n) × (list_all is_byte (bytes_of ds) ≡ true)
digits_ok [] n e h = (omega arith, refl)
digits_ok (a ∷ []) n e h = absurd (omega arith)
digits_ok (a ∷ b ∷ ds) zero e h = absurd (omega arith)
digits_ok (a ∷ b ∷ ds) (suc n) e h =
    let p = and_parts (is_hex_digit a) (is_hex_digit b && list_all is_hex_digit ds) h in
    let q = and_parts (is_hex_digit b) (list_all is_hex_digit ds) p.1 in
    let rest = digits_ok ds n (omega arith) q.1 in
    (ap suc rest.0, and_from _ _ (lt-ltb (byte_value a b) 256 (two_digits a b p.0 q.0)) rest.1)

long_ok : (word : List ℕ) → is_long_word word ≡ true → AreBytes (bytes_of word)
long_ok word h =
    let p = and_parts (eqb (length word) 1024) (list_all is_hex_digit word) h in
    let size : length word ≡ 2 * 512 = eqb-true (length word) 1024 p.0 in
    digits_ok word 512 size p.1

spelled_ok : (word : List ℕ) → is_block_word word ≡ true → AreBytes (spelled_block word)
spelled_ok word h = elim (cases_Bool (is_short_word word)) [
  | inl t ↦ subst AreBytes (sym (cond-true _ _ _ t)) (short_ok word t)
  | inr f ↦ elim (or_cases (is_short_word word) (is_long_word word) h) [
    | inl t ↦ absurd (both_ways _ f t)
    | inr l ↦ subst AreBytes (sym (cond-false _ _ _ f)) (long_ok word l)
  ]
]

pub block_ok : (word bytes : List ℕ) → block_of word ≡ Some bytes → AreBytes bytes
unfolding block_of
block_ok word bytes e =
    let c = cond_some (is_block_word word) (spelled_block word) bytes e in
    subst AreBytes c.1 (spelled_ok word c.0)

-- ---- pairs and break-offs

-- a byte parts what stands before it and behind it, where something stands behind it
parted : (b : ℕ) (word : List ℕ) → is_name (past b word) ≡ true → word ≡ up_to b word ++ b ∷ past b word
parted b word h = elim (cases_lt (position_or_len (λ (x : ℕ). eqb x b) word) (length word)) [
  | inl inside ↦
      let stop : not (not (eqb (get_or word (position_or_len (λ (x : ℕ). eqb x b) word) 0) b)) ≡ true = ap not (prefix_len_stops (λ (x : ℕ). not (eqb x b)) word 0 inside) in
      let there : get_or word (position_or_len (λ (x : ℕ). eqb x b) word) 0 ≡ b = eqb-true _ b (not_not _ stop) in
      split_at_first (λ (x : ℕ). eqb x b) word 0 inside ∙ ap (λ (x : ℕ). up_to b word ++ x ∷ past b word) there
  | inr outside ↦
      let none : past b word ≡ [] = drop_all _ word (omega arith) in
      absurd (true≢false (sym h ∙ ap is_name none))
]

both_is : (disk device : Option (List ℕ)) (pair : DiskAt) → both disk device ≡ Some pair → (disk ≡ Some pair.disk) × (device ≡ Some pair.device)
both_is None device pair e = absurd cc
both_is (Some disk) None pair e = absurd cc
both_is (Some disk) (Some device) pair e =
    let same = same_Some _ _ e in
    (ap (λ (p : DiskAt). Some p.disk) same, ap (λ (p : DiskAt). Some p.device) same)

pub pair_ok : (word : List ℕ) (pair : DiskAt) → pair_of word ≡ Some pair → is_pair pair ≡ true
pair_ok word pair e =
    let c = held_not (is_some (cut_of word)) (both (name_of (up_to 61 word)) (name_of (past 61 word))) pair e in
    let b = both_is _ _ pair c.1 in
    let disk = name_ok (up_to 61 word) pair.disk b.0 in
    let device = name_ok (past 61 word) pair.device b.1 in
    let whole : word ≡ pair.disk ++ codes "=" ++ pair.device =
    parted 61 word (subst (λ (w : List ℕ). is_name w ≡ true) (sym device.1) device.0)
    ∙ ap (λ (w : List ℕ). w ++ 61 ∷ past 61 word) disk.1 ∙ ap (λ (w : List ℕ). pair.disk ++ 61 ∷ w) device.1
    ∙ sym (append_assoc pair.disk (codes "=") pair.device) in
    and_from _ _ (and_from _ _ disk.0 device.0) (ap is_none (ap cut_of (sym whole) ∙ not_some (cut_of word) c.0))

abbrev IsBreakOff : Value → Type 0
IsBreakOff v = is_of sort.BreakOff v ≡ true

three_ok : (vol snap : Option (List ℕ)) (plex : Option (Option (List ℕ))) (v : Value) → three vol snap plex ≡ Some v
    → ((name : List ℕ) → vol ≡ Some name → is_name name ≡ true) → ((name : List ℕ) → snap ≡ Some name → is_name name ≡ true) → ((name : Option (List ℕ)) → plex ≡ Some name → maybe_name name ≡ true) → IsBreakOff v
three_ok None snap plex v e a b c = absurd cc
three_ok (Some vol) None plex v e a b c = absurd cc
three_ok (Some vol) (Some snap) None v e a b c = absurd cc
three_ok (Some vol) (Some snap) (Some plex) v e a b c = subst IsBreakOff (same_Some _ _ e) (and_from _ _ (and_from _ _ (a vol refl) (b snap refl)) (c plex refl))

just_ok : (o : Option (List ℕ)) (plex : Option (List ℕ)) → just o ≡ Some plex → ((name : List ℕ) → o ≡ Some name → is_name name ≡ true) → maybe_name plex ≡ true
just_ok None plex e h = absurd cc
just_ok (Some name) plex e h = subst (λ (x : Option (List ℕ)). maybe_name x ≡ true) (same_Some _ _ e) (h name refl)

plex_ok : (word : List ℕ) (plex : Option (List ℕ)) → plex_of word ≡ Some plex → maybe_name plex ≡ true
plex_ok word plex e = elim (chosen (bytes_eq word (codes "nmirror=1")) _ _ _ e) [
  | inl c ↦ subst (λ (x : Option (List ℕ)). maybe_name x ≡ true) (same_Some _ _ c.1) refl
  | inr c ↦ just_ok _ plex c.1 (name_behind_ok (behind (codes "plex=") word))
]

pub break_off_ok : (word : List ℕ) (v : Value) → break_off_of word ≡ Some v → IsBreakOff v
break_off_ok word v e = three_ok _ _ _ v e (λ name h. (name_ok (up_to 47 word) name h).0) (name_behind_ok (behind (codes "newvol=") (up_to 47 (past 47 word)))) (plex_ok (past 47 (past 47 word)))

-- ---- sorts and classes

between : (low high n : ℕ) → low ≤ n → n ≤ high → is_between low high n ≡ true
between low high n l h = and_from _ _ (le-leb low n l) (le-leb n high h)

pub sort_ok : (s : Sort) (word : List ℕ) (v : Value) → sort_value s word ≡ Some v → is_of s v ≡ true
sort_ok sort.Word word v e = ap (is_of sort.Word) (word_is word v e)
sort_ok sort.Named word v e =
    let n = named_is (name_of word) v e in
    ap (is_of sort.Named) n.2 ∙ (name_ok word n.0 n.1).0
sort_ok (sort.Number low high) word v e =
    let n = numbered_is (within low high (number_of word)) v e in
    let w = within_ok low high n.0 (number_of word) n.1 in
    ap (is_of (sort.Number low high)) n.2 ∙ between low high n.0 w.0 w.1
sort_ok sort.Length word v e =
    let n = numbered_is (length_of word) v e in
    let w = length_ok word n.0 n.1 in
    ap (is_of sort.Length) n.2 ∙ between 1 (2 ^ 40) n.0 w.0 w.1
sort_ok sort.Byte word v e =
    let n = numbered_is (byte_of word) v e in
    ap (is_of sort.Byte) n.2 ∙ lt-ltb n.0 256 (byte_ok word n.0 n.1)
sort_ok sort.Pair word v e =
    let n = paired_is (pair_of word) v e in
    ap (is_of sort.Pair) n.2 ∙ pair_ok word n.0 n.1
sort_ok sort.BreakOff word v e = break_off_ok word v e

behind_ok : (s : Sort) (o : Option (List ℕ)) (v : Value) → value_behind s o ≡ Some v → is_of s v ≡ true
behind_ok s None v e = absurd cc
behind_ok s (Some word) v e = sort_ok s word v e

pub class_ok : (class : Class) (word : List ℕ) (v : Value) → class_value class word ≡ Some v → is_of class.sort v ≡ true
unfolding class_value
class_ok class word v e = behind_ok class.sort _ v e
