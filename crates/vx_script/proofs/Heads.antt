-- Kinds that begin with another word than a line leave all of it: so only those that begin with its word count.
use Rattle.std.proofs.Common.{◌≡◌, ◌∙◌, sym, ap, ap₂, subst, refl, ℕ, ◌+◌, ◌≤◌, ◌<◌, Bool, true, false, min, not, Some, None, Result, Ok, Err, List, [], ◌∷◌, ◌++◌, length, take, drop, get_or, drop-cons, add-one, arith, inl, inr}
use Rattle.std.specs.Prelude.{◌&&◌}
use Rattle.std.specs.List.{list_all, flat_map}
use Rattle.std.specs.Str.{bytes_eq}
use Rattle.std.proofs.lemmas.Bool.{and_parts, cases_Bool, both_ways, cond-true, cond-false, not-true}
use Rattle.std.proofs.lemmas.List.{append-nil, take-append-drop}
use Rattle.std.proofs.lemmas.Slice.Eq.{bytes_eq-Decides}
use Rattle.vx_script.specs.Choice.{Choice, choice, choose, or_others, are_apart}
use Rattle.vx_script_forms.specs.Table.{items_of, head_key, kinds_of}
use Rattle.vx_script_forms.specs.declared.head.Head.{Head}
use Rattle.vx_script_forms.specs.declared.head.Head.TheVariants as head
use Rattle.vx_script_forms.specs.declared.kind.Kind.{Kind}
use Rattle.vx_script_words.specs.Class.{class_value, value_behind, as_word}
use Rattle.vx_script_words.specs.Key.{text_of}
use Rattle.vx_script_words.specs.Parts.{behind}
use Rattle.vx_script_words.specs.Row.{Read, row, and_then, items, taken, line_end}
use Rattle.vx_script_words.specs.Words.{from_word, first_word}
use Rattle.vx_script_words.specs.declared.class.Item.{Item}
use Rattle.vx_script_words.specs.declared.class.Item.TheVariants.{One}
use Rattle.vx_script_words.specs.declared.class.Sort.{Sort}
use Rattle.vx_script_words.specs.declared.class.Sort.TheVariants as sort
use Rattle.vx_script_words.proofs.Lines.{items_err}

-- nothing follows the front
abbrev pub is_word : Sort → Bool
is_word sort.Word = true
is_word s = false

-- the first part is the head's word
abbrev is_headed : Head → List Item → Bool
is_headed h (One class ∷ is) = is_word class.sort && bytes_eq (text_of class.front) (text_of (head_key h))
is_headed h is = false

all_headed : (h : Head) → list_all (λ k. is_headed h (items_of k)) (kinds_of h) ≡ true
all_headed head.Read = refl
all_headed h = refl

same_word : (v w : List ℕ) → bytes_eq v w ≡ true → v ≡ w
same_word v w h = (bytes_eq-Decides v w).0 h

-- a fixed word is no other word
pub other_word : (front w : List ℕ) → bytes_eq w front ≡ false → value_behind sort.Word (behind front w) ≡ None
other_word front w other = elim (cases_Bool (bytes_eq (take (length front) w) front)) [
  | inl t ↦ ap (value_behind sort.Word) (cond-true _ (Some (drop (length front) w)) None t) ∙ by_rest t (drop (length front) w) refl
  | inr f ↦ ap (value_behind sort.Word) (cond-false _ (Some (drop (length front) w)) None f)
]
  where
    by_rest : bytes_eq (take (length front) w) front ≡ true → (rest : List ℕ) → drop (length front) w ≡ rest → as_word rest ≡ None
    by_rest t [] e =
        let whole : w ≡ front = sym (take-append-drop (length front) w) ∙ ap (λ r. take (length front) w ++ r) e ∙ append-nil (take (length front) w) ∙ same_word _ _ t in
        absurd (both_ways _ other ((bytes_eq-Decides w front).1 whole))
    by_rest t (b ∷ bs) e = refl

other_sort : (s : Sort) (front key w : List ℕ) → is_word s ≡ true → bytes_eq front key ≡ true → bytes_eq w key ≡ false → value_behind s (behind front w) ≡ None
other_sort sort.Word front key w h same other = other_word front w (ap (bytes_eq w) (same_word front key same) ∙ other)
other_sort s front key w h same other = absurd cc

row_other : (b : Bool) (h : Head) (is : List Item) (text : List ℕ) → is_headed h is ≡ true → bytes_eq (first_word (from_word text)) (text_of (head_key h)) ≡ false → row b is text ≡ Err (length (from_word text))
unfolding row class_value
row_other b h [] text headed other = absurd cc
row_other b h (One class ∷ is) text headed other =
    let parts = and_parts (is_word class.sort) (bytes_eq (text_of class.front) (text_of (head_key h))) headed in
    let none = other_sort class.sort (text_of class.front) (text_of (head_key h)) (first_word (from_word text)) parts.0 parts.1 other in
    ap (λ o. and_then (items is (taken o [] (from_word text))) (line_end b)) none ∙ ap (λ r. and_then r (line_end b)) (items_err is (length (from_word text)))
row_other b h (i ∷ is) text headed other = absurd cc

-- such kinds change nothing
skipped : (b : Bool) (h : Head) (ks more : List Kind) (text : List ℕ) (m : ℕ) → list_all (λ k. is_headed h (items_of k)) ks ≡ true → bytes_eq (first_word (from_word text)) (text_of (head_key h)) ≡ false → m ≤ length (from_word text) → choice b (ks ++ more) text m ≡ choice b more text m
skipped b h [] more text m headed other below = refl
skipped b h (k ∷ ks) more text m headed other below =
    let parts = and_parts (is_headed h (items_of k)) (list_all (λ j. is_headed h (items_of j)) ks) headed in
    let least : min m (length (from_word text)) ≡ m = omega (arith, below) in
    ap (λ r. or_others r k (choice b (ks ++ more) text) m) (row_other b h (items_of k) text parts.0 other) ∙ ap (choice b (ks ++ more) text) least ∙ skipped b h ks more text m parts.1 other below

pub skip_head : (b : Bool) (h : Head) (hs : List Head) (text : List ℕ) → bytes_eq (first_word (from_word text)) (text_of (head_key h)) ≡ false → choose b (flat_map kinds_of (h ∷ hs)) text ≡ choose b (flat_map kinds_of hs) text
skip_head b h hs text other = skipped b h (kinds_of h) (flat_map kinds_of hs) text (length (from_word text)) (all_headed h) other (omega arith)

-- all of these begin with another word
abbrev Others : List ℕ → List Head → Type 0
Others word hs = list_all (λ h. not (bytes_eq word (text_of (head_key h)))) hs ≡ true

all_skipped : (b : Bool) (hs : List Head) (text : List ℕ) (m : ℕ) → Others (first_word (from_word text)) hs → m ≤ length (from_word text) → choice b (flat_map kinds_of hs) text m ≡ Err m
all_skipped b [] text m others below = refl
all_skipped b (h ∷ hs) text m others below =
    let parts = and_parts (not (bytes_eq (first_word (from_word text)) (text_of (head_key h)))) (list_all (λ j. not (bytes_eq (first_word (from_word text)) (text_of (head_key j)))) hs) others in
    skipped b h (kinds_of h) (flat_map kinds_of hs) text m (all_headed h) (not-true _ parts.0) below ∙ all_skipped b hs text m parts.1 below

-- kinds behind which nothing counts
alone : (b : Bool) (ks more : List Kind) (text : List ℕ) (m : ℕ) → ((n : ℕ) → n ≤ length (from_word text) → choice b more text n ≡ Err n) → m ≤ length (from_word text) → choice b (ks ++ more) text m ≡ choice b ks text m
alone b [] more text m none below = none m below
alone b (k ∷ ks) more text m none below = by_row (row b (items_of k) text) (λ n le. alone b ks more text n none le)
  where
    by_row : (r : Result Read ℕ) → ((n : ℕ) → n ≤ length (from_word text) → choice b (ks ++ more) text n ≡ choice b ks text n) → or_others r k (choice b (ks ++ more) text) m ≡ or_others r k (choice b ks text) m
    by_row (Ok read) rest = refl
    by_row (Err less) rest = rest (min m less) (omega (arith, below))

-- the kinds that begin with the line's word decide
pub only_head : (b : Bool) (h : Head) (hs : List Head) (text : List ℕ) → are_apart (h ∷ hs) ≡ true → bytes_eq (first_word (from_word text)) (text_of (head_key h)) ≡ true → choose b (flat_map kinds_of (h ∷ hs)) text ≡ choose b (kinds_of h) text
only_head b h hs text apart same =
    let parts = and_parts _ (are_apart hs) apart in
    let others : Others (first_word (from_word text)) hs = subst (λ w. Others w hs) (sym (same_word _ _ same)) parts.0 in
    alone b (kinds_of h) (flat_map kinds_of hs) text (length (from_word text)) (λ n le. all_skipped b hs text n others le) (omega arith)

-- ---- one head after the other

at_place : (heads : List Head) (i : ℕ) (d : Head) → i < length heads → drop i heads ≡ get_or heads i d ∷ drop (i + 1) heads
at_place heads i d inside = rw add-one (drop-cons heads i d inside)

pub stops_here : (b : Bool) (heads : List Head) (i : ℕ) (d : Head) (text word key : List ℕ) (kinds : List Kind) (whole : Result Choice ℕ) → i < length heads → choose b (flat_map kinds_of (drop i heads)) text ≡ whole → are_apart (drop i heads) ≡ true
    → word ≡ first_word (from_word text) → key ≡ text_of (head_key (get_or heads i d)) → bytes_eq word key ≡ true → kinds ≡ kinds_of (get_or heads i d) → choose b kinds text ≡ whole
stops_here b heads i d text word key kinds whole inside so apart word-is key-is same kinds-is =
    let at = at_place heads i d inside in
    let test : bytes_eq (first_word (from_word text)) (text_of (head_key (get_or heads i d))) ≡ true = sym (ap₂ bytes_eq word-is key-is) ∙ same in
    ap (λ ks. choose b ks text) kinds-is ∙ sym (only_head b (get_or heads i d) (drop (i + 1) heads) text (ap are_apart (sym at) ∙ apart) test) ∙ ap (λ hs. choose b (flat_map kinds_of hs) text) (sym at) ∙ so

pub goes_on : (b : Bool) (heads : List Head) (i : ℕ) (d : Head) (text word key : List ℕ) (whole : Result Choice ℕ) → i < length heads → choose b (flat_map kinds_of (drop i heads)) text ≡ whole → are_apart (drop i heads) ≡ true
    → word ≡ first_word (from_word text) → key ≡ text_of (head_key (get_or heads i d)) → bytes_eq word key ≡ false → (choose b (flat_map kinds_of (drop (i + 1) heads)) text ≡ whole) × (are_apart (drop (i + 1) heads) ≡ true)
goes_on b heads i d text word key whole inside so apart word-is key-is other =
    let at = at_place heads i d inside in
    let test : bytes_eq (first_word (from_word text)) (text_of (head_key (get_or heads i d))) ≡ false = sym (ap₂ bytes_eq word-is key-is) ∙ other in
    (sym (skip_head b (get_or heads i d) (drop (i + 1) heads) text test) ∙ ap (λ hs. choose b (flat_map kinds_of hs) text) (sym at) ∙ so, (and_parts _ (are_apart (drop (i + 1) heads)) (ap are_apart (sym at) ∙ apart)).1)
