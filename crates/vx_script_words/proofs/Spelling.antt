-- Each text has words, and each list of words is that of a text.
use Rattle.std.proofs.Common.{◌≡◌, ◌∙◌, sym, ap, subst, refl, ℕ, zero, suc, ◌≤◌, ◌<◌, ◌⊎◌, inl, inr, Bool, true, false, not, List, [], ◌∷◌, ◌++◌, length, take, drop, arith, length-drop, one-add}
use Rattle.std.specs.List.{list_all, position_or_len}
use Rattle.std.proofs.lemmas.Bool.{and_from, and_parts, cases_Bool, cond-true, cond-false, not-true}
use Rattle.vx_script_words.specs.Spelling.{Behind, Spells, begun, spelled}
use Rattle.vx_script_words.specs.Words.{is_blank, is_not_blank, from_word, first_word, past_word}

-- some bytes, and no blank
abbrev pub is_word : List ℕ → Bool
is_word [] = false
is_word (b ∷ bs) = list_all is_not_blank (b ∷ bs)

abbrev pub begins_blank : List ℕ → Bool
begins_blank [] = true
begins_blank (b ∷ bs) = is_blank b

-- ---- byte by byte

blank_first : (b : ℕ) (bs : List ℕ) → is_blank b ≡ true → from_word (b ∷ bs) ≡ from_word bs
blank_first b bs t = ap (λ (n : ℕ). drop n (b ∷ bs)) (cond-true _ _ _ (ap (λ (x : Bool). not (not x)) t) ∙ one-add (position_or_len is_not_blank bs))

word_first : (b : ℕ) (bs : List ℕ) → is_blank b ≡ false → from_word (b ∷ bs) ≡ b ∷ bs
word_first b bs f = ap (λ (n : ℕ). drop n (b ∷ bs)) (cond-false _ _ _ (ap (λ (x : Bool). not (not x)) f))

goes_on : (b : ℕ) (bs : List ℕ) → is_blank b ≡ false → position_or_len is_blank (b ∷ bs) ≡ suc (position_or_len is_blank bs)
goes_on b bs f = cond-true _ _ _ (ap not f) ∙ one-add (position_or_len is_blank bs)

first_more : (b : ℕ) (bs : List ℕ) → is_blank b ≡ false → first_word (b ∷ bs) ≡ b ∷ first_word bs
first_more b bs f = ap (λ (n : ℕ). take n (b ∷ bs)) (goes_on b bs f)

past_more : (b : ℕ) (bs : List ℕ) → is_blank b ≡ false → past_word (b ∷ bs) ≡ past_word bs
past_more b bs f = ap (λ (n : ℕ). drop n (b ∷ bs)) (goes_on b bs f)

stops : (b : ℕ) (bs : List ℕ) → is_blank b ≡ true → position_or_len is_blank (b ∷ bs) ≡ 0
stops b bs t = cond-false _ _ _ (ap not t)

first_clean : (text : List ℕ) → list_all is_not_blank (first_word text) ≡ true
first_clean [] = refl
first_clean (b ∷ bs) = elim (cases_Bool (is_blank b)) [
  | inl t ↦ ap (λ (n : ℕ). list_all is_not_blank (take n (b ∷ bs))) (stops b bs t)
  | inr f ↦ ap (list_all is_not_blank) (first_more b bs f) ∙ and_from _ _ (ap not f) (first_clean bs)
]

-- from its first word on a text is empty, or begins with no blank
pub record Begun (text : List ℕ) : Type 0 where
  pub first : ℕ
  pub more : List ℕ
  pub is : from_word text ≡ first ∷ more
  pub dark : is_blank first ≡ false
  pub less : length more < length text

from_cases : (text : List ℕ) → (from_word text ≡ []) ⊎ Begun text
from_cases [] = inl refl
from_cases (b ∷ bs) = elim (cases_Bool (is_blank b)) [
  | inl t ↦ elim (from_cases bs) [
    | inl none ↦ inl (blank_first b bs t ∙ none)
    | inr x ↦ inr (record { first = x.first; more = x.more; is = blank_first b bs t ∙ x.is; dark = x.dark; less = omega (arith, x.less) })
  ]
  | inr f ↦ inr (record { first = b; more = bs; is = word_first b bs f; dark = f; less = omega arith })
]

begun_word : (text : List ℕ) (x : Begun text) → is_word (first_word (from_word text)) ≡ true
begun_word text x =
    subst (λ (w : List ℕ). is_word w ≡ true) (sym (ap first_word x.is ∙ first_more x.first x.more x.dark)) (and_from _ _ (ap not x.dark) (first_clean x.more))

begun_less : (text : List ℕ) (x : Begun text) → length (past_word (from_word text)) < length text
begun_less text x =
    let past : past_word (from_word text) ≡ past_word x.more = ap past_word x.is ∙ past_more x.first x.more x.dark in
    omega (arith, ap (λ (w : List ℕ). length w) past, length-drop (position_or_len is_blank x.more) x.more, x.less)

pub from_again : (text : List ℕ) → from_word (from_word text) ≡ from_word text
from_again text = elim (from_cases text) [
  | inl none ↦ ap from_word none ∙ sym none
  | inr x ↦ ap from_word x.is ∙ word_first x.first x.more x.dark ∙ sym x.is
]

begun_behind : (text : List ℕ) (x : Begun text) → length (from_word (past_word (from_word text))) < length (from_word text)
begun_behind text x =
    let past : past_word (from_word text) ≡ past_word x.more = ap past_word x.is ∙ past_more x.first x.more x.dark in
    let rest = past_word (from_word text) in
    omega (arith, ap (λ (w : List ℕ). length w) x.is, ap (λ (w : List ℕ). length w) past, length-drop (position_or_len is_blank x.more) x.more, length-drop (position_or_len is_not_blank rest) rest)

-- ---- the words of a text

pub record HasWords (text : List ℕ) : Type 0 where
  pub words : List (List ℕ)
  pub spells : Spells text words
  pub real : list_all is_word words ≡ true

words_below : (n : ℕ) (text : List ℕ) → length text < n → HasWords text
words_below zero text h = absurd (omega arith)
words_below (suc n) text h = elim (from_cases text) [
  | inl none ↦ record { words = []; spells = none; real = refl }
  | inr x ↦
      let some : 0 < length (from_word text) = omega (arith, ap (λ (w : List ℕ). length w) x.is) in
      let rest = words_below n (past_word (from_word text)) (omega (arith, begun_less text x)) in
      record { words = first_word (from_word text) ∷ rest.words; spells = (some, refl, rest.spells); real = and_from _ _ (begun_word text x) rest.real }
]

pub words_of : (text : List ℕ) → HasWords text
words_of text = words_below (suc (length text)) text (omega arith)

pub few_words : (text : List ℕ) (words : List (List ℕ)) → Spells text words → length words ≤ length text
few_words text [] h = omega arith
few_words text (w ∷ ws) h = elim (from_cases text) [
  | inl none ↦ absurd (omega (arith, h.0, ap (λ (w : List ℕ). length w) none))
  | inr x ↦ omega (arith, begun_less text x, few_words (past_word (from_word text)) ws h.2)
]

-- ---- the text of words

spelled_begins : (ws : List (List ℕ)) → begins_blank (spelled ws) ≡ true
spelled_begins [] = refl
spelled_begins (w ∷ ws) = refl

word_end : (w rest : List ℕ) → list_all is_not_blank w ≡ true → begins_blank rest ≡ true → (first_word (w ++ rest) ≡ w) × (past_word (w ++ rest) ≡ rest)
word_end [] [] h k = (refl, refl)
word_end [] (b ∷ bs) h k = (ap (λ (n : ℕ). take n (b ∷ bs)) (stops b bs k), ap (λ (n : ℕ). drop n (b ∷ bs)) (stops b bs k))
word_end (b ∷ bs) rest h k =
    let p = and_parts (not (is_blank b)) (list_all is_not_blank bs) h in
    let dark : is_blank b ≡ false = not-true (is_blank b) p.0 in
    let more = word_end bs rest p.1 k in
    (first_more b (bs ++ rest) dark ∙ ap (λ (x : List ℕ). b ∷ x) more.0, past_more b (bs ++ rest) dark ∙ more.1)

word_start : (w rest : List ℕ) → is_word w ≡ true → from_word (32 ∷ (w ++ rest)) ≡ w ++ rest
word_start [] rest h = absurd cc
word_start (b ∷ bs) rest h =
    let p = and_parts (not (is_blank b)) (list_all is_not_blank bs) h in
    blank_first 32 (b ∷ (bs ++ rest)) refl ∙ word_first b (bs ++ rest) (not-true (is_blank b) p.0)

some_bytes : (w rest : List ℕ) → is_word w ≡ true → 0 < length (w ++ rest)
some_bytes [] rest h = absurd cc
some_bytes (b ∷ bs) rest h = omega arith

bytes_of_word : (w : List ℕ) → is_word w ≡ true → list_all is_not_blank w ≡ true
bytes_of_word [] h = refl
bytes_of_word (b ∷ bs) h = h

pub spelled_words : (ws : List (List ℕ)) → list_all is_word ws ≡ true → Spells (spelled ws) ws
spelled_words [] h = refl
spelled_words (w ∷ ws) h =
    let p = and_parts (is_word w) (list_all is_word ws) h in
    let start = word_start w (spelled ws) p.0 in
    let ends = word_end w (spelled ws) (bytes_of_word w p.0) (spelled_begins ws) in (
      subst (λ (x : List ℕ). 0 < length x) (sym start) (some_bytes w (spelled ws) p.0),
      ap first_word start ∙ ends.0,
      subst (λ (x : List ℕ). Spells x ws) (sym (ap past_word start ∙ ends.1)) (spelled_words ws p.1),
    )

-- a line that begins with its first word
pub begun_words : (ws : List (List ℕ)) → list_all is_word ws ≡ true → Spells (begun ws) ws
begun_words [] h = refl
begun_words (w ∷ ws) h =
    let p = and_parts (is_word w) (list_all is_word ws) h in
    let here : from_word (w ++ spelled ws) ≡ from_word (spelled (w ∷ ws)) = sym (blank_first 32 (w ++ spelled ws) refl) in
    let rest = spelled_words (w ∷ ws) h in
    (subst (λ (x : List ℕ). 0 < length x) (sym here) rest.0, ap first_word here ∙ rest.1, subst (λ (x : List ℕ). Spells (past_word x) ws) (sym here) rest.2)

-- ---- one after the other

pub behind_both : (text : List ℕ) (ws vs : List (List ℕ)) (middle rest : List ℕ) → Behind text ws middle → Behind middle vs rest → Behind text (ws ++ vs) rest
behind_both text [] vs middle rest h k = subst (λ (x : List ℕ). Behind x vs rest) (sym h) k
behind_both text (w ∷ ws) vs middle rest h k = (h.0, h.1, behind_both (past_word (from_word text)) ws vs middle rest h.2 k)

-- behind a word less is left
pub less_behind : (text w : List ℕ) (ws : List (List ℕ)) (rest : List ℕ) → Behind text (w ∷ ws) rest → length (from_word rest) < length (from_word text)
less_behind text w [] rest h = elim (from_cases text) [
  | inl none ↦ absurd (omega (arith, h.0, ap (λ (x : List ℕ). length x) none))
  | inr x ↦ omega (arith, begun_behind text x, ap (λ (y : List ℕ). length (from_word y)) h.2)
]
less_behind text w (v ∷ vs) rest h = elim (from_cases text) [
  | inl none ↦ absurd (omega (arith, h.0, ap (λ (x : List ℕ). length x) none))
  | inr x ↦ omega (arith, begun_behind text x, less_behind (past_word (from_word text)) v vs rest h.2)
]

pub later_less : (text : List ℕ) (ws vs : List (List ℕ)) (rest other : List ℕ) → Behind text ws rest → Behind text vs other → length ws < length vs → length (from_word other) < length (from_word rest)
later_less text [] [] rest other h k less = absurd (omega arith)
later_less text [] (v ∷ vs) rest other h k less = subst (λ (x : List ℕ). length (from_word other) < length (from_word x)) h (less_behind text v vs other k)
later_less text (w ∷ ws) [] rest other h k less = absurd (omega arith)
later_less text (w ∷ ws) (v ∷ vs) rest other h k less = later_less (past_word (from_word text)) ws vs rest other h.2 k.2 (omega arith)
