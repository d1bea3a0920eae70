-- The first line of a text, and what it is.
use Rattle.std.specs.Prelude.{◌==◌, ◌&&◌, not, nat_le}
use Rattle.std.proofs.Common.{◌≡◌, ◌⊎◌, ℕ, zero, suc, ◌+◌, ◌-◌, ◌<◌, ◌≤◌, min, Bool, true, false, Some, List, [], ◌∷◌, ◌++◌, length, take, drop, get_or, refl, sym, ◌∙◌, ap, subst, arith, add-one, length-append, inl, inr, eq-eqb}
use Rattle.std.specs.List.{prefix_len, list_all}
use Rattle.std.proofs.lemmas.Bool.{and_parts, cond-true, cond-false, eqb-true, leb-true, le-leb, and_from, not_from_true, not_from_false}
use Rattle.std.proofs.lemmas.List.{take_more}
use Rattle.std.proofs.Math.Seq.{take-length}
use Rattle.vx_base.proofs.NamedLemmas.{true_or_false}
use Rattle.vx_names.proofs.Fronts.{front_ends}
use Rattle.vx_record.specs.Grammar.{with_first, lines}
use Rattle.vx_record.specs.Reading.{kind_of, is_enclosed}
use Rattle.vx_record.specs.Words.{kind_word}
use Rattle.vx_record.specs.declared.kind.Kind.{Kind}
use Rattle.vx_record.specs.declared.kind.Kind.TheVariants as kinds

abbrev pub is_other : ℕ → ℕ → Bool
is_other c b = not (b == c)

one_byte : (b : ℕ) → (b == 10 ≡ true) ⊎ (b == 10 ≡ false) → lines (b ∷ []) ≡ (b ∷ []) ∷ []
one_byte b (inl t) = cond-true (b == 10) ((b ∷ []) ∷ []) (with_first b []) t
one_byte b (inr f) = cond-false (b == 10) ((b ∷ []) ∷ []) (with_first b []) f

-- the first line ends with the first newline, or with the text
pub first_line : (text : List ℕ) (n : ℕ) → 0 < length text → n ≡ min (suc (prefix_len (is_other 10) text)) (length text) → lines text ≡ take n text ∷ lines (drop n text)
first_line [] n some e = absurd (omega arith)
first_line (b ∷ bs) zero some e = absurd (omega arith)
first_line (b ∷ []) (suc n) some e =
    let nil : 0 ≡ n = omega (arith, e) in
    one_byte b (true_or_false (b == 10)) ∙ ap (λ (k : ℕ). (b ∷ take k []) ∷ lines (drop k [])) nil
first_line (b ∷ c ∷ cs) (suc n) some e = elim (true_or_false (b == 10)) [
  | inl t ↦
      let none : prefix_len (is_other 10) (b ∷ c ∷ cs) ≡ 0 = cond-false (is_other 10 b) (1 + prefix_len (is_other 10) (c ∷ cs)) 0 (not_from_true (b == 10) t) in
      let nil : n ≡ 0 = omega (arith, e, none) in
      cond-true (b == 10) ((b ∷ []) ∷ lines (c ∷ cs)) (with_first b (lines (c ∷ cs))) t ∙ ap (λ (k : ℕ). (b ∷ take k (c ∷ cs)) ∷ lines (drop k (c ∷ cs))) (sym nil)
  | inr f ↦
      let more : prefix_len (is_other 10) (b ∷ c ∷ cs) ≡ 1 + prefix_len (is_other 10) (c ∷ cs) = cond-true (is_other 10 b) (1 + prefix_len (is_other 10) (c ∷ cs)) 0 (not_from_false (b == 10) f) in
      cond-false (b == 10) ((b ∷ []) ∷ lines (c ∷ cs)) (with_first b (lines (c ∷ cs))) f ∙ ap (with_first b) (first_line (c ∷ cs) n (omega arith) (omega (arith, e, more)))
]

-- the word of a kind names it
pub kind_again : (kind : Kind) → kind_of (kind_word kind) ≡ Some kind
kind_again kinds.Dg = refl
kind_again kinds.Dm = refl
kind_again kinds.Sd = refl
kind_again kinds.Plex = refl
kind_again kinds.Vol = refl
kind_again kinds.Dco = refl
kind_again kinds.Snap = refl

kind_unspaced : (kind : Kind) → list_all (is_other 32) (kind_word kind) ≡ true
kind_unspaced kinds.Dg = refl
kind_unspaced kinds.Dm = refl
kind_unspaced kinds.Sd = refl
kind_unspaced kinds.Plex = refl
kind_unspaced kinds.Vol = refl
kind_unspaced kinds.Dco = refl
kind_unspaced kinds.Snap = refl

-- the first blank of a head stands behind its kind
pub head_front : (kind : Kind) (rest : List ℕ) → prefix_len (is_other 32) (kind_word kind ++ 32 ∷ rest) ≡ length (kind_word kind)
head_front kind rest = front_ends (is_other 32) (kind_word kind) 32 rest (kind_unspaced kind) refl

headed : (first k : ℕ) (w : List ℕ) → 0 < k → 0 < length w → get_or w 0 0 ≡ first → take k w ≡ first ∷ drop 1 (take k w)
headed first zero w some long e = absurd (omega arith)
headed first (suc k) [] some long e = absurd (omega arith)
headed first (suc k) (b ∷ bs) some long e = ap (λ (c : ℕ). c ∷ take k bs) e

both_ends : (first : ℕ) (w : List ℕ) → 2 ≤ length w → get_or w 0 0 ≡ first → get_or w (length w - 1) 0 ≡ 10 → w ≡ first ∷ drop 1 (take (length w - 1) w) ++ 10 ∷ []
both_ends first w long front last =
    let whole : length w - 1 + 1 ≡ length w = omega arith in
    let split : w ≡ take (length w - 1) w ++ 10 ∷ [] =
    sym (take-length w) ∙ ap (λ (k : ℕ). take k w) (sym whole) ∙ take_more w (length w - 1) 0 (omega arith) ∙ ap (λ (b : ℕ). take (length w - 1) w ++ b ∷ []) last in
    split ∙ ap (λ (x : List ℕ). x ++ 10 ∷ []) (headed first (length w - 1) w (omega arith) (omega arith) front)

-- what stands in a line between the byte and the newline
pub enclosed_parts : (first : ℕ) (w : List ℕ) → is_enclosed first w ≡ true → w ≡ first ∷ drop 1 (take (length w - 1) w) ++ 10 ∷ []
enclosed_parts first w h =
    let outer = and_parts (nat_le 2 (length w) && (get_or w 0 0 == first)) (get_or w (length w - 1) 0 == 10) h in
    let inner = and_parts (nat_le 2 (length w)) (get_or w 0 0 == first) outer.0 in
    both_ends first w (leb-true 2 (length w) inner.0) (eqb-true (get_or w 0 0) first inner.1) (eqb-true (get_or w (length w - 1) 0) 10 outer.1)

last_of_more : (b : ℕ) (m : List ℕ) → get_or (b ∷ m ++ 10 ∷ []) (suc (length m)) 0 ≡ 10
last_of_more b [] = refl
last_of_more b (c ∷ m) = last_of_more c m

last_of : (m : List ℕ) (first : ℕ) → get_or (first ∷ m ++ 10 ∷ []) (length m + 1) 0 ≡ 10
last_of m first = rw add-one (last_of_more first m)

pub enclosed_again : (first : ℕ) (w m : List ℕ) → w ≡ first ∷ m ++ 10 ∷ [] → is_enclosed first w ≡ true
enclosed_again first w m e = subst (λ (x : List ℕ). is_enclosed first x ≡ true) (sym e)
    (and_from _ _ (and_from _ _ (le-leb 2 (length (first ∷ m ++ 10 ∷ [])) (omega (arith, length-append m (10 ∷ [])))) (eq-eqb first first refl))
    (eq-eqb (get_or (first ∷ m ++ 10 ∷ []) (length (first ∷ m ++ 10 ∷ []) - 1) 0) 10
    (ap (λ (k : ℕ). get_or (first ∷ m ++ 10 ∷ []) k 0) (let k : length (first ∷ m ++ 10 ∷ []) - 1 ≡ length m + 1 = omega (arith, length-append m (10 ∷ [])) in k) ∙ last_of m first)))
