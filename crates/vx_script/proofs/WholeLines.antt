-- A line more of a record text.
use Rattle.std.proofs.Common.{◌≡◌, ◌∙◌, sym, ap, subst, refl, ℕ, Bool, true, false, eqb, eqb-true, not, Option, Some, None, is_none, List, [], ◌∷◌, ◌++◌, append_assoc, append-nil, inl, inr}
use Rattle.std.specs.List.{list_all}
use Rattle.std.proofs.lemmas.Bool.{and_from, and_parts, cases_Bool, true≢false, cond-true, cond-false, not-true}
use Rattle.vx_script.specs.Kept.{ends_line, is_made, is_record_line}
use Rattle.vx_script.specs.Lines.{lines_from, lines_of, bad_from, bad_word, is_bad}
use Rattle.vx_script_words.specs.Words.{is_blank}
use Rattle.vx_script_words.proofs.Plain.{ands, is_not}
use Rattle.vx_script_words.proofs.Sorts.{all_pushed, chosen}

-- a test that fails at a newline
no_newline : (test : ℕ → Bool) (b : ℕ) → test 10 ≡ false → test b ≡ true → eqb b 10 ≡ false
no_newline test b out h = elim (cases_Bool (eqb b 10)) [
  | inl same ↦ absurd (true≢false (sym h ∙ ap test (eqb-true b 10 same) ∙ out))
  | inr other ↦ other
]

-- a line without a bad byte has no newline
no_newlines : (line : List ℕ) (word : Option ℕ) → bad_from word line ≡ None → list_all (is_not 10) line ≡ true
no_newlines [] word e = refl
no_newlines (b ∷ bs) word e = elim (chosen (is_blank b) _ _ _ e) [
  | inl c ↦ and_from _ _ (ap not (no_newline is_blank b refl c.0)) (no_newlines bs None c.1)
  | inr c ↦ elim (chosen (is_bad b) _ _ _ c.1) [
    | inl d ↦ absurd cc
    | inr d ↦ and_from _ _ (ap not (no_newline (λ (x : ℕ). not (is_bad x)) b refl (ap not d.0))) (no_newlines bs _ d.1)
  ]
]

-- a line without a newline is the first of a text
pub whole_line : (begun line rest : List ℕ) → list_all (is_not 10) line ≡ true → lines_from begun (line ++ 10 ∷ rest) ≡ (begun ++ line) ∷ lines_from [] rest
whole_line begun [] rest h = ap (λ (x : List ℕ). x ∷ lines_from [] rest) (sym (append-nil begun))
whole_line begun (b ∷ bs) rest h = cond-false _ _ _ (not-true (eqb b 10) (search ands)) ∙ whole_line (begun ++ b ∷ []) bs rest (search ands) ∙ ap (λ (x : List ℕ). x ∷ lines_from [] rest) (append_assoc begun (b ∷ []) bs)

-- lines that are whole, and what stands behind them
lines_behind : (text begun more : List ℕ) → ends_line text ≡ true → (text ≡ [] → begun ≡ []) → lines_from begun (text ++ more) ≡ lines_from begun text ++ lines_from [] more
lines_behind [] begun more e h = let none = h refl in rw none refl
lines_behind (b ∷ []) begun more e h = cond-true _ _ _ e ∙ sym (ap (λ (x : List (List ℕ)). x ++ lines_from [] more) (cond-true _ _ _ e))
lines_behind (b ∷ c ∷ cs) begun more e h = elim (cases_Bool (eqb b 10)) [
  | inl t ↦
      cond-true _ _ _ t ∙ ap (λ (x : List (List ℕ)). begun ∷ x) (lines_behind (c ∷ cs) [] more e (λ none. refl))
      ∙ sym (ap (λ (x : List (List ℕ)). x ++ lines_from [] more) (cond-true _ _ _ t))
  | inr f ↦
      cond-false _ _ _ f ∙ lines_behind (c ∷ cs) (begun ++ b ∷ []) more e (λ none. absurd cc)
      ∙ sym (ap (λ (x : List (List ℕ)). x ++ lines_from [] more) (cond-false _ _ _ f))
]

ends_more : (text : List ℕ) → ends_line (text ++ 10 ∷ []) ≡ true
ends_more [] = refl
ends_more (b ∷ []) = refl
ends_more (b ∷ c ∷ cs) = ends_more (c ∷ cs)

pub no_bad : (o : Option ℕ) → is_none o ≡ true → o ≡ None
no_bad None e = refl
no_bad (Some n) e = absurd cc

pub made_more : (text line : List ℕ) → is_made text ≡ true → is_record_line line ≡ true → is_made (text ++ line ++ 10 ∷ []) ≡ true
unfolding lines_of bad_word
made_more text line h k =
    let p = and_parts _ _ h in
    let clean : bad_from None line ≡ None = no_bad _ (and_parts (is_none (bad_from None line)) _ k).0 in
    let lines : lines_of (text ++ line ++ 10 ∷ []) ≡ lines_of text ++ line ∷ [] =
    ap lines_of (append_assoc text line (10 ∷ [])) ∙ lines_behind text [] (line ++ 10 ∷ []) p.1 (λ none. refl) ∙ ap (λ (x : List (List ℕ)). lines_of text ++ x) (whole_line [] line [] (no_newlines line None clean)) in
    and_from _ _ (subst (λ (x : List (List ℕ)). list_all is_record_line x ≡ true) (sym lines) (all_pushed is_record_line (lines_of text) line p.0 k)) (ends_more (text ++ line))
