use Rattle.std.proofs.Common.{ℕ, ◌≡◌, ap, sym, ◌∙◌, ◌<◌, ◌≤◌, length, List, [], ◌∷◌, map, slice_index_or, Bor}
use native.Mathlib.Omega.{arith}
use Rattle.vx_base.proofs.NamedLemmas.{bytes_eq_same}
use Rattle.vx_run.proofs.words.folder_of.Goals as goal

pub two_words : (words : List (Bor (List ℕ))) (option : List ℕ) → 2 ≤ length words → length words < 3 → (slice_index_or words 0 record { ref_ptr = (0, 0); now = [] }).now ≡ option → map (λ w. w.now) words ≡ option ∷ (slice_index_or words 1 record { ref_ptr = (0, 0); now = [] }).now ∷ []
two_words [] option most least is = absurd (omega (arith, most))
two_words (a ∷ []) option most least is = absurd (omega (arith, most))
two_words (a ∷ b ∷ []) option most least is = ap (λ x. x ∷ b.now ∷ []) is
two_words (a ∷ b ∷ c ∷ rest) option most least is = absurd (omega (arith, least))

-- src/words.rt:17:1
pub returns-then-eq-clause-named : goal.returns-then-eq-clause-named
returns-then-eq-clause-named c = two_words c.args.words.now _ c.in-len2.len_at_least c.in-len2.len_below (sym c.as_bytes.ensures.value ∙ bytes_eq_same c.as_bytes.result.now _ (sym c.eq.ensures ∙ c.if-eq.true) ∙ c.as_slice.ensures)
