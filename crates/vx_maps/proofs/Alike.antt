-- Calls on pages keep on how many copies they are.
use Rattle.std.proofs.Common.{◌≡◌, inl, inr, ℕ, ◌<◌, sym, ◌∙◌, ap, arith, List, length, map, get_or, set, Result, Ok, Err}
use Rattle.std.proofs.lemmas.Bool.{cases_order}
use Rattle.vx_marks.specs.Log.{LogSeen, KeepsLog}
use Rattle.vx_marks.specs.declared.marker.MarkFault.{MarkFault}
use Rattle.vx_maps.specs.Store.{AreOnCopies, ArePagesFirmed, no_page, page_at}
use Rattle.vx_pages.proofs.Items.{at_is, at_set, at_other, set_size}

module _ {T : Type 0} (see : T → LogSeen) where
  pub copies_still : (copies : ℕ) (xs : List T) (i : ℕ) (p q : T) → i < length xs → p ≡ get_or xs i p → KeepsLog (see p) (see q) → AreOnCopies copies (map see xs) → AreOnCopies copies (map see (set xs i q))
  copies_still copies xs i p q lt is kept on m inside =
      let size = set_size no_page see xs i q in
      elim (cases_order m i) [
        | inl same ↦
            ap (λ (n : ℕ). (page_at (map see (set xs i q)) n).copies) same ∙ ap (λ (x : LogSeen). x.copies) (at_set no_page see xs i q lt) ∙ kept.copies
            ∙ sym (ap (λ (x : LogSeen). x.copies) (at_is no_page see xs i p lt ∙ ap see (sym is))) ∙ ap (λ (n : ℕ). (page_at (map see xs) n).copies) (sym same) ∙ on m (omega (arith, size, inside))
        | inr other ↦
            ap (λ (x : LogSeen). x.copies) (at_other no_page see xs i m q (λ e. elim other [ inl low ↦ omega (arith, low, e) | inr high ↦ omega (arith, high, e) ])) ∙ on m (omega (arith, size, inside))
      ]

pub copies_firm : (copies : ℕ) (xs ys : List LogSeen) (result : Result (Unit {0}) MarkFault) → ArePagesFirmed result xs ys → AreOnCopies copies xs → AreOnCopies copies ys
copies_firm copies xs ys (Ok u) each on m lt = let size = each.size in (each.each m (omega (arith, size, lt))).kept.copies ∙ on m (omega (arith, size, lt))
copies_firm copies xs ys (Err fault) each on m lt = let size = each.size in (each.each m (omega (arith, size, lt))).kept.copies ∙ on m (omega (arith, size, lt))
