-- The one page of the rows' store.
use Rattle.std.proofs.Common.{◌≡◌, ℕ, ◌<◌, true, sym, ◌∙◌, ap, arith, List, length, map, get_or, set}
use Rattle.std.specs.Prelude.{nat_lt}
use Rattle.vx_marks.specs.Log.{LogSeen, KeepsLog}
use Rattle.vx_pages.proofs.Items.{at_is}
use Rattle.vx_maps.specs.Store.{no_page, page_at, ArePages, AreOnCopies}
use Rattle.vx_maps.proofs.StoreChanges.{has_page, size_seen, paged_still}
use Rattle.vx_maps.proofs.Alike.{copies_still}
use Rattle.vx_store_rows.specs.Ready.{IsLogHere}

module _ {T : Type 0} (see : T → LogSeen) where
  pub some_page : (regions : ℕ) (xs : List T) → ArePages regions (map see xs) → nat_lt 1 regions ≡ true → 0 < length xs
  some_page regions xs paged known = has_page regions 1 (length xs) (sym (size_seen see xs) ∙ paged.count) known

  pub page_here : (regions : ℕ) (xs : List T) (p : T) → ArePages regions (map see xs) → nat_lt 1 regions ≡ true → 0 < length xs → p ≡ get_or xs 0 p → IsLogHere (see p)
  page_here regions xs p paged known lt is =
      let here : page_at (map see xs) 0 ≡ see p = at_is no_page see xs 0 p lt ∙ ap see (sym is) in
      let size = size_seen see xs in
      let inside : 0 < length (map see xs) = omega (arith, size, lt) in
      record {
        there = ap (λ (x : LogSeen). x.there) (sym here) ∙ paged.there 0 inside;
        known = ap (λ (x : LogSeen). x.has_region 1) (sym here) ∙ paged.place 0 1 inside ∙ known;
        maps = ap (λ (x : LogSeen). x.maps) (sym here) ∙ paged.maps 0 inside;
        lent = ap (λ (x : LogSeen). x.lent) (sym here) ∙ paged.lent 0 inside;
      }

  pub pages_on : (regions : ℕ) (xs : List T) (p q : T) → ArePages regions (map see xs) → 0 < length xs → p ≡ get_or xs 0 p → KeepsLog (see p) (see q) → ArePages regions (map see (set xs 0 q))
  pages_on regions xs p q paged lt is kept = paged_still see regions 1 xs p paged lt is q kept

  pub copies_on : (copies : ℕ) (xs : List T) (p q : T) → AreOnCopies copies (map see xs) → 0 < length xs → p ≡ get_or xs 0 p → KeepsLog (see p) (see q) → AreOnCopies copies (map see (set xs 0 q))
  copies_on copies xs p q on lt is kept = copies_still see copies xs 0 p q lt is kept on
