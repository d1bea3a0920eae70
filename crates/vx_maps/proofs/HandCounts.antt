-- That a call on one page of a store calls no piece of another.
use Rattle.std.proofs.Common.{◌≡◌, ℕ, ◌<◌, sym, ◌∙◌, ap, subst, List, [], length, get_or, set, Result}
use Rattle.vx_marks.specs.declared.marker.MarkFault.{MarkFault}
use Rattle.vx_pages.specs.declared.local_piece.LocalPiece.{Ghosts}
use Rattle.vx_pages.specs.declared.page.Page.{Page}
use Rattle.std.specs.Prelude.{OnOk}
use Rattle.vx_pages.specs.Page.{AreAll}
use Rattle.vx_pages.specs.Pages.{grid_seen, sectors_of}
use Rattle.vx_pages.specs.Sector.{SectorSeen}
use Rattle.vx_pages.specs.Writes.{IsShut, PageHands}
use Rattle.vx_pages.proofs.Items.{at_is, at_set, at_other}
use Rattle.vx_maps.specs.Slots.{row_at}
use Rattle.vx_maps.specs.Writes.{StoreHands}

module _ {P : Type 0} {ghosts : Ghosts P} where
  pub hands_on : (pages : List (Page P ghosts)) (i : ℕ) (p q : Page P ghosts) → i < length pages → p ≡ get_or pages i p → (writes : ℕ → SectorSeen → ℕ) (result : Result (Unit {0}) MarkFault) →
      PageHands writes result (sectors_of ghosts.seen p) (sectors_of ghosts.seen q) → StoreHands i writes result (grid_seen ghosts.seen pages) (grid_seen ghosts.seen (set pages i q))
  hands_on pages i p q lt is writes result h =
      record {
        here =
            subst (λ (xs : List SectorSeen). PageHands writes result xs (row_at (grid_seen ghosts.seen (set pages i q)) i)) (ap (sectors_of ghosts.seen) is ∙ sym (at_is [] (sectors_of ghosts.seen) pages i p lt))
            (subst (λ (ys : List SectorSeen). PageHands writes result (sectors_of ghosts.seen p) ys) (sym (at_set [] (sectors_of ghosts.seen) pages i q lt)) h);
        others = λ j apart. at_other [] (sectors_of ghosts.seen) pages i j q apart;
      }

  pub shut_on : (pages : List (Page P ghosts)) (i : ℕ) (q : Page P ghosts) → i < length pages → (result : Result (Unit {0}) MarkFault) → OnOk result (AreAll IsShut (sectors_of ghosts.seen q)) →
      OnOk result (AreAll IsShut (row_at (grid_seen ghosts.seen (set pages i q)) i))
  shut_on pages i q lt result h = subst (λ (xs : List SectorSeen). OnOk result (AreAll IsShut xs)) (sym (at_set [] (sectors_of ghosts.seen) pages i q lt)) h
