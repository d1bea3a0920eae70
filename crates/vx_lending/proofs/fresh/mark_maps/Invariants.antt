-- The maps below this one are marked, if the mask has them.
use Rattle.std.proofs.Common.{◌≡◌, ℕ, false, true}
use Rattle.std.specs.Prelude.{nat_lt, ◌&&◌}
use Rattle.vx_mask.specs.Mask.{has}
use Rattle.vx_marks.specs.Log.{KeepsLog}
use Rattle.vx_pages.specs.Sector.{KeepsPiece}
use Rattle.vx_maps.specs.Going.{StoreGoes}
use Rattle.vx_maps.specs.Stores.{store_seen}
use Rattle.vx_lending.specs.Logs.{AreShown}
use Rattle.vx_lending.proofs.fresh.mark_maps.Given as goal

abbrev pub invariant-loop-map : goal.invariant-loop-map
invariant-loop-map g l = record {
  kept : KeepsLog (store_seen g.P.LocalPiece.seen l.fn.store) (store_seen g.P.LocalPiece.seen l.store);
  base : l.store.base ≡ l.fn.store.base;
  claims : (region k : ℕ) → (store_seen g.P.LocalPiece.seen l.fn.store).has_region region ≡ true → (store_seen g.P.LocalPiece.seen l.store).claims region k ≡ (nat_lt k l.map && has l.marked k);
  shown : AreShown (λ k. false) (store_seen g.P.LocalPiece.seen l.fn.store).has_region (store_seen g.P.LocalPiece.seen l.fn.store).told → AreShown (λ k. nat_lt k l.map && has l.marked k) (store_seen g.P.LocalPiece.seen l.fn.store).has_region (store_seen g.P.LocalPiece.seen l.store).told;
  goes : StoreGoes g.P.LocalPiece.seen KeepsPiece l.fn.store l.store;
}
