use Rattle.std.proofs.Common.{◌≡◌, ℕ}
use Rattle.vx_marks.specs.Log.{KeepsLog}
use Rattle.vx_pages.specs.Sector.{KeepsPiece}
use Rattle.vx_pages.specs.Setting.{SetsSoFar}
use Rattle.vx_maps.specs.Going.{StoreGoes}
use Rattle.vx_maps.specs.Stores.{store_seen}
use Rattle.vx_volume.specs.Bytes.{map_bit}
use Rattle.vx_volume.proofs.PageByPage.{come_before}
use Rattle.vx_volume.proofs.setting.set_from.Given as goal

abbrev pub invariant-loop-page : goal.invariant-loop-page
invariant-loop-page g l = record {
  kept : KeepsLog (store_seen g.P.LocalPiece.seen l.fn.store) (store_seen g.P.LocalPiece.seen l.store);
  sets : SetsSoFar l.map (map_bit l.bits) (come_before l.page) (store_seen g.P.LocalPiece.seen l.fn.store) (store_seen g.P.LocalPiece.seen l.store);
  quiet : (copy device : ℕ) → (store_seen g.P.LocalPiece.seen l.store).faults copy device ≡ (store_seen g.P.LocalPiece.seen l.fn.store).faults copy device;
  goes : StoreGoes g.P.LocalPiece.seen KeepsPiece l.fn.store l.store;
  base : l.store.base ≡ l.fn.store.base;
}
