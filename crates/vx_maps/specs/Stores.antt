-- What contracts see of a store.
use Rattle.vx_mapfmt.specs.declared.shape.DcoShape.{DcoShape}
use Rattle.vx_piece.specs.Seen.{Seen}
use Rattle.vx_pages.specs.declared.local_piece.LocalPiece.{Ghosts}
use Rattle.vx_marks.specs.Log.{LogSeen}
use Rattle.vx_maps.specs.declared.store.MapStore.{MapStore}
use Rattle.vx_maps.specs.Store.{store_log, pages_seen}

-- the store as a log of marks
abbrev pub store_seen : {P : Type 0} {ghosts : Ghosts P} → (P → Seen) → MapStore P ghosts → LogSeen
store_seen seen store = store_log store.base.shape.regions (pages_seen seen store.pages.items)

-- the shape of the plex that holds its maps
abbrev pub shape_of : {P : Type 0} {ghosts : Ghosts P} → MapStore P ghosts → DcoShape
shape_of store = store.base.shape
