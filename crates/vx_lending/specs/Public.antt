-- The pieces of the public regions of a group's disks.
use Rattle.std.specs.Prelude.{Option, List, ◌++◌, map}
use Rattle.std.specs.List.{flat_map}
use Rattle.std.specs.BTreeMap.{get}
use Rattle.std.specs.Cmp.Lexicographic.{slice_cmp}
use Rattle.std.specs.Ordering.{nat_cmp}
use Rattle.vx_base.specs.Named.{Word}
use Rattle.vx_piece.specs.Seen.{Seen}
use Rattle.vx_pages.specs.declared.local_piece.LocalPiece.{Ghosts}
use Rattle.vx_volume.specs.Opening.{regions_seen}
use Rattle.vx_lending.specs.RegionPieces.{all_pieces}
use Rattle.vx_lending.specs.Left.{held_pieces, left_copies}
use Rattle.vx_lending.specs.Pieces.{copy_pieces}
use Rattle.vx_lending.specs.declared.public.Public.{Public}
use Rattle.vx_lending.specs.declared.public.Remains.{Remains}
use Rattle.vx_lending.specs.declared.public.Running.{Running}

-- the pieces of a running volume
abbrev pub running_pieces : {P : Type 0} {ghosts : Ghosts P} → (P → Seen) → Word × Running P ghosts → List Seen
running_pieces see e = held_pieces see e.1.volume

-- those that are left of a volume that was not started
abbrev pub remaining_pieces : {P : Type 0} {ghosts : Ghosts P} → (P → Seen) → Remains P ghosts → List Seen
remaining_pieces see r = all_pieces (regions_seen see r.regions.items) ++ copy_pieces (left_copies see r.log)

-- the pieces that lie still, which no volume has
abbrev pub still_pieces : {P : Type 0} {ghosts : Ghosts P} → (P → Seen) → Public P ghosts → List Seen
still_pieces see p = map see p.pool.items.items ++ flat_map (remaining_pieces see) p.left.items

-- the pieces of a volume that could not be put back
abbrev pub stuck_pieces : {P : Type 0} {ghosts : Ghosts P} → (P → Seen) → Running P ghosts → List Seen
stuck_pieces see r = held_pieces see r.volume

-- those that volumes have: the ones that run, and the ones that could not be put back
abbrev pub lent_pieces : {P : Type 0} {ghosts : Ghosts P} → (P → Seen) → Public P ghosts → List Seen
lent_pieces see p = flat_map (running_pieces see) p.running.entries ++ flat_map (stuck_pieces see) p.stuck.items

-- the running volume of a name
abbrev pub running_at : {P : Type 0} {ghosts : Ghosts P} → Public P ghosts → Word → Option (Running P ghosts)
running_at p name = get (slice_cmp nat_cmp) p.running name
