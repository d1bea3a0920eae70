-- A volume that has come to rest is taken out of the running ones of its group.
use Rattle.std.specs.Prelude.{◌≡◌, None}
use Rattle.std.specs.BTreeMap.{is_at}
use Rattle.std.specs.Cmp.Lexicographic.{slice_cmp}
use Rattle.std.specs.Map.{remove_entry}
use Rattle.std.specs.Ordering.{nat_cmp}
use Rattle.vx_pages.specs.declared.local_piece.LocalPiece.{Ghosts}
use Rattle.vx_base.specs.Named.{Word, put, SameUnder}
use Rattle.vx_piece.specs.Seen.{Seen}
use Rattle.vx_carve.specs.Together.{SameSectors}
use Rattle.vx_lending.specs.declared.public.Public.{Public}
use Rattle.vx_lending.specs.Public.{running_at}
use Rattle.vx_group_start.specs.Laying.{AreRunningVolumes, AreStuckVolumes, public_pieces}

-- No volume of the name runs any more, each other one does as before, and all pieces of the group are together what they were.
pub record IsLaid {P : Type 0} {ghosts : Ghosts P} (see : P → Seen) (name : Word) (old new : Public P ghosts) : Type 0 where
  pub entries : new.running.entries ≡ remove_entry (is_at (slice_cmp nat_cmp name)) old.running.entries
  pub puts : SameUnder (put name None (running_at old)) (running_at new)
  pub together : SameSectors (public_pieces see old) (public_pieces see new)
  pub volumes : AreRunningVolumes see new.running.entries
  pub stuck : AreStuckVolumes see new.stuck.items
