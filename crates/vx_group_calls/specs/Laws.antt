-- What passes keep of a volume: its pieces stay where they are, and regions are dead only where they are cut.
use Rattle.std.specs.Prelude.{◌≡◌, is_some, List, Result}
use Rattle.vx_cell.specs.Plexes.{PlexSeen}
use Rattle.vx_marks.specs.Log.{LogSeen}
use Rattle.vx_volume.specs.declared.fault.IoFault.{IoFault}
use Rattle.vx_volume.specs.declared.volume.VolumeShape.{VolumeShape}
use Rattle.vx_volume.specs.Opening.{IsOpened}
use Rattle.vx_volume.specs.declared.volume.Volume.{Volume}
use Rattle.vx_volume.specs.Log.{LogGoes}
use Rattle.vx_volume.specs.Volume.{VolumeSeen, log_of, volume_seen}
use Rattle.vx_piece.specs.Seen.{Keeps, Seen}
use Rattle.vx_runs.specs.Run.{EachPiece}
use Rattle.vx_pages.specs.declared.local_piece.LocalPiece.{Ghosts}
use Rattle.vx_fronts.specs.Rests.{AllTell}
use Rattle.vx_lending.specs.Going.{GoTogether}
use Rattle.vx_lending.specs.Left.{held_pieces}
use Rattle.vx_group_calls.specs.Causes.{AreCutWhereDead, FailuresAreCounted}

-- No region of a volume that was just opened is dead.
abbrev pub OpenedAreAlive : Type 0
OpenedAreAlive = (shape : VolumeShape) (log : LogSeen) (regions : List (List PlexSeen)) (v : VolumeSeen) → IsOpened shape log regions v → AreCutWhereDead v

-- After a pass of this kind a region is dead only where it is cut, if that was so before.
abbrev pub PassKeepsCuts : {T : Type 0} → (VolumeSeen → VolumeSeen → Result T IoFault → Type 0) → Type 0
PassKeepsCuts {T = T} Ends = (old new : VolumeSeen) (result : Result T IoFault) → Ends old new result → AreCutWhereDead old → AreCutWhereDead new

-- Each piece of the volume stays in its place, all go on together, and where the count of a piece of a plex rose that of its device did.
pub record StaysTogether {P : Type 0} {ghosts : Ghosts P} (see : P → Seen) (old new : Volume P ghosts) : Type 0 where
  pub stays : EachPiece Keeps (held_pieces see old) (held_pieces see new)
  pub goes : GoTogether (held_pieces see old) (held_pieces see new)
  pub counted : FailuresAreCounted see old new

-- a pass of this kind keeps the pieces so
abbrev pub PassKeepsPieces : {P T : Type 0} {ghosts : Ghosts P} → (P → Seen) → (VolumeSeen → VolumeSeen → Result T IoFault → Type 0) → Volume P ghosts → Volume P ghosts → Type 0
PassKeepsPieces {T = T} see Ends old new = (result : Result T IoFault) → Ends (volume_seen see old) (volume_seen see new) result → LogGoes see (log_of old) (log_of new) → StaysTogether see old new

-- ---- what pieces tell

-- a piece tells what it holds where another one does
abbrev pub TellAlike : {P : Type 0} → (P → Seen) → Type 0
TellAlike {P = P} see = (p q : P) → is_some (see p).told ≡ is_some (see q).told

-- Where they do so alike, the pieces of the volume still tell what they hold once calls have kept each in its place.
abbrev pub TellStill : {P : Type 0} {ghosts : Ghosts P} → (P → Seen) → Volume P ghosts → Volume P ghosts → Type 0
TellStill see old new = TellAlike see → EachPiece Keeps (held_pieces see old) (held_pieces see new) → AllTell (held_pieces see old) → AllTell (held_pieces see new)
