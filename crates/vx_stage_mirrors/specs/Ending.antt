-- How a mirror of a running volume ends, on its group.
use Rattle.std.specs.Prelude.{◌≡◌, ◌⊎◌, true, is_some, None, Some, Ok, Err, List, map}
use Rattle.vx_base.specs.Named.{Word}
use Rattle.vx_mask.specs.Mask.{only}
use Rattle.vx_piece.specs.Seen.{Seen}
use Rattle.vx_pages.specs.declared.local_piece.LocalPiece.{Ghosts}
use Rattle.vx_config_parts.specs.declared.vol.Vol.{Vol}
use Rattle.vx_lending.specs.Public.{running_at}
use Rattle.vx_stages.specs.Mirroring.{IsMirrorRefused, mirror_refusal}
use Rattle.vx_stages.specs.Tests.{volume_in}
use Rattle.vx_moments.specs.World.{Group}
use Rattle.vx_house.specs.View.{member_of}
use Rattle.vx_house.specs.declared.house.Imported.{Imported}
use Rattle.vx_house.specs.declared.stop.Stop.{Stop}
use Rattle.vx_house.specs.declared.stop.Stop.TheVariants as stops
use Rattle.vx_stage_volumes.specs.Opening.{good_of}
use Rattle.vx_stage_volumes.specs.Parting.{PartsGroup}
use Rattle.vx_stage_mirrors.specs.Planned.{EndsAs, IsMirrorPlanned}
use Rattle.vx_stage_mirrors.specs.declared.planning.PlannedMirror.{PlannedMirror}
use Rattle.vx_stage_mirrors.specs.Copying.{CopiesIn}
use Rattle.vx_stage_mirrors.specs.Joining.{IsJoinedIn, JoinEnds}
use Rattle.vx_stage_mirrors.specs.Parking.{LiesOtherwise}
use Rattle.vx_stage_mirrors.specs.Marking.{MarkEnds, MarksIn}
use Rattle.vx_stage_mirrors.specs.ParkedPieces.{IsParkedFor}
use Rattle.vx_stage_mirrors.specs.declared.parking.ParkedPlex.{ParkedPlex}

-- ---- before anything is touched

-- no test refuses a mirror of the volume of the name on these disks, which runs, and it is planned so
pub record IsPlannedMirror {P : Type 0} {ghosts : Ghosts P} (see : P → Seen) (name : Word) (disks : List Word) (p : PlannedMirror) (g : Imported P ghosts) : Type 0 where
  pub volume : Vol
  pub found : volume_in name g.config.volumes ≡ Some volume
  pub fits : mirror_refusal true g.config name disks ≡ None
  pub planned : IsMirrorPlanned g.config (good_of see g) volume disks p

-- the group, as the world has it
abbrev pub seen_group : {P : Type 0} {ghosts : Ghosts P} → (P → Seen) → Imported P ghosts → Group
seen_group see g = record { config = g.config; good = good_of see g; members = map member_of g.base.disks.items; sequence = g.base.sequence }

-- a test refuses it, or nothing can be planned
abbrev pub IsRefusedHere : {P : Type 0} {ghosts : Ghosts P} → (P → Seen) → Word → List Word → Imported P ghosts → Stop → Type 0
IsRefusedHere see name disks g stop = EndsAs (IsMirrorRefused (is_some (running_at g.public name)) (seen_group see g) name disks) stop

-- ---- on a group that is ready

-- the plex is parked
pub record IsParkedIn {P : Type 0} {ghosts : Ghosts P} (see : P → Seen) (name : Word) (p : PlannedMirror) (old mid : Imported P ghosts) : Type 0 where
  pub parked : ParkedPlex P
  pub for_it : IsParkedFor see name p parked old mid
  pub lies : LiesOtherwise see old mid

-- it is parked, and its map could not be marked
pub record EndsUnmarked {P : Type 0} {ghosts : Ghosts P} (see : P → Seen) (name : Word) (p : PlannedMirror) (stop : Stop) (old new : Imported P ghosts) : Type 0 where
  pub mid : Imported P ghosts
  pub parks : IsParkedIn see name p old mid
  pub marks : MarkEnds see name p.map (Err stop) mid new

-- its map is marked, and its records are not committed
pub record EndsUnjoined {P : Type 0} {ghosts : Ghosts P} (see : P → Seen) (name : Word) (p : PlannedMirror) (stop : Stop) (old new : Imported P ghosts) : Type 0 where
  pub mid : Imported P ghosts
  pub parks : IsParkedIn see name p old mid
  pub marked : Imported P ghosts
  pub marks : MarksIn see name p.map (Ok tt) mid marked
  pub ends : JoinEnds see name p.map parks.parked.layout p.next (Err stop) marked new

-- it has joined, and was copied to
pub record EndsMirrored {P : Type 0} {ghosts : Ghosts P} (see : P → Seen) (name : Word) (p : PlannedMirror) (stop : Stop) (old new : Imported P ghosts) : Type 0 where
  pub mid : Imported P ghosts
  pub parks : IsParkedIn see name p old mid
  pub marked : Imported P ghosts
  pub marks : MarksIn see name p.map (Ok tt) mid marked
  pub joined : Imported P ghosts
  pub joins : IsJoinedIn see name p.map parks.parked.layout p.next marked joined
  pub copies : CopiesIn see name (only p.map) stop joined new

-- how it ends: memory was wanting, or not marked, not joined, or copied to
abbrev pub JoinStopsIn : {P : Type 0} {ghosts : Ghosts P} → (P → Seen) → Word → PlannedMirror → Stop → Imported P ghosts → Imported P ghosts → Type 0
JoinStopsIn see name p stop old new =
    ((stop ≡ stops.OutOfMemory) × LiesOtherwise see old new)
    ⊎ (EndsUnmarked see name p stop old new ⊎ (EndsUnjoined see name p stop old new ⊎ EndsMirrored see name p stop old new))

-- ---- the whole

-- a mirror is planned, the group was made ready, and it ends so
pub record EndsPlanned {P : Type 0} {ghosts : Ghosts P} (see : P → Seen) (name : Word) (disks : List Word) (stop : Stop) (old new : Imported P ghosts) : Type 0 where
  pub plan : PlannedMirror
  pub planned : IsPlannedMirror see name disks plan old
  pub ready : Imported P ghosts
  pub parts : PartsGroup see old ready
  pub ends : JoinStopsIn see name plan stop ready new

-- how a mirror of the volume of the name ends: refused before anything is touched, or for want of memory, or once it is planned
abbrev pub MirrorEnds : {P : Type 0} {ghosts : Ghosts P} → (P → Seen) → Word → List Word → Stop → Imported P ghosts → Imported P ghosts → Type 0
MirrorEnds see name disks stop old new =
    ((new ≡ old) × IsRefusedHere see name disks old stop)
    ⊎ (((stop ≡ stops.OutOfMemory) × PartsGroup see old new) ⊎ EndsPlanned see name disks stop old new)
