-- What the calls ask for by which a plex leaves a volume whose log is asked, and how it goes in each house by how they ended.
use Rattle.std.proofs.Common.{◌≡◌, ℕ, Bool, true, false, Result, Err, subst}
use Rattle.std.specs.Prelude.{OnOk, is_err, is_some}
use Rattle.vx_base.specs.declared.memory.OutOfMemory.{OutOfMemory}
use Rattle.vx_pages.specs.declared.local_piece.LocalPiece.{Ghosts}
use Rattle.vx_piece.specs.Seen.{AreCounts, EndsThere, Seen}
use Rattle.vx_config_parts.specs.declared.plex.Plex.{Plex}
use Rattle.vx_config_parts.specs.declared.vol.Vol.{Vol}
use Rattle.vx_answers.specs.declared.answer.End.TheVariants as ends
use Rattle.vx_answers.specs.declared.refusal.Refusal.TheVariants as refusal
use Rattle.vx_image.specs.Bytes.{map_or_zero}
use Rattle.vx_image.specs.UsedPlexes.{IsVolOf}
use Rattle.vx_group_volumes.proofs.NearerImages.{copy_narrows}
use Rattle.vx_stages.specs.Leaving.{ByLog}
use Rattle.vx_house.specs.Idle.{EachIdleVolumeIsFree}
use Rattle.vx_house.specs.View.{IsGroupKept}
use Rattle.vx_house.specs.declared.house.Imported.{Imported}
use Rattle.vx_house.specs.declared.stop.Stop.{Stop}
use Rattle.vx_house.specs.declared.stop.Stop.TheVariants as stops
use Rattle.vx_stage_changes.specs.declared.planning.NextConfig.{NextConfig}
use Rattle.vx_stage_volumes.specs.Disks.{have_disks}
use Rattle.vx_stage_volumes.specs.Opening.{IsFreeIn, IsUnopenedIn, good_of}
use Rattle.vx_stage_volumes.specs.Parting.{IsReadyToOpen, PartsGroup}
use Rattle.vx_stage_volumes.proofs.Narrowed.{HaveNarrowing}
use Rattle.vx_stage_volumes.proofs.OpenedGroup.{free_parted, of_parted}
use Rattle.vx_stage_volumes.proofs.StartEnds.{was_done}
use Rattle.vx_stage_mirrors.specs.Relogging.{RecordEnds}
use Rattle.vx_stage_dissociation.specs.Asking.{AsksIn, unspared}
use Rattle.vx_stage_dissociation.specs.Going.{EachHouseLeaves}
use Rattle.vx_stage_dissociation.specs.Planned.{IsLeavingPlanned}
use Rattle.vx_stage_dissociation.proofs.AskFacts.{ask_absent}
use Rattle.vx_stage_dissociation.proofs.AskGoes.{needed_goes, spared_goes, unopened_goes, unprepared_goes}

-- What a group has that is ready for its log to be asked.
pub record IsAskable {P : Type 0} {ghosts : Ghosts P} (see : P → Seen) (v : Vol) (p : Plex) (next : NextConfig) (old mid : Imported P ghosts) : Type 0 where
  pub kept : IsGroupKept see old
  pub planned : IsLeavingPlanned see ByLog v p next old
  pub parts : PartsGroup see old mid
  pub ready : IsReadyToOpen see mid

pub askable : {P : Type 0} {ghosts : Ghosts P} (see : P → Seen) (v : Vol) (p : Plex) (next : NextConfig) (old mid : Imported P ghosts) → IsGroupKept see old → IsLeavingPlanned see ByLog v p next old → PartsGroup see old mid →
    (result : Result (Unit {0}) OutOfMemory) → OnOk result (IsReadyToOpen see mid) → (refused : Bool) → refused ≡ is_err result → refused ≡ false → IsAskable see v p next old mid
askable see v p next old mid kept planned parts result ready refused is no_error = record { kept = kept; planned = planned; parts = parts; ready = was_done (IsReadyToOpen see mid) result refused ready is no_error }

module _ {P : Type 0} {ghosts : Ghosts P} (see : P → Seen) (v : Vol) (p : Plex) (next : NextConfig) (old mid : Imported P ghosts) (may : IsAskable see v p next old mid) where
  pub may_of : IsVolOf mid.config v
  may_of = of_parted see v.name old may.kept may.planned.volume (ask_absent see old v p next may.planned) may.parts

  pub may_free : EachIdleVolumeIsFree see mid → have_disks mid.base.disks.items (good_of see mid) mid.config.disks ≡ true → IsFreeIn see mid v
  may_free = free_parted see v.name old may.kept may.planned.volume (ask_absent see old v p next may.planned) may.parts may.ready

-- ---- how it goes

module _ {P : Type 0} {ghosts : Ghosts P} (alike : (p q : P) → is_some (ghosts.seen p).told ≡ is_some (ghosts.seen q).told) (ends_there : (p : P) → EndsThere (ghosts.seen p)) (counts : (p : P) → AreCounts (ghosts.seen p)) (v : Vol) (p : Plex) (next : NextConfig) (old mid : Imported P ghosts) where
  laws : HaveNarrowing ghosts.seen
  laws = record { ends = ends_there; counts = counts; law = copy_narrows }

  pub unprepared : PartsGroup ghosts.seen old mid → EachHouseLeaves ghosts.seen ByLog v p next (Err stops.OutOfMemory) old mid
  unprepared parts planned shelf h has keeps = unprepared_goes alike laws shelf h keeps old has v p next planned parts

  module _ (may : IsAskable ghosts.seen v p next old mid) where
    pub unasked : (new : Imported P ghosts) (stop : Stop) → IsUnopenedIn ghosts.seen v mid new stop → EachHouseLeaves ghosts.seen ByLog v p next (Err (unspared p.name stop)) old new
    unasked new stop is planned shelf h has keeps = unopened_goes alike laws shelf h keeps old has v p next planned may.parts new is

    module _ (map : ℕ) (map_is : map ≡ map_or_zero p.map) (asked : Imported P ghosts) (needed : Bool) (asks : AsksIn ghosts.seen v map needed mid asked) where
      its : AsksIn ghosts.seen v (map_or_zero p.map) needed mid asked
      its = subst (λ n. AsksIn ghosts.seen v n needed mid asked) map_is asks

      pub needed_so : needed ≡ true → EachHouseLeaves ghosts.seen ByLog v p next (Err (stops.Ended (ends.Refused (refusal.OnlyPlex p.name)))) old asked
      needed_so must planned shelf h has keeps = needed_goes alike laws shelf h keeps old has v p next planned may.parts may.ready.room its must

      pub spared_so : needed ≡ false → (result : Result (Unit {0}) Stop) (new : Imported P ghosts) → RecordEnds ghosts.seen next result asked new → EachHouseLeaves ghosts.seen ByLog v p next result old new
      spared_so spare result new e planned shelf h has keeps = spared_goes alike laws shelf h keeps old has v p next planned may.parts may.ready.room its spare new result e
