-- A volume whose recovery is recorded as begun may be opened, once what records the end is planned and the devices of the group are parted: that changes
-- states alone, and keeps each other volume.
use Rattle.std.proofs.Common.{ℕ, ap}
use Rattle.vx_pages.specs.declared.local_piece.LocalPiece.{Ghosts}
use Rattle.vx_base.specs.Named.{Word}
use Rattle.vx_piece.specs.Seen.{Seen}
use Rattle.vx_config_parts.specs.declared.state.VolState.TheVariants as vol
use Rattle.vx_config_parts.specs.declared.vol.Vol.{Vol}
use Rattle.vx_group_start.specs.Fresh.{is_fresh}
use Rattle.vx_image.specs.UsedPlexes.{IsVolOf}
use Rattle.vx_state_edits.specs.Edits.{recovered, recovered_edits}
use Rattle.vx_state_edits.specs.Laws.{EachRecoveredRestates, EachRestatedVolumeIsRecorded, Restates}
use Rattle.vx_house.specs.declared.house.Imported.{Imported}
use Rattle.vx_stage_changes.specs.Planning.{IsPlanned}
use Rattle.vx_stage_changes.specs.declared.planning.NextConfig.{NextConfig}
use Rattle.vx_stage_volumes.specs.Opening.{may_open}
use Rattle.vx_stage_volumes.proofs.Named.{found_of, recorded_of}
use Rattle.vx_stage_volumes.proofs.Prepared.{IsOpenable}
use Rattle.vx_stage_recovery.specs.Opening.{IsBegunIn, IsReadyFor}
use Rattle.vx_stage_recovery.proofs.Recovered.{recovered_changes, recovered_keeps}

-- What laws promise of what the end of a recovery records.
pub record HaveEndLaws : Type 0 where
  pub restates : EachRecoveredRestates
  pub recorded : EachRestatedVolumeIsRecorded

pub recovered_openable : {P : Type 0} {ghosts : Ghosts P} {see : P → Seen} {name : Word} {v : Vol} {next : NextConfig} {g mid : Imported P ghosts} → HaveEndLaws → (marks : ℕ) → IsBegunIn name g v → IsReadyFor see v g mid →
    IsPlanned (recovered_edits g.config v marks) g.config next → IsOpenable see (recovered_edits g.config v marks) name v next g mid
recovered_openable {see = see} {name = name} {v = v} {next = next} {g = g} laws marks begun ready planned =
    let of : IsVolOf g.config v = found_of g.config name v begun.found in
    let restated : Restates v.name vol.Active (recovered marks) g.config next.config = laws.restates g.config v marks (recorded_of g.config v of) next.config planned.0 in
    record {
      found = begun.found;
      may = ap may_open begun.state;
      early = ready.early;
      absent = begun.absent;
      planned = planned;
      parts = ready.parts;
      ready = ready.ready;
      named = restated.group;
      disks = restated.disks;
      keeps = recovered_keeps laws.restates g.config next.config v marks of planned.0;
      changes = recovered_changes laws.restates laws.recorded g.config v marks of (ap is_fresh begun.state);
    }
