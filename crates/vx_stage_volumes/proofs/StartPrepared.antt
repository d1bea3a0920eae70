-- A volume of which a start is prepared may be opened: what the start records of it changes states alone, and keeps each other volume.
use Rattle.vx_pages.specs.declared.local_piece.LocalPiece.{Ghosts}
use Rattle.vx_base.specs.Named.{Word}
use Rattle.vx_piece.specs.Seen.{Seen}
use Rattle.vx_config_parts.specs.declared.state.VolState.TheVariants as vol
use Rattle.vx_config_parts.specs.declared.vol.Vol.{Vol}
use Rattle.vx_state_edits.specs.Edits.{is_new, start_edits, started}
use Rattle.vx_state_edits.specs.Laws.{EachRestatedVolumeIsRecorded, EachStartRestates, Restates}
use Rattle.vx_group_edits.proofs.Restated.{start_keeps}
use Rattle.vx_group_volumes.proofs.Recorded.{start_changes}
use Rattle.vx_image.specs.UsedPlexes.{IsVolOf}
use Rattle.vx_house.specs.View.{IsGroupKept}
use Rattle.vx_house.specs.declared.house.Imported.{Imported}
use Rattle.vx_stage_changes.specs.declared.planning.NextConfig.{NextConfig}
use Rattle.vx_stage_volumes.specs.Starting.{IsPrepared}
use Rattle.vx_stage_volumes.proofs.Absent.{not_running}
use Rattle.vx_stage_volumes.proofs.Named.{found_of, found_recorded}
use Rattle.vx_stage_volumes.proofs.Prepared.{IsOpenable, start_opens}

-- What laws promise of what a start records.
pub record HaveEditLaws : Type 0 where
  pub restates : EachStartRestates
  pub recorded : EachRestatedVolumeIsRecorded

pub start_openable : {P : Type 0} {ghosts : Ghosts P} {see : P → Seen} {name : Word} {v : Vol} {next : NextConfig} {g mid : Imported P ghosts} → HaveEditLaws → IsGroupKept see g → IsPrepared see name v next g mid →
    IsOpenable see (start_edits g.config v) name v next g mid
start_openable {see = see} {name = name} {v = v} {next = next} {g = g} laws kept prepared =
    let of : IsVolOf g.config v = found_of g.config name v prepared.found in
    let restated : Restates v.name vol.Active (started (is_new v.state)) g.config next.config = laws.restates g.config v (found_recorded g.config name v prepared.found) next.config prepared.planned.planned.0 in
    record {
      found = prepared.found;
      may = start_opens v.state prepared.planned.may;
      early = prepared.planned.early;
      absent = not_running see g kept name v prepared.found prepared.planned.may;
      planned = prepared.planned.planned;
      parts = prepared.parts;
      ready = prepared.ready;
      named = restated.group;
      disks = restated.disks;
      keeps = start_keeps laws.restates g.config next.config v of prepared.planned.planned.0;
      changes = start_changes laws.restates laws.recorded g.config v of;
    }
