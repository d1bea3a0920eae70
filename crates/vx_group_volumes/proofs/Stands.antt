-- A volume that was stopped: its image, as it is recorded then, stands for it.
use Rattle.std.proofs.Common.{◌≡◌, ◌∙◌, ℕ, true, false, List}
use Rattle.std.specs.List.{All}
use Rattle.vx_base.specs.Blocks.{Contents}
use Rattle.vx_mask.specs.Mask.{has}
use Rattle.vx_core.specs.declared.stage.Phase.{Phase}
use Rattle.vx_core.specs.declared.stage.Phase.TheVariants.{Dead, Settled}
use Rattle.vx_piece.specs.Seen.{Seen}
use Rattle.vx_carve.specs.Together.{Holds}
use Rattle.vx_pages.specs.declared.local_piece.LocalPiece.{Ghosts}
use Rattle.vx_config_parts.specs.declared.state.VolState.TheVariants as vol
use Rattle.vx_config_parts.specs.declared.vol.Vol.{Vol}
use Rattle.vx_objects.specs.Applied.{IsEdited}
use Rattle.vx_objects.specs.declared.config.Config.{Config}
use Rattle.vx_state_edits.specs.Edits.{stop_edits}
use Rattle.vx_moments.specs.World.{Volume}
use Rattle.vx_image.specs.Image.{PlexImage}
use Rattle.vx_image.specs.Bytes.{Sectors, image_of}
use Rattle.vx_volume.specs.Volume.{cell_at, log_of, volume_seen}
use Rattle.vx_lending.specs.Left.{held_pieces}
use Rattle.vx_lending.specs.Logs.{log_copies}
use Rattle.vx_volume_laws.specs.Contents.{AreSectorsOf}
use Rattle.vx_volume_laws.specs.Leaving.{AreNamedIn, EachStopStands, IsLeftBy}
use Rattle.vx_volume_laws.specs.Running.{RunsAsVolume}
use Rattle.vx_volume_laws.specs.Keeping.{ChangesStates}
use Rattle.vx_volume_laws.proofs.Configurations.{kept_named}
use Rattle.vx_volume_laws.proofs.ExactLeft.{clean_left}
use Rattle.vx_volume_laws.proofs.Leavings.{volume_leaves}
use Rattle.vx_volume_laws.proofs.Restated.{restated_kept}
use Rattle.vx_lending.specs.declared.public.Running.{Running}
use Rattle.vx_group_volumes.specs.ExactLaws.{EachStoppedVolumeIsClean}
use Rattle.vx_group_volumes.specs.Laws.{EachStopChangesStates}
use Rattle.vx_group_volumes.specs.Runs.{RunsIn}
use Rattle.vx_group_volumes.proofs.Leavings.{recorded_runs}
use Rattle.vx_group_volumes.specs.RestLaws.{EachStoppedVolumeStands}

-- names that are in a list of plexes that is in another
pub named_through : (ps qs rs : List PlexImage) → AreNamedIn ps qs → AreNamedIn qs rs → AreNamedIn ps rs
named_through ps qs rs one two p there =
    let q = one p there in
    let r = two q.0 q.1 in
    (r.0, r.1, r.2 ∙ q.2, r.3 ∙ q.3)

not_settled : (phase : Phase) → phase ≡ Settled → phase ≡ Dead → ⊥
not_settled phase settled dead = cc

-- states have changed alone, and some disks may have failed
fewer : (c : Config) (good : ℕ) (v : Vol) (c' : Config) (v' : Vol) → ChangesStates c good v false c' good v' → (good' : ℕ) → ((slot : ℕ) → has good' slot ≡ true → has good slot ≡ true) → ChangesStates c good v false c' good' v'
fewer c good v c' v' changes good' failed =
    record { vol = changes.vol; disks = changes.disks; subdisks = changes.subdisks; snaps = changes.snaps; plexes = changes.plexes; failed = failed }

module _ {P : Type 0} {ghosts : Ghosts P} (see : P → Seen) (running : Running P ghosts) (states : EachStopChangesStates) (c : Config) (good : ℕ) (numbers : List ℕ) (v : Vol) (runs : RunsIn see c good numbers v running)
    (marks : ℕ) (c' : Config) (edited : IsEdited (stop_edits c v marks) c c') (good' : ℕ) (failed : (slot : ℕ) → has good' slot ≡ true → has good slot ≡ true)
    (plexes : List PlexImage) (w : Volume) (run : RunsAsVolume plexes (volume_seen see running.volume) w) (named : (bytes : Sectors) → AreNamedIn (image_of c good bytes v).plexes plexes)
    (contents : ℕ → Contents) (hold : All (Holds contents) (held_pieces see running.volume)) (bytes : Sectors) (sectors : AreSectorsOf good' numbers contents bytes) where
  abbrev clean : Vol
  clean = record v { state = vol.Clean }

  -- by the configuration that is recorded, its image is what it leaves
  left_clean : IsLeftBy plexes (volume_seen see running.volume) w run (image_of c' good' bytes clean)
  left_clean =
      let of = states c v marks runs.recorded c' edited good in
      let changes = fewer c good v c' clean of.1 good' failed in
      let runs' = recorded_runs see running c good numbers v runs c' good' clean of.0 tt changes in
      let named' = named_through (image_of c' good' bytes clean).plexes (image_of c good bytes v).plexes plexes
      (kept_named c good v false c' good' clean (restated_kept c good v false c' good' clean changes) bytes bytes) (named bytes) in
      volume_leaves runs'.opening.config runs'.opening.good runs'.opening.vol runs'.opening.fresh running.form runs'.of runs'.form numbers (volume_seen see running.volume)
      (log_copies see (log_of running.volume)) runs'.whole runs'.lies.lies contents hold c' good' clean runs'.keeps runs'.filled bytes sectors plexes w run named'

pub stopped_stands : {P : Type 0} {ghosts : Ghosts P} (see : P → Seen) (running : Running P ghosts) → EachStopStands → EachStopChangesStates → EachStoppedVolumeStands see running
stopped_stands see running law states c good numbers v runs settled marks c' edited good' failed plexes w run sure named contents hold bytes sectors =
    law plexes (volume_seen see running.volume) w runs.whole run sure settled (image_of c' good' bytes (record v { state = vol.Clean }))
    (left_clean see running states c good numbers v runs marks c' edited good' failed plexes w run named contents hold bytes sectors)

pub stopped_clean : {P : Type 0} {ghosts : Ghosts P} (see : P → Seen) (running : Running P ghosts) → EachStopChangesStates → EachStoppedVolumeIsClean see running
stopped_clean see running states c good numbers v runs settled clean exact marks c' edited good' failed plexes w run named contents hold bytes sectors =
    clean_left plexes (volume_seen see running.volume) w runs.whole run (image_of c' good' bytes (record v { state = vol.Clean }))
    (left_clean see running states c good numbers v runs marks c' edited good' failed plexes w run named contents hold bytes sectors)
    exact (λ r lt dead. not_settled (cell_at (volume_seen see running.volume) r).stage.phase (settled r lt) dead) clean
