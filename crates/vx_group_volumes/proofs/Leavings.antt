-- A volume that runs, and is left.
use Rattle.std.proofs.Common.{◌∙◌, ℕ, List, false, sym, ap}
use Rattle.std.specs.Prelude.{is_some}
use Rattle.std.specs.List.{All}
use Rattle.vx_base.specs.Blocks.{Contents}
use Rattle.vx_piece.specs.Seen.{Seen}
use Rattle.vx_carve.specs.Together.{Holds}
use Rattle.vx_pages.specs.declared.local_piece.LocalPiece.{Ghosts}
use Rattle.vx_config_parts.specs.declared.vol.Vol.{Vol}
use Rattle.vx_objects.specs.declared.config.Config.{Config}
use Rattle.vx_moments.specs.World.{Volume}
use Rattle.vx_image.specs.Image.{PlexImage, IsFilled, WasStarted}
use Rattle.vx_image.specs.Bytes.{Sectors, image_of}
use Rattle.vx_volume.specs.Volume.{log_of, volume_seen}
use Rattle.vx_image.specs.UsedPlexes.{IsVolOf}
use Rattle.vx_lending.specs.Left.{held_pieces}
use Rattle.vx_lending.specs.Logs.{log_copies}
use Rattle.vx_volume_laws.specs.Contents.{AreSectorsOf}
use Rattle.vx_moments.specs.Volumes.{StandsForVolume}
use Rattle.vx_volume_laws.specs.Leaving.{AreNamedIn, EachLeavingStands}
use Rattle.vx_volume_laws.specs.Running.{IsSureOfOthers, RunsAsVolume}
use Rattle.vx_volume_laws.specs.Keeping.{ChangesStates}
use Rattle.vx_volume_laws.proofs.Configurations.{keeping_goes_on}
use Rattle.vx_volume_laws.proofs.Leavings.{volume_leaves}
use Rattle.vx_volume_laws.proofs.Restated.{restated_kept}
use Rattle.vx_lending.specs.declared.public.Running.{Running}
use Rattle.vx_group_volumes.specs.Runs.{RunsIn}

module _ {P : Type 0} {ghosts : Ghosts P} (see : P → Seen) (running : Running P ghosts) (c : Config) (good : ℕ) (numbers : List ℕ) (v : Vol) (runs : RunsIn see c good numbers v running) where
  unfoldable pub recorded_runs : (c' : Config) (good' : ℕ) (v' : Vol) → IsVolOf c' v' → IsFilled v'.state → ChangesStates c good v false c' good' v' → RunsIn see c' good' numbers v' running
  recorded_runs c' good' v' of' filled changes = record {
    recorded = of';
    filled = filled;
    opening = runs.opening;
    of = runs.of;
    form = runs.form;
    keeps = keeping_goes_on runs.opening.config runs.opening.good runs.opening.vol runs.opening.fresh c good v c' good' v' runs.keeps (restated_kept c good v false c' good' v' changes);
    whole = runs.whole;
    shape = runs.shape;
    logged = runs.logged ∙ ap is_some (sym (ap (λ (x : Vol). x.dco) changes.vol));
    lies = runs.lies;
    cut = runs.cut;
  }

  pub leaving_stands : EachLeavingStands → WasStarted v.state → (plexes : List PlexImage) (w : Volume) → RunsAsVolume plexes (volume_seen see running.volume) w →
      IsSureOfOthers plexes (volume_seen see running.volume) w → (contents : ℕ → Contents) → All (Holds contents) (held_pieces see running.volume) → (bytes : Sectors) →
      AreSectorsOf good numbers contents bytes → AreNamedIn (image_of c good bytes v).plexes plexes → StandsForVolume (image_of c good bytes v) w
  leaving_stands law was plexes w run sure contents hold bytes sectors named =
      law plexes (volume_seen see running.volume) w runs.whole run sure (image_of c good bytes v)
      (volume_leaves runs.opening.config runs.opening.good runs.opening.vol runs.opening.fresh running.form runs.of runs.form numbers (volume_seen see running.volume)
      (log_copies see (log_of running.volume)) runs.whole runs.lies.lies contents hold c good v runs.keeps runs.filled bytes sectors plexes w run named)
      was
