-- That plexes can be taken out of pieces that have the public regions of the disks.
use Rattle.std.specs.Prelude.{◌≡◌, ◌≢◌, ℕ, ◌<◌, List, true, length, slice_index_or}
use Rattle.std.specs.List.{All}
use Rattle.vx_piece.specs.Seen.{Seen}
use Rattle.vx_layout.specs.declared.strip.Strip.{Strip}
use Rattle.vx_layout.specs.declared.run.Run.{Run}
use Rattle.vx_layout.specs.declared.layout.Layout.{Layout}
use Rattle.vx_carve.specs.Strips.{EachStrip, HasNumber, IsFreeStrip, IsOpenRun, ArePlexes}
use Rattle.vx_config_parts.specs.declared.disk.Disk.{Disk}
use Rattle.vx_config_parts.specs.declared.plex.Plex.{Plex}
use Rattle.vx_objects.specs.declared.config.Config.{Config}
use Rattle.vx_image.specs.Lies.{are_on_disks, columns_of}

-- the public region of a disk
abbrev pub public_of : Disk → Run
public_of d = record { disk = d.slot; sector = 0; count = d.publen; block = 0 }

-- Where the public regions of the disks are in pieces, the strips that lie in them have numbers and are in pieces.
abbrev pub PlexesHaveRoom : Type 0
PlexesHaveRoom =
    (disks : List Disk) (numbers : List ℕ) (ps : List Seen) (columns : List (List Strip)) → All (λ d. IsOpenRun numbers ps (public_of d)) disks → are_on_disks disks columns ≡ true →
    EachStrip (HasNumber numbers) columns × EachStrip (IsFreeStrip numbers ps) columns

-- The layouts are those of the plexes, in their order.
pub record AreLayoutsOf (c : Config) (plexes : List Plex) (layouts : List Layout) : Type 0 where
  pub long : length layouts ≡ length plexes
  pub each : (k : ℕ) (p : Plex) (d : Layout) → k < length layouts → (slice_index_or layouts k d).columns ≡ columns_of c (slice_index_or plexes k p)

-- Layouts of plexes of a configuration whose names differ have no sector in common.
abbrev pub LayoutsArePlexes : Type 0
LayoutsArePlexes =
    (c : Config) (numbers : List ℕ) (plexes : List Plex) (layouts : List Layout) → AreLayoutsOf c plexes layouts →
    ((j k : ℕ) (p : Plex) → j < length plexes → k < length plexes → j ≢ k → (slice_index_or plexes j p).name ≢ (slice_index_or plexes k p).name) →
    All (λ (l : Layout). EachStrip (HasNumber numbers) l.columns) layouts → ArePlexes numbers layouts
