-- What becomes of pieces out of which a volume is opened, whether it is refused or not.
use Rattle.std.specs.Prelude.{◌≡◌, ◌⊎◌, ℕ, Bool, false, List, ◌++◌}
use Rattle.std.specs.List.{All}
use Rattle.vx_block.specs.Regions.{region_count}
use Rattle.vx_block.specs.declared.geometry.Geometry.{Geometry}
use Rattle.vx_piece.specs.Seen.{Seen}
use Rattle.vx_carve.specs.Together.{HasSome, SameSectors, cut_on, faults_on, reads_on, writes_on}
use Rattle.vx_cell.specs.Plexes.{PlexSeen}
use Rattle.vx_maps.specs.Creating.{AllTell}
use Rattle.vx_maps.specs.Going.{CutCopiesGo}
use Rattle.vx_maps.specs.Narrowing.{AreNarrowed}
use Rattle.vx_pages.specs.Sector.{KeepsPiece}
use Rattle.vx_config_parts.specs.declared.vol.Vol.{Vol}
use Rattle.vx_objects.specs.declared.config.Config.{Config}
use Rattle.vx_lending.specs.declared.form.VolumeForm.{VolumeForm}
use Rattle.vx_lending.specs.Form.{IsFormOf}
use Rattle.vx_lending.specs.RegionPieces.{all_pieces}
use Rattle.vx_lending.specs.Logs.{log_header}
use Rattle.vx_lending.specs.Pieces.{copy_pieces}
use Rattle.vx_lending.specs.Taken.{AreTakenCopies, log_sectors}
use Rattle.vx_group_start.specs.Fresh.{is_fresh}

-- The plexes of regions and these copies of a log were taken out of the pieces, and the rest is left. Each copy was cut, perhaps, and then each
-- of its pieces has gone on; no other piece was called. Now the regions, the copies and the rest are together the pieces.
pub record GoByCopies (copies : List (List Seen)) (old new : List Seen) : Type 0 where
  pub regions : List (List PlexSeen)
  pub later : List (List Seen)
  pub rest : List Seen
  pub some : All HasSome (copy_pieces copies)
  pub taken : SameSectors old (all_pieces regions ++ (copy_pieces copies ++ rest))
  pub cut : CutCopiesGo KeepsPiece copies later
  pub back : SameSectors (all_pieces regions ++ (copy_pieces later ++ rest)) new

-- The copies of the log of a volume that was started before have come nearer to one another, where they tell what they hold. Of those of one
-- that was never started nothing is said: they are made new.
abbrev pub ComeNearer : Bool → Geometry → List (List Seen) → List (List Seen) → Type 0
ComeNearer fresh geometry old new = fresh ≡ false → AllTell old → AreNarrowed (log_header geometry) (region_count geometry.length geometry.region) old new

-- the pieces have gone on by copies that have come nearer
pub record GoNearer (fresh : Bool) (geometry : Geometry) (copies : List (List Seen)) (old new : List Seen) : Type 0 where
  pub go : GoByCopies copies old new
  pub nearer : ComeNearer fresh geometry copies go.later

-- so have they by the copies that were taken for the log of a volume of the form, which was never started or was
pub record GoByLog (numbers : List ℕ) (form : VolumeForm) (fresh : Bool) (old new : List Seen) : Type 0 where
  pub copies : List (List Seen)
  pub are : AreTakenCopies numbers form.logs.items (log_sectors form.shape.geometry) copies
  pub go : GoByCopies copies old new
  pub nearer : ComeNearer fresh form.shape.geometry copies go.later

-- no piece was called, or some were by the log of the form
abbrev pub ComeBackFrom : List ℕ → VolumeForm → Bool → List Seen → List Seen → Type 0
ComeBackFrom numbers form fresh old new = SameSectors old new ⊎ GoByLog numbers form fresh old new

-- no piece was called, or some were by the log of the form of the volume in the configuration
abbrev pub ComeBack : Config → ℕ → Vol → List ℕ → List Seen → List Seen → Type 0
ComeBack c good v numbers old new = SameSectors old new ⊎ ((form : VolumeForm) × IsFormOf c good v (is_fresh v.state) form × GoByLog numbers form (is_fresh v.state) old new)

-- what was counted on the device is as before
pub record CountsStay (device : ℕ) (old new : List Seen) : Type 0 where
  pub reads : reads_on device new ≡ reads_on device old
  pub writes : writes_on device new ≡ writes_on device old
  pub faults : faults_on device new ≡ faults_on device old
  pub cut : cut_on device new ≡ cut_on device old
