-- A volume of the code lies where its form says, as it is opened and from then on.
use Rattle.std.proofs.Common.{ℕ, List, Option}
use Rattle.vx_block.specs.declared.geometry.Geometry.{Geometry}
use Rattle.vx_piece.specs.Seen.{Seen}
use Rattle.vx_cell.specs.Plexes.{PlexSeen}
use Rattle.vx_pages.specs.declared.local_piece.LocalPiece.{Ghosts}
use Rattle.vx_maps.specs.Going.{CopiesGo}
use Rattle.vx_volume.specs.declared.volume.Volume.{Volume}
use Rattle.vx_volume.specs.Arming.{VolumeArmed}
use Rattle.vx_volume.specs.Log.{LogGoes, log_seen}
use Rattle.vx_volume.specs.Volume.{log_of, volume_seen}
use Rattle.vx_lending.specs.declared.form.VolumeForm.{VolumeForm}
use Rattle.vx_lending.specs.Logs.{log_copies}
use Rattle.vx_volume_laws.specs.Calls.{IsOpenedOn, KeepsPlaces}
use Rattle.vx_volume_laws.specs.Lying.{IsLogFor, LiesIn}
use Rattle.vx_volume_laws.specs.Places.{IsSamePlace}
use Rattle.vx_volume_laws.proofs.Armings.{copies_armed, volume_armed}
use Rattle.vx_volume_laws.proofs.LeftLogs.{log_goes, log_over}
use Rattle.vx_volume_laws.proofs.Lyings.{kept_volume_lies, opened_volume_lies}

module _ {P : Type 0} {ghosts : Ghosts P} (numbers : List ℕ) (form : VolumeForm) where
  pub lies_opened : (regions : List (List PlexSeen)) (taken : List (List Seen)) (volume : Volume P ghosts) → IsOpenedOn ghosts.seen numbers form regions taken volume → LiesIn ghosts.seen numbers form volume
  lies_opened regions taken volume on =
      record {
        some = on.some;
        log_for = on.log_for;
        lies = opened_volume_lies numbers form regions on.long on.regions_taken taken (log_copies ghosts.seen (log_of volume)) on.copies_taken on.cut (log_seen ghosts.seen (log_of volume)) (log_over form.shape.geometry (log_of volume) on.log_for on.some) (volume_seen ghosts.seen volume) on.opened;
      }

  module _ (old new : Volume P ghosts) (was : LiesIn ghosts.seen numbers form old) where
    lies_after : KeepsPlaces (volume_seen ghosts.seen old) (volume_seen ghosts.seen new) → CopiesGo IsSamePlace (log_copies ghosts.seen (log_of old)) (log_copies ghosts.seen (log_of new)) × ((geometry : Geometry) → IsLogFor geometry (log_of old) → IsLogFor geometry (log_of new)) → LiesIn ghosts.seen numbers form new
    lies_after kept goes =
        let fits : IsLogFor form.shape.geometry (log_of new) = goes.1 form.shape.geometry was.log_for in
        record {
          some = was.some;
          log_for = fits;
          lies = kept_volume_lies numbers form (volume_seen ghosts.seen old) (volume_seen ghosts.seen new) (log_copies ghosts.seen (log_of old)) (log_copies ghosts.seen (log_of new)) was.lies kept goes.0 (log_over form.shape.geometry (log_of new) fits was.some);
        }

    pub lies_on : KeepsPlaces (volume_seen ghosts.seen old) (volume_seen ghosts.seen new) → LogGoes ghosts.seen (log_of old) (log_of new) → LiesIn ghosts.seen numbers form new
    lies_on kept goes = lies_after kept (log_goes (log_of old) (log_of new) goes)

    pub lies_armed : (stop : Option ℕ) → VolumeArmed ghosts.seen stop old new → LiesIn ghosts.seen numbers form new
    lies_armed stop armed = lies_after (volume_armed stop old new armed) (copies_armed stop old new armed)
