-- What is known of settings, of plexes that were parked and of mirrors that were laid.
use Rattle.vx_pages.specs.declared.local_piece.LocalPiece.{Ghosts}
use Rattle.vx_volume.proofs.Remarks.{setting_marks, setting_stands, setting_tells}
use Rattle.vx_change_laws.proofs.Exactness.{setting_exact}
use Rattle.vx_change_laws.proofs.Failures.{failure_noted}
use Rattle.vx_change_laws.proofs.Places.{setting_cut, setting_places}
use Rattle.vx_change_laws.proofs.Settings.{setting_runs}
use Rattle.vx_plex_pieces.proofs.OnePlex.{taken_puts, taken_runs}
use Rattle.vx_group_edits.proofs.Held.{laid_held}
use Rattle.vx_stage_mirrors.proofs.JoiningParking.{parked_may_join}
use Rattle.vx_stage_mirrors.proofs.MarkedVolume.{SettingLaws}
use Rattle.vx_stage_mirrors.proofs.Missed.{marked_missed}
use Rattle.vx_stage_mirrors.proofs.Facts.{GroupLaws}

pub setting_laws : SettingLaws
setting_laws = record { cut = setting_cut; places = setting_places; runs = setting_runs setting_stands setting_tells; exact = setting_exact setting_marks; noted = failure_noted }

pub group_laws : {P : Type 0} (ghosts : Ghosts P) → GroupLaws ghosts
group_laws ghosts = record {
  sets = setting_laws;
  marks = setting_marks;
  joins = λ old new r. parked_may_join ghosts.seen taken_runs taken_puts old new r;
  held = laid_held;
  missed = marked_missed;
}
