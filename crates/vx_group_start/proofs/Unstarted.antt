-- Why a volume is not started over pieces that were taken.
use Rattle.std.proofs.Common.{ℕ, ◌++◌, List, inl, inr}
use Rattle.vx_piece.specs.Seen.{Seen}
use Rattle.vx_carve.specs.Together.{SameSectors}
use Rattle.vx_pages.specs.declared.local_piece.LocalPiece.{Ghosts}
use Rattle.vx_maps.specs.Loading.{copy_at}
use Rattle.vx_config_parts.specs.declared.vol.Vol.{Vol}
use Rattle.vx_volume.specs.declared.log.VolumeLog.{VolumeLog}
use Rattle.vx_volume.specs.Log.{log_seen}
use Rattle.vx_lending.specs.declared.form.VolumeForm.{VolumeForm}
use Rattle.vx_lending.specs.Going.{GoTogether}
use Rattle.vx_lending.specs.Logs.{log_header}
use Rattle.vx_lending.specs.Pieces.{copy_pieces}
use Rattle.vx_lending.proofs.Goings.{go_beside, go_from, go_same, go_then}
use Rattle.vx_lending.specs.declared.public.Public.{Public}
use Rattle.vx_lending.specs.Public.{still_pieces}
use Rattle.vx_group_start.specs.declared.fault.StartFault.{StartFault}
use Rattle.vx_group_start.specs.declared.fault.StartFault.TheVariants.{OutOfMemory, NoLog, NoCurrent, Failed, PowerLost}
use Rattle.vx_group_start.specs.Fresh.{is_fresh}
use Rattle.vx_group_start.specs.Logs.{IsPassedOver}
use Rattle.vx_group_start.specs.Steps.{IsLogOver, IsNoLog, IsRefusedOver, IsUnopened}
use Rattle.vx_group_start.proofs.Rises.{cut_beside, rose_beside}

passed_beside : (header : List ℕ) (copy rs cs ds ss os : List Seen) → SameSectors ((rs ++ ds) ++ ss) os → IsPassedOver header cs ds copy → IsPassedOver header ((rs ++ cs) ++ ss) os copy
passed_beside header copy rs cs ds ss os same (inl x) = inl (x.0, x.1, rose_beside x.0 rs cs ds ss os same x.2)
passed_beside header copy rs cs ds ss os same (inr x) = inr x

module _ {P : Type 0} {ghosts : Ghosts P} (v : Vol) (form : VolumeForm) (copies : List (List Seen)) (rs : List Seen) (old new : Public P ghosts) where
  -- there is no log
  pub no_log : (left : List (List Seen)) (fault : StartFault) → SameSectors ((rs ++ copy_pieces left) ++ still_pieces ghosts.seen old) (still_pieces ghosts.seen new) → IsNoLog (is_fresh v.state) (log_header form.shape.geometry) copies left fault →
      IsRefusedOver ghosts.seen v form copies (rs ++ copy_pieces copies) old new fault
  no_log left OutOfMemory same h = tt
  no_log left NoLog same h = (h.0, h.1, λ n lt. passed_beside (log_header form.shape.geometry) (copy_at copies n) rs (copy_pieces copies) (copy_pieces left) (still_pieces ghosts.seen old) (still_pieces ghosts.seen new) same (h.2 n lt))
  no_log left (NoCurrent r) same h = absurd h
  no_log left (Failed device) same h = (h.0, rose_beside device rs (copy_pieces copies) (copy_pieces left) (still_pieces ghosts.seen old) (still_pieces ghosts.seen new) same h.1)
  no_log left PowerLost same h = (h.0, h.1, cut_beside h.0 rs (copy_pieces left) (still_pieces ghosts.seen old) (still_pieces ghosts.seen new) same h.2)

  -- the log is there
  pub not_opened : (log : VolumeLog P ghosts) (fault : StartFault) → IsLogOver ghosts.seen v form.shape copies log → IsUnopened form.shape (log_seen ghosts.seen log) fault → IsRefusedOver ghosts.seen v form copies (rs ++ copy_pieces copies) old new fault
  not_opened log OutOfMemory over h = tt
  not_opened log NoLog over h = absurd h
  not_opened log (NoCurrent r) over h = record { log = log; over = over; first = h }
  not_opened log (Failed device) over h = absurd h
  not_opened log PowerLost over h = absurd h

-- the pieces of the copies were called, and all were put back
pub gone : (rs cs ds ss os : List Seen) → GoTogether cs ds → SameSectors ((rs ++ ds) ++ ss) os → GoTogether ((rs ++ cs) ++ ss) os
gone rs cs ds ss os goes same = go_then _ _ _ (go_beside (rs ++ cs) (rs ++ ds) ss ss (go_beside rs rs cs ds (go_same rs) goes) (go_same ss)) (go_from _ _ same)
