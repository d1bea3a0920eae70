-- What was told of the pieces before a start is told of the same pieces.
use Rattle.std.proofs.Common.{◌≡◌, ℕ, ◌++◌, List, map, subst, inl, inr}
use Rattle.std.specs.List.{All}
use Rattle.vx_base.specs.Blocks.{Contents}
use Rattle.vx_piece.specs.Seen.{Seen}
use Rattle.vx_carve.specs.Together.{Holds, SameSectors}
use Rattle.vx_pages.specs.declared.local_piece.LocalPiece.{Ghosts}
use Rattle.vx_config_parts.specs.declared.vol.Vol.{Vol}
use Rattle.vx_objects.specs.declared.config.Config.{Config}
use Rattle.vx_volume.specs.declared.log.VolumeLog.{VolumeLog}
use Rattle.vx_lending.specs.declared.form.VolumeForm.{VolumeForm}
use Rattle.vx_lending.specs.Form.{IsFormOf}
use Rattle.vx_lending.specs.FormLaws.{all_layouts}
use Rattle.vx_volume.specs.Volume.{log_of}
use Rattle.vx_lending.specs.RegionPieces.{all_pieces}
use Rattle.vx_lending.specs.Going.{GoTogether}
use Rattle.vx_lending.specs.Left.{held_pieces}
use Rattle.vx_lending.specs.Pieces.{copy_pieces}
use Rattle.vx_lending.specs.Taken.{OthersStay}
use Rattle.vx_lending.specs.declared.public.Public.{Public}
use Rattle.vx_lending.specs.declared.public.Running.{Running}
use Rattle.vx_lending.specs.Public.{still_pieces}
use Rattle.vx_group_start.specs.declared.fault.StartFault.{StartFault}
use Rattle.vx_group_start.specs.declared.fault.StartFault.TheVariants.{OutOfMemory, NoLog, NoCurrent, Failed, PowerLost}
use Rattle.vx_group_start.specs.Fresh.{is_fresh}
use Rattle.vx_group_start.specs.Logs.{AreStartCopies, IsStartLog}
use Rattle.vx_group_start.specs.Refused.{IsLogCut, IsLogFailed, IsNotStarted, IsUnlogged}
use Rattle.vx_group_start.specs.Started.{IsStarted}
use Rattle.vx_group_start.specs.Together.{ComeBack, ComeBackFrom, GoByLog}

module _ {P : Type 0} {ghosts : Ghosts P} (v : Vol) (numbers : List ℕ) (old was new : Public P ghosts) (still : still_pieces ghosts.seen was ≡ still_pieces ghosts.seen old) where
  abbrev log_from : (form : VolumeForm) (log : VolumeLog P ghosts) → IsStartLog ghosts.seen v numbers form (still_pieces ghosts.seen was) log → IsStartLog ghosts.seen v numbers form (still_pieces ghosts.seen old) log
  log_from form log h = record { copies = h.copies; are = subst (λ (xs : List Seen). AreStartCopies numbers form xs h.copies) still h.are; log_is = h.log_is; cut = h.cut; fits = h.fits }

  pub started_from : (running : Running P ghosts) → map ghosts.seen was.pool.items.items ≡ map ghosts.seen old.pool.items.items → IsStarted ghosts.seen v numbers was new running → IsStarted ghosts.seen v numbers old new running
  started_from running pool s =
      record {
        regions = s.regions;
        long = s.long;
        taken = s.taken;
        hold = subst (λ (xs : List Seen). (contents : ℕ → Contents) → All (Holds contents) xs → All (Holds contents) (all_pieces s.regions) × All (Holds contents) (still_pieces ghosts.seen new)) still s.hold;
        log = log_from running.form (log_of running.volume) s.log;
        out = subst (λ (xs : List Seen). SameSectors xs (all_pieces s.regions ++ (copy_pieces s.log.copies ++ still_pieces ghosts.seen new))) still s.out;
        opened = s.opened;
        whole = s.whole;
        shape = s.shape;
        goes = subst (λ (xs : List Seen). GoTogether xs (held_pieces ghosts.seen running.volume ++ still_pieces ghosts.seen new)) still s.goes;
        others = subst (λ (xs : List Seen). OthersStay numbers (all_layouts running.form) xs (map ghosts.seen new.pool.items.items)) pool s.others;
      }

  pub not_started_from : (form : VolumeForm) (fault : StartFault) → IsNotStarted ghosts.seen v numbers form was new fault → IsNotStarted ghosts.seen v numbers form old new fault
  not_started_from form OutOfMemory h = tt
  not_started_from form NoLog h = subst (λ (xs : List Seen). IsUnlogged v numbers form xs (still_pieces ghosts.seen new)) still h
  not_started_from form (NoCurrent r) (inl h) = inl (record { log = h.log; is = log_from form h.log h.is; first = h.first })
  not_started_from form (NoCurrent r) (inr h) = inr h
  not_started_from form (Failed device) h = subst (λ (xs : List Seen). IsLogFailed numbers form xs (still_pieces ghosts.seen new) device) still h
  not_started_from form PowerLost h = subst (λ (xs : List Seen). IsLogCut numbers form xs (still_pieces ghosts.seen new)) still h

-- what came back by a form of the configuration
pub come_from : (c : Config) (good : ℕ) (v : Vol) (numbers : List ℕ) (form : VolumeForm) (old was new : List Seen) → IsFormOf c good v (is_fresh v.state) form → was ≡ old → ComeBackFrom numbers form (is_fresh v.state) was new → ComeBack c good v numbers old new
come_from c good v numbers form old was new is same (inl stay) = inl (subst (λ (xs : List Seen). SameSectors xs new) same stay)
come_from c good v numbers form old was new is same (inr go) = inr (form, is, subst (λ (xs : List Seen). GoByLog numbers form (is_fresh v.state) xs new) same go)
