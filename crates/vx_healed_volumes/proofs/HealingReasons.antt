-- What healing a volume keeps of it, and why it was not done.
use Rattle.std.proofs.Common.{inl, inr, Result, Ok, Err}
use Rattle.vx_cell.specs.declared.fault.Place.{Place}
use Rattle.vx_pages.specs.declared.local_piece.LocalPiece.{Ghosts}
use Rattle.vx_volume.specs.declared.fault.IoFault.{IoFault}
use Rattle.vx_volume.specs.declared.fault.IoFault.TheVariants.{Fault, PowerLost, Range}
use Rattle.vx_volume.specs.declared.volume.Volume.{Volume}
use Rattle.vx_volume.specs.Log.{LogGoes}
use Rattle.vx_volume.specs.Volume.{VolumeSeen, log_of, volume_seen}
use Rattle.vx_group_calls.proofs.Keeping.{FailedIn, HasGone, gone_then}
use Rattle.vx_group_volumes.proofs.Passes.{goes_on, settling}
use Rattle.vx_group_volumes.proofs.Reasons.{clearing_fault, clearing_lost, copies_fault, copies_lost, cut_in, failed_on, rest_reason}
use Rattle.vx_group_recover.specs.Healing.{Heals}
use Rattle.vx_group_recover.specs.declared.healing.Healed.{Healed}
use Rattle.vx_healed_volumes.specs.Laws.{EachHealingGoesOn, EachHealingHasReason, HealingHasReason}
use Rattle.vx_healed_volumes.proofs.HealingRuns.{copying, healing_keeps}

failed_later : (place : Place) (old mid new : VolumeSeen) → HasGone old mid → FailedIn place mid new → FailedIn place old new
failed_later place old mid new gone f = record { mid = f.mid; gone = gone_then old mid f.mid gone f.gone; last = f.last; region = f.region; inside = f.inside; rose = f.rose }

module _ {P : Type 0} {ghosts : Ghosts P} (old new : Volume P ghosts) where
  abbrev was : VolumeSeen
  was = volume_seen ghosts.seen old

  abbrev now : VolumeSeen
  now = volume_seen ghosts.seen new

  pub healing_goes_on : EachHealingGoesOn ghosts.seen old new
  healing_goes_on result heals follows = goes_on old new (healing_keeps was now result heals) follows

  reason : LogGoes ghosts.seen (log_of old) (log_of new) → (result : Result Healed IoFault) → Heals was now result → HealingHasReason ghosts.seen result old new
  reason follows (Ok healed) h = tt
  reason follows (Err (Fault place)) (inl ends) = rest_reason old new (Err (Fault place)) (inl ends) follows
  reason follows (Err (Fault place)) (inr (inl h)) =
      failed_on old new follows place
      (failed_later place was h.mid now (settling was h.mid (Ok tt) h.settled.settled).gone (copies_fault place h.mask h.copied.maps h.mid now h.copied.made))
  reason follows (Err (Fault place)) (inr (inr h)) =
      failed_on old new follows place
      (failed_later place was h.whole now
      (gone_then was h.mid h.whole (settling was h.mid (Ok tt) h.settled.settled).gone (copying h.mask h.mid h.whole (Ok h.number) h.copied).gone)
      (clearing_fault place h.whole now h.cleared))
  reason follows (Err PowerLost) (inl ends) = rest_reason old new (Err PowerLost) (inl ends) follows
  reason follows (Err PowerLost) (inr (inl h)) = λ cut.
      cut_in old new follows (copies_lost h.mask h.copied.maps h.mid now h.copied.made ((settling was h.mid (Ok tt) h.settled.settled).gone.cut cut))
  reason follows (Err PowerLost) (inr (inr h)) = λ cut.
      cut_in old new follows
      (clearing_lost h.whole now h.cleared ((copying h.mask h.mid h.whole (Ok h.number) h.copied).gone.cut ((settling was h.mid (Ok tt) h.settled.settled).gone.cut cut)))
  reason follows (Err Range) (inl ends) = absurd ends.1
  reason follows (Err Range) (inr (inl h)) = absurd h.copied.plain
  reason follows (Err Range) (inr (inr h)) = absurd h.cleared.1

  pub healing_reason : EachHealingHasReason ghosts.seen old new
  healing_reason result heals follows = reason follows result heals
