-- What passes keep of a volume.
use Rattle.std.proofs.Common.{ℕ, zero, suc, Option, Some, None, Result, Ok, Err, sym, subst, inl, inr}
use Rattle.vx_mask.proofs.Tests.{true_or_false}
use Rattle.vx_cell.specs.declared.fault.CellFault.{CellFault}
use Rattle.vx_mask.specs.Mask.{has}
use Rattle.vx_pages.specs.declared.local_piece.LocalPiece.{Ghosts}
use Rattle.vx_volume.specs.declared.fault.IoFault.{IoFault}
use Rattle.vx_volume.specs.declared.fault.IoFault.TheVariants.{PowerLost}
use Rattle.vx_volume.specs.declared.volume.Volume.{Volume}
use Rattle.vx_volume.specs.Calls.{io_stop}
use Rattle.vx_volume.specs.Log.{LogGoes}
use Rattle.vx_volume.specs.Loop.{AreDone, AreMade}
use Rattle.vx_volume.specs.Passes.{Clears, PassEnds, Settles}
use Rattle.vx_volume.specs.Volume.{VolumeSeen, log_of, volume_seen}
use Rattle.vx_volume_laws.specs.Calls.{KeepsPlaces}
use Rattle.vx_volume_laws.proofs.Keepings.{each_clearing_keeps, each_copy_keeps, each_settling_keeps, keeping_keeps, keeps_same}
use Rattle.vx_volume_laws.proofs.Lasting.{lies_on}
use Rattle.vx_group_stop.specs.Stops.{ComesToRest}
use Rattle.vx_group_start.specs.Copying.{CopiesMap}
use Rattle.vx_group_calls.proofs.Failures.{clearing_gone, copying_gone, settling_gone}
use Rattle.vx_group_calls.proofs.Keeping.{HasGone, gone_same, gone_then}
use Rattle.vx_group_calls.proofs.Service.{gone_stays}
use Rattle.vx_group_volumes.specs.Laws.{CopiesGoOn, GoesOn, RestGoesOn}

-- the cells keep their plexes, and each piece its place
pub record Keeps (old new : VolumeSeen) : Type 0 where
  pub gone : HasGone old new
  pub places : KeepsPlaces old new

pub keep_same : (v : VolumeSeen) → Keeps v v
keep_same v = record { gone = gone_same v; places = keeps_same v }

pub keep_then : (a b c : VolumeSeen) → Keeps a b → Keeps b c → Keeps a c
keep_then a b c first after = record { gone = gone_then a b c first.gone after.gone; places = keeping_keeps a b c first.places after.places }

pub settling : (old new : VolumeSeen) (result : Result (Unit {0}) IoFault) → PassEnds Settles old new result → Keeps old new
settling old new result ends = record { gone = settling_gone old new result ends; places = each_settling_keeps old new result ends }

pub clearing : (old new : VolumeSeen) (result : Result (Unit {0}) IoFault) → PassEnds Clears old new result → Keeps old new
clearing old new result ends = record { gone = clearing_gone old new result ends; places = each_clearing_keeps old new result ends }

-- ---- copies to plexes

module _ (mask : ℕ) where
  copying : (map : ℕ) (stop : Option CellFault) (old new : VolumeSeen) → CopiesMap mask map stop old new → Keeps old new
  copying map stop old new copies = elim (true_or_false (has mask map)) [
    | inl there ↦
        let pass = copies.pass there in
        record { gone = copying_gone map old new pass.result pass.ends; places = each_copy_keeps map old new pass.result pass.ends }
    | inr away ↦ subst (Keeps old) (sym (copies.none away).1) (keep_same old)
  ]

  copies_done : (n : ℕ) (old new : VolumeSeen) → AreDone (CopiesMap mask) n old new → Keeps old new
  copies_done zero old new is = subst (Keeps old) (sym is) (keep_same old)
  copies_done (suc n) old new (mid, done, last) = keep_then old mid new (copies_done n old mid done) (copying n None mid new last)

  pub copies_made : (total : ℕ) (stop : Option CellFault) (old new : VolumeSeen) → AreMade (CopiesMap mask) total stop old new → Keeps old new
  copies_made total None old new done = copies_done total old new done
  copies_made total (Some fault) old new (n, mid, low, done, last) = keep_then old mid new (copies_done n old mid done) (copying n (Some fault) mid new last)

-- ---- coming to rest

rest : (old new : VolumeSeen) (result : Result ℕ IoFault) → ComesToRest old new result → Keeps old new
rest old new (Ok marks) is = keep_then old is.mid new (settling old is.mid (Ok tt) is.settled) (clearing is.mid new is.cleared is.clears)
rest old new (Err fault) (inl is) = settling old new (Err fault) is
rest old new (Err fault) (inr is) = keep_then old is.1.mid new (settling old is.1.mid (Ok tt) is.1.settled) (clearing is.1.mid new (Err PowerLost) is.1.clears)

-- ---- a volume of the code

module _ {P : Type 0} {ghosts : Ghosts P} (old new : Volume P ghosts) where
  pub goes_on : Keeps (volume_seen ghosts.seen old) (volume_seen ghosts.seen new) → LogGoes ghosts.seen (log_of old) (log_of new) → GoesOn ghosts.seen old new
  goes_on keeps follows = record {
    together = gone_stays old new follows keeps.gone;
    lies = λ numbers form was. lies_on numbers form old new was keeps.places follows;
    cut = keeps.gone.cut;
  }

  pub copies_go_on : CopiesGoOn ghosts.seen old new
  copies_go_on mask result copied follows = goes_on (copies_made mask copied.maps (io_stop result) (volume_seen ghosts.seen old) (volume_seen ghosts.seen new) copied.made) follows

  pub rest_goes_on : RestGoesOn ghosts.seen old new
  rest_goes_on result is follows = goes_on (rest (volume_seen ghosts.seen old) (volume_seen ghosts.seen new) result is) follows
