-- What calls of a piece keep, one after the other.
use Rattle.std.proofs.Common.{◌≡◌, ◌∙◌, ℕ, ◌+◌, ◌≤◌, Bool, true, false, List, refl, arith, Result, Ok, Err, OnOk}
use Rattle.vx_base.specs.Blocks.{blocks_in}
use Rattle.vx_piece.specs.Seen.{Seen, Keeps, IsRead, CountsRead, IsWritten, HasCause, count_after}
use Rattle.vx_started.specs.Stands.{CallsAtMost}
use Rattle.vx_piece.specs.declared.piece.PieceFault.{PieceFault}

pub keeps_itself : (a : Seen) → Keeps a a
keeps_itself a = record { device = refl; start = refl; sectors = refl; stop = refl; faults = omega arith; cut = λ h. h }

pub keeps_then : (a b c : Seen) → Keeps a b → Keeps b c → Keeps a c
keeps_then a b c h k = record {
  device = k.device ∙ h.device;
  start = k.start ∙ h.start;
  sectors = k.sectors ∙ h.sectors;
  stop = k.stop ∙ h.stop;
  faults = omega (arith, h.faults, k.faults);
  cut = λ cut. k.cut (h.cut cut);
}

-- a call after calls that were all Ok
pub cause_after : {T : Type 0} (a b c : Seen) (result : Result T PieceFault) → Keeps a b → b.faults ≡ a.faults → HasCause b c result → HasCause a c result
cause_after {T = T} a b c result h still cause = record { failed = λ e. omega (arith, cause.failed e, h.faults); cut = cause.cut; quiet = by result cause.quiet }
  where
    by : (r : Result T PieceFault) → OnOk r (c.faults ≡ b.faults) → OnOk r (c.faults ≡ a.faults)
    by (Ok u) quiet = quiet ∙ still
    by (Err e) quiet = tt

pub read_then : (a b c : Seen) → IsRead a b → IsRead b c → IsRead a c
read_then a b c h k = record { told = k.told ∙ h.told; writes = k.writes ∙ h.writes }

-- nothing was called
pub calls_none : (a : Seen) → CallsAtMost 0 0 a a
calls_none a = record { reads = omega arith; writes = omega arith }

pub calls_more : (r w s t : ℕ) (a b c : Seen) → CallsAtMost r w a b → CallsAtMost s t b c → CallsAtMost (r + s) (w + t) a c
calls_more r w s t a b c first then = record { reads = omega (arith, first.reads, then.reads); writes = omega (arith, first.writes, then.writes) }

pub calls_within : (r w s t : ℕ) (a b : Seen) → CallsAtMost r w a b → r ≤ s → w ≤ t → CallsAtMost s t a b
calls_within r w s t a b calls few few' = record { reads = omega (arith, calls.reads, few); writes = omega (arith, calls.writes, few') }

few_more : (cut : Bool) (count : ℕ) (bytes : List ℕ) → count_after cut count bytes ≤ count + blocks_in bytes
few_more true count bytes = omega arith
few_more false count bytes = omega arith

-- the calls of a write, and of a read
pub one_write : {T E : Type 0} (at n : ℕ) (bytes : List ℕ) (old new : Seen) (result : Result T E) → IsWritten at bytes old new result → blocks_in bytes ≡ n → CallsAtMost 0 n old new
one_write at n bytes old new result is few = record { reads = omega (arith, is.reads); writes = omega (arith, is.writes, few_more old.cut old.writes bytes, few) }

pub one_read : (n : ℕ) (bytes : List ℕ) (old new : Seen) → IsRead old new → CountsRead bytes old new → blocks_in bytes ≡ n → CallsAtMost n 0 old new
one_read n bytes old new same is few = record { reads = omega (arith, is, few_more old.cut old.reads bytes, few); writes = omega (arith, same.writes) }
