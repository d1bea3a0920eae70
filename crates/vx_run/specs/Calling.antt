-- What a call does to the started volumes.
use Rattle.std.specs.Prelude.{◌≡◌, ◌+◌, nat_lt, MatchBool, Option, Some, None}
use Rattle.std.specs.BTreeMap.{BTreeMap, is_at, get}
use Rattle.std.specs.Cmp.Lexicographic.{slice_cmp}
use Rattle.std.specs.Map.{set_value}
use Rattle.std.specs.Ordering.{nat_cmp}
use Rattle.vx_base.specs.Named.{Word, put, SameUnder}
use Rattle.vx_piece.specs.Seen.{Seen, Keeps}
use Rattle.vx_script_forms.specs.declared.call.Call.{Call}
use Rattle.vx_answers.specs.declared.answer.End.{End}
use Rattle.vx_answers.specs.declared.answer.End.TheVariants.{Refused}
use Rattle.vx_answers.specs.declared.refusal.Refusal.TheVariants.{NotStarted, Range}
use Rattle.vx_moments.specs.World.{Volume}
use Rattle.vx_stages.specs.Calls.{volume_of, start_of, count_of, reads_of, writes_of}
use Rattle.vx_started.specs.declared.started.Started.{Started}
use Rattle.vx_started.specs.Stands.{HasShape, Serves, EndHasCause, CallsAtMost}

-- the volume has lived on as the answer tells, on the same device
pub record IsServedBy {P : Type 0} (see : P → Seen) (call : Call) (end : End) (b later : Started P) : Type 0 where
  pub lives : (v : Volume) → HasShape b.device b.geometry v → Serves call end (see b.piece) b.numbers.items (see later.piece) later.numbers.items v
  pub cause : EndHasCause b.device end (see b.piece) (see later.piece)
  pub calls : CallsAtMost (reads_of call) (writes_of call) (see b.piece) (see later.piece)
  pub kept : Keeps (see b.piece) (see later.piece)
  pub same : (later.device ≡ b.device) × (later.geometry ≡ b.geometry)

-- the volume of the name has been served, and all others are as they were
pub record IsServedAmong {P : Type 0} (see : P → Seen) (call : Call) (b : Started P) (end : End) (old new : BTreeMap Word (Started P)) : Type 0 where
  pub later : Started P
  pub served : IsServedBy see call end b later
  pub entries : new.entries ≡ set_value (is_at (slice_cmp nat_cmp (volume_of call))) old.entries later
  pub puts : SameUnder (put (volume_of call) (Some later) (get (slice_cmp nat_cmp) old)) (get (slice_cmp nat_cmp) new)

-- each test in its order, where this is started under the name
abbrev pub ServesAmong : {P : Type 0} → (P → Seen) → Call → Option (Started P) → BTreeMap Word (Started P) → BTreeMap Word (Started P) → End → Type 0
ServesAmong see call None old new end = (end ≡ Refused (NotStarted (volume_of call))) × (new.entries ≡ old.entries)
ServesAmong see call (Some b) old new end =
    MatchBool (nat_lt b.geometry.length (start_of call + count_of call))
    ((end ≡ Refused Range) × (new.entries ≡ old.entries))
    (IsServedAmong see call b end old new)
