-- `read` and `write` of a volume: the tests, and how the call is served where the volume lies.
use Rattle.std.specs.Prelude.{◌≡◌, ℕ, ◌+◌, nat_lt, MatchOption, MatchBool}
use Rattle.vx_script_forms.specs.declared.call.Call.{Call}
use Rattle.vx_answers.specs.declared.answer.End.{End}
use Rattle.vx_answers.specs.declared.answer.End.TheVariants as ends
use Rattle.vx_answers.specs.declared.refusal.Refusal.TheVariants.{NotStarted, Range}
use Rattle.vx_moments.specs.World.{Volume, Lies, OnDevice, OnPlexes}
use Rattle.vx_moments.specs.Moment.{Moment, Rests}
use Rattle.vx_stages.specs.Calls.{volume_of, start_of, count_of, IsServed}
use Rattle.vx_stages.specs.GroupCalls.{IsServedOnPlexes}

-- by where the volume lies
abbrev pub ServesOn : Lies → ℕ → Call → Volume → Moment → End → Moment → Type 0
ServesOn (OnDevice device) place call v old end new = IsServed place call v old end new
ServesOn (OnPlexes plexes) place call v old end new = IsServedOnPlexes place call plexes v old end new

-- each test in its order: the volume is started, and the range lies in it
abbrev pub CallRuns : ℕ → Call → Moment → End → Moment → Type 0
CallRuns place call old end new =
    MatchOption (old.world.volumes (volume_of call))
    ((end ≡ ends.Refused (NotStarted (volume_of call))) × Rests old new)
    (λ v. MatchBool (nat_lt v.length (start_of call + count_of call))
    ((end ≡ ends.Refused Range) × Rests old new)
    (ServesOn v.lies place call v old end new))
