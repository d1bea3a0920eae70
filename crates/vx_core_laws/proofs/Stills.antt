-- What makes no call leaves the history.
use Rattle.std.proofs.Common.{◌≡◌, ℕ, Bool, true, false, refl, sym, ◌∙◌, cond, List, [], ◌∷◌}
use Rattle.std.specs.Prelude.{◌==◌}
use Rattle.vx_base.specs.Blocks.{Contents}
use Rattle.vx_life.specs.Entry.{Entry}
use Rattle.vx_core.specs.declared.stage.Event.{Event}
use Rattle.vx_core.specs.declared.stage.Act.{Act}
use Rattle.vx_core.specs.declared.stage.Job.{Job}
use Rattle.vx_core.specs.declared.stage.Event.TheVariants.{Begin}
use Rattle.vx_core.specs.declared.stage.Act.TheVariants.{Done, Skipped, Fault, Lost}
use Rattle.vx_core.specs.Table.{next_of}
use Rattle.vx_core.specs.History.{Pending, NoCall, Reads, Writes}
use Rattle.vx_core.specs.Region.{RegionState, Disks, entries_after, pending_after, pending_at}
use Rattle.vx_core.specs.Schedule.{Happening, Comes, Elsewhere, happens, happens_in, run}
use Rattle.vx_core.specs.Recovery.{region_after}
use Rattle.vx_core.proofs.Histories.{quiet_told}
use Rattle.vx_core_laws.specs.Quiet.{IsQuiet, AreQuiet, AllQuiet, IsStill, EachQuietCourseStays, EachQuietScheduleStays}

no_entry : (act : Act) (call : Pending) (values : Contents) (entries : List Entry) → call ≡ NoCall → entries_after act call values entries ≡ entries
no_entry Done NoCall values entries e = refl
no_entry Done (Reads call) values entries e = cc
no_entry Done (Writes call new) values entries e = cc
no_entry Fault call values entries e = sym (quiet_told entries call e)
no_entry Lost call values entries e = sym (quiet_told entries call e)
no_entry act call values entries e = refl

still_none : (act : Act) (call : Pending) → call ≡ NoCall → pending_after act call ≡ NoCall
still_none Done call e = refl
still_none Skipped call e = refl
still_none Fault call e = refl
still_none Lost call e = refl
still_none act call e = e

pending_quiet : (event : Event) (before call : Pending) → before ≡ NoCall → ((job : Job) → event ≡ Begin job → call ≡ NoCall) → pending_at before event call ≡ NoCall
pending_quiet (Begin job) before call none quiet = quiet job refl
pending_quiet event before call none quiet = none

begins_quiet : (event : Event) (now : Disks) (call : Pending) (values : Contents) → IsQuiet (Comes event now call values) → (job : Job) → event ≡ Begin job → call ≡ NoCall
begins_quiet (Begin other) now call values quiet job is = quiet
begins_quiet event now call values quiet job is = cc

still_one : (old r : RegionState) (h : Happening) → IsStill old r → IsQuiet h → IsStill old (happens r h)
still_one old r (Comes event now call values) still quiet =
    let none = pending_quiet event r.around.pending call still.no_call (begins_quiet event now call values quiet) in
    record {
      fixed = still.fixed;
      no_call = still_none (next_of r.stage event).1 (pending_at r.around.pending event call) none;
      entries = no_entry (next_of r.stage event).1 (pending_at r.around.pending event call) values r.around.entries none ∙ still.entries;
    }
still_one old r (Elsewhere marks) still quiet = record { fixed = still.fixed; no_call = still.no_call; entries = still.entries }

still_course : (old r : RegionState) (course : List Happening) → IsStill old r → AreQuiet course → IsStill old (region_after course r)
still_course old r [] still quiet = still
still_course old r (h ∷ hs) still quiet = still_course old (happens r h) hs (still_one old r h still quiet.0) quiet.1

still_either : (b : Bool) (old r s : RegionState) → IsStill old r → IsStill old s → IsStill old (cond b r s)
still_either true old r s here there = here
still_either false old r s here there = there

still_run : (hs : List (ℕ × Happening)) (old regions : ℕ → RegionState) → ((n : ℕ) → IsStill (old n) (regions n)) → AllQuiet hs → (n : ℕ) → IsStill (old n) (run hs regions n)
still_run [] old regions still quiet n = still n
still_run (h ∷ hs) old regions still quiet n =
    still_run hs old (happens_in regions h)
    (λ m. still_either (m == h.0) (old m) (happens (regions m) h.1) (regions m) (still_one (old m) (regions m) h.1 (still m) quiet.0) (still m))
    quiet.1 n

begins_still : (r : RegionState) → r.around.pending ≡ NoCall → IsStill r r
begins_still r none = record { fixed = refl; no_call = none; entries = refl }

pub quiet_course : EachQuietCourseStays
quiet_course r course none quiet = still_course r r course (begins_still r none) quiet

pub quiet_schedule : EachQuietScheduleStays
quiet_schedule regions happenings none quiet n = still_run happenings regions regions (λ m. begins_still (regions m) (none m)) quiet n
