-- What is known of a job under way.
use Rattle.std.proofs.Common.{◌≡◌, ℕ, ◌+◌, ◌*◌, ◌/◌, ◌^◌, ◌<◌, ◌≤◌, Bool, true, false, refl, sym, ◌∙◌, ap, subst, inl, inr, arith, List, length}
use Rattle.std.specs.Prelude.{◌==◌}
use Rattle.vx_base.specs.Blocks.{Contents, blocks_in}
use Rattle.vx_base.specs.Counts.{Rose}
use Rattle.vx_life.specs.Entry.{Entry}
use Rattle.vx_mask.specs.Mask.{has, union, without}
use Rattle.vx_mask.proofs.Sets.{without_parts, in_union}
use Rattle.vx_mask.proofs.Tests.{true_or_false}
use Rattle.vx_core.specs.declared.stage.Job.{Job}
use Rattle.vx_core.specs.declared.stage.Event.{Event}
use Rattle.vx_core.specs.declared.stage.Act.{Act}
use Rattle.vx_core.specs.declared.stage.Step.{Step}
use Rattle.vx_core.specs.declared.stage.Work.{Work}
use Rattle.vx_core.specs.declared.stage.Phase.{Phase}
use Rattle.vx_core.specs.declared.stage.Stage.{Stage}
use Rattle.vx_core.specs.declared.stage.Job.TheVariants.{Read as ReadJob, Write as WriteJob, Copy as CopyJob, Settle, Clear}
use Rattle.vx_core.specs.declared.stage.Event.TheVariants.{Begin, Marked, MarkFailed, Unmarked, UnmarkFailed, Wrote, WriteFailed, Got, ReadFailed, Cut}
use Rattle.vx_core.specs.declared.stage.Act.TheVariants.{Mark, Unmark, WriteCall, WriteRegion, ReadCall, ReadRegion, Done, Skipped, Fault, Lost}
use Rattle.vx_core.specs.declared.stage.Step.TheVariants.{Mark as AtMark, Write as AtWrite, MarkFailed as AtMarkFailed, Find as AtFind, Equal as AtEqual, Copy as AtCopy, Unmark as AtUnmark, Read as AtRead}
use Rattle.vx_core.specs.declared.stage.Phase.TheVariants.{Settled, Unsettled, Dead, Busy}
use Rattle.vx_core.specs.Table.{act_at, read_act, IsNamed}
use Rattle.vx_core.specs.History.{Pending}
use Rattle.vx_core.specs.Region.{CallOf, MayAnswer, entries_after, pending_after, pending_at}
use Rattle.vx_core.specs.Progress.{rank, FallsBelow}
use Rattle.vx_core.specs.Form.{IsFormed, MayCome}
use Rattle.vx_core.specs.Follow.{Follows, FollowsIn, FollowsFrom, Rewrites, HasRead, IsPossible, PossibleIn, EndsSettled, IsMapOf}
use Rattle.vx_core.specs.Causes.{Faults, Blames, KnowsFaults, CausesFrom, HasFailed}
use Rattle.vx_marks.specs.Log.{LogSeen, KeepsLog, HasMaps}
use Rattle.vx_cell.specs.Plexes.{PlexSeen, holds}
use Rattle.vx_cell.specs.Acts.{Bytes, IsRange, IsAskable}
use Rattle.vx_cell.specs.Region.{RegionSeen, IsWhole, IsLogOf, IsTold, LogRose}
use Rattle.vx_cell.specs.Running.{Caller, call_at, call_of, IsCallable, HoldsRegion, RunsIn, SameBytes}
use Rattle.vx_cell.proofs.LogMarks.{Fit}
use Rattle.vx_cell.proofs.Measure.{phase_steps}

-- ---- a job begins

pub call_fits : (job : Job) (io : Bytes) (r : RegionSeen) (who : Caller) → CallOf job (call_of job io r who)
call_fits ReadJob io r who = tt
call_fits WriteJob io r who = tt
call_fits (CopyJob k) io r who = tt
call_fits Settle io r who = tt
call_fits Clear io r who = tt

abbrev pub no_faults : Faults
no_faults = record { plex = λ k. false; log = false }

pub no_true : {A : Type 0} → false ≡ true → A
no_true e = cc

-- what `next` says of the job, once it is known what the scratch holds
pub runs_from : (job : Job) (was : Step) (event : Event) (source : ℕ) (act : Act) (phase : Phase) (old : RegionSeen) (size : ℕ) (ps : List PlexSeen) (scratch : List ℕ) →
    (HasRead job was event → HoldsRegion old size scratch ps source) → FollowsIn job was event source act phase → RunsIn job old size ps scratch act phase
runs_from job was event source act (Busy w) old size ps scratch holds follows = (
  follows.same_job,
  λ rewrites.
      let h = follows.same_source rewrites in
      subst (λ (k : ℕ). HoldsRegion old size scratch ps k) (sym h.1) (holds h.0),
)
runs_from job was event source act Settled old size ps scratch holds follows = follows
runs_from job was event source act Unsettled old size ps scratch holds follows = follows
runs_from job was event source act Dead old size ps scratch holds follows = follows.0

-- what a job waits for is not the end
pub read_not_lost : (w : Work) (job : Job) → read_act w job ≡ Lost → ⊥
read_not_lost w ReadJob e = cc
read_not_lost w WriteJob e = cc
read_not_lost w (CopyJob k) e = cc
read_not_lost w Settle e = cc
read_not_lost w Clear e = cc

pub act_not_lost : (s : Stage) (w : Work) (step : Step) → act_at s w step ≡ Lost → ⊥
act_not_lost s w AtMark e = cc
act_not_lost s w AtWrite e = cc
act_not_lost s w AtMarkFailed e = cc
act_not_lost s w AtFind e = cc
act_not_lost s w AtEqual e = cc
act_not_lost s w AtCopy e = cc
act_not_lost s w AtUnmark e = cc
act_not_lost s w AtRead e = read_not_lost w w.job e

pub named_not_lost : (s : Stage) (phase : Phase) (w : Work) (act : Act) → phase ≡ Busy w → IsNamed s phase act → act ≡ Lost → ⊥
named_not_lost s (Busy v) w act is named lost = act_not_lost s v v.step (sym named ∙ lost)
named_not_lost s Settled w act is named lost = cc
named_not_lost s Unsettled w act is named lost = cc
named_not_lost s Dead w act is named lost = cc

pub ends_not_lost : (job : Job) (act : Act) → EndsSettled job act → act ≡ Lost → ⊥
ends_not_lost ReadJob (Mark b) ends e = cc
ends_not_lost ReadJob (Unmark b) ends e = cc
ends_not_lost ReadJob (WriteCall j) ends e = cc
ends_not_lost ReadJob (WriteRegion j) ends e = cc
ends_not_lost ReadJob (ReadCall j) ends e = cc
ends_not_lost ReadJob (ReadRegion j) ends e = cc
ends_not_lost ReadJob Done ends e = cc
ends_not_lost ReadJob Skipped ends e = cc
ends_not_lost ReadJob Fault ends e = cc
ends_not_lost ReadJob Lost ends e = absurd ends
ends_not_lost WriteJob (Mark b) ends e = cc
ends_not_lost WriteJob (Unmark b) ends e = cc
ends_not_lost WriteJob (WriteCall j) ends e = cc
ends_not_lost WriteJob (WriteRegion j) ends e = cc
ends_not_lost WriteJob (ReadCall j) ends e = cc
ends_not_lost WriteJob (ReadRegion j) ends e = cc
ends_not_lost WriteJob Done ends e = cc
ends_not_lost WriteJob Skipped ends e = cc
ends_not_lost WriteJob Fault ends e = cc
ends_not_lost WriteJob Lost ends e = absurd ends
ends_not_lost (CopyJob k) (Mark b) ends e = cc
ends_not_lost (CopyJob k) (Unmark b) ends e = cc
ends_not_lost (CopyJob k) (WriteCall j) ends e = cc
ends_not_lost (CopyJob k) (WriteRegion j) ends e = cc
ends_not_lost (CopyJob k) (ReadCall j) ends e = cc
ends_not_lost (CopyJob k) (ReadRegion j) ends e = cc
ends_not_lost (CopyJob k) Done ends e = cc
ends_not_lost (CopyJob k) Skipped ends e = cc
ends_not_lost (CopyJob k) Fault ends e = cc
ends_not_lost (CopyJob k) Lost ends e = absurd ends
ends_not_lost Settle (Mark b) ends e = cc
ends_not_lost Settle (Unmark b) ends e = cc
ends_not_lost Settle (WriteCall j) ends e = cc
ends_not_lost Settle (WriteRegion j) ends e = cc
ends_not_lost Settle (ReadCall j) ends e = cc
ends_not_lost Settle (ReadRegion j) ends e = cc
ends_not_lost Settle Done ends e = cc
ends_not_lost Settle Skipped ends e = cc
ends_not_lost Settle Fault ends e = cc
ends_not_lost Settle Lost ends e = absurd ends
ends_not_lost Clear (Mark b) ends e = cc
ends_not_lost Clear (Unmark b) ends e = cc
ends_not_lost Clear (WriteCall j) ends e = cc
ends_not_lost Clear (WriteRegion j) ends e = cc
ends_not_lost Clear (ReadCall j) ends e = cc
ends_not_lost Clear (ReadRegion j) ends e = cc
ends_not_lost Clear Done ends e = cc
ends_not_lost Clear Skipped ends e = cc
ends_not_lost Clear Fault ends e = cc
ends_not_lost Clear Lost ends e = absurd ends

-- a job is lost only by a cut
pub lost_by_cut : (job : Job) (was : Step) (event : Event) (source : ℕ) (s : Stage) (act : Act) (phase : Phase) → FollowsIn job was event source act phase → IsNamed s phase act → act ≡ Lost → event ≡ Cut
lost_by_cut job was event source s act (Busy w) follows named lost = absurd (named_not_lost s (Busy w) w act refl named lost)
lost_by_cut job was event source s act Settled follows named lost = absurd (ends_not_lost job act follows lost)
lost_by_cut job was event source s act Unsettled follows named lost = cc
lost_by_cut job was event source s act Dead follows named lost = follows.1

-- ---- a job goes on

-- an act that a job waits for ends no call
pub quiet_read : (w : Work) (job : Job) (call : Pending) (p : Contents) (entries : List Entry) → (entries_after (read_act w job) call p entries ≡ entries) × (pending_after (read_act w job) call ≡ call)
quiet_read w ReadJob call p entries = (refl, refl)
quiet_read w WriteJob call p entries = (refl, refl)
quiet_read w (CopyJob k) call p entries = (refl, refl)
quiet_read w Settle call p entries = (refl, refl)
quiet_read w Clear call p entries = (refl, refl)

pub quiet : (s : Stage) (w : Work) (step : Step) (call : Pending) (p : Contents) (entries : List Entry) → (entries_after (act_at s w step) call p entries ≡ entries) × (pending_after (act_at s w step) call ≡ call)
quiet s w AtMark call p entries = (refl, refl)
quiet s w AtWrite call p entries = (refl, refl)
quiet s w AtMarkFailed call p entries = (refl, refl)
quiet s w AtFind call p entries = (refl, refl)
quiet s w AtEqual call p entries = (refl, refl)
quiet s w AtCopy call p entries = (refl, refl)
quiet s w AtUnmark call p entries = (refl, refl)
quiet s w AtRead call p entries = quiet_read w w.job call p entries

pub still : (event : Event) (call : Pending) → pending_at call event call ≡ call
still (Begin job) call = refl
still Marked call = refl
still MarkFailed call = refl
still Unmarked call = refl
still UnmarkFailed call = refl
still Wrote call = refl
still WriteFailed call = refl
still Got call = refl
still (ReadFailed k) call = refl
still Cut call = refl

-- what the table says of a job under way, with its work in place
pub may_come : (s : Stage) (phase : Phase) (w : Work) (act : Act) (event : Event) → phase ≡ Busy w → IsNamed s phase act → MayAnswer act event → MayCome s phase event
may_come s (Busy v) w act event is named may = subst (λ (x : Act). MayAnswer x event) named may
may_come s Settled w act event is named may = cc
may_come s Unsettled w act event is named may = cc
may_come s Dead w act event is named may = cc

pub follows_work : (s : Stage) (phase : Phase) (w : Work) (act : Act) (event : Event) (x : Stage × Act) (held : ℕ → Bool) → phase ≡ Busy w → IsNamed s phase act → MayAnswer act event →
    IsFormed s phase held → FollowsFrom s phase event x → Follows s w.job w.step event w.source x
follows_work s (Busy v) w act event x held is named may kept follows =
    let same : v ≡ w = cc in
    subst (λ (u : Work). Follows s u.job u.step event u.source x) same (follows held kept (subst (λ (y : Act). MayAnswer y event) named may))
follows_work s Settled w act event x held is named may kept follows = cc
follows_work s Unsettled w act event x held is named may kept follows = cc
follows_work s Dead w act event x held is named may kept follows = cc

pub runs_work : (job : Job) (old : RegionSeen) (size : ℕ) (ps : List PlexSeen) (scratch : List ℕ) (act : Act) (phase : Phase) (w : Work) → phase ≡ Busy w → RunsIn job old size ps scratch act phase →
    (w.job ≡ job) × (Rewrites w.step → HoldsRegion old size scratch ps w.source)
runs_work job old size ps scratch act (Busy v) w is runs =
    let same : v ≡ w = cc in subst (λ (u : Work). (u.job ≡ job) × (Rewrites u.step → HoldsRegion old size scratch ps u.source)) same runs
runs_work job old size ps scratch act Settled w is runs = cc
runs_work job old size ps scratch act Unsettled w is runs = cc
runs_work job old size ps scratch act Dead w is runs = cc

pub possible_work : (s : Stage) (held : ℕ → Bool) (phase : Phase) (w : Work) (act : Act) → phase ≡ Busy w → PossibleIn s held phase act → IsPossible s held w.job w.source act
possible_work s held (Busy v) w act is can =
    let same : v ≡ w = cc in subst (λ (u : Work). IsPossible s held u.job u.source act) same can
possible_work s held Settled w act is can = cc
possible_work s held Unsettled w act is can = cc
possible_work s held Dead w act is can = cc

pub act_work : (s : Stage) (phase : Phase) (w : Work) (act : Act) → phase ≡ Busy w → IsNamed s phase act → act ≡ act_at s w w.step
act_work s (Busy v) w act is named = let same : v ≡ w = cc in subst (λ (u : Work). act ≡ act_at s u u.step) same named
act_work s Settled w act is named = cc
act_work s Unsettled w act is named = cc
act_work s Dead w act is named = cc

pub blames_work : (s : Stage) (phase : Phase) (w : Work) (act : Act) (event : Event) (x : Stage × Act) (held : ℕ → Bool) (began : ℕ) (f g : Faults) → phase ≡ Busy w → IsNamed s phase act →
    IsFormed s phase held → MayAnswer act event → KnowsFaults s phase began f → HasFailed act event f g → CausesFrom s phase event x → Blames x began g
blames_work s (Busy v) w act event x held began f g is named kept may knows grown causes =
    causes held began f g kept (subst (λ (y : Act). MayAnswer y event) named may) knows (subst (λ (y : Act). HasFailed y event f g) named grown)
blames_work s Settled w act event x held began f g is named kept may knows grown causes = cc
blames_work s Unsettled w act event x held began f g is named kept may knows grown causes = cc
blames_work s Dead w act event x held began f g is named kept may knows grown causes = cc

-- ---- what it asks for

pub call_range : (size : ℕ) (job : Job) (io : Bytes) → job ≡ WriteJob → IsCallable size job io → IsRange size io.at (length io.from)
call_range size job io is ok = subst (λ (j : Job). IsCallable size j io) is ok

pub read_range : (size : ℕ) (job : Job) (io : Bytes) → job ≡ ReadJob → IsCallable size job io → IsRange size io.at (length io.into)
read_range size job io is ok = subst (λ (j : Job). IsCallable size j io) is ok

-- the bytes of a call are those that it began with
pub moved_callable : (size : ℕ) (job : Job) (io io' : Bytes) → SameBytes io io' → IsCallable size job io → IsCallable size job io'
moved_callable size ReadJob io io' same ok = rw (same.same_at, same.same_into) ok
moved_callable size WriteJob io io' same ok = rw (same.same_at, same.same_from) ok
moved_callable size (CopyJob k) io io' same ok = tt
moved_callable size Settle io io' same ok = tt
moved_callable size Clear io io' same ok = tt

pub moved_call : (job : Job) (io io' : Bytes) (r : RegionSeen) (who : Caller) → SameBytes io io' → call_of job io r who ≡ call_of job io' r who
moved_call ReadJob io io' r who same = rw (same.same_at, same.same_into) refl
moved_call WriteJob io io' r who same = rw (same.same_at, same.same_from) refl
moved_call (CopyJob k) io io' r who same = refl
moved_call Settle io io' r who same = refl
moved_call Clear io io' r who same = refl

-- a region is rewritten at the steps for it
pub rewrites_read : (w : Work) (job : Job) (k : ℕ) → WriteRegion k ≡ read_act w job → ⊥
rewrites_read w ReadJob k e = cc
rewrites_read w WriteJob k e = cc
rewrites_read w (CopyJob j) k e = cc
rewrites_read w Settle k e = cc
rewrites_read w Clear k e = cc

pub rewrites_at : (s : Stage) (w : Work) (step : Step) (k : ℕ) → WriteRegion k ≡ act_at s w step → Rewrites step
rewrites_at s w AtMark k e = cc
rewrites_at s w AtWrite k e = cc
rewrites_at s w AtMarkFailed k e = cc
rewrites_at s w AtFind k e = cc
rewrites_at s w AtUnmark k e = cc
rewrites_at s w AtEqual k e = tt
rewrites_at s w AtCopy k e = tt
rewrites_at s w AtRead k e = absurd (rewrites_read w w.job k e)

pub maps_held : (s : Stage) (log : LogSeen) (region b : ℕ) → IsLogOf log region s → ((k : ℕ) → has b k ≡ true → IsMapOf s k) → HasMaps log b
maps_held s log region b is maps k there =
    elim (maps k there) [
      | inl dirty ↦ subst (λ (n : ℕ). n < log.maps) (sym dirty) is.dirty
      | inr (inl snap) ↦ is.maps k (in_union (union s.on s.off) s.snaps k (inr snap))
      | inr (inr data_plex) ↦ is.maps k (in_union (union s.on s.off) s.snaps k (inl (in_union s.on s.off k data_plex)))
    ]

pub askable : (r : RegionSeen) (job : Job) (source : ℕ) (io : Bytes) (act : Act) → IsWhole r → IsPossible r.stage (holds r.plexes) job source act → IsCallable r.size job io →
    IsAskable r.region r.size io.at (length io.into) (length io.from) r.plexes r.log act
askable r job source io (Mark b) whole can ok = let log = whole.logged can.0 in (log.there, record { known = log.known; maps = maps_held r.stage r.log r.region b log can.2; some = can.1 })
askable r job source io (Unmark b) whole can ok = let log = whole.logged can.0 in (log.there, record { known = log.known; maps = maps_held r.stage r.log r.region b log can.2; some = can.1 })
askable r job source io (WriteCall k) whole can ok = (can.0, call_range r.size job io can.1 ok)
askable r job source io (WriteRegion k) whole can ok = can.0
askable r job source io (ReadCall offered) whole can ok =
    (can.1, λ k there. whole.formed.stage.held_on k (without_parts _ _ _ (can.3 k there)).0, read_range r.size job io can.0 ok)
askable r job source io (ReadRegion k) whole can ok = can.0
askable r job source io Done whole can ok = absurd can
askable r job source io Skipped whole can ok = absurd can
askable r job source io Fault whole can ok = absurd can
askable r job source io Lost whole can ok = absurd can

pub fit_for : (s : Stage) (w : Work) (size : ℕ) (ps : List PlexSeen) (old : RegionSeen) (held : ℕ → Bool) (job : Job) (io : Bytes) (who : Caller) (act : Act) → IsPossible s held job w.source act → act ≡ act_at s w w.step →
    IsCallable size job io → blocks_in io.scratch ≡ size → (Rewrites w.step → HoldsRegion old size io.scratch ps w.source) → IsTold old → Fit old.start size act (call_of job io old who) w.source io ps
fit_for s w size ps old held job io who (Mark b) can is ok full holds told = tt
fit_for s w size ps old held job io who (Unmark b) can is ok full holds told = tt
fit_for s w size ps old held job io who (WriteCall k) can is ok full holds told =
    (call_at old who io.at (blocks_in io.from), ap (λ (j : Job). call_of j io old who) can.1, record { start_is = refl; count_is = refl }, (call_range size job io can.1 ok).inside)
fit_for s w size ps old held job io who (WriteRegion k) can is ok full holds told = (full, holds (rewrites_at s w w.step k is) told)
fit_for s w size ps old held job io who (ReadCall offered) can is ok full holds told =
    (call_at old who io.at (blocks_in io.into), ap (λ (j : Job). call_of j io old who) can.0, record { start_is = refl; count_is = refl }, (read_range size job io can.0 ok).inside)
fit_for s w size ps old held job io who (ReadRegion k) can is ok full holds told = tt
fit_for s w size ps old held job io who Done can is ok full holds told = absurd can
fit_for s w size ps old held job io who Skipped can is ok full holds told = absurd can
fit_for s w size ps old held job io who Fault can is ok full holds told = absurd can
fit_for s w size ps old held job io who Lost can is ok full holds told = absurd can

pub full_scratch : (size : ℕ) (scratch scratch' : List ℕ) → length scratch ≡ 512 * size → length scratch' ≡ length scratch → blocks_in scratch' ≡ size
full_scratch size scratch scratch' e same = omega (arith, e, same)

pub same_formed : (s : Stage) (phase : Phase) (f g : ℕ → Bool) → g ≡ f → IsFormed s phase f → IsFormed s phase g
same_formed s phase f g e h = rw e h

pub le_rose : (a b c : ℕ) → a ≤ b → Rose b c → Rose a c
le_rose a b c le rose = omega (arith, le, rose)

pub rose_le : (a b c : ℕ) → Rose a b → b ≤ c → Rose a c
rose_le a b c rose le = omega (arith, rose, le)

pub log_still : (a b c : LogSeen) → LogRose a b → KeepsLog b c → LogRose a c
log_still a b c rose kept = (rose.0, rose.1, rose_le (a.faults rose.0 rose.1) (b.faults rose.0 rose.1) (c.faults rose.0 rose.1) rose.2 (kept.faults rose.0 rose.1))

pub log_now : (a b c : LogSeen) → KeepsLog a b → LogRose b c → LogRose a c
log_now a b c kept rose = (rose.0, rose.1, le_rose (a.faults rose.0 rose.1) (b.faults rose.0 rose.1) (c.faults rose.0 rose.1) (kept.faults rose.0 rose.1) rose.2)

pub some_steps : (w : Work) (step : Step) → 0 < rank step w.good * 2 ^ 64 + w.left
some_steps w AtMark = omega arith
some_steps w AtWrite = omega arith
some_steps w AtMarkFailed = elim (true_or_false (w.good == 0)) [ inl e ↦ rw e (omega arith) | inr e ↦ rw e (omega arith) ]
some_steps w AtFind = omega arith
some_steps w AtEqual = omega arith
some_steps w AtCopy = omega arith
some_steps w AtUnmark = omega arith
some_steps w AtRead = omega arith

pub falls_to : (phase : Phase) (n : ℕ) → 0 < n → FallsBelow phase n → phase_steps phase < n
falls_to Settled n some falls = some
falls_to Unsettled n some falls = some
falls_to Dead n some falls = some
falls_to (Busy w) n some falls = falls

pub still_current : (on bits on' bits' k : ℕ) → on' ≡ on → bits' ≡ bits → has (without on bits) k ≡ true → has (without on' bits') k ≡ true
still_current on bits on' bits' k e f there = rw (e, f) there

pub fits_into : (size at : ℕ) (into into' : List ℕ) → at + length into / 512 ≤ size → length into' ≡ length into → at + blocks_in into' ≤ size
fits_into size at into into' le same = omega (arith, le, same)
