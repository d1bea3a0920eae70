-- A region as if its plexes held nothing: what happened to the region happened to it so too. So what its log shows does not rest on what they hold.
use Rattle.std.proofs.Common.{◌≡◌, ◌∙◌, ℕ, Bool, true, false, cond, inl, refl, sym, ap, subst, List, [], ◌∷◌, map}
use Rattle.vx_base.specs.Blocks.{Contents, is_in}
use Rattle.vx_life.specs.Candidates.{Any}
use Rattle.vx_life.specs.Entry.{Entry}
use Rattle.vx_mask.specs.Marks.{Marks}
use Rattle.vx_mask.proofs.Tests.{not_both}
use Rattle.vx_core.specs.declared.stage.Act.{Act}
use Rattle.vx_core.specs.declared.stage.Event.{Event}
use Rattle.vx_core.specs.declared.stage.Job.{Job}
use Rattle.vx_core.specs.declared.stage.Phase.{Phase}
use Rattle.vx_core.specs.declared.stage.Stage.{Stage}
use Rattle.vx_core.specs.declared.stage.Act.TheVariants.{Mark, Unmark, WriteCall, WriteRegion, ReadCall, Done, Skipped, Fault, Lost}
use Rattle.vx_core.specs.declared.stage.Event.TheVariants.{Begin, Marked, MarkFailed, Unmarked, UnmarkFailed, Wrote, WriteFailed, Got, ReadFailed, Cut}
use Rattle.vx_core.specs.declared.stage.Job.TheVariants.{Read as ReadJob, Write as WriteJob, Copy as CopyJob, Settle, Clear}
use Rattle.vx_core.specs.declared.stage.Phase.TheVariants.{Settled, Unsettled, Dead, Busy}
use Rattle.vx_core.specs.Form.{IsFormed}
use Rattle.vx_core.specs.History.{AllOf, MayBegin, MayPrecede, NoCall, Pending, Reads, Writes, no_values, number_after, overlaid}
use Rattle.vx_core.specs.Kept.{CallIn}
use Rattle.vx_core.specs.Recovery.{region_after}
use Rattle.vx_core.specs.Region.{AreOf, Around, Becomes, CallOf, Disks, FitsIn, Fixed, GoesWell, GoesWrong, ReadGives, RegionState, entries_after, last_at, pending_after, pending_at}
use Rattle.vx_core.specs.Schedule.{Comes, Elsewhere, Happening, IsIdle, happens}
use Rattle.vx_core.specs.Table.{act_at, next_of}
use Rattle.vx_core.proofs.Ends.{sound_from_ends}
use Rattle.vx_core.proofs.ScheduleLaws.{idle_contents}
use Rattle.vx_core_laws.specs.Course.{EachFits, IsKeptState}
use Rattle.vx_core_laws.specs.Exact.{AreWell, IsExact, IsWell}

-- ---- without what is held

abbrev pub nothing : ℕ → Contents
nothing k = no_values

abbrev pub bare_disks : Disks → Disks
bare_disks d = record { blocks = nothing; marks = d.marks }

abbrev pub bare_call : Pending → Pending
bare_call NoCall = NoCall
bare_call (Reads call) = Reads call
bare_call (Writes call values) = Writes call no_values

abbrev pub bare_entry : Entry → Entry
bare_entry e = record e { values = no_values }

abbrev pub bare_around : Around → Around
bare_around a = record { disks = bare_disks a.disks; fixed = a.fixed; entries = map bare_entry a.entries; pending = bare_call a.pending; last = a.last }

abbrev pub bare : RegionState → RegionState
bare s = record { stage = s.stage; around = bare_around s.around }

abbrev pub bare_happening : Happening → Happening
bare_happening (Comes event now call values) = Comes event (bare_disks now) (bare_call call) no_values
bare_happening (Elsewhere marks) = Elsewhere marks

abbrev pub bare_course : List Happening → List Happening
bare_course [] = []
bare_course (h ∷ hs) = bare_happening h ∷ bare_course hs

-- ---- what may become of the devices

over_none : (b : Bool) → (let x : List ℕ = [] in x) ≡ cond b [] []
over_none true = refl
over_none false = refl

over_nothing : (call : Pending) (i : ℕ) → no_values i ≡ overlaid (bare_call call) no_values i
over_nothing NoCall i = refl
over_nothing (Reads call) i = refl
over_nothing (Writes call values) i = over_none (is_in call.start call.count i)

well : (call : Pending) (source : ℕ) (act : Act) (old now : Disks) → GoesWell call source act old now → GoesWell (bare_call call) source act (bare_disks old) (bare_disks now)
well call source (Mark b) old now h = (refl, h.1)
well call source (Unmark b) old now h = (refl, h.1)
well call source (WriteCall k) old now h = (record { gets = λ i. over_nothing call i; others = λ j i apart. refl }, h.1)
well call source (WriteRegion k) old now h = (record { gets = λ i. refl; others = λ j i apart. refl }, h.1)
well call source act old now h = ap bare_disks h

wrong : (call : Pending) (source : ℕ) (act : Act) (old now : Disks) → GoesWrong call source act old now → GoesWrong (bare_call call) source act (bare_disks old) (bare_disks now)
wrong call source (Mark b) old now h = (refl, h.1)
wrong call source (Unmark b) old now h = (refl, h.1)
wrong call source (WriteCall k) old now h = (record { either = λ i. inl refl; others = λ j i apart. refl }, h.1)
wrong call source (WriteRegion k) old now h = (record { either = λ i. inl refl; others = λ j i apart. refl }, h.1)
wrong call source act old now h = ap bare_disks h

becomes : (event : Event) (call : Pending) (source : ℕ) (act : Act) (old now : Disks) → Becomes event call source act old now → Becomes event (bare_call call) source act (bare_disks old) (bare_disks now)
becomes (Begin job) call source act old now h = h
becomes Marked call source act old now h = well call source act old now h
becomes MarkFailed call source act old now h = wrong call source act old now h
becomes Unmarked call source act old now h = well call source act old now h
becomes UnmarkFailed call source act old now h = wrong call source act old now h
becomes Wrote call source act old now h = well call source act old now h
becomes WriteFailed call source act old now h = wrong call source act old now h
becomes Got call source act old now h = well call source act old now h
becomes (ReadFailed k) call source act old now h = wrong call source act old now h
becomes Cut call source act old now h = wrong call source act old now h

are_of : (call : Pending) (blocks values : Contents) → AreOf call blocks values → AreOf (bare_call call) no_values no_values
are_of NoCall blocks values h = absurd h
are_of (Reads call) blocks values h = λ i inside. refl
are_of (Writes call new) blocks values h = absurd h

gives : (a : Around) (act : Act) (event : Event) (values : Contents) → ReadGives a act event values → ReadGives (bare_around a) act event no_values
gives a (ReadCall offered) Got values h = (h.0, h.1, are_of a.pending (a.disks.blocks h.0) values h.2)
gives a act event values h = tt

call_of : (job : Job) (call : Pending) → CallOf job call → CallOf job (bare_call call)
call_of ReadJob NoCall h = absurd h
call_of ReadJob (Reads call) h = tt
call_of ReadJob (Writes call values) h = absurd h
call_of WriteJob NoCall h = absurd h
call_of WriteJob (Reads call) h = absurd h
call_of WriteJob (Writes call values) h = tt
call_of (CopyJob k) NoCall h = tt
call_of (CopyJob k) (Reads call) h = absurd h
call_of (CopyJob k) (Writes call values) h = absurd h
call_of Settle NoCall h = tt
call_of Settle (Reads call) h = absurd h
call_of Settle (Writes call values) h = absurd h
call_of Clear NoCall h = tt
call_of Clear (Reads call) h = absurd h
call_of Clear (Writes call values) h = absurd h

in_order : (session place epoch : ℕ) (es : List Entry) → AllOf (MayPrecede session place epoch) es → AllOf (MayPrecede session place epoch) (map bare_entry es)
in_order session place epoch [] h = tt
in_order session place epoch (e ∷ es) h = (h.0, in_order session place epoch es h.1)

may_begin : (region last : ℕ) (es : List Entry) (call : Pending) → MayBegin region last es call → MayBegin region last (map bare_entry es) (bare_call call)
may_begin region last es NoCall h = tt
may_begin region last es (Reads call) h = record { here = h.here; number = h.number; order = in_order call.session call.place call.part.epoch es h.order }
may_begin region last es (Writes call values) h = record { here = h.here; number = h.number; order = in_order call.session call.place call.part.epoch es h.order }

fits_in : (s : Stage) (phase : Phase) (a : Around) (event : Event) (now : Disks) (call : Pending) (values : Contents) → FitsIn s phase a event now call values →
    FitsIn s phase (bare_around a) event (bare_disks now) (bare_call call) no_values
fits_in s (Busy w) a event now call values h = ((h.0.0, becomes event a.pending w.source (act_at s w w.step) a.disks now h.0.1), gives a (act_at s w w.step) event values h.1)
fits_in s Dead a (Begin job) now call values h = (ap bare_disks h.0, ap bare_call h.1)
fits_in s Settled a (Begin job) now call values h = (ap bare_disks h.0, call_of job call h.1, may_begin a.fixed.region a.last a.entries call h.2)
fits_in s Unsettled a (Begin job) now call values h = (ap bare_disks h.0, call_of job call h.1, may_begin a.fixed.region a.last a.entries call h.2)
fits_in s Dead a Cut now call values h = ap bare_disks h
fits_in s Settled a Cut now call values h = ap bare_disks h
fits_in s Unsettled a Cut now call values h = ap bare_disks h
fits_in s phase a event now call values h = absurd h

-- ---- what happens

pending_is : (before : Pending) (event : Event) (call : Pending) → pending_at (bare_call before) event (bare_call call) ≡ bare_call (pending_at before event call)
pending_is before (Begin job) call = refl
pending_is before event call = refl

number_is : (call : Pending) (last : ℕ) → number_after (bare_call call) last ≡ number_after call last
number_is NoCall last = refl
number_is (Reads call) last = refl
number_is (Writes call values) last = refl

last_is : (last : ℕ) (event : Event) (call : Pending) → last_at last event (bare_call call) ≡ last_at last event call
last_is last (Begin job) call = number_is call last
last_is last event call = refl

entries_are : (act : Act) (call : Pending) (values : Contents) (es : List Entry) → entries_after act (bare_call call) no_values (map bare_entry es) ≡ map bare_entry (entries_after act call values es)
entries_are Done NoCall values es = refl
entries_are Done (Reads call) values es = refl
entries_are Done (Writes call new) values es = refl
entries_are Fault NoCall values es = refl
entries_are Fault (Reads call) values es = refl
entries_are Fault (Writes call new) values es = refl
entries_are Lost NoCall values es = refl
entries_are Lost (Reads call) values es = refl
entries_are Lost (Writes call new) values es = refl
entries_are act call values es = refl

left_is : (act : Act) (call : Pending) → pending_after act (bare_call call) ≡ bare_call (pending_after act call)
left_is Done call = refl
left_is Skipped call = refl
left_is Fault call = refl
left_is Lost call = refl
left_is act call = refl

module _ (s : RegionState) (event : Event) (now : Disks) (call : Pending) (values : Contents) where
  abbrev act : Act
  act = (next_of s.stage event).1

  abbrev with_parts : List Entry → Pending → ℕ → RegionState
  with_parts es p n = record { stage = (next_of s.stage event).0; around = record { disks = bare_disks now; fixed = s.around.fixed; entries = es; pending = p; last = n } }

  pub happens_bare : happens (bare s) (Comes event (bare_disks now) (bare_call call) no_values) ≡ bare (happens s (Comes event now call values))
  happens_bare =
      let before = pending_at s.around.pending event call in
      ap (λ (p : Pending). with_parts (entries_after act p no_values (map bare_entry s.around.entries)) (pending_after act p) (last_at s.around.last event (bare_call call))) (pending_is s.around.pending event call)
      ∙ ap (λ (es : List Entry). with_parts es (pending_after act (bare_call before)) (last_at s.around.last event (bare_call call))) (entries_are act before values s.around.entries)
      ∙ ap (λ (p : Pending). with_parts (map bare_entry (entries_after act before values s.around.entries)) p (last_at s.around.last event (bare_call call))) (left_is act before)
      ∙ ap (λ (n : ℕ). with_parts (map bare_entry (entries_after act before values s.around.entries)) (bare_call (pending_after act before)) n) (last_is s.around.last event call)

-- ---- courses

pub fits_bare : (hs : List Happening) (s : RegionState) → EachFits hs s → EachFits (bare_course hs) (bare s)
fits_bare [] s fits = tt
fits_bare (Comes event now call values ∷ hs) s fits = (
  fits_in s.stage s.stage.phase s.around event now call values fits.0,
  subst (λ (x : RegionState). EachFits (bare_course hs) x) (sym (happens_bare s event now call values)) (fits_bare hs (happens s (Comes event now call values)) fits.1),
)
fits_bare (Elsewhere marks ∷ hs) s fits = (fits.0, fits_bare hs (happens s (Elsewhere marks)) fits.1)

pub after_bare : (hs : List Happening) (s : RegionState) → region_after (bare_course hs) (bare s) ≡ bare (region_after hs s)
after_bare [] s = refl
after_bare (Comes event now call values ∷ hs) s =
    ap (λ (x : RegionState). region_after (bare_course hs) x) (happens_bare s event now call values) ∙ after_bare hs (happens s (Comes event now call values))
after_bare (Elsewhere marks ∷ hs) s = after_bare hs (happens s (Elsewhere marks))

pub well_bare : (hs : List Happening) → AreWell hs → AreWell (bare_course hs)
well_bare [] all = tt
well_bare (Elsewhere marks ∷ hs) all = (tt, well_bare hs all.1)
well_bare (Comes event now call values ∷ hs) all = (by event all.0, well_bare hs all.1)
  where
    by : (event : Event) → IsWell (Comes event now call values) → IsWell (Comes event (bare_disks now) (bare_call call) no_values)
    by (Begin job) h = tt
    by Marked h = tt
    by MarkFailed h = h
    by Unmarked h = tt
    by UnmarkFailed h = h
    by Wrote h = tt
    by WriteFailed h = tt
    by Got h = tt
    by (ReadFailed k) h = tt
    by Cut h = h

-- ---- such a region is kept

-- what is fixed of it
abbrev pub bare_fixed : (ℕ → Bool) → (copies region from : ℕ) → Fixed
bare_fixed held copies region from = record { held = held; copies = copies; base = nothing; first = λ k. Any; region = region; from = from }

call_in : (phase : Phase) → IsIdle phase → CallIn phase NoCall
call_in Settled idle = refl
call_in Unsettled idle = refl
call_in Dead idle = refl
call_in (Busy w) idle = absurd idle

-- one whose stage is well formed, between two jobs, and whose log shows just its bits
pub kept_bare : (s : Stage) (marks : Marks) (held : ℕ → Bool) (copies region number : ℕ) → IsFormed s s.phase held → IsIdle s.phase →
    IsExact (record { stage = s; around = record { disks = record { blocks = nothing; marks = marks }; fixed = bare_fixed held copies region number; entries = []; pending = NoCall; last = number } }) →
    IsKeptState (record { stage = s; around = record { disks = record { blocks = nothing; marks = marks }; fixed = bare_fixed held copies region number; entries = []; pending = NoCall; last = number } })
kept_bare s marks held copies region number formed idle exact = record {
  form = formed;
  apart = λ k loose. not_both loose (exact.tight k);
  sound = sound_from_ends (record {
    shown = λ n k low bit. exact.shows n k ∙ bit;
    bounded = λ n k low there. inl (sym (exact.shows n k) ∙ there);
    readable = let r = formed.readable in (r.0, r.1, record { bits = r.2; loose = exact.tight r.0; freeing = r.3 });
    candidates = λ k i unmarked. tt;
    agree = inl (λ j k i at_j at_k. refl);
    tracked = λ m k i snap out unmarked. refl;
    marked = formed.marked;
  });
  call = call_in s.phase idle;
  contents = idle_contents s s.phase NoCall nothing idle;
  history = record { legal = tt; counted = refl; ordered = tt };
}
