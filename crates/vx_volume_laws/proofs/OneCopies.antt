-- A region as one copy of its log tells it: in place of each copy stands that one. What happened to the region happened to it so too.
use Rattle.std.proofs.Common.{◌≡◌, ℕ, ◌<◌, Bool, inl, inr, refl, ap, List, [], ◌∷◌}
use Rattle.vx_base.specs.Blocks.{Contents}
use Rattle.vx_mask.specs.Marks.{Marks, AllGain, AllLose, MayGain, MayLose, MayTidy}
use Rattle.vx_core.specs.declared.stage.Act.{Act}
use Rattle.vx_core.specs.declared.stage.Event.{Event}
use Rattle.vx_core.specs.declared.stage.Phase.{Phase}
use Rattle.vx_core.specs.declared.stage.Stage.{Stage}
use Rattle.vx_core.specs.declared.stage.Act.TheVariants.{Mark, Unmark, WriteCall, WriteRegion, ReadCall}
use Rattle.vx_core.specs.declared.stage.Event.TheVariants.{Begin, Marked, MarkFailed, Unmarked, UnmarkFailed, Wrote, WriteFailed, Got, ReadFailed, Cut}
use Rattle.vx_core.specs.declared.stage.Phase.TheVariants.{Settled, Unsettled, Dead, Busy}
use Rattle.vx_core.specs.History.{Pending}
use Rattle.vx_core.specs.Recovery.{region_after}
use Rattle.vx_core.specs.Region.{Around, Becomes, Disks, FitsIn, GoesWell, GoesWrong, ReadGives, RegionState}
use Rattle.vx_core.specs.Schedule.{Comes, Elsewhere, Happening, happens}
use Rattle.vx_core.specs.Soundness.{IsBetween, IsSoundUnder}
use Rattle.vx_core.specs.Table.{act_at}
use Rattle.vx_core_laws.specs.Course.{EachFits, IsKeptState}

abbrev pub marks_by : ℕ → Marks → Marks
marks_by n m = record { shows = λ c k. m.shows n k; loose = m.loose }

abbrev pub disks_by : ℕ → Disks → Disks
disks_by n d = record { blocks = d.blocks; marks = marks_by n d.marks }

abbrev pub around_by : ℕ → Around → Around
around_by n a = record { disks = disks_by n a.disks; fixed = a.fixed; entries = a.entries; pending = a.pending; last = a.last }

abbrev pub state_by : ℕ → RegionState → RegionState
state_by n s = record { stage = s.stage; around = around_by n s.around }

abbrev pub happening_by : ℕ → Happening → Happening
happening_by n (Comes event now call values) = Comes event (disks_by n now) call values
happening_by n (Elsewhere marks) = Elsewhere (marks_by n marks)

abbrev pub course_by : ℕ → List Happening → List Happening
course_by n [] = []
course_by n (h ∷ hs) = happening_by n h ∷ course_by n hs

-- ---- what may become of the marks

gain : (n b : ℕ) (old now : Marks) → AllGain b old now → AllGain b (marks_by n old) (marks_by n now)
gain n b old now h = record { shows = λ c k. h.shows n k; loose = h.loose }

lose : (n b : ℕ) (old now : Marks) → AllLose b old now → AllLose b (marks_by n old) (marks_by n now)
lose n b old now h = record { shows = λ c k. h.shows n k; loose = h.loose }

may_gain : (n b : ℕ) (old now : Marks) → MayGain b old now → MayGain b (marks_by n old) (marks_by n now)
may_gain n b old now (inl h) = inl (record { shows = λ c k. h.shows n k; loose = h.loose })
may_gain n b old now (inr h) = inr (record { shows = λ c k. h.shows n k; loose = h.loose })

may_lose : (n b : ℕ) (old now : Marks) → MayLose b old now → MayLose b (marks_by n old) (marks_by n now)
may_lose n b old now (inl h) = inl (record { shows = λ c k. h.shows n k; loose = h.loose })
may_lose n b old now (inr h) = inr (record { shows = λ c k. h.shows n k; loose = h.loose })

may_tidy : (n : ℕ) (old now : Marks) → MayTidy old now → MayTidy (marks_by n old) (marks_by n now)
may_tidy n old now (inl h) = inl (record { shows = λ c k. h.shows n k; loose = h.loose })
may_tidy n old now (inr h) = inr (lose n 0 old now h)

-- ---- what may become of the devices

well : (n : ℕ) (call : Pending) (source : ℕ) (act : Act) (old now : Disks) → GoesWell call source act old now → GoesWell call source act (disks_by n old) (disks_by n now)
well n call source (Mark b) old now h = (h.0, gain n b old.marks now.marks h.1)
well n call source (Unmark b) old now h = (h.0, lose n b old.marks now.marks h.1)
well n call source (WriteCall k) old now h = (h.0, ap (marks_by n) h.1)
well n call source (WriteRegion k) old now h = (h.0, ap (marks_by n) h.1)
well n call source act old now h = ap (disks_by n) h

wrong : (n : ℕ) (call : Pending) (source : ℕ) (act : Act) (old now : Disks) → GoesWrong call source act old now → GoesWrong call source act (disks_by n old) (disks_by n now)
wrong n call source (Mark b) old now h = (h.0, may_gain n b old.marks now.marks h.1)
wrong n call source (Unmark b) old now h = (h.0, may_lose n b old.marks now.marks h.1)
wrong n call source (WriteCall k) old now h = (h.0, ap (marks_by n) h.1)
wrong n call source (WriteRegion k) old now h = (h.0, ap (marks_by n) h.1)
wrong n call source act old now h = ap (disks_by n) h

becomes : (n : ℕ) (event : Event) (call : Pending) (source : ℕ) (act : Act) (old now : Disks) → Becomes event call source act old now → Becomes event call source act (disks_by n old) (disks_by n now)
becomes n (Begin job) call source act old now h = h
becomes n Marked call source act old now h = well n call source act old now h
becomes n MarkFailed call source act old now h = wrong n call source act old now h
becomes n Unmarked call source act old now h = well n call source act old now h
becomes n UnmarkFailed call source act old now h = wrong n call source act old now h
becomes n Wrote call source act old now h = well n call source act old now h
becomes n WriteFailed call source act old now h = wrong n call source act old now h
becomes n Got call source act old now h = well n call source act old now h
becomes n (ReadFailed k) call source act old now h = wrong n call source act old now h
becomes n Cut call source act old now h = wrong n call source act old now h

gives : (n : ℕ) (a : Around) (act : Act) (event : Event) (values : Contents) → ReadGives a act event values → ReadGives (around_by n a) act event values
gives n a (ReadCall offered) Got values h = h
gives n a act event values h = tt

fits_in : (n : ℕ) (s : Stage) (phase : Phase) (a : Around) (event : Event) (now : Disks) (call : Pending) (values : Contents) → FitsIn s phase a event now call values → FitsIn s phase (around_by n a) event (disks_by n now) call values
fits_in n s (Busy w) a event now call values h =
    ((h.0.0, becomes n event a.pending w.source (act_at s w w.step) a.disks now h.0.1), gives n a (act_at s w w.step) event values h.1)
fits_in n s Dead a (Begin job) now call values h = (ap (disks_by n) h.0, h.1)
fits_in n s Settled a (Begin job) now call values h = (ap (disks_by n) h.0, h.1, h.2)
fits_in n s Unsettled a (Begin job) now call values h = (ap (disks_by n) h.0, h.1, h.2)
fits_in n s Dead a Cut now call values h = ap (disks_by n) h
fits_in n s Settled a Cut now call values h = ap (disks_by n) h
fits_in n s Unsettled a Cut now call values h = ap (disks_by n) h
fits_in n s phase a event now call values h = absurd h

-- ---- courses

pub fits_by : (n : ℕ) (hs : List Happening) (s : RegionState) → EachFits hs s → EachFits (course_by n hs) (state_by n s)
fits_by n [] s fits = tt
fits_by n (Comes event now call values ∷ hs) s fits =
    (fits_in n s.stage s.stage.phase s.around event now call values fits.0, fits_by n hs (happens s (Comes event now call values)) fits.1)
fits_by n (Elsewhere marks ∷ hs) s fits = (may_tidy n s.around.disks.marks marks fits.0, fits_by n hs (happens s (Elsewhere marks)) fits.1)

pub after_by : (n : ℕ) (hs : List Happening) (s : RegionState) → region_after (course_by n hs) (state_by n s) ≡ state_by n (region_after hs s)
after_by n [] s = refl
after_by n (Comes event now call values ∷ hs) s = after_by n hs (happens s (Comes event now call values))
after_by n (Elsewhere marks ∷ hs) s = after_by n hs (happens s (Elsewhere marks))

-- ---- what is kept

under : (n : ℕ) (s : Stage) (phase : Phase) (a : Around) (B : ℕ → Bool) → IsSoundUnder s phase a B → IsSoundUnder s phase (around_by n a) B
under n s phase a B u = record { readable = u.readable; candidates = u.candidates; agree = u.agree; tracked = u.tracked }

between : (n : ℕ) (s : Stage) (phase : Phase) (a : Around) (B : ℕ → Bool) → IsBetween s phase (around_by n a) B → IsBetween s phase a B
between n s phase a B b = record { least = b.least; most = b.most }

-- a copy that is there tells of a region that was kept one that is kept
pub kept_by : (n : ℕ) (s : RegionState) → n < s.around.fixed.copies → IsKeptState s → IsKeptState (state_by n s)
kept_by n s low kept =
    record {
      form = kept.form;
      apart = kept.apart;
      sound = record {
        shown = λ c k lt h. kept.sound.shown n k low h;
        bounded = λ c k lt h. kept.sound.bounded n k low h;
        under = λ B b. under n s.stage s.stage.phase s.around B (kept.sound.under B (between n s.stage s.stage.phase s.around B b));
        marked = kept.sound.marked;
      };
      call = kept.call;
      contents = kept.contents;
      history = kept.history;
    }
