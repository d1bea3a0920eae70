-- Which plexes a job writes.
use Rattle.std.proofs.Common.{◌≡◌, ℕ, Bool, true, false, refl, sym, ◌∙◌, subst, inl, inr, List, [], ◌∷◌, Option, Result}
use Rattle.vx_core.specs.declared.stage.Job.{Job}
use Rattle.vx_core.specs.declared.stage.Event.{Event}
use Rattle.vx_core.specs.declared.stage.Act.{Act}
use Rattle.vx_core.specs.declared.stage.Step.{Step}
use Rattle.vx_core.specs.declared.stage.Work.{Work}
use Rattle.vx_core.specs.declared.stage.Phase.{Phase}
use Rattle.vx_core.specs.declared.stage.Stage.{Stage}
use Rattle.vx_core.specs.declared.stage.Job.TheVariants.{Read as ReadJob, Write as WriteJob, Copy as CopyJob, Settle, Clear}
use Rattle.vx_core.specs.declared.stage.Act.TheVariants.{Mark, Unmark, WriteCall, WriteRegion, ReadCall, ReadRegion, Done, Skipped, Fault, Lost}
use Rattle.vx_core.specs.declared.stage.Step.TheVariants.{Mark as AtMark, Write as AtWrite, MarkFailed as AtMarkFailed, Find as AtFind, Equal as AtEqual, Copy as AtCopy, Unmark as AtUnmark, Read as AtRead}
use Rattle.vx_core.specs.declared.stage.Phase.TheVariants.{Settled, Unsettled, Dead, Busy}
use Rattle.vx_core.specs.Table.{act_at, read_act, target_of}
use Rattle.vx_core.specs.Form.{FormAt, FormIn}
use Rattle.vx_core.specs.Follow.{FollowsIn, IsPossible, settles}
use Rattle.vx_piece.specs.Seen.{Seen}
use Rattle.vx_marks.specs.Log.{LogSeen}
use Rattle.vx_runs.specs.Run.{EachPiece, SameWrites}
use Rattle.vx_runs.specs.declared.run.RunFault.{RunFault}
use Rattle.vx_cell.specs.Plexes.{PlexSeen, KeepPlexes, ChangesPlex, WritesOnly}
use Rattle.vx_cell.specs.Acts.{Bytes, Carries, IsPlexWritten, IsPlexRead}
use Rattle.vx_cell.specs.Running.{settles_in, MayWrite, IsQuiet}
use Rattle.vx_cell.proofs.Changes.{same_number}

same_pieces : (ps : List Seen) → EachPiece SameWrites ps ps
same_pieces [] = tt
same_pieces (p ∷ ps) = (refl, same_pieces ps)

more_pieces : (ps qs rs : List Seen) → EachPiece SameWrites ps qs → EachPiece SameWrites qs rs → EachPiece SameWrites ps rs
more_pieces [] [] [] a b = tt
more_pieces [] [] (r ∷ rs) a b = absurd b
more_pieces [] (q ∷ qs) rs a b = absurd a
more_pieces (p ∷ ps) [] rs a b = absurd a
more_pieces (p ∷ ps) (q ∷ qs) [] a b = absurd b
more_pieces (p ∷ ps) (q ∷ qs) (r ∷ rs) a b = (b.0 ∙ a.0, more_pieces ps qs rs a.1 b.1)

pub same_writes : (may : ℕ → Type 0) (ps : List PlexSeen) → WritesOnly may ps ps
same_writes may [] = tt
same_writes may (p ∷ ps) = (inl (same_pieces p.pieces), same_writes may ps)

pub more_writes : (may : ℕ → Type 0) (ps qs rs : List PlexSeen) → KeepPlexes ps qs → WritesOnly may ps qs → WritesOnly may qs rs → WritesOnly may ps rs
more_writes may [] [] [] k a b = tt
more_writes may [] [] (r ∷ rs) k a b = absurd b
more_writes may [] (q ∷ qs) rs k a b = absurd k
more_writes may (p ∷ ps) [] rs k a b = absurd k
more_writes may (p ∷ ps) (q ∷ qs) [] k a b = absurd b
more_writes may (p ∷ ps) (q ∷ qs) (r ∷ rs) k a b = (
  elim a.0 [
    | inr may_p ↦ inr may_p
    | inl same ↦ elim b.0 [ inl again ↦ inl (more_pieces p.pieces q.pieces r.pieces same again) | inr may_q ↦ inr (subst (λ (m : ℕ). may m) k.0.same_map may_q) ]
  ],
  more_writes may ps qs rs k.1 a.1 b.1,
)

by_same : (may : ℕ → Type 0) (ps qs : List PlexSeen) → qs ≡ ps → WritesOnly may ps qs
by_same may ps qs e = subst (λ (xs : List PlexSeen). WritesOnly may ps xs) (sym e) (same_writes may ps)

by_write : (may : ℕ → Type 0) (k at : ℕ) (bytes : List ℕ) (result : Result (Unit {0}) RunFault) (ps qs : List PlexSeen) → may k → ChangesPlex k (IsPlexWritten at bytes result) ps qs → WritesOnly may ps qs
by_write may k at bytes result [] qs m c = absurd c
by_write may k at bytes result (p ∷ ps) [] m c = absurd c
by_write may k at bytes result (p ∷ ps) (q ∷ qs) m (inl c) = (inr (subst (λ (n : ℕ). may n) (sym (same_number p.map k c.0)) m), by_same may ps qs c.2)
by_write may k at bytes result (p ∷ ps) (q ∷ qs) m (inr c) =
    (inl (subst (λ (x : PlexSeen). EachPiece SameWrites p.pieces x.pieces) (sym c.1) (same_pieces p.pieces)), by_write may k at bytes result ps qs m c.2)

by_read : (may : ℕ → Type 0) (k at : ℕ) (into : List ℕ) (result : Result (Unit {0}) RunFault) (ps qs : List PlexSeen) → ChangesPlex k (IsPlexRead at into result) ps qs → WritesOnly may ps qs
by_read may k at into result [] qs c = absurd c
by_read may k at into result (p ∷ ps) [] c = absurd c
by_read may k at into result (p ∷ ps) (q ∷ qs) (inl c) = (inl c.1.run.writes, by_same may ps qs c.2)
by_read may k at into result (p ∷ ps) (q ∷ qs) (inr c) =
    (inl (subst (λ (x : PlexSeen). EachPiece SameWrites p.pieces x.pieces) (sym c.1) (same_pieces p.pieces)), by_read may k at into result ps qs c.2)

-- ---- what an act may write

any_call : (b : Bool) (k : ℕ) → MayWrite WriteJob b k
any_call true k = tt
any_call false k = tt

any_settling : (job : Job) (b : Bool) (k : ℕ) → (b ≡ false → ⊥) → MayWrite job b k
any_settling job true k never = tt
any_settling job false k never = absurd (never refl)

the_target : (job : Job) (b : Bool) (k : ℕ) (s : Stage) (w : Work) → FormAt s w AtCopy job → k ≡ target_of job → MayWrite job b k
the_target job true k s w form e = tt
the_target (CopyJob t) false k s w form e = e
the_target ReadJob false k s w form e = absurd form
the_target WriteJob false k s w form e = absurd form
the_target Settle false k s w form e = absurd form
the_target Clear false k s w form e = absurd form

region_target : {j k : ℕ} → WriteRegion j ≡ WriteRegion k → j ≡ k
region_target e = cc

read_never : {A : Type 0} (w : Work) (job : Job) (k : ℕ) → WriteRegion k ≡ read_act w job → A
read_never w ReadJob k e = cc
read_never w WriteJob k e = cc
read_never w (CopyJob t) k e = cc
read_never w Settle k e = cc
read_never w Clear k e = cc

may_rewrite : (job : Job) (b : Bool) (k : ℕ) (s : Stage) (w : Work) (step : Step) → w.job ≡ job → FormAt s w step w.job → (b ≡ false → settles step ≡ false) → WriteRegion k ≡ act_at s w step → MayWrite job b k
may_rewrite job b k s w AtEqual is form quiet e = any_settling job b k (λ no. let f = quiet no in cc)
may_rewrite job b k s w AtCopy is form quiet e =
    subst (λ (j : Job). MayWrite j b k) is (the_target w.job b k s w form (region_target e))
may_rewrite job b k s w AtMark is form quiet e = cc
may_rewrite job b k s w AtWrite is form quiet e = cc
may_rewrite job b k s w AtMarkFailed is form quiet e = cc
may_rewrite job b k s w AtFind is form quiet e = cc
may_rewrite job b k s w AtUnmark is form quiet e = cc
may_rewrite job b k s w AtRead is form quiet e = read_never w w.job k e

pub carried_writes : (job : Job) (b : Bool) (s : Stage) (w : Work) (held : ℕ → Bool) (region : ℕ) (ps qs : List PlexSeen) (log log' : LogSeen) (io io' : Bytes) (act : Act) (answer : Option Event) → w.job ≡ job → FormAt s w w.step w.job →
    (b ≡ false → settles w.step ≡ false) → act ≡ act_at s w w.step → IsPossible s held job w.source act → Carries region act answer io ps log io' qs log' → WritesOnly (MayWrite job b) ps qs
carried_writes job b s w held region ps qs log log' io io' (Mark m) answer is form quiet at can h = by_same (MayWrite job b) ps qs h.1
carried_writes job b s w held region ps qs log log' io io' (Unmark m) answer is form quiet at can h = by_same (MayWrite job b) ps qs h.1
carried_writes job b s w held region ps qs log log' io io' (WriteCall k) answer is form quiet at can h =
    by_write (MayWrite job b) k io.at io.from h.0.result ps qs (subst (λ (j : Job). MayWrite j b k) (sym can.1) (any_call b k)) h.0.changes
carried_writes job b s w held region ps qs log log' io io' (WriteRegion k) answer is form quiet at can h =
    by_write (MayWrite job b) k 0 io.scratch h.0.result ps qs (may_rewrite job b k s w w.step is form quiet at) h.0.changes
carried_writes job b s w held region ps qs log log' io io' (ReadCall offered) answer is form quiet at can h = by_read (MayWrite job b) h.0 io.at io'.into h.2.result ps qs h.2.changes
carried_writes job b s w held region ps qs log log' io io' (ReadRegion k) answer is form quiet at can h = by_read (MayWrite job b) k 0 io'.scratch h.0.result ps qs h.0.changes
carried_writes job b s w held region ps qs log log' io io' Done answer is form quiet at can h = absurd h
carried_writes job b s w held region ps qs log log' io io' Skipped answer is form quiet at can h = absurd h
carried_writes job b s w held region ps qs log log' io io' Fault answer is form quiet at can h = absurd h
carried_writes job b s w held region ps qs log log' io io' Lost answer is form quiet at can h = absurd h

-- ---- what is quiet stays so

pub stays_quiet : (job : Job) (was : Step) (event : Event) (source : ℕ) (act : Act) (phase : Phase) → FollowsIn job was event source act phase → settles was ≡ false → IsQuiet phase
stays_quiet job was event source act (Busy w) follows quiet = follows.stays_quiet quiet
stays_quiet job was event source act Settled follows quiet = tt
stays_quiet job was event source act Unsettled follows quiet = tt
stays_quiet job was event source act Dead follows quiet = tt

pub quiet_work : (phase : Phase) (w : Work) → phase ≡ Busy w → IsQuiet phase → settles w.step ≡ false
quiet_work (Busy v) w is quiet = let same : v ≡ w = cc in subst (λ (u : Work). settles u.step ≡ false) same quiet
quiet_work Settled w is quiet = cc
quiet_work Unsettled w is quiet = cc
quiet_work Dead w is quiet = cc

pub form_work : (s : Stage) (phase : Phase) (w : Work) → phase ≡ Busy w → FormIn s phase → FormAt s w w.step w.job
form_work s (Busy v) w is form = let same : v ≡ w = cc in subst (λ (u : Work). FormAt s u u.step u.job) same form.3
form_work s Settled w is form = cc
form_work s Unsettled w is form = cc
form_work s Dead w is form = cc

pub standing_quiet : (phase : Phase) → settles_in phase ≡ false → IsQuiet phase
standing_quiet (Busy w) quiet = quiet
standing_quiet Settled quiet = tt
standing_quiet Unsettled quiet = tt
standing_quiet Dead quiet = tt
