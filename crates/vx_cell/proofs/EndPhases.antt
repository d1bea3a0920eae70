-- What a job that has run says of its call.
use Rattle.std.proofs.Common.{◌≡◌, ℕ, ◌+◌, Bool, true, false, refl, sym, ◌∙◌, ap, subst, inl, inr, arith, ◌⊎◌, List, [], ◌∷◌, length, Option, Some, None, Result, Ok, Err}
use Rattle.std.specs.Prelude.{IfOk}
use Rattle.vx_base.specs.Blocks.{Contents}
use Rattle.vx_life.specs.Entry.{Entry}
use Rattle.vx_core.specs.declared.stage.Job.{Job}
use Rattle.vx_core.specs.declared.stage.Act.{Act}
use Rattle.vx_core.specs.declared.stage.Work.{Work}
use Rattle.vx_core.specs.declared.stage.Phase.{Phase}
use Rattle.vx_core.specs.declared.stage.Job.TheVariants.{Read as ReadJob, Write as WriteJob, Copy as CopyJob, Settle, Clear}
use Rattle.vx_core.specs.declared.stage.Act.TheVariants.{Mark, Unmark, WriteCall, WriteRegion, ReadCall, ReadRegion, Done, Skipped, Fault, Lost}
use Rattle.vx_core.specs.declared.stage.Phase.TheVariants.{Settled, Unsettled, Dead, Busy}
use Rattle.vx_core.specs.Follow.{EndsSettled}
use Rattle.vx_core.specs.History.{Pending, NoCall}
use Rattle.vx_core.specs.Region.{Fixed, entries_after, pending_after}
use Rattle.vx_core.specs.Schedule.{Happening, IsIdle}
use Rattle.vx_cell.specs.declared.fault.Place.{Place}
use Rattle.vx_cell.specs.declared.fault.CellFault.{CellFault}
use Rattle.vx_cell.specs.declared.fault.CellFault.TheVariants.{Fault as FaultAnswer, PowerLost, Held}
use Rattle.vx_cell.specs.Plexes.{PlexSeen}
use Rattle.vx_cell.specs.Acts.{Bytes}
use Rattle.vx_cell.specs.Region.{RegionSeen, IsTold, state_of}
use Rattle.vx_cell.specs.Running.{Caller, values_at, call_of, GoesBy, RunsIn, SameBytes, MayRun, IsCallable, IsRunning, GivesCurrent}
use Rattle.vx_cell.specs.Calls.{Stands, HasRun, answer_of, HasEnded, numbered, CallEnds, IsResumable, IsAnswerTo, ResumeEnds, done_of, skipped_of}
use Rattle.vx_cell.proofs.Steps.{quiet_work}

busy_phase : (phase : Phase) → Stands phase → (w : Work) × (phase ≡ Busy w)
busy_phase Settled stands = absurd stands
busy_phase Unsettled stands = absurd stands
busy_phase Dead stands = absurd stands
busy_phase (Busy w) stands = (w, refl)

-- the ends of a job
abbrev IsEnd : Job → Act → Phase → Type 0
IsEnd job act phase =
    ((act ≡ Done) × (phase ≡ Settled))
    ⊎ (((act ≡ Fault) × ((phase ≡ Settled) ⊎ (phase ≡ Unsettled)))
    ⊎ (((act ≡ Lost) × (phase ≡ Dead)) ⊎ ((act ≡ Skipped) × (phase ≡ Settled) × EndsSettled job Skipped)))

settled_end : (job : Job) (act : Act) → EndsSettled job act → IsEnd job act Settled
settled_end ReadJob (Mark b) h = absurd h
settled_end ReadJob (Unmark b) h = absurd h
settled_end ReadJob (WriteCall j) h = absurd h
settled_end ReadJob (WriteRegion j) h = absurd h
settled_end ReadJob (ReadCall j) h = absurd h
settled_end ReadJob (ReadRegion j) h = absurd h
settled_end ReadJob Done h = inl (refl, refl)
settled_end ReadJob Skipped h = absurd h
settled_end ReadJob Fault h = inr (inl (refl, inl refl))
settled_end ReadJob Lost h = absurd h
settled_end WriteJob (Mark b) h = absurd h
settled_end WriteJob (Unmark b) h = absurd h
settled_end WriteJob (WriteCall j) h = absurd h
settled_end WriteJob (WriteRegion j) h = absurd h
settled_end WriteJob (ReadCall j) h = absurd h
settled_end WriteJob (ReadRegion j) h = absurd h
settled_end WriteJob Done h = inl (refl, refl)
settled_end WriteJob Skipped h = absurd h
settled_end WriteJob Fault h = inr (inl (refl, inl refl))
settled_end WriteJob Lost h = absurd h
settled_end (CopyJob k) (Mark b) h = absurd h
settled_end (CopyJob k) (Unmark b) h = absurd h
settled_end (CopyJob k) (WriteCall j) h = absurd h
settled_end (CopyJob k) (WriteRegion j) h = absurd h
settled_end (CopyJob k) (ReadCall j) h = absurd h
settled_end (CopyJob k) (ReadRegion j) h = absurd h
settled_end (CopyJob k) Done h = inl (refl, refl)
settled_end (CopyJob k) Skipped h = inr (inr (inr (refl, refl, h)))
settled_end (CopyJob k) Fault h = inr (inl (refl, inl refl))
settled_end (CopyJob k) Lost h = absurd h
settled_end Settle (Mark b) h = absurd h
settled_end Settle (Unmark b) h = absurd h
settled_end Settle (WriteCall j) h = absurd h
settled_end Settle (WriteRegion j) h = absurd h
settled_end Settle (ReadCall j) h = absurd h
settled_end Settle (ReadRegion j) h = absurd h
settled_end Settle Done h = inl (refl, refl)
settled_end Settle Skipped h = absurd h
settled_end Settle Fault h = inr (inl (refl, inl refl))
settled_end Settle Lost h = absurd h
settled_end Clear (Mark b) h = absurd h
settled_end Clear (Unmark b) h = absurd h
settled_end Clear (WriteCall j) h = absurd h
settled_end Clear (WriteRegion j) h = absurd h
settled_end Clear (ReadCall j) h = absurd h
settled_end Clear (ReadRegion j) h = absurd h
settled_end Clear Done h = inl (refl, refl)
settled_end Clear Skipped h = inr (inr (inr (refl, refl, h)))
settled_end Clear Fault h = inr (inl (refl, inl refl))
settled_end Clear Lost h = absurd h

end_of : (job : Job) (old : RegionSeen) (size : ℕ) (ps : List PlexSeen) (scratch : List ℕ) (act : Act) (phase : Phase) → IsIdle phase → RunsIn job old size ps scratch act phase → IsEnd job act phase
end_of job old size ps scratch act Settled idle runs = settled_end job act runs
end_of job old size ps scratch act Unsettled idle runs = inr (inl (runs, inr refl))
end_of job old size ps scratch act Dead idle runs = inr (inr (inl (runs, refl)))
end_of job old size ps scratch act (Busy w) idle runs = absurd idle

-- a job that may be skipped has no call
skipped_entries : (job : Job) (io : Bytes) (r : RegionSeen) (who : Caller) (values : Contents) (entries : List Entry) → EndsSettled job Skipped → entries_after Done (call_of job io r who) values entries ≡ entries
skipped_entries ReadJob io r who values entries h = absurd h
skipped_entries WriteJob io r who values entries h = absurd h
skipped_entries (CopyJob k) io r who values entries h = refl
skipped_entries Settle io r who values entries h = refl
skipped_entries Clear io r who values entries h = refl

-- another telling of the same end
told_as : (allows : Fixed → List Entry → Type 0) (course : List Happening) (old new : RegionSeen) (last : ℕ) (call call' call'' : Pending) (more more' : List Entry → List Entry) →
    call'' ≡ call' → ((entries : List Entry) → more' entries ≡ more entries) → GoesBy allows course old last call new call' more → GoesBy allows course old last call new call'' more'
told_as allows course old new last call call' call'' more more' e alike g =
    record {
      fits = g.fits;
      ends = λ fixed entries. g.ends fixed entries ∙ ap (λ (c : Pending). state_of new fixed (more entries) c new.number) (sym e) ∙ ap (λ (es : List Entry). state_of new fixed es call'' new.number) (sym (alike entries));
      backed = g.backed;
    }

module _ {T : Type 0} (done skipped : T) (job : Job) (io : Bytes) (old new : RegionSeen) (io' : Bytes) where
  abbrev Ended : Result T CellFault → Type 0
  Ended result = HasEnded job io old new io' result

  held : (act : Act) (first : Option Place) → IsRunning job io old new first act io' → Stands new.stage.phase → old.log.lent ≡ true → Ended (Err Held)
  held act first run stands lent =
      let w = busy_phase new.stage.phase stands in
      record {
        whole = run.whole;
        kept = run.kept;
        number = run.number;
        masks = run.masks;
        tells = run.tells;
        goes = λ told who.
            let g = run.goes told who in
            let call = call_of job io old who in
            let values = values_at (old.start + io'.at) io'.into in (
              g.0,
              told_as _ g.0 old new _ _ (pending_after act call) call (entries_after act call values) (λ es. es)
                  (sym (quiet_work new.stage new.stage.phase w.0 act call values [] w.1 run.named).1)
                  (λ es. sym (quiet_work new.stage new.stage.phase w.0 act call values es w.1 run.named).0) g.1,
            );
        phase = stands;
        cause = lent;
        well = tt;
        courses = tt;
        calls = record { act = act; first = first; calls = run.calls; last = tt; blames = tt };
        writes = run.writes;
      }

  ended_done : (first : Option Place) → IsRunning job io old new first Done io' → new.stage.phase ≡ Settled → Ended (Ok done)
  ended_done first run settled = record { whole = run.whole; kept = run.kept; number = run.number; masks = run.masks; tells = run.tells; goes = run.goes; phase = settled; cause = tt; well = run.well (λ e. cc) (λ e. cc); courses = run.courses (λ e. cc) (λ e. cc); calls = record { act = Done; first = first; calls = run.calls; last = inl refl; blames = tt }; writes = run.writes }

  ended_skipped : (first : Option Place) → IsRunning job io old new first Skipped io' → new.stage.phase ≡ Settled → EndsSettled job Skipped → Ended (Ok skipped)
  ended_skipped first run settled may =
      record {
        whole = run.whole;
        kept = run.kept;
        number = run.number;
        masks = run.masks;
        tells = run.tells;
        goes = λ told who.
            let g = run.goes told who in
            let call = call_of job io old who in
            let values = values_at (old.start + io'.at) io'.into in
            (g.0, told_as _ g.0 old new _ _ NoCall NoCall (λ es. es) (entries_after Done call values) refl (λ es. skipped_entries job io old who values es may) g.1);
        phase = settled;
        cause = tt;
        well = run.well (λ e. cc) (λ e. cc);
        courses = run.courses (λ e. cc) (λ e. cc);
        calls = record { act = Skipped; first = first; calls = run.calls; last = inr refl; blames = tt };
        writes = run.writes;
      }

  ended_lost : (first : Option Place) → IsRunning job io old new first Lost io' → new.stage.phase ≡ Dead → Ended (Err PowerLost)
  ended_lost first run dead = record { whole = run.whole; kept = run.kept; number = run.number; masks = run.masks; tells = run.tells; goes = run.goes; phase = dead; cause = run.cut refl; well = tt; courses = tt; calls = record { act = Lost; first = first; calls = run.calls; last = refl; blames = tt }; writes = run.writes }

  ended_fault : (place : Place) → IsRunning job io old new (Some place) Fault io' → (new.stage.phase ≡ Settled) ⊎ (new.stage.phase ≡ Unsettled) → Ended (Err (FaultAnswer place))
  ended_fault place run phase =
      record {
        whole = run.whole;
        kept = run.kept;
        number = run.number;
        masks = run.masks;
        tells = run.tells;
        goes = run.goes;
        phase = phase;
        cause = (
          run.rose,
          λ plain begins.
              let c = run.causes plain begins in
              elim c.2.1 [ inl log ↦ inl (c.1.log log) | inr all ↦ inr (λ k there. c.1.plexes k (all k there)) ],
        );
        well = tt;
        courses = tt;
        calls = record { act = Fault; first = Some place; calls = run.calls; last = refl; blames = refl };
        writes = run.writes;
      }

  fault_at : (first : Option Place) → IsRunning job io old new first Fault io' → (new.stage.phase ≡ Settled) ⊎ (new.stage.phase ≡ Unsettled) → Ended (answer_of done skipped (Some Fault) first)
  fault_at None run phase = absurd run.blames
  fault_at (Some place) run phase = ended_fault place run phase

  at_act : (act : Act) (first : Option Place) → IsRunning job io old new first act io' → IsEnd job act new.stage.phase → Ended (answer_of done skipped (Some act) first)
  at_act act first run (inl e) =
      subst (λ (x : Act). Ended (answer_of done skipped (Some x) first)) (sym e.0) (ended_done first (subst (λ (x : Act). IsRunning job io old new first x io') e.0 run) e.1)
  at_act act first run (inr (inl e)) =
      subst (λ (x : Act). Ended (answer_of done skipped (Some x) first)) (sym e.0) (fault_at first (subst (λ (x : Act). IsRunning job io old new first x io') e.0 run) e.1)
  at_act act first run (inr (inr (inl e))) =
      subst (λ (x : Act). Ended (answer_of done skipped (Some x) first)) (sym e.0) (ended_lost first (subst (λ (x : Act). IsRunning job io old new first x io') e.0 run) e.1)
  at_act act first run (inr (inr (inr e))) =
      subst (λ (x : Act). Ended (answer_of done skipped (Some x) first)) (sym e.0) (ended_skipped first (subst (λ (x : Act). IsRunning job io old new first x io') e.0 run) e.1 e.2)

  pub ended : (answer : Option Act) (first : Option Place) → HasRun job io old new answer first io' → Ended (answer_of done skipped answer first)
  ended None first h = held h.0 first h.1 h.2 h.3
  ended (Some act) first h = at_act act first h.0 (end_of job old new.size new.plexes io'.scratch act new.stage.phase h.1 h.0.runs)

-- a read that is answered Ok
pub gave : (n : ℕ) (io : Bytes) (old new : RegionSeen) (io' : Bytes) (answer : Option Act) (first : Option Place) → HasRun ReadJob io old new answer first io' →
    IfOk (answer_of n n answer first) (λ m. IsTold old → GivesCurrent new io'.at io'.into)
gave n io old new io' None first h = tt
gave n io old new io' (Some Done) first h = λ told. h.0.gives refl refl told
gave n io old new io' (Some Skipped) first h = no_skip (end_of ReadJob old new.size new.plexes io'.scratch Skipped new.stage.phase h.1 h.0.runs)
  where
    no_skip : {A : Type 0} → IsEnd ReadJob Skipped new.stage.phase → A
    no_skip (inl e) = let f = e.0 in cc
    no_skip (inr (inl e)) = let f = e.0 in cc
    no_skip (inr (inr (inl e))) = let f = e.0 in cc
    no_skip (inr (inr (inr e))) = absurd e.2
gave n io old new io' (Some Fault) None h = tt
gave n io old new io' (Some Fault) (Some place) h = tt
gave n io old new io' (Some Lost) first h = tt
gave n io old new io' (Some (Mark b)) None h = tt
gave n io old new io' (Some (Mark b)) (Some place) h = tt
gave n io old new io' (Some (Unmark b)) None h = tt
gave n io old new io' (Some (Unmark b)) (Some place) h = tt
gave n io old new io' (Some (WriteCall b)) None h = tt
gave n io old new io' (Some (WriteCall b)) (Some place) h = tt
gave n io old new io' (Some (WriteRegion b)) None h = tt
gave n io old new io' (Some (WriteRegion b)) (Some place) h = tt
gave n io old new io' (Some (ReadCall b)) None h = tt
gave n io old new io' (Some (ReadCall b)) (Some place) h = tt
gave n io old new io' (Some (ReadRegion b)) None h = tt
gave n io old new io' (Some (ReadRegion b)) (Some place) h = tt

-- an answer is the number where it is Ok
pub number_of : (n : ℕ) (answer : Option Act) (first : Option Place) → IfOk (answer_of n n answer first) (λ m. m ≡ n)
number_of n None first = tt
number_of n (Some Done) first = refl
number_of n (Some Skipped) first = refl
number_of n (Some Lost) first = tt
number_of n (Some (Mark b)) None = tt
number_of n (Some (Mark b)) (Some place) = tt
number_of n (Some (Unmark b)) None = tt
number_of n (Some (Unmark b)) (Some place) = tt
number_of n (Some (WriteCall b)) None = tt
number_of n (Some (WriteCall b)) (Some place) = tt
number_of n (Some (WriteRegion b)) None = tt
number_of n (Some (WriteRegion b)) (Some place) = tt
number_of n (Some (ReadCall b)) None = tt
number_of n (Some (ReadCall b)) (Some place) = tt
number_of n (Some (ReadRegion b)) None = tt
number_of n (Some (ReadRegion b)) (Some place) = tt
number_of n (Some Fault) None = tt
number_of n (Some Fault) (Some place) = tt

-- a call on a cell that is not dead
pub call_ended : {T : Type 0} (done skipped : T) (job : Job) (io : Bytes) (old new : RegionSeen) (io' : Bytes) (answer : Option Act) (first : Option Place) (result : Result T CellFault) →
    (old.stage.phase ≡ Dead → ⊥) → HasRun job io (numbered job old) new answer first io' → result ≡ answer_of done skipped answer first → CallEnds job io old new io' result
call_ended done skipped job io old new io' answer first result alive h e =
    record {
      dead = λ is. absurd (alive is);
      ended = λ is. subst (λ (r : Result _ CellFault). HasEnded job io (numbered job old) new io' r) (sym e) (ended done skipped job io (numbered job old) new io' answer first h);
    }

-- a phase that a test has found not to be dead
pub not_dead : (found : Bool) (phase : Phase) → found ≡ false → (phase ≡ Dead → found ≡ true) → phase ≡ Dead → ⊥
not_dead true phase e test is = cc
not_dead false phase e test is = let f = test is in cc

run_bytes : (job : Job) (io : Bytes) (old new : RegionSeen) (answer : Option Act) (first : Option Place) (io' : Bytes) → HasRun job io old new answer first io' → SameBytes io io'
run_bytes job io old new None first io' h = h.1.bytes
run_bytes job io old new (Some act) first io' h = h.0.bytes

no_bytes : (xs : List ℕ) → length xs ≡ 0 → xs ≡ []
no_bytes [] e = refl
no_bytes (x ∷ xs) e = absurd (omega (arith, e))

-- the same for a call that reads nothing
pub quiet_ended : {T : Type 0} (done skipped : T) (job : Job) (at : ℕ) (from scratch : List ℕ) (old new : RegionSeen) (into' scratch' : List ℕ) (answer : Option Act) (first : Option Place) (result : Result T CellFault) →
    (old.stage.phase ≡ Dead → ⊥) →
    HasRun job (record { at = at; into = []; from = from; scratch = scratch }) (numbered job old) new answer first (record { at = at; into = into'; from = from; scratch = scratch' }) → result ≡ answer_of done skipped answer first →
    CallEnds job (record { at = at; into = []; from = from; scratch = scratch }) old new (record { at = at; into = []; from = from; scratch = scratch' }) result
quiet_ended done skipped job at from scratch old new into' scratch' answer first result alive h e =
    let empty = no_bytes into' (run_bytes job (record { at = at; into = []; from = from; scratch = scratch }) (numbered job old) new answer first (record { at = at; into = into'; from = from; scratch = scratch' }) h).same_into in
    call_ended done skipped job (record { at = at; into = []; from = from; scratch = scratch }) old new (record { at = at; into = []; from = from; scratch = scratch' }) answer first result alive
    (subst (λ (xs : List ℕ). HasRun job (record { at = at; into = []; from = from; scratch = scratch }) (numbered job old) new answer first (record { at = at; into = xs; from = from; scratch = scratch' })) empty h) e

done_or_skipped : (job : Job) (number : ℕ) (answer : Option Act) (first : Option Place) → IfOk (answer_of (done_of job number) (skipped_of job number) answer first) (λ n. IsAnswerTo job number n)
done_or_skipped job number None first = tt
done_or_skipped job number (Some Done) first = is_done job number
  where
    is_done : (job : Job) (number : ℕ) → IsAnswerTo job number (done_of job number)
    is_done ReadJob number = refl
    is_done WriteJob number = refl
    is_done (CopyJob k) number = inl refl
    is_done Settle number = refl
    is_done Clear number = refl
done_or_skipped job number (Some Skipped) first = is_skipped job number
  where
    is_skipped : (job : Job) (number : ℕ) → IsAnswerTo job number (skipped_of job number)
    is_skipped ReadJob number = refl
    is_skipped WriteJob number = refl
    is_skipped (CopyJob k) number = inr refl
    is_skipped Settle number = refl
    is_skipped Clear number = refl
done_or_skipped job number (Some Lost) first = tt
done_or_skipped job number (Some (Mark b)) None = tt
done_or_skipped job number (Some (Mark b)) (Some place) = tt
done_or_skipped job number (Some (Unmark b)) None = tt
done_or_skipped job number (Some (Unmark b)) (Some place) = tt
done_or_skipped job number (Some (WriteCall b)) None = tt
done_or_skipped job number (Some (WriteCall b)) (Some place) = tt
done_or_skipped job number (Some (WriteRegion b)) None = tt
done_or_skipped job number (Some (WriteRegion b)) (Some place) = tt
done_or_skipped job number (Some (ReadCall b)) None = tt
done_or_skipped job number (Some (ReadCall b)) (Some place) = tt
done_or_skipped job number (Some (ReadRegion b)) None = tt
done_or_skipped job number (Some (ReadRegion b)) (Some place) = tt
done_or_skipped job number (Some Fault) None = tt
done_or_skipped job number (Some Fault) (Some place) = tt

-- a call that went on
pub resumed : (phase : Phase) (w : Work) (io : Bytes) (old new : RegionSeen) (io' : Bytes) (answer : Option Act) (first : Option Place) (done skipped : ℕ) (result : Result ℕ CellFault) →
    phase ≡ Busy w → HasRun w.job io old new answer first io' → done ≡ done_of w.job new.number → skipped ≡ skipped_of w.job new.number → result ≡ answer_of done skipped answer first →
    ResumeEnds phase io old new io' result
resumed (Busy v) w io old new io' answer first done skipped result is h d s e =
    let same : w ≡ v = cc in
    let there : result ≡ answer_of (done_of w.job new.number) (skipped_of w.job new.number) answer first =
    e ∙ ap (λ (n : ℕ). answer_of n skipped answer first) d ∙ ap (λ (n : ℕ). answer_of (done_of w.job new.number) n answer first) s in
    subst (λ (u : Work). ResumeEnds (Busy u) io old new io' result) same (
      subst (λ (r : Result ℕ CellFault). HasEnded w.job io old new io' r) (sym there) (ended (done_of w.job new.number) (skipped_of w.job new.number) w.job io old new io' answer first h),
      subst (λ (r : Result ℕ CellFault). IfOk r (λ n. IsAnswerTo w.job new.number n)) (sym there) (done_or_skipped w.job new.number answer first),
    )
resumed Settled w io old new io' answer first done skipped result is h d s e = tt
resumed Unsettled w io old new io' answer first done skipped result is h d s e = tt
resumed Dead w io old new io' answer first done skipped result is h d s e = tt

-- what a call that goes on needs
pub may_resume : (phase : Phase) (w : Work) (size : ℕ) (io : Bytes) → phase ≡ Busy w → Stands phase → IsResumable size phase io → MayRun w.job phase × IsCallable size w.job io
may_resume (Busy v) w size io is stands ok = let same : v ≡ w = cc in subst (λ (u : Work). MayRun u.job (Busy v) × IsCallable size u.job io) same ((refl, stands), ok)
may_resume Settled w size io is stands ok = absurd stands
may_resume Unsettled w size io is stands ok = absurd stands
may_resume Dead w size io is stands ok = absurd stands
