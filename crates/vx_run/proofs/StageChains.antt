-- One stage more, and a stage that ends the command.
use Rattle.std.proofs.Common.{◌≡◌, ◌∙◌, Bool, true, false, if◌then◌else◌, List, [], ◌∷◌, ◌++◌, ◌+◌, ℕ, take, drop, refl, sym, ap, subst, inl, inr, append_assoc}
use Rattle.std.specs.Prelude.{Result, Ok, Err}
use Rattle.std.proofs.lemmas.List.{append-nil, take-append-drop}
use Rattle.std.proofs.lemmas.List.Sums.{fold-append}
use Rattle.vx_pages.specs.declared.local_piece.LocalPiece.{Ghosts}
use Rattle.vx_piece.specs.Seen.{Seen}
use Rattle.vx_copies.specs.Lists.{AllOf}
use Rattle.vx_script_words.specs.declared.value.DiskAt.{DiskAt}
use Rattle.vx_answers.specs.declared.answer.End.{End}
use Rattle.vx_answers.specs.declared.answer.End.TheVariants as ends
use Rattle.vx_moments.specs.Moment.{Moment, AreLater}
use Rattle.vx_stages.specs.Stages.{IsDone, Stops, Wants}
use Rattle.vx_plans.specs.Steps.{Runs, RunsShort}
use Rattle.vx_stages.specs.declared.stage.Stage.{Stage}
use Rattle.vx_stages.specs.declared.stage.Stage.TheVariants as stage
use Rattle.vx_house.specs.Goes.{Gives, GoesBy, StageGoes, Still, IsReady, wanted, is_first, only_reads}
use Rattle.vx_house.specs.View.{View, Keeps, IsMoment, scene}
use Rattle.vx_house.specs.declared.house.House.{House}
use Rattle.vx_house.specs.declared.stop.Stop.{Stop}
use Rattle.vx_house.specs.declared.stop.Stop.TheVariants as stops
use Rattle.vx_house.proofs.AllLaws.{all_append, all_front, all_back}
use Rattle.vx_house.proofs.Ends.{keeps_but_group}
use Rattle.vx_house.proofs.Moments.{later_refl, later_trans, faults_refl, faults_trans}
use Rattle.vx_house.proofs.Takes.{blamed_later}
use Rattle.vx_run.specs.Fed.{IsAmong, AreFed, behind, keeps_world, recent}
use Rattle.vx_run.specs.Runs.{HasRun, IsMomentBy, HasEnded, HasRested, StageEnds, StagesGo}
use Rattle.vx_run.proofs.Tests.{gives_still}
use Rattle.vx_run.proofs.WorldLaws.{world_kept}

-- what is fed to a stage behind others
pub fed_at : (done xs : List Stage) (s : Stage) (ss : List Stage) → AreFed done (xs ++ s ∷ ss) → (is_first s ≡ true → done ++ xs ≡ []) × AllOf (IsAmong (recent (done ++ xs))) (wanted s)
fed_at done [] s ss fed = subst (λ d. (is_first s ≡ true → d ≡ []) × AllOf (IsAmong (recent d)) (wanted s)) (sym (append-nil done)) fed.0
fed_at done (x ∷ xs) s ss fed = subst (λ d. (is_first s ≡ true → d ≡ []) × AllOf (IsAmong (recent d)) (wanted s)) (append_assoc done (x ∷ []) xs) (fed_at (done ++ x ∷ []) xs s ss fed.1)

not_empty : (done : List Stage) (s : Stage) → done ++ s ∷ [] ≡ [] → ⊥
not_empty [] s e = cc
not_empty (d ∷ done) s e = cc

module _ {P : Type 0} {ghosts : Ghosts P} (see : P → Seen) (disks : List DiskAt) where
  pub none_run : (v : View P ghosts) → Keeps see v → v.house.hand.items ≡ [] → HasRun see disks [] v v
  none_run v keeps empty = record {
    keeps = keeps;
    empty = λ is. empty;
    gives = tt;
    goes = λ m is. (m, record { is = is; later = later_refl m.counts; kept = λ kept. refl; runs = λ rest finish views end o runs. runs; short = λ rest o short. short });
    faults = faults_refl (scene see v);
  }

  pub given_one : (h : House P ghosts) (done : List Stage) (t : Stage) → AllOf (λ s. Gives see s disks h) done → IsAmong done t → Gives see t disks h
  given_one h [] t all any = absurd any
  given_one h (d ∷ done) t all (inl is) = subst (λ s. Gives see s disks h) is all.0
  given_one h (d ∷ done) t all (inr any) = given_one h done t all.1 any

  given_all : (h : House P ghosts) (done ts : List Stage) → AllOf (λ s. Gives see s disks h) done → AllOf (IsAmong done) ts → AllOf (λ s. Gives see s disks h) ts
  given_all h done [] all among = tt
  given_all h done (t ∷ ts) all among = (given_one h done t all among.0, given_all h done ts all among.1)

  -- the house has what the stage needs
  pub stage_ready : (done : List Stage) (s : Stage) (old now : View P ghosts) → HasRun see disks done old now → (is_first s ≡ true → done ≡ []) × AllOf (IsAmong (recent done)) (wanted s) → IsReady see s disks now.house
  stage_ready done s old now run fed = record {
    wants = given_all now.house (recent done) (wanted s) run.gives fed.1;
    empty = λ is. run.empty (fed.0 is);
  }

  -- what was given before a stage that keeps the world is given behind it
  kept_gives : (s : Stage) (late : List Stage) (mid new : View P ghosts) → keeps_world s ≡ true → (is_first s ≡ true → late ≡ []) → (only_reads s ≡ true → Still see mid.house new.house) → AllOf (λ t. Gives see t disks mid.house) late → AllOf (λ t. Gives see t disks new.house) late
  kept_gives s late mid new keeps first still all = by s keeps first still
    where
      on : Still see mid.house new.house → (xs : List Stage) → AllOf (λ t. Gives see t disks mid.house) xs → AllOf (λ t. Gives see t disks new.house) xs
      on still [] xs_all = tt
      on still (x ∷ xs) xs_all = (gives_still see mid.house new.house still x disks xs_all.0, on still xs xs_all.1)

      none : late ≡ [] → AllOf (λ t. Gives see t disks new.house) late
      none e = subst (λ d. AllOf (λ t. Gives see t disks new.house) d) (sym e) tt

      by : (s : Stage) → keeps_world s ≡ true → (is_first s ≡ true → late ≡ []) → (only_reads s ≡ true → Still see mid.house new.house) → AllOf (λ t. Gives see t disks new.house) late
      by (stage.Gate test) keeps first still = on (still refl) late all
      by (stage.Take name) keeps first still = none (first refl)
      by stage.TakeDisks keeps first still = none (first refl)
      by (stage.LookBlank name) keeps first still = on (still refl) late all
      by stage.LookDisks keeps first still = on (still refl) late all
      by (stage.LookHeaded name) keeps first still = on (still refl) late all
      by (stage.Search dg) keeps first still = on (still refl) late all
      by (stage.MakeImage name sectors) keeps first still = cc
      by (stage.Wipe name) keeps first still = cc
      by (stage.StartBare vol name) keeps first still = cc
      by (stage.Change change) keeps first still = cc
      by (stage.Make from) keeps first still = cc
      by stage.Join keeps first still = cc
      by (stage.Create dg) keeps first still = cc
      by (stage.Import dg) keeps first still = cc
      by stage.LetGo keeps first still = cc
      by (stage.Start vol) keeps first still = cc
      by (stage.Mirror mirror) keeps first still = cc
      by (stage.Prepare logs) keeps first still = cc
      by (stage.Unprepare vol) keeps first still = cc
      by (stage.Detach plex) keeps first still = cc
      by (stage.Attach vol plex) keeps first still = cc
      by (stage.Dissociate plex remove) keeps first still = cc
      by (stage.Stop vol) keeps first still = cc

  -- what is given behind a stage: all that was, or where it changed the world, nothing
  gives_behind : (s : Stage) (late : List Stage) (mid new : View P ghosts) → (is_first s ≡ true → late ≡ []) → (only_reads s ≡ true → Still see mid.house new.house) → AllOf (λ t. Gives see t disks mid.house) late → Gives see s disks new.house → AllOf (λ t. Gives see t disks new.house) (behind late s)
  gives_behind s late mid new first still all own = by (keeps_world s) refl
    where
      by : (b : Bool) → keeps_world s ≡ b → AllOf (λ t. Gives see t disks new.house) (if b then late ++ s ∷ [] else [])
      by true keeps = all_append (λ t. Gives see t disks new.house) late (s ∷ []) (kept_gives s late mid new keeps first still all) (own, tt)
      by false changes = tt

  -- one stage more is done
  pub run_then : (done : List Stage) (s : Stage) (old mid new : View P ghosts) → HasRun see disks done old mid → (is_first s ≡ true → done ≡ []) → StageGoes {T = Unit {0}} see s disks (Ok tt) mid new → HasRun see disks (done ++ s ∷ []) old new
  run_then done s old mid new run first goes = record {
    keeps = goes.keeps;
    empty = λ e. absurd (not_empty done s e);
    gives = subst (AllOf (λ t. Gives see t disks new.house)) (sym (fold-append behind [] done (s ∷ [])))
        (gives_behind s (recent done) mid new (λ is. ap recent (first is)) goes.still run.gives goes.gives);
    goes = λ m is.
        let before = run.goes m is in
        let after = goes.goes before.0 before.1.is in (
          after.0,
          record {
            is = after.1;
            later = later_trans m.counts before.0.counts after.0.counts before.1.later after.2;
            kept = λ kept. world_kept s disks before.0 after.0 (all_back (λ t. keeps_world t ≡ true) done (s ∷ []) kept).0 after.3 ∙ before.1.kept (all_front (λ t. keeps_world t ≡ true) done (s ∷ []) kept);
            runs = λ rest finish views end o runs. subst (λ ss. Runs disks ss finish m views end o) (sym (append_assoc done (s ∷ []) rest)) (before.1.runs (s ∷ rest) finish views end o (inl (after.0, after.2, after.3, runs)));
            short = λ rest o short. subst (λ ss. RunsShort disks ss m o) (sym (append_assoc done (s ∷ []) rest)) (before.1.short (s ∷ rest) o (inl (after.0, after.2, after.3, short)));
          },
        );
    faults = faults_trans (scene see old) (scene see mid) (scene see new) run.faults goes.faults;
  }

  -- by how the stage ended the command there is a moment
  moment_by : (s : Stage) (end : End) (mid new : View P ghosts) → GoesBy {T = Unit {0}} see (IsDone s disks) (Stops s disks) (Wants s) (Err (stops.Ended end)) mid new → (m : Moment) → IsMoment see mid m → (n : Moment) × IsMomentBy end see new n × AreLater m.counts n.counts × Stops s disks m end n
  moment_by s (ends.Done copied parts blocks) mid new goes = goes
  moment_by s (ends.Refused r) mid new goes = goes
  moment_by s (ends.Fault told device parts) mid new goes = goes
  moment_by s ends.ShelfFailed mid new goes = goes
  moment_by s ends.GroupLost mid new goes = goes
  moment_by s (ends.Lost parts) mid new goes = goes

  -- a stage ends the command
  pub run_ends : (done : List Stage) (s : Stage) (ss : List Stage) (end : End) (old mid new : View P ghosts) → HasRun see disks done old mid → StageGoes {T = Unit {0}} see s disks (Err (stops.Ended end)) mid new → HasEnded see disks (done ++ s ∷ ss) end old new
  run_ends done s ss end old mid new run goes = record {
    keeps = goes.keeps;
    goes = λ m is.
        let before = run.goes m is in
        let after = moment_by s end mid new goes.goes before.0 before.1.is in (
          after.0,
          record {
            is = after.1;
            later = later_trans m.counts before.0.counts after.0.counts before.1.later after.2;
            runs = λ finish. before.1.runs (s ∷ ss) finish [] end after.0 (inr (refl, after.2, after.3));
          },
        );
    faults = faults_trans (scene see old) (scene see mid) (scene see new) run.faults goes.faults;
    blamed = blamed_later end (scene see old) (scene see mid) (scene see new) run.faults goes.blamed;
  }

  -- memory was wanting in a stage
  pub run_rests : (done : List Stage) (s : Stage) (ss : List Stage) (old mid new : View P ghosts) → HasRun see disks done old mid → HasRested see (Wants s) mid new → HasRested see (RunsShort disks (done ++ s ∷ ss)) old new
  run_rests done s ss old mid new run goes = record {
    keeps = goes.keeps;
    goes = λ m is.
        let before = run.goes m is in
        let after = goes.goes before.0 before.1.is in
        (after.0, after.1, later_trans m.counts before.0.counts after.0.counts before.1.later after.2, before.1.short (s ∷ ss) after.0 (inr after.3));
    faults = faults_trans (scene see old) (scene see mid) (scene see new) run.faults goes.faults;
  }

  -- what a stage says of its answer
  pub stage_ends : (s : Stage) (result : Result (Unit {0}) Stop) (old new : View P ghosts) → StageGoes {T = Unit {0}} see s disks result old new → StageEnds see s disks result old new
  stage_ends s (Ok u) old new goes = goes
  stage_ends s (Err (stops.Ended end)) old new goes = goes
  stage_ends s (Err stops.OutOfMemory) old new goes = record { keeps = keeps_but_group see new goes.keeps; goes = goes.goes; faults = goes.faults }

  -- a stage that is not done
  pub run_stops : (done : List Stage) (s : Stage) (ss : List Stage) (stop : Stop) (old mid new : View P ghosts) → HasRun see disks done old mid → StageEnds see s disks (Err stop) mid new → StagesGo see disks (done ++ s ∷ ss) (Err stop) old new
  run_stops done s ss (stops.Ended end) old mid new run goes = run_ends done s ss end old mid new run goes
  run_stops done s ss stops.OutOfMemory old mid new run goes = run_rests done s ss old mid new run goes

-- a stage among those of a plan
pub split_stages : (stages : List Stage) (i : ℕ) (s : Stage) → take (i + 1) stages ≡ take i stages ++ s ∷ [] → stages ≡ take i stages ++ s ∷ drop (i + 1) stages
split_stages stages i s more = sym (take-append-drop (i + 1) stages) ∙ ap (λ xs. xs ++ drop (i + 1) stages) more ∙ append_assoc (take i stages) (s ∷ []) (drop (i + 1) stages)

pub fed_behind : (stages : List Stage) (i : ℕ) (s : Stage) → stages ≡ take i stages ++ s ∷ drop (i + 1) stages → AreFed [] stages → (is_first s ≡ true → take i stages ≡ []) × AllOf (IsAmong (recent (take i stages))) (wanted s)
fed_behind stages i s split fed = fed_at [] (take i stages) s (drop (i + 1) stages) (subst (AreFed []) split fed)
