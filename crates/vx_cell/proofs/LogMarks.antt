-- A device call that is the act answers it, with an effect that the core knows.
use Rattle.std.proofs.Common.{◌≡◌, ℕ, ◌+◌, ◌<◌, ◌≤◌, true, refl, sym, ◌∙◌, ap, subst, arith, List, length, Option, Some, None, Result, Ok, Err}
use Rattle.vx_base.specs.Blocks.{Contents, block_at, blocks_in}
use Rattle.vx_mask.specs.Mask.{has}
use Rattle.vx_mask.specs.Marks.{Marks}
use Rattle.vx_core.specs.declared.stage.Event.{Event}
use Rattle.vx_core.specs.declared.stage.Act.{Act}
use Rattle.vx_core.specs.declared.stage.Event.TheVariants.{Begin, Marked, MarkFailed, Unmarked, UnmarkFailed, Wrote, WriteFailed, Got, ReadFailed, Cut}
use Rattle.vx_core.specs.declared.stage.Act.TheVariants.{Mark, Unmark, WriteCall, WriteRegion, ReadCall, ReadRegion, Done, Skipped, Fault, Lost}
use Rattle.vx_core.specs.History.{Call, Pending, Reads, Writes}
use Rattle.vx_core.specs.Region.{Around, Disks, Answers, ReadGives, AreOf}
use Rattle.vx_runs.specs.declared.run.RunFault.{RunFault}
use Rattle.vx_runs.specs.declared.run.RunFault.TheVariants.{Failed, PowerLost}
use Rattle.vx_marks.specs.Log.{LogSeen, OnMarks, ChangesAt}
use Rattle.vx_cell.specs.Plexes.{PlexSeen, contents_of, blocks_of, AllTell, ChangesPlex}
use Rattle.vx_cell.specs.Acts.{Bytes, Carries, MarksBy, UnmarksBy, write_event, read_event, IsPlexWritten, IsPlexRead}
use Rattle.vx_cell.specs.Region.{Tells, marks_or, TidiesOthers}
use Rattle.vx_cell.specs.Running.{values_at}
use Rattle.vx_cell.proofs.Rises.{some_same}
use Rattle.vx_cell.proofs.Blocks.{IsCallOn, call_gets, call_may_get, region_gets, region_may_get, read_same, blocks_same, read_blocks, read_gives}

-- ---- marks

abbrev pub disks_with : (ℕ → Contents) → Marks → Disks
disks_with blocks marks = record { blocks = blocks; marks = marks }

module _ (f : ℕ → Contents) (old now : Marks) where
  mark_answers : (b : ℕ) (call : Pending) (source : ℕ) (event : Event) → MarksBy b (Some event) old now → Answers call source (Mark b) event (disks_with f old) (disks_with f now)
  mark_answers b call source Marked h = (tt, (refl, h))
  mark_answers b call source MarkFailed h = (tt, (refl, h))
  mark_answers b call source Cut h = (tt, (refl, h))
  mark_answers b call source (Begin job) h = absurd h
  mark_answers b call source Unmarked h = absurd h
  mark_answers b call source UnmarkFailed h = absurd h
  mark_answers b call source Wrote h = absurd h
  mark_answers b call source WriteFailed h = absurd h
  mark_answers b call source Got h = absurd h
  mark_answers b call source (ReadFailed k) h = absurd h

  unmark_answers : (b : ℕ) (call : Pending) (source : ℕ) (event : Event) → UnmarksBy b (Some event) old now → Answers call source (Unmark b) event (disks_with f old) (disks_with f now)
  unmark_answers b call source Unmarked h = (tt, (refl, h))
  unmark_answers b call source UnmarkFailed h = (tt, (refl, h))
  unmark_answers b call source Cut h = (tt, (refl, h))
  unmark_answers b call source (Begin job) h = absurd h
  unmark_answers b call source Marked h = absurd h
  unmark_answers b call source MarkFailed h = absurd h
  unmark_answers b call source Wrote h = absurd h
  unmark_answers b call source WriteFailed h = absurd h
  unmark_answers b call source Got h = absurd h
  unmark_answers b call source (ReadFailed k) h = absurd h

-- where a log tells, it goes on telling, and the region's marks have changed so
pub marks_here : (region : ℕ) (effect : Marks → Marks → Type 0) (old new : Option (ℕ → Marks)) → OnMarks (ChangesAt region effect) old new → Tells old → effect (marks_or old region) (marks_or new region)
marks_here region effect None new h t = absurd t
marks_here region effect (Some old) None h t = absurd h
marks_here region effect (Some old) (Some new) h t = h.here

pub marks_tell : (fact : (ℕ → Marks) → (ℕ → Marks) → Type 0) (old new : Option (ℕ → Marks)) → OnMarks fact old new → Tells old → Tells new
marks_tell fact None new h t = absurd t
marks_tell fact (Some old) None h t = absurd h
marks_tell fact (Some old) (Some new) h t = tt

pub marks_others : (region : ℕ) (effect : Marks → Marks → Type 0) (old new : Option (ℕ → Marks)) → OnMarks (ChangesAt region effect) old new → OnMarks (TidiesOthers region) old new
marks_others region effect None new h = tt
marks_others region effect (Some old) None h = absurd h
marks_others region effect (Some old) (Some new) h = h.elsewhere

-- ---- plexes

-- the bytes of the call, and what a rewriting writes
abbrev pub Fit : ℕ → ℕ → Act → Pending → ℕ → Bytes → List PlexSeen → Type 0
Fit start size (WriteCall k) call source io ps = (c : Call) × (call ≡ Writes c (values_at (start + io.at) io.from)) × IsCallOn c start io.at (blocks_in io.from) × (io.at + blocks_in io.from ≤ size)
Fit start size (WriteRegion k) call source io ps = (blocks_in io.scratch ≡ size) × ((i : ℕ) → i < size → block_at io.scratch i ≡ contents_of ps source i)
Fit start size (ReadCall offered) call source io ps = (c : Call) × (call ≡ Reads c) × IsCallOn c start io.at (blocks_in io.into) × (io.at + blocks_in io.into ≤ size)
Fit start size act call source io ps = Unit {0}

module _ (start size k : ℕ) (ps qs : List PlexSeen) (marks : Marks) (tell : AllTell ps) where
  write_call : (at : ℕ) (from : List ℕ) (call : Pending) (source : ℕ) (result : Result (Unit {0}) RunFault) (c : Call) → call ≡ Writes c (values_at (start + at) from) → IsCallOn c start at (blocks_in from) → at + blocks_in from ≤ size →
      ChangesPlex k (IsPlexWritten at from result) ps qs →
      Answers call source (WriteCall k) (write_event result) (disks_with (blocks_of start size ps) marks) (disks_with (blocks_of start size qs) marks)
  write_call at from call source (Ok u) c is on fits h =
      subst (λ (p : Pending). Answers p source (WriteCall k) Wrote (disks_with (blocks_of start size ps) marks) (disks_with (blocks_of start size qs) marks)) (sym is) (tt, (call_gets start size k at from ps qs tell c on fits h, refl))
  write_call at from call source (Err (Failed piece device)) c is on fits h =
      subst (λ (p : Pending). Answers p source (WriteCall k) WriteFailed (disks_with (blocks_of start size ps) marks) (disks_with (blocks_of start size qs) marks)) (sym is) (tt, (call_may_get start size k at from ps qs tell c on fits (Failed piece device) h, refl))
  write_call at from call source (Err PowerLost) c is on fits h =
      subst (λ (p : Pending). Answers p source (WriteCall k) Cut (disks_with (blocks_of start size ps) marks) (disks_with (blocks_of start size qs) marks)) (sym is) (tt, (call_may_get start size k at from ps qs tell c on fits PowerLost h, refl))

  write_region : (scratch : List ℕ) (call : Pending) (source : ℕ) (result : Result (Unit {0}) RunFault) → blocks_in scratch ≡ size → ((i : ℕ) → i < size → block_at scratch i ≡ contents_of ps source i) →
      ChangesPlex k (IsPlexWritten 0 scratch result) ps qs →
      Answers call source (WriteRegion k) (write_event result) (disks_with (blocks_of start size ps) marks) (disks_with (blocks_of start size qs) marks)
  write_region scratch call source (Ok u) full same c = (tt, (region_gets start size k scratch ps qs tell source full same c, refl))
  write_region scratch call source (Err (Failed piece device)) full same c = (tt, (region_may_get start size k scratch ps qs tell source full same (Failed piece device) c, refl))
  write_region scratch call source (Err PowerLost) full same c = (tt, (region_may_get start size k scratch ps qs tell source full same PowerLost c, refl))

  same_disks : contents_of qs ≡ contents_of ps → disks_with (blocks_of start size qs) marks ≡ disks_with (blocks_of start size ps) marks
  same_disks e = ap (λ (f : ℕ → Contents). disks_with f marks) (blocks_same start size ps qs e)

  read_call : (offered at : ℕ) (into : List ℕ) (call : Pending) (source : ℕ) (result : Result (Unit {0}) RunFault) → has offered k ≡ true →
      ChangesPlex k (IsPlexRead at into result) ps qs →
      Answers call source (ReadCall offered) (read_event k result) (disks_with (blocks_of start size ps) marks) (disks_with (blocks_of start size qs) marks)
  read_call offered at into call source (Ok u) there c = (tt, same_disks (read_same k at into (Ok u) ps qs c))
  read_call offered at into call source (Err (Failed piece device)) there c = (there, same_disks (read_same k at into (Err (Failed piece device)) ps qs c))
  read_call offered at into call source (Err PowerLost) there c = (tt, same_disks (read_same k at into (Err PowerLost) ps qs c))

  read_region : (into : List ℕ) (call : Pending) (source : ℕ) (result : Result (Unit {0}) RunFault) →
      ChangesPlex k (IsPlexRead 0 into result) ps qs →
      Answers call source (ReadRegion k) (read_event k result) (disks_with (blocks_of start size ps) marks) (disks_with (blocks_of start size qs) marks)
  read_region into call source (Ok u) c = (tt, same_disks (read_same k 0 into (Ok u) ps qs c))
  read_region into call source (Err (Failed piece device)) c = (refl, same_disks (read_same k 0 into (Err (Failed piece device)) ps qs c))
  read_region into call source (Err PowerLost) c = (tt, same_disks (read_same k 0 into (Err PowerLost) ps qs c))

-- ---- all acts

module _ (region start size : ℕ) (ps qs : List PlexSeen) (log log' : LogSeen) (tell : AllTell ps) (tell_log : Tells log.told) where
  abbrev before : Disks
  before = disks_with (blocks_of start size ps) (marks_or log.told region)

  abbrev after : Disks
  after = disks_with (blocks_of start size qs) (marks_or log'.told region)

  -- only the plexes changed
  by_plexes : (call : Pending) (source : ℕ) (act : Act) (event : Event) → log' ≡ log →
      Answers call source act event before (disks_with (blocks_of start size qs) (marks_or log.told region)) → Answers call source act event before after
  by_plexes call source act event same h = subst (λ (l : LogSeen). Answers call source act event before (disks_with (blocks_of start size qs) (marks_or l.told region))) (sym same) h

  by_log : (call : Pending) (source : ℕ) (act : Act) (event : Event) → qs ≡ ps →
      Answers call source act event before (disks_with (blocks_of start size ps) (marks_or log'.told region)) → Answers call source act event before after
  by_log call source act event same h = subst (λ (xs : List PlexSeen). Answers call source act event before (disks_with (blocks_of start size xs) (marks_or log'.told region))) (sym same) h

  by_event : (call : Pending) (source : ℕ) (act : Act) (event found : Event) → Some event ≡ Some found → Answers call source act found before after → Answers call source act event before after
  by_event call source act event found e h = subst (λ (x : Event). Answers call source act x before after) (sym (some_same e)) h

  pub carried_answers : (act : Act) (event : Event) (io io' : Bytes) (call : Pending) (source : ℕ) → Carries region act (Some event) io ps log io' qs log' → Fit start size act call source io ps →
      Answers call source act event before after
  carried_answers (Mark b) event io io' call source h fit =
      by_log call source (Mark b) event h.1 (mark_answers (blocks_of start size ps) _ _ b call source event (marks_here region (MarksBy b (Some event)) log.told log'.told h.0.told tell_log))
  carried_answers (Unmark b) event io io' call source h fit =
      by_log call source (Unmark b) event h.1 (unmark_answers (blocks_of start size ps) _ _ b call source event (marks_here region (UnmarksBy b (Some event)) log.told log'.told h.0.told tell_log))
  carried_answers (WriteCall k) event io io' call source h fit =
      by_event call source (WriteCall k) event _ h.0.answers (by_plexes call source (WriteCall k) _ h.1
      (write_call start size k ps qs (marks_or log.told region) tell io.at io.from call source h.0.result fit.0 fit.1 fit.2 fit.3 h.0.changes))
  carried_answers (WriteRegion k) event io io' call source h fit =
      by_event call source (WriteRegion k) event _ h.0.answers (by_plexes call source (WriteRegion k) _ h.1
      (write_region start size k ps qs (marks_or log.told region) tell io.scratch call source h.0.result fit.0 fit.1 h.0.changes))
  carried_answers (ReadCall offered) event io io' call source h fit =
      by_event call source (ReadCall offered) event _ h.2.answers (by_plexes call source (ReadCall offered) _ h.3
      (read_call start size h.0 ps qs (marks_or log.told region) tell offered io.at io'.into call source h.2.result h.1 h.2.changes))
  carried_answers (ReadRegion k) event io io' call source h fit =
      by_event call source (ReadRegion k) event _ h.0.answers (by_plexes call source (ReadRegion k) _ h.1
      (read_region start size k ps qs (marks_or log.told region) tell io'.scratch call source h.0.result h.0.changes))
  carried_answers Done event io io' call source h fit = absurd h
  carried_answers Skipped event io io' call source h fit = absurd h
  carried_answers Fault event io io' call source h fit = absurd h
  carried_answers Lost event io io' call source h fit = absurd h

  gives_at : (offered k at : ℕ) (into : List ℕ) (a : Around) (c : Call) (result : Result (Unit {0}) RunFault) → a.disks ≡ before → a.pending ≡ Reads c → has offered k ≡ true → IsCallOn c start at (blocks_in into) →
      at + blocks_in into ≤ size → ChangesPlex k (IsPlexRead at into result) ps qs → ReadGives a (ReadCall offered) (read_event k result) (values_at (start + at) into)
  gives_at offered k at into a c (Ok u) disks is there on fits h =
      let gives : AreOf (Reads c) (blocks_of start size ps k) (values_at (start + at) into) = read_gives start size k at into ps c on fits (read_blocks k at into ps qs tell h) in
      (k, there, subst (λ (d : Disks). AreOf a.pending (d.blocks k) (values_at (start + at) into)) (sym disks) (subst (λ (p : Pending). AreOf p (blocks_of start size ps k) (values_at (start + at) into)) (sym is) gives))
  gives_at offered k at into a c (Err (Failed piece device)) disks is there on fits h = tt
  gives_at offered k at into a c (Err PowerLost) disks is there on fits h = tt

  pub carried_gives : (act : Act) (event : Event) (io io' : Bytes) (call : Pending) (source : ℕ) (a : Around) → a.disks ≡ before → a.pending ≡ call → Carries region act (Some event) io ps log io' qs log' →
      Fit start size act call source io ps → io'.at ≡ io.at → length io'.into ≡ length io.into → ReadGives a act event (values_at (start + io'.at) io'.into)
  carried_gives (ReadCall offered) event io io' call source a disks is h fit at len =
      let on : IsCallOn fit.0 start io.at (blocks_in io'.into) = record { start_is = fit.2.start_is; count_is = fit.2.count_is ∙ same_blocks io.into io'.into len } in
      let fits : io.at + blocks_in io'.into ≤ size = let e = same_blocks io.into io'.into len in let f = fit.3 in omega (arith, e, f) in
      subst (λ (x : Event). ReadGives a (ReadCall offered) x (values_at (start + io'.at) io'.into)) (sym (some_same h.2.answers))
      (subst (λ (n : ℕ). ReadGives a (ReadCall offered) (read_event h.0 h.2.result) (values_at (start + n) io'.into)) (sym at)
      (gives_at offered h.0 io.at io'.into a fit.0 h.2.result disks (is ∙ fit.1) h.1 on fits h.2.changes))
    where
      same_blocks : (x y : List ℕ) → length y ≡ length x → blocks_in x ≡ blocks_in y
      same_blocks x y e = omega (arith, e)
  carried_gives (Mark b) event io io' call source a disks is h fit at len = tt
  carried_gives (Unmark b) event io io' call source a disks is h fit at len = tt
  carried_gives (WriteCall k) event io io' call source a disks is h fit at len = tt
  carried_gives (WriteRegion k) event io io' call source a disks is h fit at len = tt
  carried_gives (ReadRegion k) event io io' call source a disks is h fit at len = tt
  carried_gives Done event io io' call source a disks is h fit at len = absurd h
  carried_gives Skipped event io io' call source a disks is h fit at len = absurd h
  carried_gives Fault event io io' call source a disks is h fit at len = absurd h
  carried_gives Lost event io io' call source a disks is h fit at len = absurd h
