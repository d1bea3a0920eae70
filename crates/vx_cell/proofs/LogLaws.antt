-- What a device call keeps, and what its failure shows.
use Rattle.std.proofs.Common.{◌≡◌, ℕ, ◌≤◌, Bool, IsTrue, true, false, refl, sym, ◌∙◌, subst, inl, inr, arith, ◌⊎◌, List, Option, Some, None, Result, Ok, Err}
use Rattle.std.specs.Prelude.{◌==◌, ◌||◌}
use Rattle.vx_mask.specs.Mask.{has}
use Rattle.vx_mask.specs.Marks.{Marks}
use Rattle.vx_mask.proofs.MarkLemmas.{tidy_same, tidy_more}
use Rattle.vx_core.specs.declared.stage.Event.{Event}
use Rattle.vx_core.specs.declared.stage.Act.{Act}
use Rattle.vx_core.specs.declared.stage.Event.TheVariants.{Begin, Marked, MarkFailed, Unmarked, UnmarkFailed, Wrote, WriteFailed, Got, ReadFailed, Cut}
use Rattle.vx_core.specs.declared.stage.Act.TheVariants.{Mark, Unmark, WriteCall, WriteRegion, ReadCall, ReadRegion, Done, Skipped, Fault, Lost}
use Rattle.vx_core.specs.Region.{MayAnswer}
use Rattle.vx_core.specs.Causes.{Faults, Tells as TellsFault, HasFailed}
use Rattle.vx_marks.specs.Log.{LogSeen, KeepsLog, OnMarks}
use Rattle.vx_runs.specs.declared.run.RunFault.{RunFault}
use Rattle.vx_runs.specs.declared.run.RunFault.TheVariants.{Failed, PowerLost}
use Rattle.vx_cell.specs.Plexes.{PlexSeen, KeepPlexes, ChangesPlex, PlexRose, SomePieceCut}
use Rattle.vx_cell.specs.Acts.{Bytes, Carries, MarksBy, UnmarksBy, LogCause, write_event, read_event, IsPlexWritten, IsPlexRead}
use Rattle.vx_cell.specs.Region.{LogRose, TidiesOthers, Tells}
use Rattle.vx_cell.specs.Running.{plex_fails, log_fails}
use Rattle.vx_cell.proofs.Changes.{same_number, same_test, change_keeps, change_cut, keep_same}
use Rattle.vx_cell.proofs.Rises.{some_same, write_rose, read_rose}
use Rattle.vx_cell.proofs.Blocks.{keeps_written, keeps_read}
use Rattle.vx_cell.proofs.LogMarks.{marks_others, marks_tell}

pub log_same : (l : LogSeen) → KeepsLog l l
log_same l = record { there = refl; has_region = refl; maps = refl; copies = refl; lent = refl; faults = λ c d. omega arith; cut = λ c. c }

le_more : (a b c : ℕ) → a ≤ b → b ≤ c → a ≤ c
le_more a b c h k = omega arith

pub log_more : (a b c : LogSeen) → KeepsLog a b → KeepsLog b c → KeepsLog a c
log_more a b c h k =
    record {
      there = k.there ∙ h.there;
      has_region = k.has_region ∙ h.has_region;
      maps = k.maps ∙ h.maps;
      copies = k.copies ∙ h.copies;
      lent = k.lent ∙ h.lent;
      faults = λ n d. le_more (a.faults n d) (b.faults n d) (c.faults n d) (h.faults n d) (k.faults n d);
      cut = λ x. k.cut (h.cut x);
    }

pub others_same : (region : ℕ) (told : Option (ℕ → Marks)) → OnMarks (TidiesOthers region) told told
others_same region None = tt
others_same region (Some marks) = λ r apart. tidy_same (marks r)

pub others_more : (region : ℕ) (a b c : Option (ℕ → Marks)) → OnMarks (TidiesOthers region) a b → OnMarks (TidiesOthers region) b c → OnMarks (TidiesOthers region) a c
others_more region None b c h k = tt
others_more region (Some a) None c h k = absurd h
others_more region (Some a) (Some b) None h k = absurd k
others_more region (Some a) (Some b) (Some c) h k = λ r apart. tidy_more (a r) (b r) (c r) (h r apart) (k r apart)

-- ---- what each act keeps

written_keeps : (at : ℕ) (bytes : List ℕ) (result : Result (Unit {0}) RunFault) (k : ℕ) (ps qs : List PlexSeen) → ChangesPlex k (IsPlexWritten at bytes result) ps qs → KeepPlexes ps qs
written_keeps at bytes result k ps qs c = change_keeps k (IsPlexWritten at bytes result) ps qs (keeps_written at bytes result) c

read_keeps : (at : ℕ) (into : List ℕ) (result : Result (Unit {0}) RunFault) (k : ℕ) (ps qs : List PlexSeen) → ChangesPlex k (IsPlexRead at into result) ps qs → KeepPlexes ps qs
read_keeps at into result k ps qs c = change_keeps k (IsPlexRead at into result) ps qs (keeps_read at into result) c

module _ (region : ℕ) (ps qs : List PlexSeen) (log log' : LogSeen) (io io' : Bytes) where
  pub carried_plexes : (act : Act) (answer : Option Event) → Carries region act answer io ps log io' qs log' → KeepPlexes ps qs
  carried_plexes (Mark b) answer h = subst (λ (xs : List PlexSeen). KeepPlexes ps xs) (sym h.1) (keep_same ps)
  carried_plexes (Unmark b) answer h = subst (λ (xs : List PlexSeen). KeepPlexes ps xs) (sym h.1) (keep_same ps)
  carried_plexes (WriteCall k) answer h = written_keeps io.at io.from h.0.result k ps qs h.0.changes
  carried_plexes (WriteRegion k) answer h = written_keeps 0 io.scratch h.0.result k ps qs h.0.changes
  carried_plexes (ReadCall offered) answer h = read_keeps io.at io'.into h.2.result h.0 ps qs h.2.changes
  carried_plexes (ReadRegion k) answer h = read_keeps 0 io'.scratch h.0.result k ps qs h.0.changes
  carried_plexes Done answer h = absurd h
  carried_plexes Skipped answer h = absurd h
  carried_plexes Fault answer h = absurd h
  carried_plexes Lost answer h = absurd h

  log_kept : log' ≡ log → KeepsLog log log'
  log_kept e = subst (λ (l : LogSeen). KeepsLog log l) (sym e) (log_same log)

  pub carried_log : (act : Act) (answer : Option Event) → Carries region act answer io ps log io' qs log' → KeepsLog log log'
  carried_log (Mark b) answer h = h.0.kept
  carried_log (Unmark b) answer h = h.0.kept
  carried_log (WriteCall k) answer h = log_kept h.1
  carried_log (WriteRegion k) answer h = log_kept h.1
  carried_log (ReadCall offered) answer h = log_kept h.3
  carried_log (ReadRegion k) answer h = log_kept h.1
  carried_log Done answer h = absurd h
  carried_log Skipped answer h = absurd h
  carried_log Fault answer h = absurd h
  carried_log Lost answer h = absurd h

  told_kept : log' ≡ log → OnMarks (TidiesOthers region) log.told log'.told
  told_kept e = subst (λ (l : LogSeen). OnMarks (TidiesOthers region) log.told l.told) (sym e) (others_same region log.told)

  pub carried_others : (act : Act) (answer : Option Event) → Carries region act answer io ps log io' qs log' → OnMarks (TidiesOthers region) log.told log'.told
  carried_others (Mark b) answer h = marks_others region (MarksBy b answer) log.told log'.told h.0.told
  carried_others (Unmark b) answer h = marks_others region (UnmarksBy b answer) log.told log'.told h.0.told
  carried_others (WriteCall k) answer h = told_kept h.1
  carried_others (WriteRegion k) answer h = told_kept h.1
  carried_others (ReadCall offered) answer h = told_kept h.3
  carried_others (ReadRegion k) answer h = told_kept h.1
  carried_others Done answer h = absurd h
  carried_others Skipped answer h = absurd h
  carried_others Fault answer h = absurd h
  carried_others Lost answer h = absurd h

  pub carried_tells : (act : Act) (answer : Option Event) → Carries region act answer io ps log io' qs log' → Tells log.told → Tells log'.told
  carried_tells act answer h t = marks_tell (TidiesOthers region) log.told log'.told (carried_others act answer h) t

-- ---- events

abbrev pub with_failures : Faults → Act → Event → Faults
with_failures f act event = record { plex = λ j. f.plex j || plex_fails act event j; log = f.log || log_fails act event }

or_right : (x y : Bool) → y ≡ true → (x || y) ≡ true
or_right true y e = refl
or_right false y e = e

or_left : (x y : Bool) → x ≡ true → (x || y) ≡ true
or_left true y e = refl
or_left false y e = cc

pub or_cases : (x y : Bool) → (x || y) ≡ true → (x ≡ true) ⊎ (y ≡ true)
or_cases true y e = inl refl
or_cases false y e = inr e

-- the results of pieces as events
write_may : (k : ℕ) (result : Result (Unit {0}) RunFault) → MayAnswer (WriteCall k) (write_event result) × MayAnswer (WriteRegion k) (write_event result)
write_may k (Ok u) = (tt, tt)
write_may k (Err (Failed piece device)) = (tt, tt)
write_may k (Err PowerLost) = (tt, tt)

read_may : (offered k : ℕ) (result : Result (Unit {0}) RunFault) → has offered k ≡ true → MayAnswer (ReadCall offered) (read_event k result)
read_may offered k (Ok u) there = tt
read_may offered k (Err (Failed piece device)) there = there
read_may offered k (Err PowerLost) there = tt

read_may_region : (k : ℕ) (result : Result (Unit {0}) RunFault) → MayAnswer (ReadRegion k) (read_event k result)
read_may_region k (Ok u) = tt
read_may_region k (Err (Failed piece device)) = refl
read_may_region k (Err PowerLost) = tt

module _ (region : ℕ) (ps qs : List PlexSeen) (log log' : LogSeen) (io io' : Bytes) where
  by_event : (act : Act) (event found : Event) → Some event ≡ Some found → MayAnswer act found → MayAnswer act event
  by_event act event found e h = subst (λ (x : Event). MayAnswer act x) (sym (some_same e)) h

  pub carried_may : (act : Act) (event : Event) → Carries region act (Some event) io ps log io' qs log' → MayAnswer act event
  carried_may (Mark b) event h = h.0.fits
  carried_may (Unmark b) event h = h.0.fits
  carried_may (WriteCall k) event h = by_event (WriteCall k) event _ h.0.answers (write_may k h.0.result).0
  carried_may (WriteRegion k) event h = by_event (WriteRegion k) event _ h.0.answers (write_may k h.0.result).1
  carried_may (ReadCall offered) event h = by_event (ReadCall offered) event _ h.2.answers (read_may offered h.0 h.2.result h.1)
  carried_may (ReadRegion k) event h = by_event (ReadRegion k) event _ h.0.answers (read_may_region k h.0.result)
  carried_may Done event h = absurd h
  carried_may Skipped event h = absurd h
  carried_may Fault event h = absurd h
  carried_may Lost event h = absurd h

-- ---- the causes

-- what the call's answer shows: a count that rose, or that power is off
abbrev pub Shows : Act → Event → List PlexSeen → LogSeen → List PlexSeen → LogSeen → Type 0
Shows act event ps log qs log' =
    ((j : ℕ) → plex_fails act event j ≡ true → PlexRose j ps qs) × (log_fails act event ≡ true → LogRose log log') × (event ≡ Cut → SomePieceCut qs ⊎ IsTrue log'.cut)

none_fails : {A : Type 0} → false ≡ true → A
none_fails e = cc

writes_rose : (k at piece device : ℕ) (bytes : List ℕ) (ps qs : List PlexSeen) → ChangesPlex k (IsPlexWritten at bytes (Err (Failed piece device))) ps qs → (j : ℕ) → (k == j) ≡ true → PlexRose j ps qs
writes_rose k at piece device bytes ps qs c j e = subst (λ (n : ℕ). PlexRose n ps qs) (same_number k j e) (piece, device, write_rose k at piece device bytes ps qs c)

reads_rose : (k at piece device : ℕ) (into : List ℕ) (ps qs : List PlexSeen) → ChangesPlex k (IsPlexRead at into (Err (Failed piece device))) ps qs → (j : ℕ) → (k == j) ≡ true → PlexRose j ps qs
reads_rose k at piece device into ps qs c j e = subst (λ (n : ℕ). PlexRose n ps qs) (same_number k j e) (piece, device, read_rose k at piece device into ps qs c)

no_wrote : {A : Type 0} → Wrote ≡ Cut → A
no_wrote e = cc

module _ (ps qs : List PlexSeen) (log log' : LogSeen) where
  shows_write_call : (k at : ℕ) (bytes : List ℕ) (result : Result (Unit {0}) RunFault) → ChangesPlex k (IsPlexWritten at bytes result) ps qs → Shows (WriteCall k) (write_event result) ps log qs log'
  shows_write_call k at bytes (Ok u) c = (λ j e. none_fails e, λ e. none_fails e, λ e. no_wrote e)
  shows_write_call k at bytes (Err (Failed piece device)) c = (writes_rose k at piece device bytes ps qs c, λ e. none_fails e, λ e. cc)
  shows_write_call k at bytes (Err PowerLost) c = (λ j e. none_fails e, λ e. none_fails e, λ e. inl (change_cut k (IsPlexWritten at bytes (Err PowerLost)) ps qs (λ p q h. h.run.cause) c))

  shows_write_region : (k at : ℕ) (bytes : List ℕ) (result : Result (Unit {0}) RunFault) → ChangesPlex k (IsPlexWritten at bytes result) ps qs → Shows (WriteRegion k) (write_event result) ps log qs log'
  shows_write_region k at bytes (Ok u) c = (λ j e. none_fails e, λ e. none_fails e, λ e. no_wrote e)
  shows_write_region k at bytes (Err (Failed piece device)) c = (writes_rose k at piece device bytes ps qs c, λ e. none_fails e, λ e. cc)
  shows_write_region k at bytes (Err PowerLost) c = (λ j e. none_fails e, λ e. none_fails e, λ e. inl (change_cut k (IsPlexWritten at bytes (Err PowerLost)) ps qs (λ p q h. h.run.cause) c))

  shows_read_call : (offered k at : ℕ) (into : List ℕ) (result : Result (Unit {0}) RunFault) → ChangesPlex k (IsPlexRead at into result) ps qs → Shows (ReadCall offered) (read_event k result) ps log qs log'
  shows_read_call offered k at into (Ok u) c = (λ j e. none_fails e, λ e. none_fails e, λ e. cc)
  shows_read_call offered k at into (Err (Failed piece device)) c = (reads_rose k at piece device into ps qs c, λ e. none_fails e, λ e. cc)
  shows_read_call offered k at into (Err PowerLost) c = (λ j e. none_fails e, λ e. none_fails e, λ e. inl (change_cut k (IsPlexRead at into (Err PowerLost)) ps qs (λ p q h. h.run.cause) c))

  shows_read_region : (k at : ℕ) (into : List ℕ) (result : Result (Unit {0}) RunFault) → ChangesPlex k (IsPlexRead at into result) ps qs → Shows (ReadRegion k) (read_event k result) ps log qs log'
  shows_read_region k at into (Ok u) c = (λ j e. none_fails e, λ e. none_fails e, λ e. cc)
  shows_read_region k at into (Err (Failed piece device)) c = (reads_rose k at piece device into ps qs c, λ e. none_fails e, λ e. cc)
  shows_read_region k at into (Err PowerLost) c = (λ j e. none_fails e, λ e. none_fails e, λ e. inl (change_cut k (IsPlexRead at into (Err PowerLost)) ps qs (λ p q h. h.run.cause) c))

  shows_mark : (b : ℕ) (event : Event) → MayAnswer (Mark b) event → LogCause (Some event) log log' → Shows (Mark b) event ps log qs log'
  shows_mark b (Begin job) may cause = absurd may
  shows_mark b Marked may cause = (λ i h. none_fails h, λ h. none_fails h, λ h. cc)
  shows_mark b MarkFailed may cause = (λ i h. none_fails h, λ h. cause, λ h. cc)
  shows_mark b Unmarked may cause = absurd may
  shows_mark b UnmarkFailed may cause = absurd may
  shows_mark b Wrote may cause = absurd may
  shows_mark b WriteFailed may cause = absurd may
  shows_mark b Got may cause = absurd may
  shows_mark b (ReadFailed j) may cause = absurd may
  shows_mark b Cut may cause = (λ i h. none_fails h, λ h. none_fails h, λ h. inr cause)

  shows_unmark : (b : ℕ) (event : Event) → MayAnswer (Unmark b) event → LogCause (Some event) log log' → Shows (Unmark b) event ps log qs log'
  shows_unmark b (Begin job) may cause = absurd may
  shows_unmark b Marked may cause = absurd may
  shows_unmark b MarkFailed may cause = absurd may
  shows_unmark b Unmarked may cause = (λ i h. none_fails h, λ h. none_fails h, λ h. cc)
  shows_unmark b UnmarkFailed may cause = (λ i h. none_fails h, λ h. cause, λ h. cc)
  shows_unmark b Wrote may cause = absurd may
  shows_unmark b WriteFailed may cause = absurd may
  shows_unmark b Got may cause = absurd may
  shows_unmark b (ReadFailed j) may cause = absurd may
  shows_unmark b Cut may cause = (λ i h. none_fails h, λ h. none_fails h, λ h. inr cause)

module _ (region : ℕ) (ps qs : List PlexSeen) (log log' : LogSeen) (io io' : Bytes) where
  shown_by : (act : Act) (event found : Event) → Some event ≡ Some found → Shows act found ps log qs log' → Shows act event ps log qs log'
  shown_by act event found e h = subst (λ (x : Event). Shows act x ps log qs log') (sym (some_same e)) h

  pub carried_shows : (act : Act) (event : Event) → Carries region act (Some event) io ps log io' qs log' → Shows act event ps log qs log'
  carried_shows (Mark b) event h = shows_mark ps qs log log' b event h.0.fits h.0.cause
  carried_shows (Unmark b) event h = shows_unmark ps qs log log' b event h.0.fits h.0.cause
  carried_shows (WriteCall k) event h = shown_by (WriteCall k) event _ h.0.answers (shows_write_call ps qs log log' k io.at io.from h.0.result h.0.changes)
  carried_shows (WriteRegion k) event h = shown_by (WriteRegion k) event _ h.0.answers (shows_write_region ps qs log log' k 0 io.scratch h.0.result h.0.changes)
  carried_shows (ReadCall offered) event h = shown_by (ReadCall offered) event _ h.2.answers (shows_read_call ps qs log log' offered h.0 io.at io'.into h.2.result h.2.changes)
  carried_shows (ReadRegion k) event h = shown_by (ReadRegion k) event _ h.0.answers (shows_read_region ps qs log log' k 0 io'.scratch h.0.result h.0.changes)
  carried_shows Done event h = absurd h
  carried_shows Skipped event h = absurd h
  carried_shows Fault event h = absurd h
  carried_shows Lost event h = absurd h

tells_failure : (act : Act) (event : Event) (f : Faults) → MayAnswer act event → TellsFault act event (with_failures f act event)
tells_failure (Mark b) (Begin job) f may = tt
tells_failure (Mark b) Marked f may = tt
tells_failure (Mark b) MarkFailed f may = or_right f.log true refl
tells_failure (Mark b) Unmarked f may = tt
tells_failure (Mark b) UnmarkFailed f may = tt
tells_failure (Mark b) Wrote f may = tt
tells_failure (Mark b) WriteFailed f may = tt
tells_failure (Mark b) Got f may = tt
tells_failure (Mark b) (ReadFailed j) f may = absurd may
tells_failure (Mark b) Cut f may = tt
tells_failure (Unmark b) (Begin job) f may = tt
tells_failure (Unmark b) Marked f may = tt
tells_failure (Unmark b) MarkFailed f may = tt
tells_failure (Unmark b) Unmarked f may = tt
tells_failure (Unmark b) UnmarkFailed f may = tt
tells_failure (Unmark b) Wrote f may = tt
tells_failure (Unmark b) WriteFailed f may = tt
tells_failure (Unmark b) Got f may = tt
tells_failure (Unmark b) (ReadFailed j) f may = absurd may
tells_failure (Unmark b) Cut f may = tt
tells_failure (WriteCall k) (Begin job) f may = tt
tells_failure (WriteCall k) Marked f may = tt
tells_failure (WriteCall k) MarkFailed f may = tt
tells_failure (WriteCall k) Unmarked f may = tt
tells_failure (WriteCall k) UnmarkFailed f may = tt
tells_failure (WriteCall k) Wrote f may = tt
tells_failure (WriteCall k) WriteFailed f may = or_right (f.plex k) (k == k) (same_test k)
tells_failure (WriteCall k) Got f may = tt
tells_failure (WriteCall k) (ReadFailed j) f may = absurd may
tells_failure (WriteCall k) Cut f may = tt
tells_failure (WriteRegion k) (Begin job) f may = tt
tells_failure (WriteRegion k) Marked f may = tt
tells_failure (WriteRegion k) MarkFailed f may = tt
tells_failure (WriteRegion k) Unmarked f may = tt
tells_failure (WriteRegion k) UnmarkFailed f may = tt
tells_failure (WriteRegion k) Wrote f may = tt
tells_failure (WriteRegion k) WriteFailed f may = or_right (f.plex k) (k == k) (same_test k)
tells_failure (WriteRegion k) Got f may = tt
tells_failure (WriteRegion k) (ReadFailed j) f may = absurd may
tells_failure (WriteRegion k) Cut f may = tt
tells_failure (ReadCall offered) (Begin job) f may = tt
tells_failure (ReadCall offered) Marked f may = tt
tells_failure (ReadCall offered) MarkFailed f may = tt
tells_failure (ReadCall offered) Unmarked f may = tt
tells_failure (ReadCall offered) UnmarkFailed f may = tt
tells_failure (ReadCall offered) Wrote f may = tt
tells_failure (ReadCall offered) WriteFailed f may = tt
tells_failure (ReadCall offered) Got f may = tt
tells_failure (ReadCall offered) (ReadFailed j) f may = or_right (f.plex j) (j == j) (same_test j)
tells_failure (ReadCall offered) Cut f may = tt
tells_failure (ReadRegion k) (Begin job) f may = tt
tells_failure (ReadRegion k) Marked f may = tt
tells_failure (ReadRegion k) MarkFailed f may = tt
tells_failure (ReadRegion k) Unmarked f may = tt
tells_failure (ReadRegion k) UnmarkFailed f may = tt
tells_failure (ReadRegion k) Wrote f may = tt
tells_failure (ReadRegion k) WriteFailed f may = tt
tells_failure (ReadRegion k) Got f may = tt
tells_failure (ReadRegion k) (ReadFailed j) f may = or_right (f.plex j) (j == j) (same_test j)
tells_failure (ReadRegion k) Cut f may = tt
tells_failure Done (Begin job) f may = tt
tells_failure Done Marked f may = tt
tells_failure Done MarkFailed f may = tt
tells_failure Done Unmarked f may = tt
tells_failure Done UnmarkFailed f may = tt
tells_failure Done Wrote f may = tt
tells_failure Done WriteFailed f may = tt
tells_failure Done Got f may = tt
tells_failure Done (ReadFailed j) f may = absurd may
tells_failure Done Cut f may = tt
tells_failure Skipped (Begin job) f may = tt
tells_failure Skipped Marked f may = tt
tells_failure Skipped MarkFailed f may = tt
tells_failure Skipped Unmarked f may = tt
tells_failure Skipped UnmarkFailed f may = tt
tells_failure Skipped Wrote f may = tt
tells_failure Skipped WriteFailed f may = tt
tells_failure Skipped Got f may = tt
tells_failure Skipped (ReadFailed j) f may = absurd may
tells_failure Skipped Cut f may = tt
tells_failure Fault (Begin job) f may = tt
tells_failure Fault Marked f may = tt
tells_failure Fault MarkFailed f may = tt
tells_failure Fault Unmarked f may = tt
tells_failure Fault UnmarkFailed f may = tt
tells_failure Fault Wrote f may = tt
tells_failure Fault WriteFailed f may = tt
tells_failure Fault Got f may = tt
tells_failure Fault (ReadFailed j) f may = absurd may
tells_failure Fault Cut f may = tt
tells_failure Lost (Begin job) f may = tt
tells_failure Lost Marked f may = tt
tells_failure Lost MarkFailed f may = tt
tells_failure Lost Unmarked f may = tt
tells_failure Lost UnmarkFailed f may = tt
tells_failure Lost Wrote f may = tt
tells_failure Lost WriteFailed f may = tt
tells_failure Lost Got f may = tt
tells_failure Lost (ReadFailed j) f may = absurd may
tells_failure Lost Cut f may = tt

pub has_failed : (act : Act) (event : Event) (f : Faults) → MayAnswer act event → HasFailed act event f (with_failures f act event)
has_failed act event f may =
    record { plex = λ k h. or_left (f.plex k) (plex_fails act event k) h; log = λ h. or_left f.log (log_fails act event) h; told = tells_failure act event f may }
