-- What is noted of a region by its course, and what its new entries tell.
use Rattle.std.proofs.Common.{◌≡◌, ◌⊎◌, ℕ, Bool, true, false, refl, sym, ◌∙◌, ap, inl, inr, arith, List, [], ◌∷◌, ◌++◌}
use Rattle.std.specs.Prelude.{◌==◌, ◌||◌}
use Rattle.std.proofs.lemmas.List.{append_assoc, append_cancel_right}
use Rattle.std.proofs.lemmas.List.Folds.{list_any-append}
use Rattle.std.proofs.lemmas.Bool.Decides.{nat_tests}
use Rattle.vx_base.specs.Blocks.{Contents}
use Rattle.vx_mask.proofs.Tests.{or_cases}
use Rattle.vx_life.specs.declared.EntryKind.TheVariants as kinds
use Rattle.vx_life.specs.Entry.{Entry}
use Rattle.vx_core.specs.declared.stage.Act.{Act}
use Rattle.vx_core.specs.declared.stage.Event.{Event}
use Rattle.vx_core.specs.declared.stage.Phase.{Phase}
use Rattle.vx_core.specs.declared.stage.Stage.{Stage}
use Rattle.vx_core.specs.declared.stage.Act.TheVariants.{WriteCall, WriteRegion, Done, Fault, Lost}
use Rattle.vx_core.specs.declared.stage.Event.TheVariants.{WriteFailed}
use Rattle.vx_core.specs.declared.stage.Phase.TheVariants.{Settled, Unsettled, Dead, Busy}
use Rattle.vx_core.specs.History.{NoCall, Pending, Reads, Writes, entry_of, no_values}
use Rattle.vx_core.specs.Region.{RegionState, entries_after, pending_at}
use Rattle.vx_core.specs.Recovery.{region_after}
use Rattle.vx_core.specs.Schedule.{Comes, Elsewhere, Happening, happens}
use Rattle.vx_core.specs.Table.{next_of}
use Rattle.vx_core_laws.specs.Tracking.{Notes, ends_done, ends_torn, fails_at, fails_in, is_torn, is_write, no_notes, notes_after, notes_of, was_torn, was_written}
use Rattle.vx_cell.specs.Plexes.{PlexRose}
use Rattle.vx_cell.specs.Region.{RegionSeen, state_of}
use Rattle.vx_cell.specs.Running.{act_of, plex_fails}
use Rattle.vx_volume.specs.Laws.{EachCourseIsNoted, ShowFailures}

-- ---- entries

-- the entries with which an act ends a call
pub record EndsWith (act : Act) (call : Pending) (entries after : List Entry) : Type 0 where
  pub made : List Entry
  pub after_is : after ≡ made ++ entries
  pub written : was_written made ≡ ends_done act call
  pub torn : was_torn made ≡ ends_torn act call

ended : (act : Act) (call : Pending) (values : Contents) (entries : List Entry) → EndsWith act call entries (entries_after act call values entries)
ended Done NoCall values entries = record { made = []; after_is = refl; written = refl; torn = refl }
ended Done (Reads call) values entries = record { made = entry_of kinds.Read call values ∷ []; after_is = refl; written = refl; torn = refl }
ended Done (Writes call new) values entries = record { made = entry_of kinds.Write call new ∷ []; after_is = refl; written = refl; torn = refl }
ended Fault NoCall values entries = record { made = []; after_is = refl; written = refl; torn = refl }
ended Fault (Reads call) values entries = record { made = entry_of kinds.Missed call no_values ∷ []; after_is = refl; written = refl; torn = refl }
ended Fault (Writes call new) values entries = record { made = entry_of kinds.Torn call new ∷ []; after_is = refl; written = refl; torn = refl }
ended Lost NoCall values entries = record { made = []; after_is = refl; written = refl; torn = refl }
ended Lost (Reads call) values entries = record { made = entry_of kinds.Missed call no_values ∷ []; after_is = refl; written = refl; torn = refl }
ended Lost (Writes call new) values entries = record { made = entry_of kinds.Torn call new ∷ []; after_is = refl; written = refl; torn = refl }
ended act call values entries = record { made = []; after_is = refl; written = refl; torn = refl }

-- the entries that a course makes, with what is noted meanwhile
pub record NotesEntries (notes : Notes) (entries after : List Entry) (notes' : Notes) : Type 0 where
  pub made : List Entry
  pub after_is : after ≡ made ++ entries
  pub written : notes'.written ≡ (was_written made || notes.written)
  pub torn : notes'.torn ≡ (was_torn made || notes.torn)

or_after : (a b c now : Bool) → now ≡ (a || (b || c)) → now ≡ ((a || b) || c)
or_after true b c now e = e
or_after false b c now e = e

noted : (dirty : Bool) (course : List Happening) (r : RegionState) (notes : Notes) → NotesEntries notes r.around.entries (region_after course r).around.entries (notes_of dirty course r notes)
noted dirty [] r notes = record { made = []; after_is = refl; written = refl; torn = refl }
noted dirty (Elsewhere marks ∷ hs) r notes =
    let rest = noted dirty hs (happens r (Elsewhere marks)) notes in
    record { made = rest.made; after_is = rest.after_is; written = rest.written; torn = rest.torn }
noted dirty (Comes event now call values ∷ hs) r notes =
    let act = (next_of r.stage event).1 in
    let pending = pending_at r.around.pending event call in
    let end = ended act pending values r.around.entries in
    let rest = noted dirty hs (happens r (Comes event now call values)) (notes_after dirty r (Comes event now call values) notes) in
    record {
      made = rest.made ++ end.made;
      after_is = rest.after_is ∙ ap (λ (es : List Entry). rest.made ++ es) end.after_is ∙ sym (append_assoc rest.made end.made r.around.entries);
      written = ap_or _ _ _ _ (or_after (was_written rest.made) (ends_done act pending) notes.written _ rest.written) (sym (list_any-append (λ (e : Entry). is_write e.kind) rest.made end.made ∙ ap (λ (b : Bool). was_written rest.made || b) end.written));
      torn = ap_or _ _ _ _ (or_after (was_torn rest.made) (ends_torn act pending) notes.torn _ rest.torn) (sym (list_any-append (λ (e : Entry). is_torn e.kind) rest.made end.made ∙ ap (λ (b : Bool). was_torn rest.made || b) end.torn));
    }
  where
    ap_or : (now a b c : Bool) → now ≡ (a || c) → a ≡ b → now ≡ (b || c)
    ap_or now a b c e f = rw (← f) e

-- ---- failures

same_number : (j k : ℕ) → (k == j) ≡ true → (j == k) ≡ true
same_number j k e = grind (arith, nat_tests)

plex_from_note : (act : Act) (event : Event) (k : ℕ) → fails_at act event k ≡ true → plex_fails act event k ≡ true
plex_from_note (WriteCall j) WriteFailed k e = same_number j k e
plex_from_note (WriteRegion j) WriteFailed k e = same_number j k e
plex_from_note act event k e = cc

plex_from_phase : (s : Stage) (phase : Phase) (event : Event) (k : ℕ) → fails_in s phase event k ≡ true → plex_fails (act_of s phase) event k ≡ true
plex_from_phase s (Busy w) event k e = plex_from_note (act_of s (Busy w)) event k e
plex_from_phase s Settled event k e = cc
plex_from_phase s Unsettled event k e = cc
plex_from_phase s Dead event k e = cc

failed : (dirty : Bool) (course : List Happening) (r : RegionState) (notes : Notes) (old new : RegionSeen) → ShowFailures course r.stage old new → (k : ℕ) → (notes_of dirty course r notes).failed k ≡ true →
    (notes.failed k ≡ true) ⊎ PlexRose k old.plexes new.plexes
failed dirty [] r notes old new shown k is = inl is
failed dirty (Elsewhere marks ∷ hs) r notes old new shown k is = failed dirty hs (happens r (Elsewhere marks)) notes old new shown k is
failed dirty (Comes event now call values ∷ hs) r notes old new shown k is =
    elim (failed dirty hs (happens r (Comes event now call values)) (notes_after dirty r (Comes event now call values) notes) old new shown.1 k is) [
      | inl before ↦
          elim (or_cases (fails_in r.stage r.stage.phase event k) (notes.failed k) before) [
            | inl here ↦ inr (shown.0.plexes k (plex_from_phase r.stage r.stage.phase event k here))
            | inr earlier ↦ inl earlier
          ]
      | inr rose ↦ inr rose
    ]

-- ---- a region that goes on

or_nothing : (now b : Bool) → now ≡ (b || false) → now ≡ b
or_nothing now true e = e
or_nothing now false e = e

not_noted : {A : Type 0} → (false ≡ true) ⊎ A → A
not_noted (inl e) = cc
not_noted (inr a) = a

pub course_noted : EachCourseIsNoted
course_noted old new fixed entries made goes dirty =
    let was : RegionState = state_of old fixed entries NoCall old.number in
    let all = noted dirty goes.course was no_notes in
    let same : all.made ≡ made = append_cancel_right all.made made entries (sym all.after_is ∙ ap (λ (r : RegionState). r.around.entries) goes.ends) in
    record {
      written = or_nothing _ _ all.written ∙ ap was_written same;
      torn = or_nothing _ _ all.torn ∙ ap was_torn same;
      failed = λ k is. not_noted (failed dirty goes.course was no_notes old new goes.shown k is);
    }
