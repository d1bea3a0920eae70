-- The tracks of a volume go with its regions.
use Rattle.std.proofs.Common.{◌≡◌, ◌⊎◌, inl, inr, ℕ, Bool, true, false, refl, sym, ◌∙◌, subst, cond, List, [], ◌∷◌, arith}
use Rattle.std.specs.Prelude.{◌&&◌, ◌||◌, ◌==◌}
use Rattle.std.specs.List.{list_any}
use Rattle.std.proofs.lemmas.Bool.Decides.{nat_tests}
use Rattle.vx_base.specs.Named.{Word}
use Rattle.vx_life.specs.declared.EntryKind.{EntryKind}
use Rattle.vx_life.specs.declared.EntryKind.TheVariants as kinds
use Rattle.vx_life.specs.Entry.{Entry}
use Rattle.vx_mask.specs.Mask.{has}
use Rattle.vx_mask.proofs.Tests.{not_both, true_or_false, or_cases, or_from_left, or_from_right}
use Rattle.vx_core.specs.declared.stage.Phase.TheVariants.{Unsettled}
use Rattle.vx_core.specs.History.{Pending, NoCall, Reads, Writes, AllOf}
use Rattle.vx_core.specs.Region.{RegionState}
use Rattle.vx_core.specs.Schedule.{Happening, IsIdle}
use Rattle.vx_core.specs.Recovery.{region_after}
use Rattle.vx_core.proofs.RecoveryLaws.{idle_call}
use Rattle.vx_core_laws.specs.Course.{IsKeptState, EachFits}
use Rattle.vx_core_laws.specs.Tracking.{is_write, is_torn, was_written, was_torn, no_notes, notes_of, IsOther, IsSeen, IsWriting, IsTracked}
use Rattle.vx_core_laws.proofs.Courses.{course_keeps}
use Rattle.vx_core_laws.proofs.Tracks.{each_track_holds}
use Rattle.vx_moments.specs.World.{Track, Volume}
use Rattle.vx_volume_laws.specs.Tracks.{GoesAt, HasMap, TellOf, EachCallIsTracked}
use Rattle.vx_moments.specs.Tracks.{TrackOwner, has_failed, was_unsettled, with_region, track_with, dirty_with, volume_after, volume_failed, volume_goes}

-- the entries are of the region
abbrev AllIn : ℕ → List Entry → Type 0
AllIn r es = AllOf (λ e. e.part.region ≡ r) es

-- ---- one entry

same_region : (r n : ℕ) (set : ℕ → Bool) → n ≡ r → with_region n set r ≡ true
same_region r n set e = grind (arith, nat_tests)

in_region : (n r : ℕ) (set : ℕ → Bool) → set r ≡ true → with_region n set r ≡ true
in_region n r set h = or_from_right (r == n) (set r) h

-- a track only grows
possible_grows : (kind : EntryKind) (n r : ℕ) (available failed : Bool) (t : Track) → t.possible r ≡ true → (track_with kind n available failed t).possible r ≡ true
possible_grows kinds.Write n r true true t h = in_region n r t.possible h
possible_grows kinds.Write n r true false t h = h
possible_grows kinds.Write n r false failed t h = in_region n r t.possible h
possible_grows kinds.Torn n r true true t h = in_region n r t.possible h
possible_grows kinds.Torn n r true false t h = h
possible_grows kinds.Torn n r false failed t h = in_region n r t.possible h
possible_grows kinds.Read n r available failed t h = h
possible_grows kinds.Missed n r available failed t h = h

-- what an entry touches is possible on what is not written to, and on what has failed
possible_here : (kind : EntryKind) (n r : ℕ) (available failed : Bool) (t : Track) → n ≡ r → (is_write kind || is_torn kind) ≡ true → (available ≡ false) ⊎ (failed ≡ true) → (track_with kind n available failed t).possible r ≡ true
possible_here kinds.Write n r true true t e h cause = same_region r n t.possible e
possible_here kinds.Write n r true false t e h cause = elim cause [ inl none ↦ cc | inr none ↦ cc ]
possible_here kinds.Write n r false failed t e h cause = same_region r n t.possible e
possible_here kinds.Torn n r true true t e h cause = same_region r n t.possible e
possible_here kinds.Torn n r true false t e h cause = elim cause [ inl none ↦ cc | inr none ↦ cc ]
possible_here kinds.Torn n r false failed t e h cause = same_region r n t.possible e
possible_here kinds.Read n r available failed t e h cause = cc
possible_here kinds.Missed n r available failed t e h cause = cc

-- what is sure was so, or was written
sure_from : (kind : EntryKind) (n r : ℕ) (available failed : Bool) (t : Track) → (track_with kind n available failed t).sure r ≡ true → (t.sure r ≡ true) ⊎ (is_write kind ≡ true)
sure_from kinds.Write n r available failed t h = inr refl
sure_from kinds.Torn n r true true t h = inl h
sure_from kinds.Torn n r true false t h = inl h
sure_from kinds.Torn n r false failed t h = inl h
sure_from kinds.Read n r available failed t h = inl h
sure_from kinds.Missed n r available failed t h = inl h

dirty_grows : (kind : EntryKind) (n r : ℕ) (dirty : ℕ → Bool) → dirty r ≡ true → dirty_with kind n dirty r ≡ true
dirty_grows kinds.Write n r dirty h = in_region n r dirty h
dirty_grows kinds.Torn n r dirty h = in_region n r dirty h
dirty_grows kinds.Read n r dirty h = h
dirty_grows kinds.Missed n r dirty h = h

dirty_here : (kind : EntryKind) (n r : ℕ) (dirty : ℕ → Bool) → n ≡ r → (is_write kind || is_torn kind) ≡ true → dirty_with kind n dirty r ≡ true
dirty_here kinds.Write n r dirty e h = same_region r n dirty e
dirty_here kinds.Torn n r dirty e h = same_region r n dirty e
dirty_here kinds.Read n r dirty e h = cc
dirty_here kinds.Missed n r dirty e h = cc

-- ---- many

sure_all : (owners : Word → TrackOwner) (es : List Entry) (v : Volume) (name : Word) (r : ℕ) → ((volume_goes owners es v).tracks name).sure r ≡ true → ((v.tracks name).sure r ≡ true) ⊎ (was_written es ≡ true)
sure_all owners [] v name r h = inl h
sure_all owners (e ∷ es) v name r h =
    elim (sure_all owners es (volume_after owners e v) name r h) [
      | inr later ↦ inr (or_from_right (is_write e.kind) (was_written es) later)
      | inl before ↦ elim (sure_from e.kind e.part.region r (owners name).available (has_failed v.failed (owners name)) (v.tracks name) before) [ inl was ↦ inl was | inr here ↦ inr (or_from_left (is_write e.kind) (was_written es) here) ]
    ]

possible_all : (owners : Word → TrackOwner) (es : List Entry) (v : Volume) (name : Word) (r : ℕ) → (v.tracks name).possible r ≡ true → ((volume_goes owners es v).tracks name).possible r ≡ true
possible_all owners [] v name r h = h
possible_all owners (e ∷ es) v name r h =
    possible_all owners es (volume_after owners e v) name r (possible_grows e.kind e.part.region r (owners name).available (has_failed v.failed (owners name)) (v.tracks name) h)

-- one entry, or a later one
first_or_later : (w t ws ts : Bool) → ((w || ws) || (t || ts)) ≡ true → ((w || t) ≡ true) ⊎ ((ws || ts) ≡ true)
first_or_later true t ws ts h = inl refl
first_or_later false true ws ts h = inl refl
first_or_later false false ws ts h = inr h

possible_touched : (owners : Word → TrackOwner) (es : List Entry) (v : Volume) (name : Word) (r : ℕ) → AllIn r es → ((owners name).available ≡ false) ⊎ (has_failed v.failed (owners name) ≡ true) →
    (was_written es || was_torn es) ≡ true → ((volume_goes owners es v).tracks name).possible r ≡ true
possible_touched owners [] v name r here cause h = cc
possible_touched owners (e ∷ es) v name r here cause h =
    elim (first_or_later (is_write e.kind) (is_torn e.kind) (was_written es) (was_torn es) h) [
      | inl now ↦ possible_all owners es (volume_after owners e v) name r (possible_here e.kind e.part.region r (owners name).available (has_failed v.failed (owners name)) (v.tracks name) here.0 now cause)
      | inr later ↦ possible_touched owners es (volume_after owners e v) name r here.1 cause later
    ]

dirty_all : (owners : Word → TrackOwner) (es : List Entry) (v : Volume) (r : ℕ) → v.dirty r ≡ true → (volume_goes owners es v).dirty r ≡ true
dirty_all owners [] v r h = h
dirty_all owners (e ∷ es) v r h = dirty_all owners es (volume_after owners e v) r (dirty_grows e.kind e.part.region r v.dirty h)

dirty_touched : (owners : Word → TrackOwner) (es : List Entry) (v : Volume) (r : ℕ) → AllIn r es → (was_written es || was_torn es) ≡ true → (volume_goes owners es v).dirty r ≡ true
dirty_touched owners [] v r here h = cc
dirty_touched owners (e ∷ es) v r here h =
    elim (first_or_later (is_write e.kind) (is_torn e.kind) (was_written es) (was_torn es) h) [
      | inl now ↦ dirty_all owners es (volume_after owners e v) r (dirty_here e.kind e.part.region r v.dirty here.0 now)
      | inr later ↦ dirty_touched owners es (volume_after owners e v) r here.1 later
    ]

-- ---- the devices that failed

any_more : (f g : Word → Bool) (names : List Word) → list_any f names ≡ true → list_any (λ name. f name || g name) names ≡ true
any_more f g [] h = cc
any_more f g (n ∷ ns) h =
    elim (or_cases (f n) (list_any f ns) h) [
      | inl here ↦ or_from_left (f n || g n) (list_any (λ name. f name || g name) ns) (or_from_left (f n) (g n) here)
      | inr there ↦ or_from_right (f n || g n) (list_any (λ name. f name || g name) ns) (any_more f g ns there)
    ]

failed_grows : (b : Bool) (left : ℕ → Bool) (t : Track) (r : ℕ) → t.possible r ≡ true → (cond b (record t { possible = λ r. left r || t.possible r }) t).possible r ≡ true
failed_grows true left t r h = or_from_right (left r) (t.possible r) h
failed_grows false left t r h = h

failed_here : (b : Bool) (left : ℕ → Bool) (t : Track) (r : ℕ) → b ≡ true → left r ≡ true → (cond b (record t { possible = λ r. left r || t.possible r }) t).possible r ≡ true
failed_here true left t r is h = or_from_left (left r) (t.possible r) h
failed_here false left t r is h = cc

failed_sure : (b : Bool) (left : ℕ → Bool) (t : Track) (r : ℕ) → (cond b (record t { possible = λ r. left r || t.possible r }) t).sure r ≡ true → t.sure r ≡ true
failed_sure true left t r h = h
failed_sure false left t r h = h

no_writes : (call : Pending) → call ≡ NoCall → IsWriting call → ⊥
no_writes NoCall e writes = writes
no_writes (Reads call) e writes = cc
no_writes (Writes call new) e writes = cc

both_true : (x y : Bool) → x ≡ true → y ≡ true → (x && y) ≡ true
both_true x y p q = rw (p, q) refl

other_off : (s : RegionState) → IsKeptState s → (k : ℕ) → IsOther s.stage k → has s.stage.on k ≡ false
other_off s kept k other =
    elim (true_or_false (has s.stage.on k)) [
      | inr none ↦ none
      | inl on ↦ elim other [ inl off ↦ not_both off (kept.form.stage.off_apart k on) | inr snap ↦ not_both snap (kept.form.stage.snaps_apart k on) ]
    ]

module _ (was : RegionState) (hs : List Happening) (kept : IsKeptState was) (idle : IsIdle was.stage.phase) (fits : EachFits hs was) (ends : IsIdle (region_after hs was).stage.phase) (v : Volume) (r : ℕ) (owners : Word → TrackOwner) (failed : Word → Bool) (es : List Entry) (unsettled : was.stage.phase ≡ Unsettled → was_unsettled v r ≡ true) (tell : TellOf r (notes_of (was_unsettled v r) hs was no_notes) es) where
  tracked : IsTracked (was_unsettled v r) was (region_after hs was) (notes_of (was_unsettled v r) hs was no_notes)
  tracked = each_track_holds was (was_unsettled v r) hs kept idle unsettled fits

  kept_now : IsKeptState (region_after hs was)
  kept_now = course_keeps was hs kept fits

  still : IsWriting (region_after hs was).around.pending → ⊥
  still writes = no_writes (region_after hs was).around.pending (idle_call (region_after hs was).stage.phase (region_after hs was).around.pending ends kept_now.call) writes

  told : ((notes_of (was_unsettled v r) hs was no_notes).written || (notes_of (was_unsettled v r) hs was no_notes).torn) ≡ true → (was_written es || was_torn es) ≡ true
  told h = rw (tell.written, tell.torn) h

  other_before : (k : ℕ) → IsOther (region_after hs was).stage k → IsOther was.stage k
  other_before k (inl off) = inl (subst (λ (m : ℕ). has m k ≡ true) tracked.masks.1 off)
  other_before k (inr snap) = inr (subst (λ (m : ℕ). has m k ≡ true) tracked.masks.2 snap)

  dirty_now : (IsSeen was 30 → v.dirty r ≡ true) → IsSeen (region_after hs was) 30 → (volume_goes owners es (volume_failed owners failed v)).dirty r ≡ true
  dirty_now before seen =
      elim (tracked.seen 30 seen) [
        | inl was_seen ↦ dirty_all owners es (volume_failed owners failed v) r (before was_seen)
        | inr may ↦ elim may [
          | inl logged ↦ elim logged.1 [ inl ended ↦ dirty_touched owners es (volume_failed owners failed v) r tell.here (told ended) | inr writes ↦ absurd (still writes) ]
          | inr rest ↦ elim rest [
            | inl possible ↦ not_both (tracked.fails 30 (tracked.lacks 30 possible).0) kept_now.form.stage.dirty_apart.0
            | inr writes ↦ absurd (still writes.1)
          ]
        ]
      ]

  goes_now : (name : Word) (k : ℕ) → HasMap was.stage k (owners name) → ((notes_of (was_unsettled v r) hs was no_notes).failed k ≡ true → has_failed failed (owners name) ≡ true) →
      GoesAt was k (v.tracks name) r → GoesAt (region_after hs was) k ((volume_goes owners es (volume_failed owners failed v)).tracks name) r
  goes_now name k is counted goes =
      let left : (ℕ → Bool) = was_unsettled v in
      record {
        sure = λ other sure.
            elim (sure_all owners es (volume_failed owners failed v) name r sure) [
              | inl before ↦
                  let old = failed_sure ((owners name).available && has_failed failed (owners name)) left (v.tracks name) r before in
                  tracked.sure k other (inr (goes.sure (other_before k other) old))
              | inr written ↦ tracked.sure k other (inl (sym tell.written ∙ written))
            ];
        possible = λ seen.
            elim (tracked.seen k seen) [
              | inl was_seen ↦ possible_all owners es (volume_failed owners failed v) name r (failed_grows ((owners name).available && has_failed failed (owners name)) left (v.tracks name) r (goes.possible was_seen))
              | inr may ↦ elim may [
                | inl logged ↦ elim logged.0 [
                  | inl dirty ↦ absurd (is.not_dirty dirty)
                  | inr other ↦ elim logged.1 [
                    | inl ended ↦ possible_touched owners es (volume_failed owners failed v) name r tell.here (inl (is.available ∙ other_off was kept k (other_before k other))) (told ended)
                    | inr writes ↦ absurd (still writes)
                  ]
                ]
                | inr rest ↦ elim rest [
                  | inr writes ↦ absurd (still writes.1)
                  | inl possible ↦
                      let lacks = tracked.lacks k possible in
                      let on : has was.stage.on k ≡ true = subst (λ (m : ℕ). has m k ≡ true) tracked.masks.0 (tracked.fails k lacks.0) in
                      let fell = counted lacks.0 in
                      elim lacks.1 [
                        | inl dirty ↦ possible_all owners es (volume_failed owners failed v) name r (failed_here ((owners name).available && has_failed failed (owners name)) left (v.tracks name) r (both_true (owners name).available (has_failed failed (owners name)) (is.available ∙ on) fell) dirty)
                        | inr ended ↦ possible_touched owners es (volume_failed owners failed v) name r tell.here (inr (any_more failed v.failed (owners name).devices fell)) (told ended)
                      ]
                ]
              ]
            ];
      }

pub each_call_is_tracked : EachCallIsTracked
each_call_is_tracked was hs kept idle fits ends v r owners failed es unsettled tell dirty =
    (goes_now was hs kept idle fits ends v r owners failed es unsettled tell, dirty_now was hs kept idle fits ends v r owners failed es unsettled tell dirty)
