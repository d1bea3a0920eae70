-- What entries do to the tracks and the dirty regions of a volume, seen from one region: those of other regions do nothing, and
-- entries that are told coarser leave no less that may differ, and no more that surely does.
use Rattle.std.proofs.Common.{◌≡◌, ℕ, Bool, true, false, refl, sym, ◌∙◌, ap, subst, inl, inr, cond, List, [], ◌∷◌, ◌++◌}
use Rattle.std.specs.Prelude.{◌==◌, ◌&&◌, ◌||◌, ◌⊎◌}
use Rattle.std.specs.List.{list_any}
use Rattle.vx_base.specs.Named.{Word}
use Rattle.vx_mask.proofs.Tests.{true_or_false, not_both, or_from_right, or_from_left, or_cases}
use Rattle.vx_life.specs.declared.EntryKind.{EntryKind}
use Rattle.vx_life.specs.declared.EntryKind.TheVariants as kinds
use Rattle.vx_life.specs.declared.Part.{Part}
use Rattle.vx_life.specs.Entry.{Entry}
use Rattle.vx_core.specs.History.{AllOf}
use Rattle.vx_core_laws.specs.Tracking.{is_torn, was_torn}
use Rattle.vx_moments.specs.World.{Track, Volume}
use Rattle.vx_volume.specs.Laws.{with_made}
use Rattle.vx_volume.specs.Retelling.{AreRetold, IsRetold}
use Rattle.vx_moments.specs.Tracks.{TrackOwner, has_failed, with_region, track_with, dirty_with, volume_after, volume_goes, was_torn_in}
use Rattle.vx_volume_laws.specs.Running.{entries_in}
use Rattle.vx_volume_laws.proofs.LivesOn.{same_test, test_same}

-- ---- what stays of the volume

pub record KeepsRest (v w : Volume) : Type 0 where
  pub length : w.length ≡ v.length
  pub region : w.region ≡ v.region
  pub life : w.life ≡ v.life
  pub began : w.dirty_began ≡ v.dirty_began

pub goes_rest : (owners : Word → TrackOwner) (es : List Entry) (v : Volume) → KeepsRest v (volume_goes owners es v)
goes_rest owners [] v = record { length = refl; region = refl; life = refl; began = refl }
goes_rest owners (e ∷ es) v = let rest = goes_rest owners es (volume_after owners e v) in record { length = rest.length; region = rest.region; life = rest.life; began = rest.began }

-- ---- one region

-- at a region the second track has no more that is sure, and no less that is possible
pub record TrackWithin (r : ℕ) (t u : Track) : Type 0 where
  pub sure : u.sure r ≡ true → t.sure r ≡ true
  pub possible : t.possible r ≡ true → u.possible r ≡ true

pub record Within (r : ℕ) (v w : Volume) : Type 0 where
  pub failed : v.failed ≡ w.failed
  pub tracks : (name : Word) → TrackWithin r (v.tracks name) (w.tracks name)
  pub dirty : v.dirty r ≡ true → w.dirty r ≡ true

pub within_same : (r : ℕ) (v : Volume) → Within r v v
within_same r v = record { failed = refl; tracks = λ name. record { sure = λ h. h; possible = λ h. h }; dirty = λ h. h }

out_region : (n r : ℕ) (set : ℕ → Bool) → (n == r) ≡ false → with_region n set r ≡ true → set r ≡ true
out_region n r set apart h = elim (or_cases (r == n) (set r) h) [ inl same ↦ not_both (same_test n r (sym (test_same r n same))) apart | inr was ↦ was ]

in_region : (n r : ℕ) (set : ℕ → Bool) → set r ≡ true → with_region n set r ≡ true
in_region n r set h = or_from_right (r == n) (set r) h

more_region : (n r : ℕ) (set set' : ℕ → Bool) → (set r ≡ true → set' r ≡ true) → with_region n set r ≡ true → with_region n set' r ≡ true
more_region n r set set' more h = elim (or_cases (r == n) (set r) h) [ inl here ↦ or_from_left (r == n) (set' r) here | inr was ↦ or_from_right (r == n) (set' r) (more was) ]

-- an entry of another region
track_apart : (kind : EntryKind) (n r : ℕ) (available failed : Bool) (t u : Track) → (n == r) ≡ false → TrackWithin r t u → TrackWithin r t (track_with kind n available failed u)
track_apart kinds.Write n r true true t u apart h = record { sure = h.sure; possible = λ p. in_region n r u.possible (h.possible p) }
track_apart kinds.Write n r true false t u apart h = h
track_apart kinds.Write n r false failed t u apart h = record { sure = λ s. h.sure (out_region n r u.sure apart s); possible = λ p. in_region n r u.possible (h.possible p) }
track_apart kinds.Torn n r true true t u apart h = record { sure = h.sure; possible = λ p. in_region n r u.possible (h.possible p) }
track_apart kinds.Torn n r true false t u apart h = h
track_apart kinds.Torn n r false failed t u apart h = record { sure = h.sure; possible = λ p. in_region n r u.possible (h.possible p) }
track_apart kinds.Read n r available failed t u apart h = h
track_apart kinds.Missed n r available failed t u apart h = h

dirty_apart : (kind : EntryKind) (n r : ℕ) (dirty dirty' : ℕ → Bool) → (dirty r ≡ true → dirty' r ≡ true) → dirty r ≡ true → dirty_with kind n dirty' r ≡ true
dirty_apart kinds.Write n r dirty dirty' more h = in_region n r dirty' (more h)
dirty_apart kinds.Torn n r dirty dirty' more h = in_region n r dirty' (more h)
dirty_apart kinds.Read n r dirty dirty' more h = more h
dirty_apart kinds.Missed n r dirty dirty' more h = more h

-- the same entry
track_same : (kind : EntryKind) (n r : ℕ) (available failed : Bool) (t u : Track) → TrackWithin r t u → TrackWithin r (track_with kind n available failed t) (track_with kind n available failed u)
track_same kinds.Write n r true true t u h = record { sure = h.sure; possible = more_region n r t.possible u.possible h.possible }
track_same kinds.Write n r true false t u h = h
track_same kinds.Write n r false failed t u h = record { sure = more_region n r u.sure t.sure h.sure; possible = more_region n r t.possible u.possible h.possible }
track_same kinds.Torn n r true true t u h = record { sure = h.sure; possible = more_region n r t.possible u.possible h.possible }
track_same kinds.Torn n r true false t u h = h
track_same kinds.Torn n r false failed t u h = record { sure = h.sure; possible = more_region n r t.possible u.possible h.possible }
track_same kinds.Read n r available failed t u h = h
track_same kinds.Missed n r available failed t u h = h

dirty_same : (kind : EntryKind) (n r : ℕ) (dirty dirty' : ℕ → Bool) → (dirty r ≡ true → dirty' r ≡ true) → dirty_with kind n dirty r ≡ true → dirty_with kind n dirty' r ≡ true
dirty_same kinds.Write n r dirty dirty' more h = more_region n r dirty dirty' more h
dirty_same kinds.Torn n r dirty dirty' more h = more_region n r dirty dirty' more h
dirty_same kinds.Read n r dirty dirty' more h = more h
dirty_same kinds.Missed n r dirty dirty' more h = more h

-- a write that is told as torn
track_torn : (n r : ℕ) (available failed : Bool) (t u : Track) → TrackWithin r t u → TrackWithin r (track_with kinds.Write n available failed t) (track_with kinds.Torn n available failed u)
track_torn n r true true t u h = record { sure = h.sure; possible = more_region n r t.possible u.possible h.possible }
track_torn n r true false t u h = h
track_torn n r false failed t u h = record { sure = λ s. in_region n r t.sure (h.sure s); possible = more_region n r t.possible u.possible h.possible }

-- the volume after an entry of this kind in a region
abbrev after_kind : (Word → TrackOwner) → EntryKind → ℕ → Volume → Volume
after_kind owners kind n v =
    record v {
      dirty = dirty_with kind n v.dirty;
      tracks = λ name. track_with kind n (owners name).available (has_failed v.failed (owners name)) (v.tracks name);
    }

module _ (owners : Word → TrackOwner) (r : ℕ) where
  within_apart : (kind : EntryKind) (n : ℕ) (v w : Volume) → (n == r) ≡ false → Within r v w → Within r v (after_kind owners kind n w)
  within_apart kind n v w apart h =
      record {
        failed = h.failed;
        tracks = λ name. track_apart kind n r (owners name).available (has_failed w.failed (owners name)) (v.tracks name) (w.tracks name) apart (h.tracks name);
        dirty = dirty_apart kind n r v.dirty w.dirty h.dirty;
      }

  within_kind : (kind : EntryKind) (n : ℕ) (v w : Volume) → Within r v w → Within r (after_kind owners kind n v) (after_kind owners kind n w)
  within_kind kind n v w h =
      record {
        failed = h.failed;
        tracks = λ name.
            subst (λ (f : Word → Bool). TrackWithin r (track_with kind n (owners name).available (has_failed v.failed (owners name)) (v.tracks name)) (track_with kind n (owners name).available (has_failed f (owners name)) (w.tracks name))) h.failed
            (track_same kind n r (owners name).available (has_failed v.failed (owners name)) (v.tracks name) (w.tracks name) (h.tracks name));
        dirty = dirty_same kind n r v.dirty w.dirty h.dirty;
      }

  within_torn : (n : ℕ) (v w : Volume) → Within r v w → Within r (after_kind owners kinds.Write n v) (after_kind owners kinds.Torn n w)
  within_torn n v w h =
      record {
        failed = h.failed;
        tracks = λ name.
            subst (λ (f : Word → Bool). TrackWithin r (track_with kinds.Write n (owners name).available (has_failed v.failed (owners name)) (v.tracks name)) (track_with kinds.Torn n (owners name).available (has_failed f (owners name)) (w.tracks name))) h.failed
            (track_torn n r (owners name).available (has_failed v.failed (owners name)) (v.tracks name) (w.tracks name) (h.tracks name));
        dirty = more_region n r v.dirty w.dirty h.dirty;
      }

  within_read : (n : ℕ) (v w : Volume) → Within r v w → Within r (after_kind owners kinds.Read n v) (after_kind owners kinds.Missed n w)
  within_read n v w h = record { failed = h.failed; tracks = h.tracks; dirty = h.dirty }

  within_retold : (e f : Entry) (v w : Volume) → IsRetold e f → Within r v w → Within r (volume_after owners e v) (volume_after owners f w)
  within_retold e f v w (inl same) h = subst (λ (x : Entry). Within r (volume_after owners e v) (volume_after owners x w)) (sym same) (within_kind e.kind e.part.region v w h)
  within_retold e f v w (inr (inl torn)) h =
      subst (λ (x : Entry). Within r (volume_after owners e v) (volume_after owners x w)) (sym torn.1)
      (subst (λ (kind : EntryKind). Within r (after_kind owners kind e.part.region v) (after_kind owners kinds.Torn e.part.region w)) (sym torn.0) (within_torn e.part.region v w h))
  within_retold e f v w (inr (inr missed)) h =
      subst (λ (x : Entry). Within r (volume_after owners e v) (volume_after owners x w)) (sym missed.1)
      (subst (λ (kind : EntryKind). Within r (after_kind owners kind e.part.region v) (after_kind owners kinds.Missed e.part.region w)) (sym missed.0) (within_read e.part.region v w h))

  -- the entries of the region, and all entries as they are told
  pub within_goes : (es fs : List Entry) (v w : Volume) → AreRetold es fs → Within r v w → Within r (volume_goes owners (entries_in r es) v) (volume_goes owners fs w)
  within_goes [] [] v w retold h = h
  within_goes [] (f ∷ fs) v w retold h = absurd retold
  within_goes (e ∷ es) [] v w retold h = absurd retold
  within_goes (e ∷ es) (f ∷ fs) v w retold h =
      elim (true_or_false (e.part.region == r)) [
        | inl here ↦
            subst (λ (b : Bool). Within r (volume_goes owners (cond b (e ∷ entries_in r es) (entries_in r es)) v) (volume_goes owners (f ∷ fs) w)) (sym here)
            (within_goes es fs (volume_after owners e v) (volume_after owners f w) retold.1 (within_retold e f v w retold.0 h))
        | inr apart ↦
            subst (λ (b : Bool). Within r (volume_goes owners (cond b (e ∷ entries_in r es) (entries_in r es)) v) (volume_goes owners (f ∷ fs) w)) (sym apart)
            (within_goes es fs v (volume_after owners f w) retold.1 (within_apart f.kind f.part.region v w (subst (λ (p : Part). (p.region == r) ≡ false) (sym (part_same e f retold.0)) apart) h))
      ]
    where
      part_same : (e f : Entry) → IsRetold e f → f.part ≡ e.part
      part_same e f (inl same) = ap (λ (x : Entry). x.part) same
      part_same e f (inr (inl torn)) = ap (λ (x : Entry). x.part) torn.1
      part_same e f (inr (inr missed)) = ap (λ (x : Entry). x.part) missed.1

-- ---- what is sure

track_sure : (kind : EntryKind) (n r : ℕ) (available failed : Bool) (t : Track) → (track_with kind n available failed t).sure r ≡ true → (t.sure r ≡ true) ⊎ (available ≡ false)
track_sure kinds.Write n r true true t h = inl h
track_sure kinds.Write n r true false t h = inl h
track_sure kinds.Write n r false failed t h = inr refl
track_sure kinds.Torn n r true true t h = inl h
track_sure kinds.Torn n r true false t h = inl h
track_sure kinds.Torn n r false failed t h = inl h
track_sure kinds.Read n r available failed t h = inl h
track_sure kinds.Missed n r available failed t h = inl h

-- what is sure of a plex that is written to was so before
pub sure_goes : (owners : Word → TrackOwner) (es : List Entry) (v : Volume) (name : Word) (r : ℕ) → ((volume_goes owners es v).tracks name).sure r ≡ true → ((v.tracks name).sure r ≡ true) ⊎ ((owners name).available ≡ false)
sure_goes owners [] v name r h = inl h
sure_goes owners (e ∷ es) v name r h =
    elim (sure_goes owners es (volume_after owners e v) name r h) [
      | inl before ↦ track_sure e.kind e.part.region r (owners name).available (has_failed v.failed (owners name)) (v.tracks name) before
      | inr idle ↦ inr idle
    ]

-- a failure makes nothing sure
pub failed_sure : (b : Bool) (left : ℕ → Bool) (t : Track) (r : ℕ) → (cond b (record t { possible = λ r. left r || t.possible r }) t).sure r ≡ true → t.sure r ≡ true
failed_sure true left t r h = h
failed_sure false left t r h = h

-- ---- the entries of a region

pub here_in : (r : ℕ) (es : List Entry) → AllOf (λ (e : Entry). e.part.region ≡ r) (entries_in r es)
here_in r [] = tt
here_in r (e ∷ es) = by (here_in r es) (e.part.region == r) refl
  where
    by : AllOf (λ (e : Entry). e.part.region ≡ r) (entries_in r es) → (b : Bool) → (e.part.region == r) ≡ b → AllOf (λ (e : Entry). e.part.region ≡ r) (cond b (e ∷ entries_in r es) (entries_in r es))
    by rest true h = (test_same e.part.region r h, rest)
    by rest false h = rest

made_behind : (r : ℕ) (made front es : List Entry) → with_made r made (front ++ es) ≡ with_made r made front ++ es
made_behind r [] front es = refl
made_behind r (e ∷ made) front es = by (made_behind r made (e ∷ front) es) (made_behind r made front es) (e.part.region == r)
  where
    by : with_made r made (e ∷ (front ++ es)) ≡ with_made r made (e ∷ front) ++ es → with_made r made (front ++ es) ≡ with_made r made front ++ es →
        (b : Bool) → with_made r made (cond b (e ∷ (front ++ es)) (front ++ es)) ≡ with_made r made (cond b (e ∷ front) front) ++ es
    by here there true = here
    by here there false = there

-- those that a call made, in the order of histories
pub made_front : (r : ℕ) (made es : List Entry) → with_made r made es ≡ with_made r made [] ++ es
made_front r made es = made_behind r made [] es

or_turn : (a b c : Bool) → (b || (a || c)) ≡ ((a || b) || c)
or_turn true true c = refl
or_turn true false c = refl
or_turn false b c = refl

-- some of the region's entries passes a test
any_made : (test : Entry → Bool) (r : ℕ) (made acc : List Entry) → list_any test (with_made r made acc) ≡ (list_any test (entries_in r made) || list_any test acc)
any_made test r [] acc = refl
any_made test r (e ∷ made) acc = by (any_made test r made (e ∷ acc)) (any_made test r made acc) (e.part.region == r)
  where
    by : list_any test (with_made r made (e ∷ acc)) ≡ (list_any test (entries_in r made) || list_any test (e ∷ acc)) → list_any test (with_made r made acc) ≡ (list_any test (entries_in r made) || list_any test acc) →
        (b : Bool) → list_any test (with_made r made (cond b (e ∷ acc) acc)) ≡ (list_any test (cond b (e ∷ entries_in r made) (entries_in r made)) || list_any test acc)
    by here there true = here ∙ or_turn (test e) (list_any test (entries_in r made)) (list_any test acc)
    by here there false = there

or_none_behind : (a : Bool) → (a || false) ≡ a
or_none_behind true = refl
or_none_behind false = refl

pub any_front : (test : Entry → Bool) (r : ℕ) (made : List Entry) → list_any test (entries_in r made) ≡ list_any test (with_made r made [])
any_front test r made = sym (any_made test r made [] ∙ or_none_behind (list_any test (entries_in r made)))

-- ---- torn entries

-- what is torn in a region stays torn as it is told
pub torn_told : (r : ℕ) (es fs : List Entry) → AreRetold es fs → was_torn (entries_in r es) ≡ true → was_torn_in r fs ≡ true
torn_told r [] [] retold h = cc
torn_told r [] (f ∷ fs) retold h = absurd retold
torn_told r (e ∷ es) [] retold h = absurd retold
torn_told r (e ∷ es) (f ∷ fs) retold h = by (torn_told r es fs retold.1) (e.part.region == r) refl h
  where
    torn_still : (e f : Entry) → IsRetold e f → is_torn e.kind ≡ true → (is_torn f.kind ≡ true) × (f.part ≡ e.part)
    torn_still e f (inl same) h = (subst (λ (x : Entry). is_torn x.kind ≡ true) (sym same) h, ap (λ (x : Entry). x.part) same)
    torn_still e f (inr (inl torn)) h = (ap (λ (x : Entry). is_torn x.kind) torn.1, ap (λ (x : Entry). x.part) torn.1)
    torn_still e f (inr (inr missed)) h = not_both h (ap is_torn missed.0)

    both_true : (x y : Bool) → x ≡ true → y ≡ true → (x && y) ≡ true
    both_true x y p q = rw (p, q) refl

    by : (was_torn (entries_in r es) ≡ true → was_torn_in r fs ≡ true) → (b : Bool) → (e.part.region == r) ≡ b → was_torn (cond b (e ∷ entries_in r es) (entries_in r es)) ≡ true → was_torn_in r (f ∷ fs) ≡ true
    by rest false at h = or_from_right (is_torn f.kind && f.part.region == r) (was_torn_in r fs) (rest h)
    by rest true at h =
        elim (or_cases (is_torn e.kind) (was_torn (entries_in r es)) h) [
          | inl now ↦
              let still = torn_still e f retold.0 now in
              or_from_left (is_torn f.kind && f.part.region == r) (was_torn_in r fs) (both_true (is_torn f.kind) (f.part.region == r) still.0 (subst (λ (p : Part). (p.region == r) ≡ true) (sym still.1) at))
          | inr later ↦ or_from_right (is_torn f.kind && f.part.region == r) (was_torn_in r fs) (rest later)
        ]
