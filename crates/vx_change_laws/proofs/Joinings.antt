-- A volume runs on as the one that a plex has joined.
use Rattle.std.proofs.Common.{◌≡◌, ◌≢◌, ℕ, ◌<◌, Bool, true, false, if◌then◌else◌, refl, sym, ◌∙◌, ap, subst, inl, inr, arith, List, [], ◌∷◌, ◌++◌, length}
use Rattle.std.proofs.lemmas.Bool.{cases_eq}
use Rattle.std.specs.Prelude.{◌==◌, ◌||◌, Contains}
use Rattle.std.specs.Str.{bytes_eq}
use Rattle.vx_base.specs.Named.{Word}
use Rattle.vx_base.proofs.NamedLemmas.{bytes_eq_same, bytes_eq_self}
use Rattle.vx_life.specs.Entry.{Entry}
use Rattle.vx_mask.specs.Mask.{has, only, union}
use Rattle.vx_mask.proofs.MaskLemmas.{has-only_other, has-only_same}
use Rattle.vx_mask.proofs.Sets.{in_union, out_union}
use Rattle.vx_mask.proofs.Tests.{not_both, true_or_false}
use Rattle.vx_core.specs.declared.stage.Stage.{Stage}
use Rattle.vx_core.specs.History.{NoCall}
use Rattle.vx_core.specs.Region.{Fixed, RegionState}
use Rattle.vx_core_laws.specs.Course.{IsKeptState}
use Rattle.vx_core_laws.specs.Tracking.{IsOther}
use Rattle.vx_marks.specs.Log.{LogSeen}
use Rattle.vx_pages.specs.Items.{item_at}
use Rattle.vx_piece.specs.Seen.{Seen}
use Rattle.vx_runs.specs.Run.{RunTells}
use Rattle.vx_cell.specs.Changes.{CellSeen}
use Rattle.vx_cell.specs.Plexes.{PlexSeen, holds}
use Rattle.vx_cell.specs.Region.{state_of}
use Rattle.vx_cell.proofs.Changes.{other_number, same_test}
use Rattle.vx_volume.specs.Changing.{IsFreeIn, IsPlexFor, PutsPlex}
use Rattle.vx_volume.specs.Laws.{EachPuttingStands, EachPuttingTells, with_plex}
use Rattle.vx_volume.specs.Volume.{IsVolume, VolumeSeen, cell_at, with_log}
use Rattle.vx_moments.specs.World.{Track, Volume}
use Rattle.vx_image.specs.Image.{PlexImage}
use Rattle.vx_moments.specs.Tracks.{TrackOwner}
use Rattle.vx_volume_laws.specs.Running.{IsSureOfOthers, RegionRunsAs, RunsAsVolume, entries_in}
use Rattle.vx_volume_laws.specs.Tracks.{GoesAt, HasMap}
use Rattle.vx_change_laws.specs.Joining.{AreJoinedBy, IsMapOfNone, IsNameOfNone, joined_track, volume_joined}
use Rattle.vx_change_laws.specs.Laws.{EachJoiningFits, EachJoiningRunsOn, RunsStill}

-- ---- the plexes

or_none_right : (b : Bool) → (b || false) ≡ b
or_none_right true = refl
or_none_right false = refl

or_again : (x y z : Bool) → (x || (y || z)) ≡ ((x || y) || z)
or_again true y z = refl
or_again false y z = refl

holds_last : (map : ℕ) (pieces : List Seen) (ps : List PlexSeen) (k : ℕ) → holds (ps ++ record { map = map; pieces = pieces } ∷ []) k ≡ (holds ps k || (map == k))
holds_last map pieces [] k = or_none_right (map == k)
holds_last map pieces (p ∷ ps) k = ap (λ (b : Bool). (p.map == k) || b) (holds_last map pieces ps k) ∙ or_again (p.map == k) (holds ps k) (map == k)

only_is : (map k : ℕ) → map < 64 → has (only map) k ≡ (map == k)
only_is map k low =
    elim (cases_eq k map) [
      | inl e ↦ subst (λ (n : ℕ). has (only map) n ≡ (map == n)) (sym e) (has-only_same map low ∙ sym (same_test map))
      | inr apart ↦ has-only_other map k apart ∙ sym (other_number map k (λ e. apart (sym e)))
    ]

-- ---- the stage

-- the stage with the plex on
abbrev with_on : Stage → ℕ → Stage
with_on s map = record s { on = union s.on (only map) }

-- what is not written to was not, and is not
other_same : (map : ℕ) (s : Stage) (k : ℕ) → IsOther s k → IsOther (with_on s map) k
other_same map s k (inr snap) = inr snap
other_same map s k (inl off) = inl off

other_was : (map : ℕ) (s : Stage) (k : ℕ) → IsOther (with_on s map) k → IsOther s k
other_was map s k (inr snap) = inr snap
other_was map s k (inl off) = inl off

on_other : (map : ℕ) (s : Stage) (k : ℕ) → k ≢ map → has (with_on s map).on k ≡ has s.on k
on_other map s k apart =
    elim (true_or_false (has s.on k)) [
      | inl on ↦ in_union s.on (only map) k (inl on) ∙ sym on
      | inr none ↦ out_union s.on (only map) k none (has-only_other map k apart) ∙ sym none
    ]

on_new : (map : ℕ) (s : Stage) → map < 30 → has (with_on s map).on map ≡ true
on_new map s low = in_union s.on (only map) map (inr (has-only_same map (omega (arith, low))))

-- ---- tracks

module _ (lies : List Word) (name : Word) (w : Volume) where
  abbrev now : Volume
  now = volume_joined lies name w

  track_new : now.tracks name ≡ joined_track
  track_new = by (bytes_eq name name) (bytes_eq_self name)
    where
      by : (b : Bool) → b ≡ true → (if b then joined_track else w.tracks name) ≡ joined_track
      by true e = refl
      by false e = cc

  track_other : (other : Word) → other ≢ name → now.tracks other ≡ w.tracks other
  track_other other apart = by (bytes_eq name other) refl
    where
      by : (b : Bool) → bytes_eq name other ≡ b → (if b then joined_track else w.tracks other) ≡ w.tracks other
      by true e = absurd (apart (sym (bytes_eq_same name other e)))
      by false e = refl

  any_goes : (s : RegionState) (k r : ℕ) → GoesAt s k joined_track r
  any_goes s k r = record { sure = λ other h. not_both h refl; possible = λ seen. refl }

-- ---- a region

module _ (map : ℕ) (pieces : List Seen) (c : CellSeen) (log : LogSeen) (fixed : Fixed) (es : List Entry) where
  abbrev got : CellSeen
  got = record c { stage = with_on c.stage map; plexes = c.plexes ++ record { map = map; pieces = pieces } ∷ [] }

  abbrev state_was : RegionState
  state_was = state_of (with_log c log) fixed es NoCall c.number

  abbrev state_now : RegionState
  state_now = state_of (with_log got log) (with_plex map fixed) es NoCall c.number

  same_goes : (k : ℕ) (t : Track) (r : ℕ) → GoesAt state_was k t r → GoesAt state_now k t r
  same_goes k t r g = record { sure = λ other h. g.sure (other_was map c.stage k other) h; possible = λ seen. g.possible seen }

  module _ (plexes later : List PlexImage) (name : Word) (fresh : IsNameOfNone name plexes) (joined : AreJoinedBy name map plexes later) (lies : List Word) (w : Volume) (r : ℕ) (run : RegionRunsAs plexes state_was r w) where
    track_joins : (p : PlexImage) → Contains later p → GoesAt state_now p.map ((volume_joined lies name w).tracks p.name) r
    track_joins p one =
        elim (joined p one) [
          | inr here ↦ subst (λ (n : Word). GoesAt state_now p.map ((volume_joined lies name w).tracks n) r) (sym here.0) (subst (λ (t : Track). GoesAt state_now p.map t r) (sym (track_new lies name w)) (any_goes lies name w state_now p.map r))
          | inl was ↦
              subst (λ (n : Word). GoesAt state_now p.map ((volume_joined lies name w).tracks n) r) was.2
              (subst (λ (t : Track). GoesAt state_now p.map t r) (sym (track_other lies name w was.0.name (fresh was.0 was.1)))
              (subst (λ (k : ℕ). GoesAt state_now k (w.tracks was.0.name) r) was.3 (same_goes was.0.map (w.tracks was.0.name) r (run.tracks was.0 was.1))))
        ]

    pub region_joined : IsKeptState state_now → RegionRunsAs later state_now r (volume_joined lies name w)
    region_joined kept =
        record {
          kept = kept;
          here = run.here;
          candidates = run.candidates;
          last = run.last;
          tracks = track_joins;
          dirty = λ seen. run.dirty seen;
          unsettled = run.unsettled;
        }

-- ---- the volume

module _ (stands : EachPuttingStands) (tells : EachPuttingTells) (map : ℕ) (runs : List (List Seen)) (old new : VolumeSeen) (puts : PutsPlex map runs old new)
    (volume : IsVolume old) (free : IsFreeIn map old) (plex : IsPlexFor map runs old) (told : (r : ℕ) → r < length old.cells → RunTells (item_at [] runs r))
    (plexes later : List PlexImage) (name : Word) (others : IsMapOfNone map plexes) (fresh : IsNameOfNone name plexes) (joined : AreJoinedBy name map plexes later)
    (w : Volume) (run : RunsAsVolume plexes old w) (lies : List Word) where
  inside : (r : ℕ) → r < length new.cells → r < length old.cells
  inside r lt = subst (λ (n : ℕ). r < n) puts.cells.size lt

  same_length : new.length ≡ old.length
  same_length = ap (λ (v : VolumeSeen). v.length) puts.same

  same_region : new.region ≡ old.region
  same_region = ap (λ (v : VolumeSeen). v.region) puts.same

  same_log : new.log ≡ old.log
  same_log = ap (λ (v : VolumeSeen). v.log) puts.same

  abbrev state_by : ℕ → CellSeen → LogSeen → RegionState
  state_by r c log = state_of (with_log c log) (with_plex map (run.fixed r)) (entries_in r w.life.entries) NoCall c.number

  kept_now : (r : ℕ) → r < length new.cells → IsKeptState (state_by r (cell_at new r) new.log)
  kept_now r lt = stands map runs old new puts volume free plex run.fixed (λ n. entries_in n w.life.entries) (λ n at. (run.each n at).kept) r lt

  region_now : (r : ℕ) → r < length new.cells → RegionRunsAs later (state_by r (cell_at new r) new.log) r (volume_joined lies name w)
  region_now r lt =
      let at = inside r lt in
      let is = puts.cells.each r at in
      subst (λ (log : LogSeen). RegionRunsAs later (state_by r (cell_at new r) log) r (volume_joined lies name w)) (sym same_log)
      (subst (λ (x : CellSeen). RegionRunsAs later (state_by r x old.log) r (volume_joined lies name w)) (sym is)
      (region_joined map (item_at [] runs r) (cell_at old r) old.log (run.fixed r) (entries_in r w.life.entries) plexes later name fresh joined lies w r (run.each r at)
      (subst (λ (x : CellSeen). IsKeptState (state_by r x old.log)) is (subst (λ (log : LogSeen). IsKeptState (state_by r (cell_at new r) log)) same_log (kept_now r lt)))))

  held_now : (r k : ℕ) → r < length new.cells → (with_plex map (run.fixed r)).held k ≡ holds (cell_at new r).plexes k
  held_now r k lt =
      let at = inside r lt in
      let low = free.low in
      ap (λ (b : Bool). b || has (only map) k) (run.held r k at)
      ∙ ap (λ (b : Bool). holds (cell_at old r).plexes k || b) (only_is map k (omega (arith, low)))
      ∙ sym (holds_last map (item_at [] runs r) (cell_at old r).plexes k)
      ∙ ap (λ (x : CellSeen). holds x.plexes k) (sym (puts.cells.each r at))

  runs_now : RunsAsVolume later new (volume_joined lies name w)
  runs_now =
      record {
        fixed = λ r. with_plex map (run.fixed r);
        some = subst (λ (n : ℕ). 0 < n) (sym same_length) run.some;
        sized = subst (λ (n : ℕ). 0 < n) (sym same_region) run.sized;
        length_is = run.length_is ∙ sym same_length;
        region_is = run.region_is ∙ sym same_region;
        epoch = λ r lt. let at = inside r lt in ap (λ (x : CellSeen). x.epoch) (puts.cells.each r at) ∙ run.epoch r at;
        told = tells map runs old new puts told run.told;
        held = held_now;
        copies = λ r lt. run.copies r (inside r lt) ∙ ap (λ (log : LogSeen). log.copies) (sym same_log);
        each = region_now;
      }

  -- of the new plex nothing is sure
  unsure_new : (r : ℕ) → ((volume_joined lies name w).tracks name).sure r ≡ true → ⊥
  unsure_new r h = not_both h (ap (λ (t : Track). t.sure r) (track_new lies name w))

  sure_now : IsSureOfOthers plexes old w → IsSureOfOthers later new (volume_joined lies name w)
  sure_now of p one r lt h =
      let at = inside r lt in
      elim (joined p one) [
        | inr here ↦ absurd (unsure_new r (subst (λ (n : Word). ((volume_joined lies name w).tracks n).sure r ≡ true) here.0 h))
        | inl was ↦
            let q = was.0 in
            let sure : (w.tracks q.name).sure r ≡ true =
            ap (λ (t : Track). t.sure r) (sym (track_other lies name w q.name (fresh q was.1))) ∙ subst (λ (n : Word). ((volume_joined lies name w).tracks n).sure r ≡ true) (sym was.2) h in
            subst (λ (k : ℕ). IsOther (cell_at new r).stage k) was.3
            (subst (λ (x : CellSeen). IsOther x.stage q.map) (sym (puts.cells.each r at)) (other_same map (cell_at old r).stage q.map (of q was.1 r at sure)))
      ]

  pub still_joined : RunsStill plexes later old new w (volume_joined lies name w)
  still_joined = record { runs = runs_now; sure = sure_now }

pub joining_runs : EachPuttingStands → EachPuttingTells → EachJoiningRunsOn
joining_runs stands tells map runs old new puts volume free plex told plexes later name others fresh joined w run lies =
    still_joined stands tells map runs old new puts volume free plex told plexes later name others fresh joined w run lies

-- ---- owners

fit_new : (map : ℕ) (s : Stage) (p : TrackOwner) → map < 30 → p.available ≡ true → HasMap (with_on s map) map p
fit_new map s p low available = record { available = available ∙ sym (on_new map s low); known = inl (on_new map s low); not_dirty = λ e. absurd (omega (arith, low, e)) }

fit_other : (map : ℕ) (s : Stage) (k : ℕ) (p q : TrackOwner) → k ≢ map → q.available ≡ p.available → HasMap s k p → HasMap (with_on s map) k q
fit_other map s k p q apart same fit =
    record {
      available = same ∙ fit.available ∙ sym (on_other map s k apart);
      known = elim fit.known [ inl on ↦ inl (on_other map s k apart ∙ on) | inr other ↦ inr (other_same map s k other) ];
      not_dirty = fit.not_dirty;
    }

pub joining_fits : EachJoiningFits
joining_fits map runs old new puts free plexes later name others joined owners owners' are fit p one r lt =
    let at : r < length old.cells = subst (λ (n : ℕ). r < n) puts.cells.size lt in
    subst (λ (x : CellSeen). HasMap x.stage p.map (owners' p.name)) (sym (puts.cells.each r at))
    (elim (joined p one) [
      | inr here ↦
          subst (λ (n : Word). HasMap (with_on (cell_at old r).stage map) p.map (owners' n)) (sym here.0)
          (subst (λ (k : ℕ). HasMap (with_on (cell_at old r).stage map) k (owners' name)) (sym here.1) (fit_new map (cell_at old r).stage (owners' name) free.low are.new))
      | inl was ↦
          let q = was.0 in
          subst (λ (n : Word). HasMap (with_on (cell_at old r).stage map) p.map (owners' n)) was.2
          (subst (λ (k : ℕ). HasMap (with_on (cell_at old r).stage map) k (owners' q.name)) was.3
          (fit_other map (cell_at old r).stage q.map (owners q.name) (owners' q.name) (others q was.1) (are.others q was.1) (fit q was.1 r at)))
    ])
