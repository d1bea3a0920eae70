-- Copies that are done leave their plexes unmarked; where no mark is loose nothing is missing on them.
use Rattle.std.proofs.Common.{◌≡◌, ℕ, zero, suc, ◌<◌, ◌≤◌, Bool, true, false, not, refl, sym, ◌∙◌, ap, subst, inl, inr, cond, List, length, None, Result, Ok, arith}
use Rattle.std.specs.Prelude.{◌&&◌, Contains}
use Rattle.std.proofs.lemmas.Bool.{cases_eq, false≢true}
use Rattle.vx_base.specs.Named.{Word}
use Rattle.vx_mask.specs.Mask.{has, only, without}
use Rattle.vx_mask.proofs.MaskLemmas.{has-only_same, has-without}
use Rattle.vx_mask.proofs.Tests.{not_both, true_or_false}
use Rattle.vx_core.specs.declared.stage.Job.TheVariants.{Copy as CopyJob}
use Rattle.vx_core.specs.declared.stage.Phase.{Phase}
use Rattle.vx_core.specs.declared.stage.Phase.TheVariants.{Settled}
use Rattle.vx_core.specs.declared.stage.Stage.{Stage}
use Rattle.vx_core.specs.Region.{RegionState}
use Rattle.vx_core.specs.Soundness.{freeing}
use Rattle.vx_core_laws.specs.Tracking.{IsSeen}
use Rattle.vx_cell.specs.declared.fault.CellFault.{CellFault}
use Rattle.vx_cell.specs.Calls.{LeavesMarks}
use Rattle.vx_cell.specs.Changes.{CellSeen}
use Rattle.vx_cell.specs.Region.{RegionSeen, marks_or}
use Rattle.vx_moments.specs.World.{Track, Volume}
use Rattle.vx_image.specs.Image.{PlexImage}
use Rattle.vx_volume.specs.Loop.{AreDone}
use Rattle.vx_volume.specs.Passes.{CopiesTo, Copying, IsCopiedAt}
use Rattle.vx_volume.specs.Volume.{IsVolume, VolumeSeen, cell_at, region_at}
use Rattle.vx_volume_laws.specs.Tracks.{GoesAt}
use Rattle.vx_moments.specs.Lives.{no_track, volume_copied}
use Rattle.vx_group_start.specs.Copying.{CopiesMap}
use Rattle.vx_volume_laws.specs.Running.{RegionRunsAs, RunsAsVolume, state_at}
use Rattle.vx_group_volumes.specs.Copies.{AreOnIn, AreTight, AreUnmarked, EachCopyMissesNothing, EachCopyUnmarks, EachUnmarkedMissesNothing, IsUnmarkedAt, RunsLike}
use Rattle.vx_group_volumes.proofs.Tight.{copy_alive, copy_settles, done_of, pass_done, stays_tight}

-- ---- one region

and_none : (b : Bool) → (b && not true) ≡ false
and_none true = refl
and_none false = refl

-- a mark that is taken away is there no longer
freed : (marks map : ℕ) → map < 64 → has (without marks (only map)) map ≡ false
freed marks map low = has-without marks (only map) map ∙ ap (λ (b : Bool). has marks map && not b) (has-only_same map low) ∙ and_none (has marks map)

-- a mark that was not there is not there either
never : (marks other k : ℕ) → has marks k ≡ false → has (without marks other) k ≡ false
never marks other k none = has-without marks other k ∙ ap (λ (b : Bool). b && not (has other k)) none

-- the plex of the map is unmarked after the copy, if it is on, and what was unmarked is still
record Unmarks (map : ℕ) (s t : Stage) : Type 0 where
  pub on : t.on ≡ s.on
  pub settled : t.phase ≡ Settled
  pub here : has t.on map ≡ true → has t.bits map ≡ false
  pub still : (k : ℕ) → IsUnmarkedAt s k → has t.bits k ≡ false

here_by : (map : ℕ) (s t : Stage) (found : Bool) → map < 64 → LeavesMarks (CopyJob map) s t found → has t.on map ≡ true → has t.bits map ≡ false
here_by map s t true low left on = ap (λ (m : ℕ). has m map) left.left ∙ freed left.marks map low
here_by map s t false low left on = ap (λ (m : ℕ). has m map) left.left ∙ sym (ap (λ (b : Bool). b && has left.marks map) on) ∙ left.is_found

pub still_by : (map k : ℕ) (s t : Stage) (found : Bool) → LeavesMarks (CopyJob map) s t found → IsUnmarkedAt s k → has t.bits k ≡ false
still_by map k s t found left was =
    let none : has left.marks k ≡ false = ap (λ (m : ℕ). has m k) (left.were.settled was.settled) ∙ was.unmarked in
    by found left.left none
  where
    by : (b : Bool) → t.bits ≡ cond b (without left.marks (only map)) left.marks → has left.marks k ≡ false → has t.bits k ≡ false
    by true is none = ap (λ (m : ℕ). has m k) is ∙ never left.marks (only map) k none
    by false is none = ap (λ (m : ℕ). has m k) is ∙ none

copy_unmarks : (map : ℕ) (found : Bool) (old new : RegionSeen) → map < 64 → IsCopiedAt map (Ok found) old new → Unmarks map old.stage new.stage
copy_unmarks map found old new low is = record {
  on = copy_alive map found old new is (λ alive. (is.ends.ended.ended alive).masks.0);
  settled = copy_settles map found old new is;
  here = here_by map old.stage new.stage found low is.marks;
  still = λ k was. still_by map k old.stage new.stage found is.marks was;
}

-- ---- one pass

record PassUnmarks (map n : ℕ) (old new : VolumeSeen) : Type 0 where
  pub count : length new.cells ≡ length old.cells
  pub done : (i : ℕ) → i < n → Unmarks map (cell_at old i).stage (cell_at new i).stage
  pub later : (i : ℕ) → n ≤ i → cell_at new i ≡ cell_at old i

pass_step : (map n : ℕ) → map < 64 → (old : VolumeSeen) (mid new : Copying) → PassUnmarks map n old mid.volume → CopiesTo map n None mid new → PassUnmarks map (suc n) old new.volume
pass_step map n low old mid new was copies = record {
  count = copies.ends.count ∙ was.count;
  done = λ i lt. elim (cases_eq i n) [
    | inl is ↦ subst (λ (j : ℕ). Unmarks map (cell_at old j).stage (cell_at new.volume j).stage) (sym is) here
    | inr apart ↦ subst (λ (c : CellSeen). Unmarks map (cell_at old i).stage c.stage) (sym (copies.ends.others i apart)) (was.done i (omega (arith, lt, apart)))
  ];
  later = λ i le. copies.ends.others i (λ e. absurd (omega (arith, e, le))) ∙ was.later i (omega (arith, le));
}
  where
    here : Unmarks map (cell_at old n).stage (cell_at new.volume n).stage
    here =
        let ok = done_of copies.result copies.stopped in
        subst (λ (c : CellSeen). Unmarks map c.stage (cell_at new.volume n).stage) (was.later n (omega arith))
        (copy_unmarks map ok.0 (region_at mid.volume n) (region_at new.volume n) low
        (subst (λ (x : Result Bool CellFault). IsCopiedAt map x (region_at mid.volume n) (region_at new.volume n)) ok.1 copies.ends.goes))

pass_unmarks : (map : ℕ) → map < 64 → (n : ℕ) (old new : Copying) → AreDone (CopiesTo map) n old new → PassUnmarks map n old.volume new.volume
pass_unmarks map low zero old new same =
    subst (λ (c : Copying). PassUnmarks map 0 old.volume c.volume) (sym same)
    (record { count = refl; done = λ i lt. absurd (omega (arith, lt)); later = λ i le. refl })
pass_unmarks map low (suc n) old new done = pass_step map n low old.volume done.0 new (pass_unmarks map low n old done.0 done.1) done.2

-- ---- all passes

-- so far
abbrev AreUnmarkedBelow : ℕ → ℕ → VolumeSeen → Type 0
AreUnmarkedBelow n mask v = (r k : ℕ) → r < length v.cells → k < n → has mask k ≡ true → has (cell_at v r).stage.on k ≡ true → IsUnmarkedAt (cell_at v r).stage k

map_unmarks : (mask n : ℕ) → n < 64 → (mid new : VolumeSeen) → AreUnmarkedBelow n mask mid → CopiesMap mask n None mid new → AreUnmarkedBelow (suc n) mask new
map_unmarks mask n low mid new was copies = elim (true_or_false (has mask n)) [
  | inl there ↦
      let pass = copies.pass there in
      let done = pass_done n pass.result mid new pass.stopped pass.ends in
      after (pass_unmarks n low (length mid.cells) (record { volume = mid; copied = 0 }) (record { volume = new; copied = done.0 }) done.1)
  | inr away ↦ λ r k lt below in_mask on. subst (λ (v : VolumeSeen). IsUnmarkedAt (cell_at v r).stage k) (sym (copies.none away).1)
      (was r k (subst (λ (v : VolumeSeen). r < length v.cells) (copies.none away).1 lt) (lower k below in_mask away) in_mask (subst (λ (v : VolumeSeen). has (cell_at v r).stage.on k ≡ true) (copies.none away).1 on))
]
  where
    lower : (k : ℕ) → k < suc n → has mask k ≡ true → has mask n ≡ false → k < n
    lower k below in_mask away = elim (cases_eq k n) [ inl is ↦ not_both (subst (λ (j : ℕ). has mask j ≡ true) is in_mask) away | inr apart ↦ omega (arith, below, apart) ]

    after : PassUnmarks n (length mid.cells) mid new → AreUnmarkedBelow (suc n) mask new
    after pass r k lt below in_mask on =
        let inside : r < length mid.cells = subst (λ (m : ℕ). r < m) pass.count lt in
        let u = pass.done r inside in
        record {
          settled = u.settled;
          unmarked = elim (cases_eq k n) [
            | inl is ↦ subst (λ (j : ℕ). has (cell_at new r).stage.bits j ≡ false) (sym is) (u.here (subst (λ (j : ℕ). has (cell_at new r).stage.on j ≡ true) is on))
            | inr apart ↦ u.still k (was r k inside (omega (arith, below, apart)) in_mask (subst (λ (m : ℕ). has m k ≡ true) u.on on))
          ];
        }

maps_unmark : (mask n : ℕ) → n ≤ 64 → (old new : VolumeSeen) → AreDone (CopiesMap mask) n old new → AreUnmarkedBelow n mask new
maps_unmark mask zero few old new same = λ r k lt below in_mask on. absurd (omega (arith, below))
maps_unmark mask (suc n) few old new done = map_unmarks mask n (omega (arith, few)) done.0 new (maps_unmark mask n (omega (arith, few)) old done.0 done.1) done.2

pub copy_unmarks_all : EachCopyUnmarks
copy_unmarks_all mask n old new copied r k lt low =
    let all = copied.all in
    maps_unmark mask copied.maps (omega (arith, all)) old new copied.made r k lt (omega (arith, all, low))

-- ---- the volume of the world

module _ (mask : ℕ) (v : VolumeSeen) (volume : IsVolume v) (unmarked : AreUnmarked mask v) (tight : AreTight v) (plexes : List PlexImage) (w : Volume) (run : RunsAsVolume plexes v w) (copied : Word → Bool) (on : AreOnIn mask v plexes copied) where
  abbrev at : ℕ → RegionState
  at r = state_at v run.fixed w.life.entries r

  never_seen : (p : PlexImage) → Contains plexes p → copied p.name ≡ true → (r : ℕ) → r < length v.cells → IsSeen (at r) p.map → ⊥
  never_seen p one is r lt seen =
      let there = on p one is in
      let clear = unmarked r p.map lt there.low there.in_mask (there.on r lt) in
      elim seen [
        | inl bit ↦ not_both bit clear.unmarked
        | inr stray ↦ elim stray [
          | inl loose ↦ not_both loose (subst (λ (n : ℕ). (marks_or v.log.told n).loose p.map ≡ false) (sym (volume.each r lt).index) (tight r p.map lt))
          | inr leaving ↦ false≢true (sym (ap (λ (phase : Phase). freeing phase p.map) clear.settled) ∙ leaving)
        ]
      ]

  track_by : (b : Bool) (k r : ℕ) (t : Track) → GoesAt (at r) k t r → (b ≡ true → IsSeen (at r) k → ⊥) → GoesAt (at r) k (cond b no_track t) r
  track_by true k r t goes none = record { sure = λ other h. absurd (false≢true h); possible = λ seen. absurd (none refl seen) }
  track_by false k r t goes none = goes

  region_copied : (r : ℕ) → r < length v.cells → RegionRunsAs plexes (at r) r (volume_copied copied w)
  region_copied r lt =
      let was = run.each r lt in
      record {
        kept = was.kept;
        here = was.here;
        candidates = was.candidates;
        last = was.last;
        tracks = λ p one. track_by (copied p.name) p.map r (w.tracks p.name) (was.tracks p one) (λ is. never_seen p one is r lt);
        dirty = was.dirty;
        unsettled = was.unsettled;
      }

  sure_by : (b : Bool) (r : ℕ) (t : Track) → (cond b no_track t).sure r ≡ true → t.sure r ≡ true
  sure_by true r t h = absurd (false≢true h)
  sure_by false r t h = h

  misses_nothing : RunsLike plexes v w (volume_copied copied w)
  misses_nothing = record {
    runs = record {
      fixed = run.fixed;
      some = run.some;
      sized = run.sized;
      length_is = run.length_is;
      region_is = run.region_is;
      epoch = run.epoch;
      told = run.told;
      held = run.held;
      copies = run.copies;
      each = region_copied;
    };
    sure = λ sure p one r lt h. sure p one r lt (sure_by (copied p.name) r (w.tracks p.name) h);
  }

pub unmarked_misses_nothing : EachUnmarkedMissesNothing
unmarked_misses_nothing = misses_nothing

pub copy_misses_nothing : EachCopyMissesNothing
copy_misses_nothing mask n old new copied was is told none tight plexes w run names on =
    misses_nothing mask new is (copy_unmarks_all mask n old new copied) (stays_tight mask n old new copied was told none tight) plexes w run names on
