-- A volume runs on as the same one when a free map of its log was set.
use Rattle.std.proofs.Common.{◌≡◌, ◌≢◌, ℕ, ◌<◌, ◌⊎◌, Bool, true, false, if◌then◌else◌, sym, ◌∙◌, ap, subst, inl, inr, arith, List, length, Option, Some, None, Result, Ok, Err}
use Rattle.std.specs.Prelude.{◌&&◌, OnErr}
use Rattle.vx_life.specs.Entry.{Entry}
use Rattle.vx_mask.specs.Mask.{has}
use Rattle.vx_mask.specs.Marks.{Marks}
use Rattle.vx_mask.proofs.MaskLemmas.{has-zero}
use Rattle.vx_mask.proofs.Tests.{not_both, or_cases}
use Rattle.vx_core.specs.declared.stage.Phase.{Phase}
use Rattle.vx_core.specs.declared.stage.Phase.TheVariants.{Dead, Unsettled}
use Rattle.vx_core.specs.History.{NoCall}
use Rattle.vx_core.specs.Region.{Fixed, RegionState}
use Rattle.vx_core.specs.Schedule.{IsIdle}
use Rattle.vx_core_laws.specs.Course.{IsKeptState}
use Rattle.vx_core_laws.specs.Tracking.{IsSeen}
use Rattle.vx_marks.specs.Log.{LogSeen, OnMarks}
use Rattle.vx_marks.specs.declared.marker.MarkFault.{MarkFault}
use Rattle.vx_pages.specs.Setting.{Begun, Come, Done, IsMapSet, MarksBy, Still, Torn, come_to, differ}
use Rattle.vx_cell.specs.Changes.{CellSeen}
use Rattle.vx_cell.specs.Plexes.{holds}
use Rattle.vx_cell.specs.Region.{Tells, marks_or, state_of}
use Rattle.vx_cell.proofs.Changes.{other_number}
use Rattle.vx_volume.specs.Changing.{IsFreeIn, IsKnownMap, SetsMap, is_lost, with_mark}
use Rattle.vx_volume.specs.Laws.{EachSettingStands, EachSettingTells}
use Rattle.vx_volume.specs.Volume.{IsVolume, VolumeSeen, cell_at, with_log}
use Rattle.vx_volume.proofs.Remarks.{known_region}
use Rattle.vx_volume.proofs.Wholes.{idle_freeing}
use Rattle.vx_moments.specs.World.{Track, Volume}
use Rattle.vx_image.specs.Image.{PlexImage}
use Rattle.vx_volume_laws.specs.Running.{IsSureOfOthers, RegionRunsAs, RunsAsVolume, entries_in}
use Rattle.vx_volume_laws.specs.Tracks.{GoesAt, HasMap}
use Rattle.vx_change_laws.specs.Joining.{IsMapOfNone}
use Rattle.vx_change_laws.specs.Laws.{EachSettingFits, EachSettingIsQuiet, EachSettingRunsOn, RunsStill}
use Rattle.vx_change_laws.proofs.Failures.{free_map_new, runs_failed}
use Rattle.vx_change_laws.proofs.Masks.{mark_other}

-- ---- the log

-- of other maps no mark has become loose
abbrev pub LoosensNone : ℕ → Marks → Marks → Type 0
LoosensNone map old new = (k : ℕ) → k ≢ map → new.loose k ≡ true → old.loose k ≡ true

come_loosens : (come : Come) (map : ℕ) (claimed on : Bool) (old new : Marks) → MarksBy come map claimed on old new → LoosensNone map old new
come_loosens Done map claimed on old new marks k apart h = not_both h (marks.loose k)
come_loosens Torn map claimed on old new marks k apart h = not_both h (marks.loose k ∙ ap (λ (b : Bool). b && differ claimed on) (other_number k map apart))
come_loosens Begun map claimed on old new marks k apart h = elim (or_cases (old.loose k) (has 0 k) (sym (marks.loose k) ∙ h)) [ inl loose ↦ loose | inr none ↦ not_both none (has-zero k) ]
come_loosens Still map claimed on old new marks k apart h = subst (λ (m : Marks). m.loose k ≡ true) marks h

told_loosens : (map : ℕ) (come : ℕ → Come) (claims on has_region : ℕ → Bool) (was is : Option (ℕ → Marks)) (r : ℕ) →
    OnMarks (λ a b. (region : ℕ) → has_region region ≡ true → MarksBy (come region) map (claims region) (on region) (a region) (b region)) was is → Tells was → has_region r ≡ true →
    LoosensNone map (marks_or was r) (marks_or is r)
told_loosens map come claims on has_region None is r marks tells known = absurd tells
told_loosens map come claims on has_region (Some a) None r marks tells known = absurd marks
told_loosens map come claims on has_region (Some a) (Some b) r marks tells known = come_loosens (come r) map (claims r) (on r) (a r) (b r) (marks r known)

set_loosens : (map : ℕ) (bits : ℕ → Bool) (result : Result (Unit {0}) MarkFault) (old new : LogSeen) (r : ℕ) → IsMapSet map bits result old new → Tells old.told → old.has_region r ≡ true →
    LoosensNone map (marks_or old.told r) (marks_or new.told r)
set_loosens map bits (Ok u) old new r set tells known = told_loosens map (λ region. Done) (λ region. old.claims region map) bits old.has_region old.told new.told r set.told tells known
set_loosens map bits (Err fault) old new r set tells known = told_loosens map (come_to set.0 (if set.1 then Torn else Begun)) (λ region. old.claims region map) bits old.has_region old.told new.told r set.2.told tells known

-- ---- a region

-- it is killed where the power was lost
phase_idle : (lost : Bool) (phase : Phase) → IsIdle phase → IsIdle (if lost then Dead else phase)
phase_idle true phase idle = tt
phase_idle false phase idle = idle

phase_unsettled : (lost : Bool) (phase : Phase) → (if lost then Dead else phase) ≡ Unsettled → phase ≡ Unsettled
phase_unsettled true phase h = cc
phase_unsettled false phase h = h

module _ (map : ℕ) (claim lost : Bool) (c : CellSeen) (old new : LogSeen) (idle : IsIdle c.stage.phase) (less : LoosensNone map (marks_or old.told c.region) (marks_or new.told c.region)) (fixed : Fixed) (es : List Entry) where
  abbrev remarked : CellSeen
  remarked = record c { stage = record c.stage { bits = with_mark map claim c.stage.bits; phase = if lost then Dead else c.stage.phase } }

  abbrev state_was : RegionState
  state_was = state_of (with_log c old) fixed es NoCall c.number

  abbrev state_now : RegionState
  state_now = state_of (with_log remarked new) fixed es NoCall c.number

  -- what is seen of other maps was
  seen_was : (k : ℕ) → k ≢ map → IsSeen state_now k → IsSeen state_was k
  seen_was k apart (inl bit) = inl (sym (mark_other map claim c.stage.bits k apart) ∙ bit)
  seen_was k apart (inr (inl loose)) = inr (inl (less k apart loose))
  seen_was k apart (inr (inr freed)) = not_both freed (idle_freeing (if lost then Dead else c.stage.phase) k (phase_idle lost c.stage.phase idle))

  -- so their tracks go on
  track_goes : (k : ℕ) → k ≢ map → (t : Track) (r : ℕ) → GoesAt state_was k t r → GoesAt state_now k t r
  track_goes k apart t r g = record { sure = λ other h. mark_other map claim c.stage.bits k apart ∙ g.sure other h; possible = λ seen. g.possible (seen_was k apart seen) }

  pub region_set : map < 30 → (plexes : List PlexImage) → IsMapOfNone map plexes → (r : ℕ) (w : Volume) → IsKeptState state_now → RegionRunsAs plexes state_was r w → RegionRunsAs plexes state_now r w
  region_set low plexes others r w kept run =
      record {
        kept = kept;
        here = run.here;
        candidates = run.candidates;
        last = run.last;
        tracks = λ p one. track_goes p.map (others p one) (w.tracks p.name) r (run.tracks p one);
        dirty = λ seen. run.dirty (seen_was 30 (λ e. absurd (omega (arith, low, e))) seen);
        unsettled = λ h. run.unsettled (phase_unsettled lost c.stage.phase h);
      }

-- ---- the volume

module _ (stands : EachSettingStands) (tells : EachSettingTells) (map : ℕ) (bits : ℕ → Bool) (result : Result (Unit {0}) MarkFault) (old new : VolumeSeen) (sets : SetsMap map bits result old new)
    (volume : IsVolume old) (free : IsFreeIn map old) (known : OnErr result (IsKnownMap map old)) (plexes : List PlexImage) (others : IsMapOfNone map plexes) (w : Volume) (run : RunsAsVolume plexes old w) where
  inside : (r : ℕ) → r < length new.cells → r < length old.cells
  inside r lt = subst (λ (n : ℕ). r < n) sets.cells.size lt

  same_length : new.length ≡ old.length
  same_length = ap (λ (v : VolumeSeen). v.length) sets.same

  same_region : new.region ≡ old.region
  same_region = ap (λ (v : VolumeSeen). v.region) sets.same

  kept_now : (r : ℕ) → r < length new.cells → IsKeptState (state_of (with_log (cell_at new r) new.log) (run.fixed r) (entries_in r w.life.entries) NoCall (cell_at new r).number)
  kept_now r lt = stands map bits result old new sets volume free run.told known run.fixed (λ n. entries_in n w.life.entries) (λ n at. (run.each n at).kept) r lt

  less_at : (r : ℕ) → r < length old.cells → LoosensNone map (marks_or old.log.told (cell_at old r).region) (marks_or new.log.told (cell_at old r).region)
  less_at r lt =
      subst (λ (n : ℕ). LoosensNone map (marks_or old.log.told n) (marks_or new.log.told n)) (sym (volume.each r lt).index)
      (set_loosens map bits result old.log new.log r sets.set (run.told r lt).1 (known_region map old volume free r lt))

  region_now : (r : ℕ) → r < length new.cells → RegionRunsAs plexes (state_of (with_log (cell_at new r) new.log) (run.fixed r) (entries_in r w.life.entries) NoCall (cell_at new r).number) r w
  region_now r lt =
      let at = inside r lt in
      let is = sets.cells.each r at in
      let es = entries_in r w.life.entries in
      subst (λ (x : CellSeen). RegionRunsAs plexes (state_of (with_log x new.log) (run.fixed r) es NoCall x.number) r w) (sym is)
      (region_set map (new.log.claims r map) (is_lost result) (cell_at old r) old.log new.log (volume.each r at).idle (less_at r at) (run.fixed r) es free.low plexes others r w
      (subst (λ (x : CellSeen). IsKeptState (state_of (with_log x new.log) (run.fixed r) es NoCall x.number)) is (kept_now r lt)) (run.each r at))

  runs_now : RunsAsVolume plexes new w
  runs_now =
      record {
        fixed = run.fixed;
        some = subst (λ (n : ℕ). 0 < n) (sym same_length) run.some;
        sized = subst (λ (n : ℕ). 0 < n) (sym same_region) run.sized;
        length_is = run.length_is ∙ sym same_length;
        region_is = run.region_is ∙ sym same_region;
        epoch = λ r lt. let at = inside r lt in ap (λ (x : CellSeen). x.epoch) (sets.cells.each r at) ∙ run.epoch r at;
        told = tells map bits result old new sets run.told;
        held = λ r k lt. let at = inside r lt in run.held r k at ∙ ap (λ (x : CellSeen). holds x.plexes k) (sym (sets.cells.each r at));
        copies = λ r lt. run.copies r (inside r lt) ∙ sym sets.kept.copies;
        each = region_now;
      }

  sure_now : IsSureOfOthers plexes old w → IsSureOfOthers plexes new w
  sure_now of p one r lt h =
      let at = inside r lt in
      subst (λ (x : CellSeen). (has x.stage.off p.map ≡ true) ⊎ (has x.stage.snaps p.map ≡ true)) (sym (sets.cells.each r at)) (of p one r at h)

  pub still_set : RunsStill plexes plexes old new w w
  still_set = record { runs = runs_now; sure = sure_now }

pub setting_quiet : EachSettingStands → EachSettingTells → EachSettingIsQuiet
setting_quiet stands tells map bits result old new sets volume free known plexes others w run = still_set stands tells map bits result old new sets volume free known plexes others w run

pub setting_runs : EachSettingStands → EachSettingTells → EachSettingRunsOn
setting_runs stands tells map bits result old new sets volume free known plexes w run owners failed fit =
    let still = still_set stands tells map bits result old new sets volume free known plexes (free_map_new map old volume free plexes w run owners fit) w run in
    let noted = runs_failed owners failed w plexes new still.runs in
    record { runs = noted.runs; sure = λ of. noted.sure (still.sure of) }

-- ---- owners

pub setting_fits : EachSettingFits
setting_fits map bits result old new sets plexes owners fit p one r lt =
    let at : r < length old.cells = subst (λ (n : ℕ). r < n) sets.cells.size lt in
    subst (λ (x : CellSeen). HasMap x.stage p.map (owners p.name)) (sym (sets.cells.each r at)) (let f = fit p one r at in record { available = f.available; known = f.known; not_dirty = f.not_dirty })
