-- A volume of whose log a map was set: it is one as before, and its regions stand for the histories that they stood for.
use Rattle.std.proofs.Common.{◌≡◌, ◌≢◌, ℕ, ◌<◌, ◌≤◌, ◌^◌, Bool, true, false, if◌then◌else◌, refl, sym, ◌∙◌, ap, subst, inl, inr, arith, List, get_or, length, Option, Some, None, Result, Ok, Err}
use Rattle.std.specs.Prelude.{◌==◌, ◌&&◌, ◌||◌, not, OnErr, OnOk}
use Rattle.std.proofs.lemmas.Bool.{cases_eq}
use Rattle.vx_life.specs.Entry.{Entry}
use Rattle.vx_mask.specs.Mask.{has, only}
use Rattle.vx_mask.specs.Marks.{Marks}
use Rattle.vx_mask.proofs.MaskLemmas.{has-only_other, has-only_same, has-union, has-without, has-zero, only-lt, union-lt, without-lt}
use Rattle.vx_mask.proofs.Sets.{in_union, out_of}
use Rattle.vx_mask.proofs.Tests.{not_both, or_none}
use Rattle.vx_core.specs.declared.stage.Stage.{Stage}
use Rattle.vx_core.specs.declared.stage.Phase.{Phase}
use Rattle.vx_core.specs.declared.stage.Phase.TheVariants.{Dead}
use Rattle.vx_core.specs.Form.{IsFormed, IsStage}
use Rattle.vx_core.specs.History.{NoCall}
use Rattle.vx_core.specs.Kept.{IsKept}
use Rattle.vx_core.specs.Region.{Around, Fixed}
use Rattle.vx_core.specs.Schedule.{IsIdle, with_marks}
use Rattle.vx_core.specs.Soundness.{IsUnmarked}
use Rattle.vx_core.proofs.Ends.{IsSoundAtEnds, ends_from_sound, sound_from_ends}
use Rattle.vx_core.proofs.ScheduleLaws.{idle_contents}
use Rattle.vx_marks.specs.Log.{IsHonest, KeepsLog, LogSeen, OnMarks}
use Rattle.vx_marks.specs.declared.marker.MarkFault.{MarkFault}
use Rattle.vx_piece.specs.Seen.{Seen}
use Rattle.vx_pages.specs.Items.{EachItem, item_at}
use Rattle.vx_pages.proofs.Items.{at_is}
use Rattle.vx_pages.specs.Setting.{Begun, Come, Done, MarksBy, SetsSoFar, Still, Torn, claim_by, come_to, differ}
use Rattle.vx_volume.proofs.Honest.{setting_stays}
use Rattle.vx_cell.specs.declared.cell.Cell.{Cell}
use Rattle.vx_cell.specs.Changes.{CellSeen, cell_seen}
use Rattle.vx_cell.specs.Plexes.{holds}
use Rattle.vx_cell.specs.Region.{IsLogOf, IsTold, IsWhole, RegionSeen, StandsFor, Tells, marks_or, state_of}
use Rattle.vx_cell.proofs.Changes.{other_number, same_test}
use Rattle.vx_cell.proofs.LogMarks.{marks_tell}
use Rattle.vx_cell.proofs.Stands.{kill_stands}
use Rattle.vx_volume.specs.Changing.{IsFreeIn, IsFreeOf, IsKnownMap, IsRemarked, SetsMap, is_lost, with_mark}
use Rattle.vx_volume.specs.Laws.{AreTold, EachSettingKnows, EachSettingMarks, EachSettingStands, EachSettingTells, StandFor}
use Rattle.vx_volume.specs.Volume.{IsCellOf, IsVolume, VolumeSeen, cell_at, cells_seen, no_cell, region_at, with_log}
use Rattle.vx_volume.proofs.Wholes.{idle_form, idle_freeing, idle_marked}

-- ---- the mask

or_right_none : (x y : Bool) → y ≡ false → (x || y) ≡ x
or_right_none true y none = refl
or_right_none false y none = none

and_not_none : (x y : Bool) → y ≡ false → (x && not y) ≡ x
and_not_none true y none = rw none refl
and_not_none false y none = refl

pub mark_here : (map : ℕ) (on : Bool) (bits : ℕ) → map < 64 → has (with_mark map on bits) map ≡ on
mark_here map true bits low = in_union bits (only map) map (inr (has-only_same map low))
mark_here map false bits low = out_of bits (only map) map (has-only_same map low)

mark_other : (map : ℕ) (on : Bool) (bits k : ℕ) → k ≢ map → has (with_mark map on bits) k ≡ has bits k
mark_other map true bits k apart = has-union bits (only map) k ∙ or_right_none (has bits k) (has (only map) k) (has-only_other map k apart)
mark_other map false bits k apart = has-without bits (only map) k ∙ and_not_none (has bits k) (has (only map) k) (has-only_other map k apart)

mark_fits : (map : ℕ) (on : Bool) (bits : ℕ) → bits < 2 ^ 64 → with_mark map on bits < 2 ^ 64
mark_fits map true bits fits = union-lt bits (only map) fits (only-lt map)
mark_fits map false bits fits = without-lt bits (only map) fits

-- ---- a stage with other bits, which differ in the mark of a free map alone

abbrev with_bits : ℕ → Phase → Stage → Stage
with_bits bits phase s = record s { bits = bits; phase = phase }

apart_on : (map : ℕ) (s : Stage) (k : ℕ) → IsFreeOf map s → has s.on k ≡ true → k ≢ map
apart_on map s k free on = λ e. not_both (subst (λ (n : ℕ). has s.on n ≡ true) e on) free.on

apart_off : (map : ℕ) (s : Stage) (k : ℕ) → IsFreeOf map s → has s.off k ≡ true → k ≢ map
apart_off map s k free off = λ e. not_both (subst (λ (n : ℕ). has s.off n ≡ true) e off) free.off

apart_snap : (map : ℕ) (s : Stage) (k : ℕ) → IsFreeOf map s → has s.snaps k ≡ true → k ≢ map
apart_snap map s k free snap = λ e. not_both (subst (λ (n : ℕ). has s.snaps n ≡ true) e snap) free.snaps

apart_30 : (map : ℕ) → map < 30 → 30 ≢ map
apart_30 map low = λ e. absurd (omega (arith, low, e))

pub apart_held : (map : ℕ) (s : Stage) (held : ℕ → Bool) (k : ℕ) → IsFreeOf map s → IsStage s held → held k ≡ true → k ≢ map
apart_held map s held k free stage there = λ e. elim (stage.plexes k there) [ inl on ↦ apart_on map s k free on e | inr off ↦ apart_off map s k free off e ]

module _ (map bits : ℕ) (s : Stage) (free : IsFreeOf map s) (fits : bits < 2 ^ 64) (others : (k : ℕ) → k ≢ map → has bits k ≡ has s.bits k) where
  stage_marked : (phase : Phase) (held : ℕ → Bool) → IsStage s held → IsStage (with_bits bits phase s) held
  stage_marked phase held h =
      record {
        on_fits = h.on_fits;
        off_fits = h.off_fits;
        snaps_fit = h.snaps_fit;
        bits_fit = fits;
        off_apart = h.off_apart;
        snaps_apart = h.snaps_apart;
        off_snaps = h.off_snaps;
        dirty_apart = h.dirty_apart;
        held_on = h.held_on;
        plexes = h.plexes;
        alone = h.alone;
        unlogged = λ plain. not_both free.logged plain;
      }

  pub formed_marked : (was own phase : Phase) (held : ℕ → Bool) → IsIdle phase → IsFormed s was held → IsFormed (with_bits bits own s) phase held
  formed_marked was own phase held idle h =
      record {
        stage = stage_marked own held h.stage;
        readable = let r = h.readable in (r.0, r.1, others r.0 (apart_on map s r.0 free r.1) ∙ r.2, idle_freeing phase r.0 idle);
        step = idle_form (with_bits bits own s) phase idle;
        marked = idle_marked (with_bits bits own s) phase idle;
      }

-- ---- a volume

abbrev remarked : ℕ → Bool → Bool → Stage → Stage
remarked map lost on s = record s { bits = with_mark map on s.bits; phase = if lost then Dead else s.phase }

idle_left : (lost : Bool) (phase : Phase) → IsIdle phase → IsIdle (if lost then Dead else phase)
idle_left true phase idle = tt
idle_left false phase idle = idle

kept_log : (r : ℕ) (s s' : Stage) (old new : LogSeen) → s'.on ≡ s.on → s'.off ≡ s.off → s'.snaps ≡ s.snaps → KeepsLog old new → IsLogOf old r s → IsLogOf new r s'
kept_log r s s' old new on off snaps kept is =
    record {
      there = kept.there ∙ is.there;
      known = ap (λ (f : ℕ → Bool). f r) kept.has_region ∙ is.known;
      maps = λ k h. subst (λ (n : ℕ). k < n) (sym kept.maps) (is.maps k (rw (on, off, snaps) at h));
      dirty = subst (λ (n : ℕ). 30 < n) (sym kept.maps) is.dirty;
    }

whole_remarked : (map : ℕ) (lost on : Bool) (c : CellSeen) (old new : LogSeen) → IsIdle c.stage.phase → IsFreeOf map c.stage → KeepsLog old new → IsWhole (with_log c old) →
    IsWhole (with_log (record c { stage = remarked map lost on c.stage }) new)
whole_remarked map lost on c old new idle free kept w =
    record {
      formed =
          formed_marked map (with_mark map on c.stage.bits) c.stage free (mark_fits map on c.stage.bits w.formed.stage.bits_fit) (mark_other map on c.stage.bits)
          c.stage.phase (if lost then Dead else c.stage.phase) (if lost then Dead else c.stage.phase) (holds c.plexes) (idle_left lost c.stage.phase idle) w.formed;
      differ = w.differ;
      cover = w.cover;
      some = w.some;
      fits = w.fits;
      logged = λ there. kept_log c.region c.stage (remarked map lost on c.stage) old new refl refl refl kept (w.logged there);
    }

module _ (map : ℕ) (lost : Bool) (v : VolumeSeen) (cells : List CellSeen) (log : LogSeen) (free : IsFreeIn map v) (kept : KeepsLog v.log log) where
  abbrev now : VolumeSeen
  now = record v { cells = cells; log = log }

  cell_remarked : (r : ℕ) → r < length v.cells → IsRemarked map lost (log.claims r map) (cell_at v r) (item_at no_cell cells r) → IsCellOf v r → IsCellOf now r
  cell_remarked r lt is c =
      record {
        index = ap (λ (x : CellSeen). x.region) is ∙ c.index;
        start = ap (λ (x : CellSeen). x.start) is ∙ c.start;
        size = ap (λ (x : CellSeen). x.size) is ∙ c.size;
        idle = subst (λ (x : CellSeen). IsIdle x.stage.phase) (sym is) (idle_left lost (cell_at v r).stage.phase c.idle);
        whole = subst (λ (x : CellSeen). IsWhole (with_log x log)) (sym is) (whole_remarked map lost (log.claims r map) (cell_at v r) v.log log c.idle (free.each r lt) kept c.whole);
        below = subst (λ (x : CellSeen). x.number ≤ v.most) (sym is) c.below;
      }

  pub volume_remarked : EachItem no_cell (λ r. IsRemarked map lost (log.claims r map)) v.cells cells → IsVolume v → IsVolume now
  volume_remarked each w =
      record {
        count = each.size ∙ w.count;
        each = λ r lt. let inside : r < length v.cells = subst (λ (n : ℕ). r < n) each.size lt in cell_remarked r inside (each.each r inside) (w.each r inside);
        own = kept.lent ∙ w.own;
        scratch = w.scratch;
      }

-- the log has the regions of the volume, ..
pub known_region : (map : ℕ) (v : VolumeSeen) → IsVolume v → IsFreeIn map v → (r : ℕ) → r < length v.cells → v.log.has_region r ≡ true
known_region map v volume free r lt = let c = volume.each r lt in subst (λ (n : ℕ). v.log.has_region n ≡ true) c.index (c.whole.logged (free.each r lt).logged).known

-- .. and keeps them
pub known_still : (map : ℕ) (v : VolumeSeen) (log : LogSeen) → IsVolume v → IsFreeIn map v → KeepsLog v.log log → (r : ℕ) → r < length v.cells → log.has_region r ≡ true
known_still map v log volume free kept r lt = ap (λ (f : ℕ → Bool). f r) kept.has_region ∙ known_region map v volume free r lt

pub seen_at : {P : Type 0} (seen : P → Seen) (cells : List (Cell P)) (i : ℕ) (p : Cell P) → i < length cells → p ≡ get_or cells i p → item_at no_cell (cells_seen seen cells) i ≡ cell_seen seen p
seen_at seen cells i p lt is = at_is no_cell (cell_seen seen) cells i p lt ∙ ap (cell_seen seen) (sym is)

pub room_at_ok : {A : Type 0} (result : Result (Unit {0}) MarkFault) (lost : Bool) → lost ≡ is_lost result → (lost ≡ false → A) → OnOk result A
room_at_ok (Ok u) lost is room = room is
room_at_ok (Err fault) lost is room = tt

-- ---- histories

loose_less : (come : Come) (map : ℕ) (claimed on : Bool) (old new : Marks) → MarksBy come map claimed on old new → (k : ℕ) → k ≢ map → old.loose k ≡ false → new.loose k ≡ false
loose_less Done map claimed on old new marks k apart none = marks.loose k
loose_less Torn map claimed on old new marks k apart none = marks.loose k ∙ ap (λ (b : Bool). b && differ claimed on) (other_number k map apart)
loose_less Begun map claimed on old new marks k apart none = marks.loose k ∙ or_none (old.loose k) (has 0 k) none (has-zero k)
loose_less Still map claimed on old new marks k apart none = subst (λ (m : Marks). m.loose k ≡ false) (sym marks) none

module _ (map : ℕ) (come : Come) (on : Bool) (s : Stage) (phase : Phase) (a : Around) (now : Marks) (bits : ℕ) (fits : bits < 2 ^ 64) (idle : IsIdle phase) (free : IsFreeOf map s) (low : map < 30)
    (here : has bits map ≡ claim_by come (has s.bits map) on) (others : (k : ℕ) → k ≢ map → has bits k ≡ has s.bits k) (marks : MarksBy come map (has s.bits map) on a.disks.marks now) (kept : IsKept s phase a) where
  honest : IsHonest a.fixed.copies (has s.bits) a.disks.marks
  honest =
      record {
        shown = kept.sound.shown;
        bounded = λ n k inside h.
            elim (kept.sound.bounded n k inside h) [
              | inl bit ↦ inl bit
              | inr stray ↦ elim stray [ inl loose ↦ inr loose | inr freed ↦ not_both freed (idle_freeing phase k idle) ]
            ];
        apart = kept.apart;
      }

  by_map : (k : ℕ) → has bits k ≡ (if k == map then claim_by come (has s.bits k) on else has s.bits k)
  by_map k =
      elim (cases_eq k map) [
        | inl e ↦ subst (λ (n : ℕ). has bits n ≡ (if n == map then claim_by come (has s.bits n) on else has s.bits n)) (sym e) (let test : (map == map) ≡ true = same_test map in rw test here)
        | inr apart ↦ (let test : (k == map) ≡ false = other_number k map apart in rw test (others k apart))
      ]

  honest_now : IsHonest a.fixed.copies (has bits) now
  honest_now = setting_stays a.fixed.copies map come on (has s.bits) (has bits) a.disks.marks now by_map marks honest

  was_unmarked : (k : ℕ) → IsUnmarked a (has bits) k → IsUnmarked a (has s.bits) k
  was_unmarked k u = (u.0, sym (others k (apart_held map s a.fixed.held k free kept.form.stage u.0)) ∙ u.1)

  pub set_keeps : IsKept (with_bits bits s.phase s) phase (with_marks a now)
  set_keeps =
      let ends : IsSoundAtEnds s phase a = ends_from_sound kept.sound in
      record {
        form = formed_marked map bits s free fits others phase s.phase phase a.fixed.held idle kept.form;
        apart = honest_now.apart;
        sound = sound_from_ends (record {
          shown = honest_now.shown;
          bounded = λ n k inside h. elim (honest_now.bounded n k inside h) [ inl bit ↦ inl bit | inr loose ↦ inr (inl loose) ];
          readable =
              let r = ends.readable in
              let apart = apart_on map s r.0 free r.1 in
              (r.0, r.1, record { bits = others r.0 apart ∙ r.2.bits; loose = loose_less come map (has s.bits map) on a.disks.marks now marks r.0 apart r.2.loose; freeing = r.2.freeing });
          candidates = λ k i u. ends.candidates k i (was_unmarked k u);
          agree =
              elim ends.agree [
                | inl agree ↦ inl (λ j k i at_j at_k. agree j k i (was_unmarked j at_j) (was_unmarked k at_k))
                | inr may ↦
                    inr (
                      may.0,
                      record {
                        two = may.1.two;
                        dirty = others 30 (apart_30 map low) ∙ may.1.dirty;
                        off = λ k off is_held. others k (apart_off map s k free off) ∙ may.1.off k off is_held;
                      },
                    )
              ];
          tracked = λ m k i snap out u. ends.tracked m k i snap (sym (others m (apart_snap map s m free snap)) ∙ out) (was_unmarked k u);
          marked = idle_marked (with_bits bits s.phase s) phase idle;
        });
        call = kept.call;
        contents = idle_contents (with_bits bits s.phase s) phase a.pending a.disks.blocks idle;
        history = kept.history;
      }

-- a region with another mark of the map, and another log
abbrev region_with : ℕ → Bool → Bool → LogSeen → RegionSeen → RegionSeen
region_with map lost on log r = record r { stage = remarked map lost on r.stage; log = log }

module _ (map : ℕ) (come : Come) (claim on : Bool) (r : RegionSeen) (log : LogSeen) (idle : IsIdle r.stage.phase) (free : IsFreeOf map r.stage) (low : map < 30) (is : claim ≡ claim_by come (has r.stage.bits map) on)
    (marks : MarksBy come map (has r.stage.bits map) on (marks_or r.log.told r.region) (marks_or log.told r.region)) (fixed : Fixed) (entries : List Entry) (stood : StandsFor r fixed entries NoCall) where
  stands_alive : StandsFor (region_with map false claim log r) fixed entries NoCall
  stands_alive =
      set_keeps map come on r.stage r.stage.phase (state_of r fixed entries NoCall r.number).around (marks_or log.told r.region) (with_mark map claim r.stage.bits)
      (mark_fits map claim r.stage.bits stood.form.stage.bits_fit) idle free low (mark_here map claim r.stage.bits (omega (arith, low)) ∙ is) (mark_other map claim r.stage.bits) marks stood

  stands_remarked : (lost : Bool) → StandsFor (region_with map lost claim log r) fixed entries NoCall
  stands_remarked false = stands_alive
  stands_remarked true = kill_stands (region_with map false claim log r) fixed entries idle stands_alive

-- ---- all regions

claim_at : (map : ℕ) (bits : ℕ → Bool) (come : ℕ → Come) (old new : LogSeen) (r : ℕ) → SetsSoFar map bits come old new → old.has_region r ≡ true → new.claims r map ≡ claim_by (come r) (old.claims r map) (bits r)
claim_at map bits come old new r so known = let test : (map == map) ≡ true = same_test map in rw test at (so.claims r map known)

marks_at : (map : ℕ) (bits : ℕ → Bool) (come : ℕ → Come) (claims : ℕ → Bool) (has_region : ℕ → Bool) (was is : Option (ℕ → Marks)) (r : ℕ) →
    OnMarks (λ a b. (region : ℕ) → has_region region ≡ true → MarksBy (come region) map (claims region) (bits region) (a region) (b region)) was is → Tells was → has_region r ≡ true →
    MarksBy (come r) map (claims r) (bits r) (marks_or was r) (marks_or is r)
marks_at map bits come claims has_region None is r on tells known = absurd tells
marks_at map bits come claims has_region (Some a) None r on tells known = absurd on
marks_at map bits come claims has_region (Some a) (Some b) r on tells known = on r known

-- what was known of a map's marks matters only where the setting is not done
abbrev MattersLess : Come → (claimed was : Bool) → Type 0
MattersLess Done claimed was = Unit {0}
MattersLess Torn claimed was = claimed ≡ was
MattersLess Begun claimed was = claimed ≡ was
MattersLess Still claimed was = claimed ≡ was

same_claim : (come : Come) (claimed was on : Bool) → MattersLess come claimed was → claim_by come claimed on ≡ claim_by come was on
same_claim Done claimed was on e = refl
same_claim Torn claimed was on e = ap (λ (b : Bool). b && on) e
same_claim Begun claimed was on e = e
same_claim Still claimed was on e = e

same_marks : (come : Come) (map : ℕ) (claimed was on : Bool) (old new : Marks) → MattersLess come claimed was → MarksBy come map claimed on old new → MarksBy come map was on old new
same_marks Done map claimed was on old new e marks = marks
same_marks Torn map claimed was on old new e marks = subst (λ (b : Bool). MarksBy Torn map b on old new) e marks
same_marks Begun map claimed was on old new e marks = marks
same_marks Still map claimed was on old new e marks = marks

matters : (come : Come) (claimed was : Bool) → claimed ≡ was → MattersLess come claimed was
matters Done claimed was e = tt
matters Torn claimed was e = e
matters Begun claimed was e = e
matters Still claimed was e = e

module _ (map : ℕ) (bits : ℕ → Bool) (result : Result (Unit {0}) MarkFault) (old new : VolumeSeen) (sets : SetsMap map bits result old new) (volume : IsVolume old) (free : IsFreeIn map old) where
  region_stands : (come : ℕ → Come) → SetsSoFar map bits come old.log new.log → AreTold old → (fixed : ℕ → Fixed) (entries : ℕ → List Entry) → StandFor old fixed entries → (r : ℕ) → r < length old.cells →
      MattersLess (come r) (old.log.claims r map) (has (cell_at old r).stage.bits map) → StandsFor (region_at new r) (fixed r) (entries r) NoCall
  region_stands come so told fixed entries stood r lt less =
      let was = cell_at old r in
      let known = known_region map old volume free r lt in
      let c = volume.each r lt in
      let marks = marks_at map bits come (λ region. old.log.claims region map) old.log.has_region old.log.told new.log.told r so.told (told r lt).1 known in
      let at : MarksBy (come r) map (has was.stage.bits map) (bits r) (marks_or old.log.told was.region) (marks_or new.log.told was.region) =
      subst (λ (n : ℕ). MarksBy (come r) map (has was.stage.bits map) (bits r) (marks_or old.log.told n) (marks_or new.log.told n)) (sym c.index)
      (same_marks (come r) map (old.log.claims r map) (has was.stage.bits map) (bits r) (marks_or old.log.told r) (marks_or new.log.told r) less marks) in
      let claim : new.log.claims r map ≡ claim_by (come r) (has was.stage.bits map) (bits r) =
      claim_at map bits come old.log new.log r so known ∙ same_claim (come r) (old.log.claims r map) (has was.stage.bits map) (bits r) less in
      subst (λ (x : CellSeen). StandsFor (with_log x new.log) (fixed r) (entries r) NoCall) (sym (sets.cells.each r lt))
      (stands_remarked map (come r) (new.log.claims r map) (bits r) (region_at old r) new.log c.idle (free.each r lt) free.low claim at (fixed r) (entries r) (stood r lt) (is_lost result))

  inside_old : (r : ℕ) → r < length new.cells → r < length old.cells
  inside_old r lt = subst (λ (n : ℕ). r < n) sets.cells.size lt

so_far : (map : ℕ) (bits : ℕ → Bool) (result : Result (Unit {0}) MarkFault) (old new : VolumeSeen) → SetsMap map bits result old new → OnErr result (IsKnownMap map old) →
    (come : ℕ → Come) × SetsSoFar map bits come old.log new.log × ((r : ℕ) → r < length old.cells → MattersLess (come r) (old.log.claims r map) (has (cell_at old r).stage.bits map))
so_far map bits (Ok u) old new sets known = ((λ region. Done), sets.set, (λ r lt. tt))
so_far map bits (Err fault) old new sets known =
    let come : ℕ → Come = come_to sets.set.0 (if sets.set.1 then Torn else Begun) in
    (come, sets.set.2, (λ r lt. matters (come r) (old.log.claims r map) (has (cell_at old r).stage.bits map) (known r lt)))

pub setting_stands : EachSettingStands
setting_stands map bits result old new sets volume free told known fixed entries stood r lt =
    let so = so_far map bits result old new sets known in
    let inside : r < length old.cells = inside_old map bits result old new sets volume free r lt in
    region_stands map bits result old new sets volume free so.0 so.1 told fixed entries stood r inside (so.2 r inside)

-- ---- what tells goes on telling

log_tells : (map : ℕ) (bits : ℕ → Bool) (result : Result (Unit {0}) MarkFault) (old new : VolumeSeen) → SetsMap map bits result old new → Tells old.log.told → Tells new.log.told
log_tells map bits (Ok u) old new sets tells = marks_tell _ old.log.told new.log.told sets.set.told tells
log_tells map bits (Err fault) old new sets tells = marks_tell _ old.log.told new.log.told sets.set.2.told tells

pub setting_tells : EachSettingTells
setting_tells map bits result old new sets told r lt =
    let inside : r < length old.cells = subst (λ (n : ℕ). r < n) sets.cells.size lt in
    subst (λ (x : CellSeen). IsTold (with_log x new.log)) (sym (sets.cells.each r inside)) ((told r inside).0, log_tells map bits result old new sets (told r inside).1)

-- ---- the marks of a map that was set

pub setting_marks : EachSettingMarks
setting_marks map bits old new sets volume free r lt =
    let inside : r < length old.cells = inside_old map bits (Ok tt) old new sets volume free r lt in
    subst (λ (x : CellSeen). has x.stage.bits map ≡ bits r) (sym (sets.cells.each r inside))
    (mark_here map (new.log.claims r map) (cell_at old r).stage.bits (omega (arith, free.low)) ∙ claim_at map bits (λ region. Done) old.log new.log r sets.set (known_region map old volume free r inside))

pub setting_knows : EachSettingKnows
setting_knows map bits result old new sets free r lt =
    let inside : r < length old.cells = subst (λ (n : ℕ). r < n) sets.cells.size lt in
    subst (λ (x : CellSeen). new.log.claims r map ≡ has x.stage.bits map) (sym (sets.cells.each r inside)) (sym (mark_here map (new.log.claims r map) (cell_at old r).stage.bits (omega (arith, free.low))))
