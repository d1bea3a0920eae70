-- A volume whose log was made firm, or of which a plex went on or off: it is one as before, and its regions stand for the histories that they
-- stood for.
use Rattle.std.proofs.Common.{◌≡◌, ◌≢◌, ℕ, zero, suc, ◌<◌, ◌≤◌, ◌^◌, Bool, true, false, if◌then◌else◌, refl, sym, ◌∙◌, ap, subst, inl, inr, arith, List, [], ◌∷◌, length, Option, Some, None, Result, Ok, Err}
use Rattle.std.specs.Prelude.{◌==◌, not}
use Rattle.std.specs.List.{list_any}
use Rattle.vx_life.specs.Entry.{Entry}
use Rattle.vx_mask.specs.Mask.{has, lowest, only, union, without}
use Rattle.vx_mask.specs.Marks.{Marks}
use Rattle.vx_mask.proofs.MaskLemmas.{has-lt, has-only_same, lowest_there, same_as_only, some_from_test, without-lt}
use Rattle.vx_mask.proofs.Sets.{in_union, in_without, union_cases, without_parts}
use Rattle.vx_mask.proofs.Tests.{not_both, or_cases, or_neither}
use Rattle.vx_core.specs.declared.stage.Stage.{Stage}
use Rattle.vx_core.specs.declared.stage.Phase.{Phase}
use Rattle.vx_core.specs.Form.{IsFormed, IsStage}
use Rattle.vx_core.specs.History.{NoCall}
use Rattle.vx_core.specs.Kept.{IsKept}
use Rattle.vx_core.specs.Plexes.{IsSpare, set_off, set_on}
use Rattle.vx_core.specs.Region.{Around, Fixed}
use Rattle.vx_core.specs.Schedule.{IsIdle}
use Rattle.vx_core.specs.Table.{current}
use Rattle.vx_core.proofs.PlexLaws.{set_off_keeps, set_on_keeps, stage_off, stage_on}
use Rattle.vx_marks.specs.Log.{KeepsLog, LogSeen, OnMarks}
use Rattle.vx_marks.specs.declared.marker.MarkFault.{MarkFault}
use Rattle.vx_pages.specs.Firm.{FirmsStore}
use Rattle.vx_pages.specs.Items.{EachItem, item_at}
use Rattle.vx_piece.specs.Seen.{Seen}
use Rattle.vx_cell.specs.declared.cell.Cell.{Cell}
use Rattle.vx_cell.specs.Changes.{CellSeen, cell_seen, has_other, stage_with}
use Rattle.vx_cell.specs.Plexes.{holds}
use Rattle.vx_cell.specs.Region.{IsLogOf, IsTold, IsWhole, StandsFor, Tells, TidiesOthers, marks_or, state_of}
use Rattle.vx_volume.specs.Laws.{EachFirmingGoesOn, EachFirmingTightens, EachPlexMayGoOff, EachPlexMayGoOn, EachSwitchTells, GoesOn}
use Rattle.std.specs.Global.{Vec}
use Rattle.vx_pages.specs.declared.local_piece.LocalPiece.{Ghosts}
use Rattle.vx_volume.specs.declared.log.VolumeLog.{VolumeLog}
use Rattle.vx_volume.specs.declared.volume.VolumeShape.{VolumeShape}
use Rattle.vx_volume.specs.Log.{log_seen}
use Rattle.vx_volume.specs.Switching.{CanSpare, HasPlex, IsSwitched, shape_with}
use Rattle.vx_volume.specs.Volume.{IsCellOf, IsVolume, VolumeSeen, cell_at, cells_seen, no_cell, region_at, seen_of, with_log}
use Rattle.vx_volume.proofs.Histories.{other_goes}
use Rattle.vx_volume.proofs.Steps.{whole_still}
use Rattle.vx_volume.proofs.Wholes.{idle_form, idle_freeing, idle_marked}

-- ---- loose marks

pub volume_firm : (v : VolumeSeen) (log : LogSeen) → KeepsLog v.log log → IsVolume v → IsVolume (record v { log = log })
volume_firm v log kept w =
    record {
      count = w.count;
      each = λ r lt.
          let c = w.each r lt in
          record { index = c.index; start = c.start; size = c.size; idle = c.idle; whole = whole_still (cell_at v r) v.log log kept c.whole; below = c.below };
      own = kept.lent ∙ w.own;
      scratch = w.scratch;
    }

-- where all marks are tidied, those beside any region are
tidies : (result : Result (Unit {0}) MarkFault) (region : ℕ) (a b : Option (ℕ → Marks)) → OnMarks (FirmsStore result) a b → OnMarks (TidiesOthers region) a b
tidies result region None b h = tt
tidies result region (Some a) None h = h
tidies (Ok u) region (Some a) (Some b) h = λ other apart. inr (h other)
tidies (Err fault) region (Some a) (Some b) h = λ other apart. h other

pub told_on : (F : (ℕ → Marks) → (ℕ → Marks) → Type 0) (a b : Option (ℕ → Marks)) → OnMarks F a b → Tells a → Tells b
told_on F None b h tells = absurd tells
told_on F (Some a) None h tells = h
told_on F (Some a) (Some b) h tells = tt

not_next : (n : ℕ) → n ≢ suc n
not_next n e = absurd (omega (arith, e))

pub firming_goes : EachFirmingGoesOn
firming_goes result old new firms told fixed entries =
    let cells : (r : ℕ) → cell_at new r ≡ cell_at old r = λ r. ap (λ (v : VolumeSeen). cell_at v r) firms.same in
    record {
      count = ap (λ (v : VolumeSeen). length v.cells) firms.same;
      each = λ r lt.
          subst (λ (c : CellSeen). GoesOn (region_at old r) (with_log c new.log) (fixed r) (entries r) (entries r)) (sym (cells r))
          (other_goes (suc (cell_at old r).region) (region_at old r) new.log (fixed r) (entries r) (not_next (cell_at old r).region) (told r lt).1 firms.kept
          (tidies result (suc (cell_at old r).region) old.log.told new.log.told firms.told));
      told = λ r lt.
          let inside : r < length old.cells = subst (λ (v : VolumeSeen). r < length v.cells) firms.same lt in
          subst (λ (c : CellSeen). IsTold (with_log c new.log)) (sym (cells r)) ((told r inside).0, told_on (FirmsStore result) old.log.told new.log.told firms.told (told r inside).1);
    }

tight_on : (a b : Option (ℕ → Marks)) → OnMarks (FirmsStore {T = Unit {0}} (Ok tt)) a b → Tells a → (r k : ℕ) → (marks_or b r).loose k ≡ false
tight_on None b h tells r k = absurd tells
tight_on (Some a) None h tells r k = absurd h
tight_on (Some a) (Some b) h tells r k = (h r).loose k

pub firming_tightens : EachFirmingTightens
firming_tightens old new firms told r k lt =
    let inside : r < length old.cells = subst (λ (v : VolumeSeen). r < length v.cells) firms.same lt in
    tight_on old.log.told new.log.told firms.told (told r inside).1 r k

-- ---- another plex

by_test : (b : Bool) → (if b then false else true) ≡ true → b ≡ false
by_test true test = cc
by_test false test = refl

-- another current plex
pub other_of : (s : Stage) (map : ℕ) → s.on < 2 ^ 64 → has_other s map ≡ true → (j : ℕ) × (has s.on j ≡ true) × (has s.bits j ≡ false) × (has (only map) j ≡ false)
other_of s map fits there =
    let mask : ℕ = without (current s) (only map) in
    let some : mask ≢ 0 = some_from_test mask (by_test (mask == 0) there) in
    let j = lowest_there mask some (without-lt (current s) (only map) (without-lt s.on s.bits fits)) in
    let out = without_parts (current s) (only map) (lowest mask) j.0 in
    let on = without_parts s.on s.bits (lowest mask) out.0 in
    (lowest mask, on.0, on.1, out.1)

pub apart_from : (map j : ℕ) → map < 64 → has (only map) j ≡ false → j ≢ map
apart_from map j low out e = not_both (has-only_same map low) (subst (λ (n : ℕ). has (only map) n ≡ false) e out)

pub low_by : (s : Stage) (held : ℕ → Bool) (map : ℕ) → IsStage s held → held map ≡ true → map < 64
low_by s held map stage there = elim (stage.plexes map there) [ inl on ↦ has-lt s.on map stage.on_fits on | inr off ↦ has-lt s.off map stage.off_fits off ]

-- ---- the stage

abbrev pub may_switch : (s : Stage) (map : ℕ) (on : Bool) → Type 0
may_switch s map true = Unit {0}
may_switch s map false = has_other s map ≡ true

formed_switched : (s : Stage) (phase : Phase) (held : ℕ → Bool) (map : ℕ) (on : Bool) → IsIdle phase → held map ≡ true → may_switch s map on → IsFormed s phase held → IsFormed (stage_with s map on) phase held
formed_switched s phase held map true idle there may h =
    record {
      stage = stage_on s held map h.stage there;
      readable = let r = h.readable in (r.0, in_union s.on (only map) r.0 (inl r.1), r.2, r.3);
      step = idle_form (set_on s map) phase idle;
      marked = idle_marked (set_on s map) phase idle;
    }
formed_switched s phase held map false idle there may h =
    let low = low_by s held map h.stage there in
    let j = other_of s map h.stage.on_fits may in
    record {
      stage = stage_off s held map j.0 h.stage (h.stage.plexes map there) j.1 (apart_from map j.0 low j.3);
      readable = (j.0, in_without s.on (only map) j.0 j.1 j.3, j.2, idle_freeing phase j.0 idle);
      step = idle_form (set_off s map) phase idle;
      marked = idle_marked (set_off s map) phase idle;
    }

-- no map comes to those of plexes and relations
maps_stay : (s : Stage) (held : ℕ → Bool) (map k : ℕ) (on : Bool) → IsStage s held → held map ≡ true →
    has (union (union (stage_with s map on).on (stage_with s map on).off) s.snaps) k ≡ true → has (union (union s.on s.off) s.snaps) k ≡ true
maps_stay s held map k on stage there bit =
    elim (union_cases (union (stage_with s map on).on (stage_with s map on).off) s.snaps k bit) [
      | inr snap ↦ in_union (union s.on s.off) s.snaps k (inr snap)
      | inl plex ↦
          elim (union_cases (stage_with s map on).on (stage_with s map on).off k plex) [
            | inl now ↦ on_stays on now
            | inr now ↦ off_stays on now
          ]
    ]
  where
    was_on : has s.on k ≡ true → has (union (union s.on s.off) s.snaps) k ≡ true
    was_on bit = in_union (union s.on s.off) s.snaps k (inl (in_union s.on s.off k (inl bit)))

    was_off : has s.off k ≡ true → has (union (union s.on s.off) s.snaps) k ≡ true
    was_off bit = in_union (union s.on s.off) s.snaps k (inl (in_union s.on s.off k (inr bit)))

    here : has (only map) k ≡ true → has (union (union s.on s.off) s.snaps) k ≡ true
    here bit =
        let same : (n : ℕ) → has (only map) n ≡ true → n ≡ map = same_as_only map in
        elim (stage.plexes map there) [
          | inl on ↦ was_on (subst (λ (n : ℕ). has s.on n ≡ true) (sym (same k bit)) on)
          | inr off ↦ was_off (subst (λ (n : ℕ). has s.off n ≡ true) (sym (same k bit)) off)
        ]

    on_stays : (on : Bool) → has (stage_with s map on).on k ≡ true → has (union (union s.on s.off) s.snaps) k ≡ true
    on_stays true bit = elim (union_cases s.on (only map) k bit) [ inl was ↦ was_on was | inr new ↦ here new ]
    on_stays false bit = was_on (without_parts s.on (only map) k bit).0

    off_stays : (on : Bool) → has (stage_with s map on).off k ≡ true → has (union (union s.on s.off) s.snaps) k ≡ true
    off_stays true bit = was_off (without_parts s.off (only map) k bit).0
    off_stays false bit = elim (union_cases s.off (only map) k bit) [ inl was ↦ was_off was | inr new ↦ here new ]

snaps_stay : (s : Stage) (map : ℕ) (on : Bool) → (stage_with s map on).snaps ≡ s.snaps
snaps_stay s map true = refl
snaps_stay s map false = refl

logged_stays : (s : Stage) (map : ℕ) (on : Bool) → (stage_with s map on).logged ≡ s.logged
logged_stays s map true = refl
logged_stays s map false = refl

pub phase_stays : (s : Stage) (map : ℕ) (on : Bool) → (stage_with s map on).phase ≡ s.phase
phase_stays s map true = refl
phase_stays s map false = refl

log_switched : (s : Stage) (held : ℕ → Bool) (map : ℕ) (on : Bool) (log : LogSeen) (region : ℕ) → IsStage s held → held map ≡ true → IsLogOf log region s → IsLogOf log region (stage_with s map on)
log_switched s held map on log region stage there is =
    record {
      there = is.there;
      known = is.known;
      maps = λ k bit. is.maps k (maps_stay s held map k on stage there (subst (λ (n : ℕ). has (union (union (stage_with s map on).on (stage_with s map on).off) n) k ≡ true) (snaps_stay s map on) bit));
      dirty = is.dirty;
    }

-- ---- a volume

abbrev switched : ℕ → Bool → CellSeen → CellSeen
switched map on c = record c { stage = stage_with c.stage map on }

whole_switched : (map : ℕ) (on : Bool) (c : CellSeen) (log : LogSeen) → IsIdle c.stage.phase → holds c.plexes map ≡ true → may_switch c.stage map on → IsWhole (with_log c log) → IsWhole (with_log (switched map on c) log)
whole_switched map on c log idle there may w =
    record {
      formed = subst (λ (p : Phase). IsFormed (stage_with c.stage map on) p (holds c.plexes)) (sym (phase_stays c.stage map on)) (formed_switched c.stage c.stage.phase (holds c.plexes) map on idle there may w.formed);
      differ = w.differ;
      cover = w.cover;
      some = w.some;
      fits = w.fits;
      logged = λ is. log_switched c.stage (holds c.plexes) map on log c.region w.formed.stage there (w.logged (sym (logged_stays c.stage map on) ∙ is));
    }

pub may_by : (s : Stage) (map : ℕ) (on : Bool) → (on ≡ false → has_other s map ≡ true) → may_switch s map on
may_by s map true may = tt
may_by s map false may = may refl

module _ (map : ℕ) (on : Bool) (v : VolumeSeen) (cells : List CellSeen) (plex : HasPlex map v) (spare : on ≡ false → CanSpare map v) where
  cell_switched : (r : ℕ) → r < length v.cells → IsSwitched map on (cell_at v r) (item_at no_cell cells r) → IsCellOf v r → IsCellOf (record v { cells = cells }) r
  cell_switched r lt is c =
      record {
        index = ap (λ (x : CellSeen). x.region) is ∙ c.index;
        start = ap (λ (x : CellSeen). x.start) is ∙ c.start;
        size = ap (λ (x : CellSeen). x.size) is ∙ c.size;
        idle = subst (λ (x : CellSeen). IsIdle x.stage.phase) (sym is) (subst (λ (p : Phase). IsIdle p) (sym (phase_stays (cell_at v r).stage map on)) c.idle);
        whole =
            subst (λ (x : CellSeen). IsWhole (with_log x v.log)) (sym is)
            (whole_switched map on (cell_at v r) v.log c.idle (plex r lt) (may_by (cell_at v r).stage map on (λ off. spare off r lt)) c.whole);
        below = subst (λ (x : CellSeen). x.number ≤ v.most) (sym is) c.below;
      }

  pub volume_switched : EachItem no_cell (λ r. IsSwitched map on) v.cells cells → IsVolume v → IsVolume (record v { cells = cells })
  volume_switched each w =
      record {
        count = each.size ∙ w.count;
        each = λ r lt. let inside : r < length v.cells = subst (λ (n : ℕ). r < n) each.size lt in cell_switched r inside (each.each r inside) (w.each r inside);
        own = w.own;
        scratch = w.scratch;
      }

-- its blocks and regions stay
same_length : (shape : VolumeShape) (map : ℕ) (on : Bool) → (shape_with shape map on).geometry.length ≡ shape.geometry.length
same_length shape map true = refl
same_length shape map false = refl

same_region : (shape : VolumeShape) (map : ℕ) (on : Bool) → (shape_with shape map on).geometry.region ≡ shape.geometry.region
same_region shape map true = refl
same_region shape map false = refl

module _ {P : Type 0} {ghosts : Ghosts P} (see : P → Seen) (cells : Vec (Cell P)) (log : VolumeLog P ghosts) (scratch : Vec ℕ) (most : ℕ) where
  abbrev sized : ℕ → ℕ → VolumeSeen
  sized long region = record { length = long; region = region; cells = cells_seen see cells.items; log = log_seen see log; scratch = length scratch.items; most = most }

  pub seen_switched : (shape shape' : VolumeShape) (map : ℕ) (on : Bool) → shape' ≡ shape_with shape map on → seen_of see shape' cells log scratch most ≡ seen_of see shape cells log scratch most
  seen_switched shape shape' map on is =
      ap (λ (n : ℕ). sized n shape'.geometry.region) (ap (λ (s : VolumeShape). s.geometry.length) is ∙ same_length shape map on)
      ∙ ap (λ (n : ℕ). sized shape.geometry.length n) (ap (λ (s : VolumeShape). s.geometry.region) is ∙ same_region shape map on)

-- ---- a plex that is needed

module _ {P : Type 0} (seen : P → Seen) (map : ℕ) where
  abbrev pub needs : Cell P → Bool
  needs cell = not (has_other (cell_seen seen cell).stage map)

  not_true : (b : Bool) → not b ≡ true → b ≡ false
  not_true true e = cc
  not_true false e = refl

  not_false : (b : Bool) → not b ≡ false → b ≡ true
  not_false true e = refl
  not_false false e = cc

  pub needed_at : (cells : List (Cell P)) → list_any needs cells ≡ true →
      (r : ℕ) × (r < length (cells_seen seen cells)) × (has_other (item_at no_cell (cells_seen seen cells) r).stage map ≡ false)
  needed_at [] none = cc
  needed_at (c ∷ cs) some =
      elim (or_cases (needs c) (list_any needs cs) some) [
        | inl here ↦ (0, omega arith, not_true (has_other (cell_seen seen c).stage map) here)
        | inr later ↦ let n = needed_at cs later in (suc n.0, (let lt = n.1 in omega (arith, lt)), n.2)
      ]

  pub spared_at : (cells : List (Cell P)) → list_any needs cells ≡ false → (r : ℕ) → r < length (cells_seen seen cells) → has_other (item_at no_cell (cells_seen seen cells) r).stage map ≡ true
  spared_at [] none r lt = absurd (omega (arith, lt))
  spared_at (c ∷ cs) none zero lt = not_false (has_other (cell_seen seen c).stage map) (or_neither (needs c) (list_any needs cs) none).0
  spared_at (c ∷ cs) none (suc r) lt = spared_at cs (or_neither (needs c) (list_any needs cs) none).1 r (omega (arith, lt))

-- ---- histories

module _ (map : ℕ) (on : Bool) (old new : VolumeSeen) (same : new ≡ record old { cells = new.cells }) where
  log_is : new.log ≡ old.log
  log_is = ap (λ (v : VolumeSeen). v.log) same

  stands_by : (r : ℕ) (fixed : Fixed) (entries : List Entry) → IsSwitched map on (cell_at old r) (cell_at new r) → StandsFor (with_log (switched map on (cell_at old r)) old.log) fixed entries NoCall → StandsFor (region_at new r) fixed entries NoCall
  stands_by r fixed entries is stood =
      subst (λ (l : LogSeen). StandsFor (with_log (cell_at new r) l) fixed entries NoCall) (sym log_is)
      (subst (λ (x : CellSeen). StandsFor (with_log x old.log) fixed entries NoCall) (sym is) stood)

pub plex_goes_on : EachPlexMayGoOn
plex_goes_on map old new switches volume fixed entries held stood r lt =
    let inside : r < length old.cells = subst (λ (n : ℕ). r < n) switches.cells.size lt in
    let c = cell_at old r in
    stands_by map true old new switches.same r (fixed r) (entries r) (switches.cells.each r inside)
    (set_on_keeps c.stage c.stage.phase (state_of (region_at old r) (fixed r) (entries r) NoCall c.number).around map (volume.each r inside).idle (held r inside) (stood r inside))

pub plex_goes_off : EachPlexMayGoOff
plex_goes_off map old new switches volume plex spare settled tight fixed entries stood r lt =
    let inside : r < length old.cells = subst (λ (n : ℕ). r < n) switches.cells.size lt in
    let c = cell_at old r in
    let cell = volume.each r inside in
    let around : Around = (state_of (region_at old r) (fixed r) (entries r) NoCall c.number).around in
    let stage = cell.whole.formed.stage in
    let low : map < 64 = low_by c.stage (holds c.plexes) map stage (plex r inside) in
    let j = other_of c.stage map stage.on_fits (spare r inside) in
    let is : IsSpare c.stage around map =
    record {
      tight = λ k. subst (λ (n : ℕ). (marks_or old.log.told n).loose k ≡ false) (sym cell.index) (tight r k inside);
      other = (j.0, j.1, j.2, apart_from map j.0 low j.3);
    } in
    stands_by map false old new switches.same r (fixed r) (entries r) (switches.cells.each r inside)
    (subst (λ (p : Phase). IsKept (set_off c.stage map) p around) (sym (settled r inside))
    (set_off_keeps c.stage around map (stage.plexes map (plex r inside)) is (subst (λ (p : Phase). IsKept c.stage p around) (settled r inside) (stood r inside))))

pub switch_tells : EachSwitchTells
switch_tells map on old new switches told r lt =
    let inside : r < length old.cells = subst (λ (n : ℕ). r < n) switches.cells.size lt in
    let log : new.log ≡ old.log = ap (λ (v : VolumeSeen). v.log) switches.same in
    subst (λ (l : LogSeen). IsTold (with_log (cell_at new r) l)) (sym log)
    (subst (λ (x : CellSeen). IsTold (with_log x old.log)) (sym (switches.cells.each r inside)) (told r inside))
