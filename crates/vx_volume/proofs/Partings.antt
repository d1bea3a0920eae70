-- A volume that a plex has left: it is one as before, and its regions stand for the histories that they stood for.
use Rattle.std.proofs.Common.{◌≡◌, ◌≢◌, ℕ, zero, suc, ◌+◌, ◌-◌, ◌<◌, ◌≤◌, Bool, true, false, if◌then◌else◌, refl, sym, ◌∙◌, ap, subst, inl, inr, arith, List, [], ◌∷◌, ◌++◌, add-one, length, map as map_list, take}
use Rattle.std.specs.Prelude.{◌==◌, ◌&&◌, not}
use Rattle.std.specs.Global.{Vec}
use Rattle.std.proofs.lemmas.Bool.{cases_eq}
use Rattle.std.proofs.lemmas.List.{map_push}
use Rattle.vx_base.specs.Blocks.{Contents, is_in}
use Rattle.vx_life.specs.Entry.{Entry}
use Rattle.vx_mask.specs.Mask.{has, only, union}
use Rattle.vx_mask.proofs.MaskLemmas.{has-lt, has-only_other, has-only_same, without-lt}
use Rattle.vx_mask.proofs.Sets.{in_union, in_without, out_without_left, union_cases, without_parts}
use Rattle.vx_mask.proofs.Tests.{and_not_parts, not_both, or_cases, or_from_left, or_from_right, or_none, true_or_false}
use Rattle.vx_core.specs.declared.stage.Stage.{Stage}
use Rattle.vx_core.specs.declared.stage.Phase.{Phase}
use Rattle.vx_core.specs.declared.stage.Phase.TheVariants.{Settled}
use Rattle.vx_core.specs.Form.{IsFormed, IsStage}
use Rattle.vx_core.specs.History.{NoCall}
use Rattle.vx_core.specs.Kept.{IsKept}
use Rattle.vx_core.specs.Plexes.{IsSpare, take_out, taken_from, with_held}
use Rattle.vx_core.specs.Region.{Around, Fixed}
use Rattle.vx_core.specs.Schedule.{IsIdle}
use Rattle.vx_core.specs.Soundness.{Agree, IsSoundUnder, MayHold}
use Rattle.vx_core.proofs.PlexLaws.{take_keeps}
use Rattle.vx_marks.specs.Log.{LogSeen}
use Rattle.vx_pages.specs.Items.{EachItem, item_at}
use Rattle.vx_pages.specs.declared.local_piece.LocalPiece.{Ghosts}
use Rattle.vx_piece.specs.Seen.{Seen}
use Rattle.vx_runs.specs.Run.{run_contents}
use Rattle.vx_cell.specs.declared.cell.Cell.{Cell}
use Rattle.vx_cell.specs.Changes.{CellSeen, has_other}
use Rattle.vx_cell.specs.Parting.{LosesPlex, without_plex}
use Rattle.vx_cell.specs.Plexes.{AllCover, AllTell, MapsDiffer, PlexSeen, blocks_of, contents_of, holds}
use Rattle.vx_cell.specs.Region.{IsLogOf, IsTold, IsWhole, RegionSeen, StandsFor, marks_or, state_of}
use Rattle.vx_cell.proofs.Changes.{other_number, same_number}
use Rattle.vx_volume.specs.declared.log.VolumeLog.{VolumeLog}
use Rattle.vx_volume.specs.declared.volume.VolumeShape.{VolumeShape}
use Rattle.vx_volume.specs.Changing.{runs_seen}
use Rattle.vx_volume.specs.Laws.{EachLeavingTells, EachPlexMayLeave, without_held}
use Rattle.vx_volume.specs.Parting.{shape_without}
use Rattle.vx_volume.specs.Switching.{CanSpare}
use Rattle.vx_volume.specs.Volume.{IsCellOf, IsVolume, VolumeSeen, cell_at, no_cell, region_at, seen_of, with_log}
use Rattle.vx_volume.proofs.Switchings.{apart_from, low_by, other_of}
use Rattle.vx_volume.proofs.Wholes.{idle_form, idle_freeing, idle_marked}

-- ---- the pieces, region by region

-- one region more
item_more : (f : CellSeen → List Seen) (cells : List CellSeen) (i : ℕ) → i < length cells → map_list f (take (suc i) cells) ≡ map_list f (take i cells) ++ f (item_at no_cell cells i) ∷ []
item_more f [] i lt = absurd (omega (arith, lt))
item_more f (c ∷ cs) zero lt = refl
item_more f (c ∷ cs) (suc i) lt = ap (λ (xs : List (List Seen)). f c ∷ xs) (item_more f cs i (omega (arith, lt)))

module _ {P : Type 0} (see : P → Seen) (f : CellSeen → List Seen) where
  abbrev run_of : Vec P → List Seen
  run_of v = map_list see v.items

  pub runs_on : (cells : List CellSeen) (i : ℕ) (runs runs' : List (Vec P)) (run : Vec P) → i < length cells → runs' ≡ runs ++ run ∷ [] → run_of run ≡ f (item_at no_cell cells i) →
      runs_seen see runs ≡ map_list f (take i cells) → runs_seen see runs' ≡ map_list f (take (i + 1) cells)
  runs_on cells i runs runs' run lt is here so_far =
      rw add-one
      (ap (λ (xs : List (Vec P)). runs_seen see xs) is
      ∙ map_push run_of runs run
      ∙ ap (λ (xs : List (List Seen)). xs ++ run_of run ∷ []) so_far
      ∙ ap (λ (x : List Seen). map_list f (take i cells) ++ x ∷ []) here
      ∙ sym (item_more f cells i lt))

-- ---- one plex less

same_tests : (x y : Bool) → (x ≡ true → y ≡ true) → (y ≡ true → x ≡ true) → x ≡ y
same_tests true y there back = sym (there refl)
same_tests false true there back = back refl
same_tests false false there back = refl

but_none : (x y : Bool) → y ≡ false → (x && not y) ≡ x
but_none true y none = rw none refl
but_none false y none = refl

none_here : (x y : Bool) → (x ≡ true → y ≡ true) → (x && not y) ≡ false
none_here true y here = rw (here refl) refl
none_here false y here = refl

module _ (map : ℕ) where
  -- what is left was there
  left_was : (ps : List PlexSeen) (k : ℕ) → holds (without_plex map ps) k ≡ true → holds ps k ≡ true
  left_was [] k there = there
  left_was (p ∷ ps) k there =
      elim (true_or_false (p.map == map)) [
        | inl first ↦ or_from_right (p.map == k) (holds ps k) (rw first at there)
        | inr other ↦
            elim (or_cases (p.map == k) (holds (without_plex map ps) k) (rw other at there)) [
              | inl here ↦ or_from_left (p.map == k) (holds ps k) here
              | inr later ↦ or_from_right (p.map == k) (holds ps k) (left_was ps k later)
            ]
      ]

  -- no plex of the map is left
  none_left : (ps : List PlexSeen) → MapsDiffer ps → holds (without_plex map ps) map ≡ false
  none_left [] differ = refl
  none_left (p ∷ ps) differ =
      elim (true_or_false (p.map == map)) [
        | inl first ↦ rw first (subst (λ (n : ℕ). holds ps n ≡ false) (same_number p.map map first) differ.0)
        | inr other ↦ rw other (or_none (p.map == map) (holds (without_plex map ps) map) other (none_left ps differ.1))
      ]

  -- another plex stays
  other_stays : (ps : List PlexSeen) (k : ℕ) → k ≢ map → holds ps k ≡ true → holds (without_plex map ps) k ≡ true
  other_stays [] k apart there = there
  other_stays (p ∷ ps) k apart there =
      elim (true_or_false (p.map == map)) [
        | inl first ↦
            rw first (elim (or_cases (p.map == k) (holds ps k) there) [
              | inl here ↦ absurd (apart (sym (same_number p.map k here) ∙ same_number p.map map first))
              | inr later ↦ later
            ])
        | inr other ↦
            rw other (elim (or_cases (p.map == k) (holds ps k) there) [
              | inl here ↦ or_from_left (p.map == k) (holds (without_plex map ps) k) here
              | inr later ↦ or_from_right (p.map == k) (holds (without_plex map ps) k) (other_stays ps k apart later)
            ])
      ]

  not_left : (ps : List PlexSeen) (k : ℕ) → holds ps k ≡ false → holds (without_plex map ps) k ≡ false
  not_left ps k none = elim (true_or_false (holds (without_plex map ps) k)) [ inl there ↦ not_both (left_was ps k there) none | inr out ↦ out ]

  -- just the others are left
  pub holds_less : (ps : List PlexSeen) → MapsDiffer ps → (holds ps map ≡ true → map < 64) → (k : ℕ) → holds (without_plex map ps) k ≡ (holds ps k && not (has (only map) k))
  holds_less ps differ low k =
      elim (cases_eq k map) [
        | inr apart ↦ same_tests (holds (without_plex map ps) k) (holds ps k) (left_was ps k) (other_stays ps k apart) ∙ sym (but_none (holds ps k) (has (only map) k) (has-only_other map k apart))
        | inl e ↦ subst (λ (n : ℕ). holds (without_plex map ps) n ≡ (holds ps n && not (has (only map) n))) (sym e) (none_left ps differ ∙ sym (none_here (holds ps map) (has (only map) map) (λ there. has-only_same map (low there))))
      ]

  differ_less : (ps : List PlexSeen) → MapsDiffer ps → MapsDiffer (without_plex map ps)
  differ_less [] differ = tt
  differ_less (p ∷ ps) differ = elim (true_or_false (p.map == map)) [ inl first ↦ rw first differ.1 | inr other ↦ rw other (not_left ps p.map differ.0, differ_less ps differ.1) ]

  cover_less : (size : ℕ) (ps : List PlexSeen) → AllCover size ps → AllCover size (without_plex map ps)
  cover_less size [] cover = tt
  cover_less size (p ∷ ps) cover = elim (true_or_false (p.map == map)) [ inl first ↦ rw first cover.1 | inr other ↦ rw other (cover.0, cover_less size ps cover.1) ]

  tell_less : (ps : List PlexSeen) → AllTell ps → AllTell (without_plex map ps)
  tell_less [] tells = tt
  tell_less (p ∷ ps) tells = elim (true_or_false (p.map == map)) [ inl first ↦ rw first tells.1 | inr other ↦ rw other (tells.0, tell_less ps tells.1) ]

  contents_less : (ps : List PlexSeen) (k i : ℕ) → k ≢ map → contents_of (without_plex map ps) k i ≡ contents_of ps k i
  contents_less [] k i apart = refl
  contents_less (p ∷ ps) k i apart =
      elim (true_or_false (p.map == map)) [
        | inl first ↦ rw first (let other : (p.map == k) ≡ false = other_number p.map k (λ e. apart (sym e ∙ same_number p.map map first)) in rw other refl)
        | inr other ↦ rw other (ap (λ (x : List ℕ). if p.map == k then run_contents p.pieces i else x) (contents_less ps k i apart))
      ]

  blocks_less : (start size : ℕ) (ps : List PlexSeen) (k i : ℕ) → k ≢ map → blocks_of start size (without_plex map ps) k i ≡ blocks_of start size ps k i
  blocks_less start size ps k i apart = ap (λ (x : List ℕ). if is_in start size i then x else []) (contents_less ps k (i - start) apart)

-- ---- the stage

-- a map below 64 that is not in the mask of this one is another
low_apart : (map k : ℕ) → k < 64 → has (only map) k ≡ false → k ≢ map
low_apart map k low out e = apart_from map k (subst (λ (n : ℕ). n < 64) e low) out e

module _ (map : ℕ) (s : Stage) (ps : List PlexSeen) (differ : MapsDiffer ps) where
  abbrev left : List PlexSeen
  left = without_plex map ps

  is_other : (k : ℕ) → holds left k ≡ true → k ≢ map
  is_other k there e = not_both (subst (λ (n : ℕ). holds left n ≡ true) e there) (none_left map ps differ)

  stage_left : IsStage s (holds ps) → IsStage (take_out s map) (holds left)
  stage_left h =
      record {
        on_fits = without-lt s.on (only map) h.on_fits;
        off_fits = without-lt s.off (only map) h.off_fits;
        snaps_fit = h.snaps_fit;
        bits_fit = h.bits_fit;
        off_apart = λ k on. out_without_left s.off (only map) k (h.off_apart k (without_parts s.on (only map) k on).0);
        snaps_apart = λ k on. h.snaps_apart k (without_parts s.on (only map) k on).0;
        off_snaps = λ k off. h.off_snaps k (without_parts s.off (only map) k off).0;
        dirty_apart = (out_without_left s.on (only map) 30 h.dirty_apart.0, out_without_left s.off (only map) 30 h.dirty_apart.1, h.dirty_apart.2);
        held_on = λ k on.
            let parts = without_parts s.on (only map) k on in
            other_stays map ps k (low_apart map k (has-lt s.on k h.on_fits parts.0) parts.1) (h.held_on k parts.0);
        plexes = λ k there.
            let out : has (only map) k ≡ false = has-only_other map k (is_other k there) in
            elim (h.plexes k (left_was map ps k there)) [ inl on ↦ inl (in_without s.on (only map) k on out) | inr off ↦ inr (in_without s.off (only map) k off out) ];
        alone = λ plain j k on_j on_k. h.alone plain j k (without_parts s.on (only map) j on_j).0 (without_parts s.on (only map) k on_k).0;
        unlogged = λ plain k. let u = h.unlogged plain k in (out_without_left s.off (only map) k u.0, u.1, u.2);
      }

  formed_left : (phase : Phase) → IsIdle phase → has_other s map ≡ true → IsFormed s phase (holds ps) → IsFormed (take_out s map) phase (holds left)
  formed_left phase idle spare h =
      let j = other_of s map h.stage.on_fits spare in
      record {
        stage = stage_left h.stage;
        readable = (j.0, in_without s.on (only map) j.0 j.1 j.3, j.2, idle_freeing phase j.0 idle);
        step = idle_form (take_out s map) phase idle;
        marked = idle_marked (take_out s map) phase idle;
      }

  log_left : (log : LogSeen) (region : ℕ) → IsLogOf log region s → IsLogOf log region (take_out s map)
  log_left log region is =
      record {
        there = is.there;
        known = is.known;
        maps = λ k bit.
            elim (union_cases (union (take_out s map).on (take_out s map).off) s.snaps k bit) [
              | inr snap ↦ is.maps k (in_union (union s.on s.off) s.snaps k (inr snap))
              | inl plex ↦
                  is.maps k (in_union (union s.on s.off) s.snaps k (inl (elim (union_cases (take_out s map).on (take_out s map).off k plex) [
                    | inl on ↦ in_union s.on s.off k (inl (without_parts s.on (only map) k on).0)
                    | inr off ↦ in_union s.on s.off k (inr (without_parts s.off (only map) k off).0)
                  ])))
            ];
        dirty = is.dirty;
      }

-- ---- a volume

abbrev lost : ℕ → CellSeen → CellSeen
lost map c = record c { stage = take_out c.stage map; plexes = without_plex map c.plexes }

whole_lost : (map : ℕ) (c : CellSeen) (log : LogSeen) → IsIdle c.stage.phase → has_other c.stage map ≡ true → IsWhole (with_log c log) → IsWhole (with_log (lost map c) log)
whole_lost map c log idle spare w =
    record {
      formed = formed_left map c.stage c.plexes w.differ c.stage.phase idle spare w.formed;
      differ = differ_less map c.plexes w.differ;
      cover = cover_less map c.size c.plexes w.cover;
      some = w.some;
      fits = w.fits;
      logged = λ there. log_left map c.stage c.plexes w.differ log c.region (w.logged there);
    }

module _ (map : ℕ) (v : VolumeSeen) (cells : List CellSeen) (spare : CanSpare map v) where
  cell_lost : (r : ℕ) → r < length v.cells → LosesPlex map (cell_at v r) (item_at no_cell cells r) → IsCellOf v r → IsCellOf (record v { cells = cells }) r
  cell_lost r lt is c =
      record {
        index = ap (λ (x : CellSeen). x.region) is ∙ c.index;
        start = ap (λ (x : CellSeen). x.start) is ∙ c.start;
        size = ap (λ (x : CellSeen). x.size) is ∙ c.size;
        idle = subst (λ (x : CellSeen). IsIdle x.stage.phase) (sym is) c.idle;
        whole = subst (λ (x : CellSeen). IsWhole (with_log x v.log)) (sym is) (whole_lost map (cell_at v r) v.log c.idle (spare r lt) c.whole);
        below = subst (λ (x : CellSeen). x.number ≤ v.most) (sym is) c.below;
      }

  pub volume_lost : EachItem no_cell (λ r. LosesPlex map) v.cells cells → IsVolume v → IsVolume (record v { cells = cells })
  volume_lost each w =
      record {
        count = each.size ∙ w.count;
        each = λ r lt. let inside : r < length v.cells = subst (λ (n : ℕ). r < n) each.size lt in cell_lost r inside (each.each r inside) (w.each r inside);
        own = w.own;
        scratch = w.scratch;
      }

-- its blocks and regions stay
pub seen_lost : {P : Type 0} {ghosts : Ghosts P} (see : P → Seen) (cells : Vec (Cell P)) (log : VolumeLog P ghosts) (scratch : Vec ℕ) (most : ℕ) (shape shape' : VolumeShape) (map : ℕ) →
    shape' ≡ shape_without shape map → seen_of see shape' cells log scratch most ≡ seen_of see shape cells log scratch most
seen_lost see cells log scratch most shape shape' map is = ap (λ (s : VolumeShape). seen_of see s cells log scratch most) is

-- ---- histories

-- what is kept speaks of the blocks of held plexes alone
module _ (s : Stage) (a : Around) (blocks : ℕ → Contents) (same : (k i : ℕ) → a.fixed.held k ≡ true → blocks k i ≡ a.disks.blocks k i) where
  abbrev now : Around
  now = with_held a a.fixed.held blocks

  agree_so : (B : ℕ → Bool) → Agree a B → Agree now B
  agree_so B agree j k i at_j at_k = same j i at_j.0 ∙ agree j k i at_j at_k ∙ sym (same k i at_k.0)

  under_so : (phase : Phase) (B : ℕ → Bool) → IsSoundUnder s phase a B → IsSoundUnder s phase now B
  under_so phase B u =
      record {
        readable = u.readable;
        candidates = λ k i unmarked. subst (λ (x : List ℕ). MayHold a i x) (sym (same k i unmarked.0)) (u.candidates k i unmarked);
        agree = elim u.agree [ inl agree ↦ inl (agree_so B agree) | inr may ↦ inr may ];
        tracked = λ m k i snap out unmarked. same k i unmarked.0 ∙ u.tracked m k i snap out unmarked;
      }

  pub kept_so : IsKept s Settled a → IsKept s Settled now
  kept_so kept =
      record {
        form = kept.form;
        apart = kept.apart;
        sound = record {
          shown = kept.sound.shown;
          bounded = kept.sound.bounded;
          under = λ B between. under_so Settled B (kept.sound.under B (record { least = between.least; most = between.most }));
          marked = kept.sound.marked;
        };
        call = kept.call;
        contents = tt;
        history = kept.history;
      }

abbrev region_lost : ℕ → RegionSeen → RegionSeen
region_lost map r = record r { stage = take_out r.stage map; plexes = without_plex map r.plexes }

stands_lost : (map : ℕ) (r : RegionSeen) (fixed : Fixed) (entries : List Entry) → r.stage.phase ≡ Settled → IsSpare r.stage (state_of r fixed entries NoCall r.number).around map → StandsFor r fixed entries NoCall →
    StandsFor (region_lost map r) (without_held map fixed) entries NoCall
stands_lost map r fixed entries settled spare stood =
    let a : Around = (state_of r fixed entries NoCall r.number).around in
    let blocks : ℕ → Contents = blocks_of r.start r.size (without_plex map r.plexes) in
    let kept : IsKept r.stage Settled a = subst (λ (p : Phase). IsKept r.stage p a) settled stood in
    let others : (k i : ℕ) → (fixed.held k && not (has (only map) k)) ≡ true → blocks k i ≡ a.disks.blocks k i =
    λ k i there.
    let parts = and_not_parts (fixed.held k) (has (only map) k) there in
    blocks_less map r.start r.size r.plexes k i (low_apart map k (low_by r.stage fixed.held k kept.form.stage parts.0) parts.1) in
    subst (λ (p : Phase). IsKept (take_out r.stage map) p (with_held a (λ k. fixed.held k && not (has (only map) k)) blocks)) (sym settled)
    (kept_so (take_out r.stage map) (taken_from a map) blocks others (take_keeps r.stage a map spare kept))

pub plex_leaves : EachPlexMayLeave
plex_leaves map old new loses volume spare settled tight fixed entries stood r lt =
    let inside : r < length old.cells = subst (λ (n : ℕ). r < n) loses.cells.size lt in
    let log : new.log ≡ old.log = ap (λ (v : VolumeSeen). v.log) loses.same in
    let c = cell_at old r in
    let cell = volume.each r inside in
    let around : Around = (state_of (region_at old r) (fixed r) (entries r) NoCall c.number).around in
    let fits = cell.whole.formed.stage.on_fits in
    let j = other_of c.stage map fits (spare r inside) in
    let is : IsSpare c.stage around map =
    record {
      tight = λ k. subst (λ (n : ℕ). (marks_or old.log.told n).loose k ≡ false) (sym cell.index) (tight r k inside);
      other = (j.0, j.1, j.2, low_apart map j.0 (has-lt c.stage.on j.0 fits j.1) j.3);
    } in
    subst (λ (l : LogSeen). StandsFor (with_log (cell_at new r) l) (without_held map (fixed r)) (entries r) NoCall) (sym log)
    (subst (λ (x : CellSeen). StandsFor (with_log x old.log) (without_held map (fixed r)) (entries r) NoCall) (sym (loses.cells.each r inside))
    (stands_lost map (region_at old r) (fixed r) (entries r) (settled r inside) is (stood r inside)))

pub leaving_tells : EachLeavingTells
leaving_tells map old new loses told r lt =
    let inside : r < length old.cells = subst (λ (n : ℕ). r < n) loses.cells.size lt in
    let log : new.log ≡ old.log = ap (λ (v : VolumeSeen). v.log) loses.same in
    subst (λ (l : LogSeen). IsTold (with_log (cell_at new r) l)) (sym log)
    (subst (λ (x : CellSeen). IsTold (with_log x old.log)) (sym (loses.cells.each r inside)) (tell_less map (cell_at old r).plexes (told r inside).0, (told r inside).1))
