-- A volume into which a plex was put: it is one as before, and its regions stand for the histories that they stood for.
use Rattle.std.proofs.Common.{◌≡◌, ◌≢◌, ℕ, ◌-◌, ◌<◌, ◌≤◌, Bool, true, false, if◌then◌else◌, refl, sym, ◌∙◌, ap, subst, inl, inr, arith, List, [], ◌∷◌, ◌++◌, length}
use Rattle.std.specs.Prelude.{◌==◌, ◌&&◌, ◌||◌, not}
use Rattle.std.specs.Int.{bit_at}
use Rattle.std.proofs.lemmas.Bool.Decides.{nat_tests}
use Rattle.std.proofs.lemmas.Nat.Bits.{bit_at-lt, same_from_bits}
use Rattle.vx_base.specs.Blocks.{Contents, is_in}
use Rattle.vx_life.specs.Entry.{Entry}
use Rattle.vx_mask.specs.Mask.{has, only, union, without}
use Rattle.vx_mask.proofs.MaskLemmas.{has-only_other, has-only_same, has-union, has-without, only-lt, same_as_only, union-lt, without-lt}
use Rattle.vx_mask.proofs.Sets.{in_union, in_without, out_of, out_union, out_without_left, union_cases, without_parts}
use Rattle.vx_mask.proofs.Tests.{not_both, or_cases, or_from_left, or_from_right, or_neither, or_none, true_or_false}
use Rattle.vx_core.specs.declared.stage.Stage.{Stage}
use Rattle.vx_core.specs.declared.stage.Phase.{Phase}
use Rattle.vx_core.specs.Form.{IsFormed, IsStage}
use Rattle.vx_core.specs.History.{NoCall}
use Rattle.vx_core.specs.Kept.{IsKept}
use Rattle.vx_core.specs.Plexes.{put_in, put_into}
use Rattle.vx_core.specs.Region.{Around, Fixed}
use Rattle.vx_core.specs.Schedule.{IsIdle}
use Rattle.vx_core.proofs.PlexLaws.{put_keeps, set_on_keeps}
use Rattle.vx_piece.specs.Seen.{Seen}
use Rattle.vx_runs.specs.Run.{RunTells, run_contents, run_sectors}
use Rattle.vx_marks.specs.Log.{LogSeen}
use Rattle.vx_pages.specs.Items.{EachItem, item_at}
use Rattle.vx_cell.specs.Changes.{CellSeen}
use Rattle.vx_cell.specs.Plexes.{AllCover, AllTell, MapsDiffer, PlexSeen, blocks_of, contents_of, holds}
use Rattle.vx_cell.specs.Region.{IsLogOf, IsTold, IsWhole, RegionSeen, StandsFor, state_of}
use Rattle.vx_cell.proofs.Changes.{other_number, same_number, same_test}
use Rattle.vx_volume.specs.Changing.{GetsPlex, HasGot, IsFreeIn, IsFreeOf, IsPlexFor, put_on}
use Rattle.vx_volume.specs.Laws.{EachPuttingStands, EachPuttingTells, with_plex}
use Rattle.vx_volume.specs.Volume.{IsCellOf, IsVolume, VolumeSeen, cell_at, no_cell, region_at, with_log}
use Rattle.vx_volume.proofs.Remarks.{apart_held}
use Rattle.vx_volume.proofs.Wholes.{idle_form, idle_marked}

-- ---- one plex more

abbrev more : List PlexSeen → ℕ → List Seen → List PlexSeen
more ps map pieces = ps ++ record { map = map; pieces = pieces } ∷ []

module _ (map : ℕ) (pieces : List Seen) where
  or_assoc_end : (x y z : Bool) → (x || (y || z)) ≡ ((x || y) || z)
  or_assoc_end true y z = refl
  or_assoc_end false y z = refl

  or_end : (x : Bool) → (x || false) ≡ x
  or_end true = refl
  or_end false = refl

  holds_more : (ps : List PlexSeen) (k : ℕ) → holds (more ps map pieces) k ≡ (holds ps k || (map == k))
  holds_more [] k = or_end (map == k)
  holds_more (p ∷ ps) k = ap (λ (b : Bool). (p.map == k) || b) (holds_more ps k) ∙ or_assoc_end (p.map == k) (holds ps k) (map == k)

  other_way : (m n : ℕ) → (m == n) ≡ false → (n == m) ≡ false
  other_way m n apart = other_number n m (λ e. (let here : (m == n) ≡ true = subst (λ (x : ℕ). (m == x) ≡ true) (sym e) (same_test m) in not_both here apart))

  differ_more : (ps : List PlexSeen) → MapsDiffer ps → holds ps map ≡ false → MapsDiffer (more ps map pieces)
  differ_more [] d none = (refl, tt)
  differ_more (p ∷ ps) d none =
      let parts = or_neither (p.map == map) (holds ps map) none in
      (holds_more ps p.map ∙ or_none (holds ps p.map) (map == p.map) d.0 (other_way p.map map parts.0), differ_more ps d.1 parts.1)

  cover_more : (size : ℕ) (ps : List PlexSeen) → AllCover size ps → run_sectors pieces ≡ size → AllCover size (more ps map pieces)
  cover_more size [] cover is = (is, tt)
  cover_more size (p ∷ ps) cover is = (cover.0, cover_more size ps cover.1 is)

  tell_more : (ps : List PlexSeen) → AllTell ps → RunTells pieces → AllTell (more ps map pieces)
  tell_more [] tells is = (is, tt)
  tell_more (p ∷ ps) tells is = (tells.0, tell_more ps tells.1 is)

  contents_more : (ps : List PlexSeen) (k i : ℕ) → k ≢ map → contents_of (more ps map pieces) k i ≡ contents_of ps k i
  contents_more [] k i apart = let test : (map == k) ≡ false = other_number map k (λ e. apart (sym e)) in rw test refl
  contents_more (p ∷ ps) k i apart = ap (λ (x : List ℕ). if p.map == k then run_contents p.pieces i else x) (contents_more ps k i apart)

  blocks_more : (start size : ℕ) (ps : List PlexSeen) (k i : ℕ) → k ≢ map → blocks_of start size (more ps map pieces) k i ≡ blocks_of start size ps k i
  blocks_more start size ps k i apart = ap (λ (x : List ℕ). if is_in start size i then x else []) (contents_more ps k (i - start) apart)

-- ---- a plex that was in no mask is in the mask of those that are on alone

bit_same : (a b : ℕ) → a < 2 → b < 2 → (a == 1) ≡ (b == 1) → a ≡ b
bit_same a b low low' e = grind (arith, nat_tests)

same_masks : (a b : ℕ) → ((k : ℕ) → has a k ≡ has b k) → a ≡ b
unfolding has
same_masks a b same = same_from_bits a b (λ k. bit_same (bit_at a k) (bit_at b k) (bit_at-lt a k) (bit_at-lt b k) (same k))

by_only : (x y : Bool) → (y ≡ true → x ≡ false) → ((x || y) && not y) ≡ x
by_only true true none = not_both refl (none refl)
by_only true false none = refl
by_only false true none = refl
by_only false false none = refl

off_same : (off map : ℕ) → has off map ≡ false → without (union off (only map)) (only map) ≡ off
off_same off map none =
    same_masks (without (union off (only map)) (only map)) off
    (λ k. has-without (union off (only map)) (only map) k ∙ ap (λ (b : Bool). b && not (has (only map) k)) (has-union off (only map) k)
    ∙ by_only (has off k) (has (only map) k) (λ here. subst (λ (n : ℕ). has off n ≡ false) (sym (same_as_only map k here)) none))

abbrev got_as : ℕ → List Seen → CellSeen → ℕ → CellSeen
got_as map pieces c off = record c { stage = record c.stage { on = union c.stage.on (only map); off = off }; plexes = more c.plexes map pieces }

gets : (map : ℕ) (pieces : List Seen) (old new : CellSeen) → has old.stage.off map ≡ false → HasGot map pieces old new → GetsPlex map pieces old new
gets map pieces old new none got = got ∙ ap (got_as map pieces old) (off_same old.stage.off map none)

has_got : (map : ℕ) (pieces : List Seen) (old new : CellSeen) → has old.stage.off map ≡ false → GetsPlex map pieces old new → HasGot map pieces old new
has_got map pieces old new none gets = gets ∙ sym (ap (got_as map pieces old) (off_same old.stage.off map none))

pub each_gets : (map : ℕ) (runs : List (List Seen)) (v : VolumeSeen) (cells : List CellSeen) → IsFreeIn map v → EachItem no_cell (λ r. HasGot map (item_at [] runs r)) v.cells cells →
    EachItem no_cell (λ r. GetsPlex map (item_at [] runs r)) v.cells cells
each_gets map runs v cells free each = record { size = each.size; each = λ r lt. gets map (item_at [] runs r) (cell_at v r) (item_at no_cell cells r) (free.each r lt).off (each.each r lt) }

-- ---- the stage

absent : (map : ℕ) (s : Stage) (held : ℕ → Bool) → IsFreeOf map s → IsStage s held → held map ≡ false
absent map s held free stage =
    elim (true_or_false (held map)) [
      | inr none ↦ none
      | inl there ↦ absurd (apart_held map s held map free stage there refl)
    ]

module _ (map : ℕ) (s : Stage) (held held' : ℕ → Bool) (free : IsFreeOf map s) (low : map < 30) (more_held : (k : ℕ) → held' k ≡ (held k || (map == k))) where
  only_apart : (k : ℕ) → k ≢ map → has (only map) k ≡ false
  only_apart k apart = has-only_other map k apart

  not_30 : has (only map) 30 ≡ false
  not_30 = has-only_other map 30 (λ e. absurd (omega (arith, low, e)))

  on_apart : (k : ℕ) → has s.on k ≡ true → k ≢ map
  on_apart k on e = not_both (subst (λ (n : ℕ). has s.on n ≡ true) e on) free.on

  off_apart_from : (k : ℕ) → has s.off k ≡ true → k ≢ map
  off_apart_from k off e = not_both (subst (λ (n : ℕ). has s.off n ≡ true) e off) free.off

  low_64 : map < 64
  low_64 = omega (arith, low)

  stage_put_on : IsStage s held → IsStage (put_on s map) held'
  stage_put_on h =
      record {
        on_fits = union-lt s.on (only map) h.on_fits (only-lt map);
        off_fits = without-lt (union s.off (only map)) (only map) (union-lt s.off (only map) h.off_fits (only-lt map));
        snaps_fit = h.snaps_fit;
        bits_fit = h.bits_fit;
        off_apart = λ k on.
            elim (union_cases s.on (only map) k on) [
              | inl was ↦ out_without_left (union s.off (only map)) (only map) k (out_union s.off (only map) k (h.off_apart k was) (only_apart k (on_apart k was)))
              | inr here ↦ out_of (union s.off (only map)) (only map) k here
            ];
        snaps_apart = λ k on.
            elim (union_cases s.on (only map) k on) [
              | inl was ↦ h.snaps_apart k was
              | inr here ↦ subst (λ (n : ℕ). has s.snaps n ≡ false) (sym (same_as_only map k here)) free.snaps
            ];
        off_snaps = λ k off.
            let parts = without_parts (union s.off (only map)) (only map) k off in
            elim (union_cases s.off (only map) k parts.0) [ inl was ↦ h.off_snaps k was | inr here ↦ not_both here parts.1 ];
        dirty_apart = (
          out_union s.on (only map) 30 h.dirty_apart.0 not_30,
          out_without_left (union s.off (only map)) (only map) 30 (out_union s.off (only map) 30 h.dirty_apart.1 not_30),
          h.dirty_apart.2,
        );
        held_on = λ k on.
            more_held k
            ∙ elim (union_cases s.on (only map) k on) [
              | inl was ↦ or_from_left (held k) (map == k) (h.held_on k was)
              | inr here ↦ or_from_right (held k) (map == k) (subst (λ (n : ℕ). (map == n) ≡ true) (sym (same_as_only map k here)) (same_test map))
            ];
        plexes = λ k there.
            elim (or_cases (held k) (map == k) (sym (more_held k) ∙ there)) [
              | inl was ↦
                  elim (h.plexes k was) [
                    | inl on ↦ inl (in_union s.on (only map) k (inl on))
                    | inr off ↦ inr (in_without (union s.off (only map)) (only map) k (in_union s.off (only map) k (inl off)) (only_apart k (off_apart_from k off)))
                  ]
              | inr here ↦ inl (in_union s.on (only map) k (inr (subst (λ (n : ℕ). has (only map) n ≡ true) (same_number map k here) (has-only_same map low_64))))
            ];
        alone = λ plain. not_both free.logged plain;
        unlogged = λ plain. not_both free.logged plain;
      }

  pub formed_put_on : (phase : Phase) → IsIdle phase → IsFormed s phase held → IsFormed (put_on s map) phase held'
  formed_put_on phase idle h =
      record {
        stage = stage_put_on h.stage;
        readable = let r = h.readable in (r.0, in_union s.on (only map) r.0 (inl r.1), r.2, r.3);
        step = idle_form (put_on s map) phase idle;
        marked = idle_marked (put_on s map) phase idle;
      }

  log_put_on : (log : LogSeen) (region : ℕ) → IsLogOf log region s → IsLogOf log region (put_on s map)
  log_put_on log region is =
      let here : (k : ℕ) → has (only map) k ≡ true → k < log.maps = λ k bit. let e = same_as_only map k bit in let f = is.dirty in omega (arith, e, f, low) in
      record {
        there = is.there;
        known = is.known;
        maps = λ k bit.
            elim (union_cases (union (put_on s map).on (put_on s map).off) s.snaps k bit) [
              | inr snap ↦ is.maps k (in_union (union s.on s.off) s.snaps k (inr snap))
              | inl plex ↦
                  elim (union_cases (put_on s map).on (put_on s map).off k plex) [
                    | inl on ↦
                        elim (union_cases s.on (only map) k on) [
                          | inl was ↦ is.maps k (in_union (union s.on s.off) s.snaps k (inl (in_union s.on s.off k (inl was))))
                          | inr new ↦ here k new
                        ]
                    | inr off ↦
                        elim (union_cases s.off (only map) k (without_parts (union s.off (only map)) (only map) k off).0) [
                          | inl was ↦ is.maps k (in_union (union s.on s.off) s.snaps k (inl (in_union s.on s.off k (inr was))))
                          | inr new ↦ here k new
                        ]
                  ]
            ];
        dirty = is.dirty;
      }

-- ---- a volume

abbrev got : ℕ → List Seen → CellSeen → CellSeen
got map pieces c = record c { stage = put_on c.stage map; plexes = more c.plexes map pieces }

whole_put : (map : ℕ) (pieces : List Seen) (c : CellSeen) (log : LogSeen) → IsIdle c.stage.phase → IsFreeOf map c.stage → map < 30 → run_sectors pieces ≡ c.size → IsWhole (with_log c log) → IsWhole (with_log (got map pieces c) log)
whole_put map pieces c log idle free low size w =
    record {
      formed = formed_put_on map c.stage (holds c.plexes) (holds (more c.plexes map pieces)) free low (holds_more map pieces c.plexes) c.stage.phase idle w.formed;
      differ = differ_more map pieces c.plexes w.differ (absent map c.stage (holds c.plexes) free w.formed.stage);
      cover = cover_more map pieces c.size c.plexes w.cover size;
      some = w.some;
      fits = w.fits;
      logged = λ there. log_put_on map c.stage (holds c.plexes) (holds (more c.plexes map pieces)) free low (holds_more map pieces c.plexes) log c.region (w.logged there);
    }

module _ (map : ℕ) (runs : List (List Seen)) (v : VolumeSeen) (cells : List CellSeen) (free : IsFreeIn map v) (plex : IsPlexFor map runs v) where
  cell_put : (r : ℕ) → r < length v.cells → HasGot map (item_at [] runs r) (cell_at v r) (item_at no_cell cells r) → IsCellOf v r → IsCellOf (record v { cells = cells }) r
  cell_put r lt is c =
      record {
        index = ap (λ (x : CellSeen). x.region) is ∙ c.index;
        start = ap (λ (x : CellSeen). x.start) is ∙ c.start;
        size = ap (λ (x : CellSeen). x.size) is ∙ c.size;
        idle = subst (λ (x : CellSeen). IsIdle x.stage.phase) (sym is) c.idle;
        whole = subst (λ (x : CellSeen). IsWhole (with_log x v.log)) (sym is) (whole_put map (item_at [] runs r) (cell_at v r) v.log c.idle (free.each r lt) free.low (plex.cover r lt) c.whole);
        below = subst (λ (x : CellSeen). x.number ≤ v.most) (sym is) c.below;
      }

  pub volume_put : EachItem no_cell (λ r. HasGot map (item_at [] runs r)) v.cells cells → IsVolume v → IsVolume (record v { cells = cells })
  volume_put each w =
      record {
        count = each.size ∙ w.count;
        each = λ r lt. let inside : r < length v.cells = subst (λ (n : ℕ). r < n) each.size lt in cell_put r inside (each.each r inside) (w.each r inside);
        own = w.own;
        scratch = w.scratch;
      }

-- ---- histories

abbrev region_got : ℕ → List Seen → RegionSeen → RegionSeen
region_got map pieces r = record r { stage = put_on r.stage map; plexes = more r.plexes map pieces }

stands_put : (map : ℕ) (pieces : List Seen) (r : RegionSeen) → IsIdle r.stage.phase → IsFreeOf map r.stage → map < 30 → has r.stage.bits map ≡ true → (fixed : Fixed) (entries : List Entry) → StandsFor r fixed entries NoCall →
    StandsFor (region_got map pieces r) (with_plex map fixed) entries NoCall
stands_put map pieces r idle free low bit fixed entries stood =
    let a : Around = (state_of r fixed entries NoCall r.number).around in
    let blocks : ℕ → Contents = blocks_of r.start r.size (more r.plexes map pieces) in
    let kept : IsKept (put_in r.stage map) r.stage.phase (put_into a map blocks) =
    put_keeps r.stage r.stage.phase a map blocks idle
    (record {
      logged = free.logged;
      absent = absent map r.stage fixed.held free stood.form.stage;
      no_snap = free.snaps;
      not_dirty = λ e. absurd (omega (arith, low, e));
      others = λ k i apart. blocks_more map pieces r.start r.size r.plexes k i apart;
    })
    (inl bit) stood in
    set_on_keeps (put_in r.stage map) r.stage.phase (put_into a map blocks) map idle (or_from_right (fixed.held map) (has (only map) map) (has-only_same map (omega (arith, low)))) kept

pub putting_stands : EachPuttingStands
putting_stands map runs old new puts volume free plex fixed entries stood r lt =
    let inside : r < length old.cells = subst (λ (n : ℕ). r < n) puts.cells.size lt in
    let log : new.log ≡ old.log = ap (λ (v : VolumeSeen). v.log) puts.same in
    subst (λ (l : LogSeen). StandsFor (with_log (cell_at new r) l) (with_plex map (fixed r)) (entries r) NoCall) (sym log)
    (subst (λ (x : CellSeen). StandsFor (with_log x old.log) (with_plex map (fixed r)) (entries r) NoCall) (sym (has_got map (item_at [] runs r) (cell_at old r) (cell_at new r) (free.each r inside).off (puts.cells.each r inside)))
    (stands_put map (item_at [] runs r) (region_at old r) (volume.each r inside).idle (free.each r inside) free.low (plex.marked r inside) (fixed r) (entries r) (stood r inside)))

pub putting_tells : EachPuttingTells
putting_tells map runs old new puts tells told r lt =
    let inside : r < length old.cells = subst (λ (n : ℕ). r < n) puts.cells.size lt in
    let log : new.log ≡ old.log = ap (λ (v : VolumeSeen). v.log) puts.same in
    subst (λ (l : LogSeen). IsTold (with_log (cell_at new r) l)) (sym log)
    (subst (λ (x : CellSeen). IsTold (with_log x old.log)) (sym (puts.cells.each r inside)) (tell_more map (item_at [] runs r) (cell_at old r).plexes (told r inside).0 (tells r inside), (told r inside).1))
