-- A volume that is opened over sound bytes begins a life.
use Rattle.std.proofs.Common.{◌≡◌, ◌≢◌, ◌⊎◌, inl, inr, ℕ, ◌<◌, ◌/◌, Bool, true, false, refl, sym, ◌∙◌, subst, ap, cond, List, [], ◌∷◌, arith}
use Rattle.std.specs.Prelude.{◌&&◌, ◌||◌, not, nat_lt, ◌==◌, Contains}
use Rattle.std.proofs.lemmas.Bool.Decides.{nat_tests}
use Rattle.vx_life.specs.Candidates.{IsAmong, Candidates}
use Rattle.vx_life.specs.Entry.{Entry, candidates_of}
use Rattle.vx_mask.specs.Mask.{has}
use Rattle.vx_mask.proofs.Tests.{not_both, true_or_false, both_parts, or_from_left}
use Rattle.vx_config_parts.specs.declared.state.VolState.{VolState}
use Rattle.vx_config_parts.specs.declared.state.VolState.TheVariants as vol
use Rattle.vx_core.specs.declared.stage.Phase.{Phase}
use Rattle.vx_core.specs.declared.stage.Phase.TheVariants.{Settled, Unsettled}
use Rattle.vx_core.specs.Region.{RegionState, told}
use Rattle.vx_core.specs.Soundness.{IsOpen, IsUnmarked, MayHold, freeing, Agree, IsDirty}
use Rattle.vx_core.specs.Schedule.{IsIdle, IsFresh}
use Rattle.vx_core.proofs.Ends.{sound_from_ends}
use Rattle.vx_core.proofs.RecoveryLaws.{idle_marked}
use Rattle.vx_image.specs.Image.{PlexImage, LogCopy, Image, IsFilled, regions_of, is_available, is_available_state, is_stale, is_read, is_alone, is_unmarked_by_some}
use Rattle.vx_image.specs.Meaning.{plexes_read, StandsForCandidates}
use Rattle.vx_image.specs.Soundness.{IsUnmarkedPlex, PlexesAgree, IsDirtyBy, IsSoundBy, IsSoundImage}
use Rattle.vx_image.proofs.Imports.{dirty_of}
use Rattle.vx_image.proofs.Members.{is_in, any_from_one, into_filter, only_one}
use Rattle.vx_volume_laws.specs.Opening.{HaveOwnMaps, IsWellFormed, IsOpened, is_block_of, region_blocks, EachOpeningIsFresh}
use Rattle.vx_volume_laws.proofs.Losses.{copy_is_choice}
use Rattle.vx_moments.proofs.Blocks.{below_count}

-- ---- blocks and regions

-- a block lies in its region
pub in_its_region : (v : Image) (b : ℕ) → 0 < v.region → b < v.length → is_block_of v (b / v.region) b ≡ true
in_its_region v b sized lt =
    let low = below_count b v.length v.region sized lt in
    grind (arith, nat_tests, low)

pub parts_of_block : (v : Image) (r b : ℕ) → is_block_of v r b ≡ true → (r < regions_of v) × (b < v.length) × (b / v.region ≡ r)
parts_of_block v r b h =
    let x = both_parts (nat_lt r (regions_of v)) (nat_lt b v.length && b / v.region == r) h in
    let y = both_parts (nat_lt b v.length) (b / v.region == r) x.1 in
    (grind (arith, nat_tests, x.0), grind (arith, nat_tests, y.0), grind (arith, nat_tests, y.1))

-- ---- plexes

-- there are two data plexes, or no two
two_or_one : (ps : List PlexImage) → HaveOwnMaps ps →
    ((p : PlexImage) × (q : PlexImage) × Contains ps p × Contains ps q × (p.map ≢ q.map)) ⊎ ((p q : PlexImage) → Contains ps p → Contains ps q → p ≡ q)
two_or_one [] own = inr (λ p q one other. absurd (is_in [] p one))
two_or_one (p ∷ []) own = inr (λ x y one other. only_one (p ∷ []) x y refl one other)
two_or_one (p ∷ q ∷ ps) own = inl (p, q, (0, omega arith, refl), (1, omega arith, refl), own.0 q (0, omega arith, refl))

read_into : (state : VolState) (v : Image) (r : ℕ) (p : PlexImage) → IsFilled state → Contains v.plexes p → is_read v r p ≡ true → Contains (plexes_read state v r) p
read_into vol.Empty v r p filled one read = absurd filled
read_into vol.Clean v r p filled one read = into_filter (is_read v r) v.plexes p one read
read_into vol.Active v r p filled one read = into_filter (is_read v r) v.plexes p one read
read_into vol.NeedSync v r p filled one read = into_filter (is_read v r) v.plexes p one read
read_into vol.Sync v r p filled one read = into_filter (is_read v r) v.plexes p one read

not_false : (b : Bool) → b ≡ false → not b ≡ true
not_false true h = cc
not_false false h = refl

both_true : (x y : Bool) → x ≡ true → y ≡ true → (x && y) ≡ true
both_true x y p q = rw (p, q) refl

-- a held plex whose state is not available is stale
stale_from : (p : PlexImage) → p.held ≡ true → is_available p ≡ false → is_stale p ≡ true
stale_from p held gone =
    elim (true_or_false (is_available_state p.state)) [
      | inl is ↦ not_both (both_true p.held (is_available_state p.state) held is) gone
      | inr none ↦ not_false (is_available_state p.state) none
    ]

-- ---- phases

open_phase : (dirty : Bool) → dirty ≡ true → IsOpen (cond dirty Unsettled Settled)
open_phase true is = tt
open_phase false is = cc

idle_phase : (dirty : Bool) → IsIdle (cond dirty Unsettled Settled)
idle_phase true = tt
idle_phase false = tt

idle_freeing : (dirty : Bool) (k : ℕ) → freeing (cond dirty Unsettled Settled) k ≡ false
idle_freeing true k = refl
idle_freeing false k = refl

-- ---- the region

module _ (v : Image) (candidates : Candidates) (sound : IsSoundImage v) (stands : StandsForCandidates v candidates) (filled : IsFilled v.state) (whole : IsWellFormed v) (c : LogCopy) (one_c : Contains v.copies c) (r : ℕ) (s : RegionState) (opened : IsOpened v c candidates r s) where
  idle : IsIdle s.stage.phase
  idle = subst (λ (phase : Phase). IsIdle phase) (sym opened.phase) (idle_phase (c r 30))

  -- what a held plex holds
  holds : (k b : ℕ) (p : PlexImage) → Contains v.plexes p → p.map ≡ k → p.held ≡ true → s.around.disks.blocks k b ≡ region_blocks v r p b
  holds k b p one at held = subst (λ (m : ℕ). s.around.disks.blocks m b ≡ region_blocks v r p b) at (opened.values p one held b)

  unmarked_in : (k : ℕ) (p : PlexImage) → p.map ≡ k → has s.stage.bits k ≡ false → c r p.map ≡ false
  unmarked_in k p at clean = subst (λ (m : ℕ). c r m ≡ false) (sym at) (sym (opened.bits k) ∙ clean)

  inside : (p : PlexImage) (b : ℕ) → is_block_of v r b ≡ true → region_blocks v r p b ≡ p.values b
  inside p b is = rw is refl

  beyond : (p : PlexImage) (b : ℕ) → is_block_of v r b ≡ false → region_blocks v r p b ≡ []
  beyond p b is = rw is refl

  under : r < regions_of v → IsSoundBy v r (c r)
  under low = sound r (c r) low (copy_is_choice v r c one_c)

  -- two unmarked plexes that hold the same of the region's blocks are equal
  same_blocks : (p q : PlexImage) (b : ℕ) → (is_block_of v r b ≡ true → p.values b ≡ q.values b) → region_blocks v r p b ≡ region_blocks v r q b
  same_blocks p q b same =
      elim (true_or_false (is_block_of v r b)) [
        | inl is ↦ inside p b is ∙ same is ∙ sym (inside q b is)
        | inr is ↦ beyond p b is ∙ sym (beyond q b is)
      ]

  agree_all : ((p q : PlexImage) → IsUnmarkedPlex v.plexes (c r) p → IsUnmarkedPlex v.plexes (c r) q → (b : ℕ) → is_block_of v r b ≡ true → p.values b ≡ q.values b) → Agree s.around (has s.stage.bits)
  agree_all same j k b at_j at_k =
      let p = opened.held j at_j.0 in
      let q = opened.held k at_k.0 in
      let at_p : IsUnmarkedPlex v.plexes (c r) p.0 = record { of = p.1; held = p.3; unmarked = unmarked_in j p.0 p.2 at_j.1 } in
      let at_q : IsUnmarkedPlex v.plexes (c r) q.0 = record { of = q.1; held = q.3; unmarked = unmarked_in k q.0 q.2 at_k.1 } in
      holds j b p.0 p.1 p.2 p.3
      ∙ same_blocks p.0 q.0 b (same p.0 q.0 at_p at_q b)
      ∙ sym (holds k b q.0 q.1 q.2 q.3)

  agree_from : PlexesAgree v r (c r) → Agree s.around (has s.stage.bits)
  agree_from agree = agree_all (λ p q at_p at_q b is. let x = parts_of_block v r b is in agree p q at_p at_q b x.1 x.2)

  off_not_on : (k : ℕ) → has s.stage.off k ≡ true → has s.stage.on k ≡ false
  off_not_on k off =
      elim (true_or_false (has s.stage.on k)) [
        | inl on ↦ not_both off (opened.masks.off_apart k on)
        | inr none ↦ none
      ]

  dirty_from : IsDirtyBy v (c r) → Agree s.around (has s.stage.bits) ⊎ (IsOpen s.stage.phase × IsDirty s.stage s.around.fixed.held (has s.stage.bits))
  dirty_from dirty =
      elim (two_or_one v.plexes whole.maps) [
        | inr only ↦ inl (agree_all (λ p q at_p at_q b is. ap (λ (x : PlexImage). x.values b) (only p q at_p.of at_q.of)))
        | inl two ↦ inr (
          subst (λ (phase : Phase). IsOpen phase) (sym opened.phase) (open_phase (c r 30) dirty.dirty),
          record {
            two = (two.0.map, two.1.map, two.4, opened.data_plexes two.0 two.2, opened.data_plexes two.1 two.3);
            dirty = opened.bits 30 ∙ dirty.dirty;
            off = λ k off held.
                let p = opened.held k held in
                let gone : is_available p.0 ≡ false = sym (opened.on p.0 p.1) ∙ subst (λ (m : ℕ). has s.stage.on m ≡ false) (sym p.2) (off_not_on k off) in
                opened.bits k ∙ subst (λ (m : ℕ). c r m ≡ true) p.2 (dirty.stale p.0 p.1 (stale_from p.0 p.3 gone) p.3);
          },
        )
      ]

  agree_or_open : Agree s.around (has s.stage.bits) ⊎ (IsOpen s.stage.phase × IsDirty s.stage s.around.fixed.held (has s.stage.bits))
  agree_or_open =
      elim (true_or_false (nat_lt r (regions_of v))) [
        | inl low ↦
            elim (under (grind (arith, nat_tests, low))).agree [
              | inl agree ↦ inl (agree_from agree)
              | inr may ↦ dirty_from (dirty_of v.state v (c r) filled may)
            ]
        | inr high ↦ inl (agree_all (λ p q at_p at_q b is. not_both (both_parts (nat_lt r (regions_of v)) (nat_lt b v.length && b / v.region == r) is).0 high))
      ]

  -- an available plex that the copy shows unmarked is read
  among_read : (p : PlexImage) → Contains v.plexes p → is_available p ≡ true → c r p.map ≡ false → (b : ℕ) → is_block_of v r b ≡ true → IsAmong (candidates b) (p.values b)
  among_read p one there clean b is =
      let x = parts_of_block v r b is in
      let some : is_unmarked_by_some v r p.map ≡ true = any_from_one (λ (d : LogCopy). not (d r p.map)) v.copies c one_c (not_false (c r p.map) clean) in
      let read : is_read v r p ≡ true = both_true (is_available p) (is_unmarked_by_some v r p.map || is_alone v) there (or_from_left (is_unmarked_by_some v r p.map) (is_alone v) some) in
      stands b x.1 p (read_into v.state v (b / v.region) p filled one (subst (λ (n : ℕ). is_read v n p ≡ true) (sym x.2) read))

  -- an unmarked plex that is not available holds what one that is on holds
  among_stale : (p : PlexImage) → Contains v.plexes p → p.held ≡ true → is_available p ≡ false → c r p.map ≡ false → (b : ℕ) → is_block_of v r b ≡ true → IsAmong (candidates b) (p.values b)
  among_stale p one held gone clean b is =
      let x = parts_of_block v r b is in
      let k = opened.readable in
      let q = opened.held k.0 (opened.masks.held_on k.0 k.1) in
      let there : is_available q.0 ≡ true = sym (opened.on q.0 q.1) ∙ subst (λ (m : ℕ). has s.stage.on m ≡ true) (sym q.2) k.1 in
      let off : c r q.0.map ≡ false = subst (λ (m : ℕ). c r m ≡ false) (sym q.2) k.2 in
      elim (under x.0).agree [
        | inl agree ↦ subst (λ (value : List ℕ). IsAmong (candidates b) value) (agree q.0 p (record { of = q.1; held = q.3; unmarked = off }) (record { of = one; held = held; unmarked = clean }) b x.1 x.2) (among_read q.0 q.1 there off b is)
        | inr may ↦ not_both ((dirty_of v.state v (c r) filled may).stale p one (stale_from p held gone) held) clean
      ]

  among : (p : PlexImage) → Contains v.plexes p → p.held ≡ true → c r p.map ≡ false → (b : ℕ) → is_block_of v r b ≡ true → IsAmong (candidates b) (p.values b)
  among p one held clean b is =
      elim (true_or_false (is_available p)) [
        | inl there ↦ among_read p one there clean b is
        | inr gone ↦ among_stale p one held gone clean b is
      ]

  among_first : (p : PlexImage) → Contains v.plexes p → p.held ≡ true → c r p.map ≡ false → (b : ℕ) → IsAmong (s.around.fixed.first b) (region_blocks v r p b)
  among_first p one held clean b =
      elim (true_or_false (is_block_of v r b)) [
        | inl is ↦
            subst (λ values. IsAmong values (region_blocks v r p b)) (sym (opened.first b is))
            (subst (λ (value : List ℕ). IsAmong (candidates b) value) (sym (inside p b is)) (among p one held clean b is))
        | inr is ↦ subst (λ (value : List ℕ). IsAmong (s.around.fixed.first b) value) (sym (beyond p b is)) (opened.beyond b is)
      ]

  -- where a relation is clear the unmarked plexes hold the list that was read
  tracked : (m k b : ℕ) → has s.stage.snaps m ≡ true → has s.stage.bits m ≡ false → IsUnmarked s.around (has s.stage.bits) k → s.around.disks.blocks k b ≡ s.around.fixed.base m b
  tracked m k b snap clean at =
      let clear : c r m ≡ false = sym (opened.bits m) ∙ clean in
      let current = opened.readable in
      let base = sym (opened.base m b snap clear) in
      let at_current : IsUnmarked s.around (has s.stage.bits) current.0 = (opened.masks.held_on current.0 current.1, opened.bits current.0 ∙ current.2) in
      elim (true_or_false (nat_lt r (regions_of v))) [
        | inl low ↦ agree_from ((under (grind (arith, nat_tests, low))).tracked m (opened.snaps m snap) clear) k current.0 b at at_current ∙ base
        | inr high ↦ agree_all (λ p q at_p at_q b is. not_both (both_parts (nat_lt r (regions_of v)) (nat_lt b v.length && b / v.region == r) is).0 high) k current.0 b at at_current ∙ base
      ]

  nothing_told : told s.around ≡ []
  nothing_told = rw (opened.no_call, opened.no_entries) refl

  may_hold : (k b : ℕ) → IsUnmarked s.around (has s.stage.bits) k → MayHold s.around b (s.around.disks.blocks k b)
  may_hold k b at =
      let p = opened.held k at.0 in
      subst (λ (es : List Entry). IsAmong (candidates_of s.around.fixed.first es b) (s.around.disks.blocks k b)) (sym nothing_told)
      (subst (λ (value : List ℕ). IsAmong (s.around.fixed.first b) value) (sym (holds k b p.0 p.1 p.2 p.3)) (among_first p.0 p.1 p.3 (unmarked_in k p.0 p.2 at.1) b))

  pub fresh_from : IsFresh s
  fresh_from =
      record {
        stage = opened.masks;
        apart = λ k loose. not_both loose (opened.tight k);
        sound = sound_from_ends (record {
          shown = λ n k lt bit. opened.shows n k lt ∙ sym (opened.bits k) ∙ bit;
          bounded = λ n k lt h. inl (opened.bits k ∙ sym (opened.shows n k lt) ∙ h);
          readable =
              let k = opened.readable in (
                k.0,
                k.1,
                record {
                  bits = opened.bits k.0 ∙ k.2;
                  loose = opened.tight k.0;
                  freeing = subst (λ (phase : Phase). freeing phase k.0 ≡ false) (sym opened.phase) (idle_freeing (c r 30) k.0);
                },
              );
          candidates = may_hold;
          agree = agree_or_open;
          tracked = tracked;
          marked = idle_marked s.stage s.stage.phase idle;
        });
        idle = idle;
        no_call = opened.no_call;
        no_entries = opened.no_entries;
        no_number = opened.no_number;
      }

pub each_opening_is_fresh : EachOpeningIsFresh
each_opening_is_fresh v candidates sound stands filled whole c one r s opened = fresh_from v candidates sound stands filled whole c one r s opened
