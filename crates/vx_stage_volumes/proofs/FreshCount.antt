-- How many regions a start copies: all, where a volume that was never started has a plex to copy to, and else none.
use Rattle.std.proofs.Common.{◌≡◌, ◌≢◌, ◌∙◌, ℕ, zero, suc, ◌<◌, ◌==◌, ◌^◌, not, nat_le, Bool, true, false, cond, List, [], ◌∷◌, length, refl, sym, ap, subst, arith}
use Rattle.std.specs.Prelude.{count_by, is_some, if◌then◌else◌}
use Rattle.std.specs.List.{list_any}
use Rattle.std.proofs.lemmas.Bool.{and_from, and_parts, le-leb}
use Rattle.std.proofs.lemmas.List.Sums.{sum_by-cons}
use Rattle.vx_pages.specs.declared.local_piece.LocalPiece.{Ghosts}
use Rattle.vx_block.specs.Regions.{region_count}
use Rattle.vx_mask.specs.Mask.{has, lowest, without}
use Rattle.vx_mask.proofs.MaskLemmas.{has-lowest, has-zero, union-lt, without-lt}
use Rattle.vx_mask.proofs.Sets.{in_without, without_parts}
use Rattle.vx_pages.specs.Items.{item_at}
use Rattle.vx_piece.specs.Seen.{Seen}
use Rattle.vx_core.specs.declared.stage.Stage.{Stage}
use Rattle.vx_cell.specs.Changes.{CellSeen}
use Rattle.vx_config_parts.specs.declared.plex.Plex.{Plex}
use Rattle.vx_config_parts.specs.declared.vol.Vol.{Vol}
use Rattle.vx_config_parts.specs.Objects.{is_data_plex_of}
use Rattle.vx_image.proofs.PlexMembers.{IsIn, any_in, in_any}
use Rattle.vx_state_edits.specs.Edits.{is_new}
use Rattle.vx_image.specs.Bytes.{map_or_zero}
use Rattle.vx_image.specs.UsedPlexes.{IsVolOf, is_on}
use Rattle.vx_image.proofs.Members.{all_from_each, contains, in_filtered, is_in}
use Rattle.vx_moments.specs.World.{Group}
use Rattle.vx_volume.specs.Log.{log_seen}
use Rattle.vx_volume.specs.Opening.{count_of}
use Rattle.vx_volume.specs.Volume.{VolumeSeen, cell_at, log_of, no_cell, volume_seen}
use Rattle.vx_volume.specs.declared.log.VolumeLog.{VolumeLog}
use Rattle.vx_volume.specs.declared.log.VolumeLog.TheVariants.{Absent, Maps}
use Rattle.vx_volume.specs.declared.volume.VolumeShape.{VolumeShape}
use Rattle.vx_lending.specs.Form.{IsFormOf}
use Rattle.vx_lending.proofs.Bits.{kept, on_plex}
use Rattle.vx_lending.proofs.Maps.{one_without}
use Rattle.vx_lending.proofs.Rules.{plex_low}
use Rattle.vx_volume_laws.specs.Keeping.{data_plexes}
use Rattle.vx_lending.specs.Logs.{IsFreshLog, marked_maps}
use Rattle.vx_lending.specs.declared.public.Public.{Public}
use Rattle.vx_lending.specs.declared.public.Running.{Running}
use Rattle.vx_group_start.specs.Copying.{common, missed, missed_regions, misses}
use Rattle.vx_group_start.specs.Fresh.{all_maps, is_fresh, maps_to_copy}
use Rattle.vx_group_start.specs.Laws.{EachFreshRegionIsMissed}
use Rattle.vx_group_start.specs.Logs.{IsLogOf}
use Rattle.vx_group_start.specs.Started.{IsStarted}
use Rattle.vx_group_volumes.proofs.HeldDevices.{on_as}
use Rattle.vx_group_volumes.proofs.Lowest.{copied_others}
use Rattle.vx_stages.specs.Starting.{is_copied_plex, is_lowest, regions_copied}
use Rattle.vx_stage_volumes.specs.Recording.{maps_copied}
use Rattle.vx_stage_volumes.proofs.AtOnce.{new_is_fresh}

-- ---- no region

-- a map that is in both masks is in the one and the other
in_common : (a b k : ℕ) → has (common a b) k ≡ true → (has a k ≡ true) × (has b k ≡ true)
in_common a b k is =
    let two = without_parts a (without a b) k is in
    (two.0, by (has b k) refl two.0 two.1)
  where
    by : (x : Bool) → has b k ≡ x → has a k ≡ true → has (without a b) k ≡ false → x ≡ true
    by true e in_a out = refl
    by false e in_a out = absurd (let both : true ≡ false = sym (in_without a b k in_a e) ∙ out in cc)

common_lt : (a b : ℕ) → a < 2 ^ 64 → common a b < 2 ^ 64
common_lt a b fits = without-lt a (without a b) fits

is_zero : (n : ℕ) → (n ≢ 0 → ⊥) → not (n == 0) ≡ false
is_zero zero none = refl
is_zero (suc n) none = absurd (none (λ e. omega (arith, e)))

-- where no map of the mask is on, no region misses one
none_misses : (mask : ℕ) → mask < 2 ^ 64 → (s : Stage) → ((k : ℕ) → has mask k ≡ true → has s.on k ≡ true → ⊥) → misses mask s ≡ false
none_misses mask fits s none = is_zero (missed mask s) (λ some.
    let k = lowest (missed mask s) in
    let there = has-lowest (missed mask s) some (common_lt (common mask s.on) s.bits (common_lt mask s.on fits)) in
    let both = in_common mask s.on k (in_common (common mask s.on) s.bits k there).0 in
    none k both.0 both.1)

count_none : (p : CellSeen → Bool) (cells : List CellSeen) → ((i : ℕ) → i < length cells → p (item_at no_cell cells i) ≡ false) → count_by p cells ≡ 0
count_none p [] each = refl
count_none p (x ∷ xs) each =
    let here : ◌≡◌ {A = ℕ} (cond (p x) 1 0) 0 = ap (λ (b : Bool). cond b 1 0) (each 0 (omega arith)) in
    let rest = count_none p xs (λ i lt. each (suc i) (omega (arith, lt))) in
    let sum = sum_by-cons (λ (y : CellSeen). cond (p y) 1 0) x xs in
    omega (arith, here, rest, sum)

none_missed : (mask : ℕ) → mask < 2 ^ 64 → (v : VolumeSeen) → ((r k : ℕ) → r < length v.cells → has mask k ≡ true → has (cell_at v r).stage.on k ≡ true → ⊥) → missed_regions mask v ≡ 0
none_missed mask fits v none = count_none (λ (cell : CellSeen). misses mask cell.stage) v.cells (λ r lt. none_misses mask fits (cell_at v r).stage (λ k m on. none r k lt m on))

-- ---- the volume

module _ {P : Type 0} {ghosts : Ghosts P} (law : EachFreshRegionIsMissed) (g : Group) (v : Vol) (of : IsVolOf g.config v) (numbers : List ℕ) (old new : Public P ghosts) (running : Running P ghosts)
    (form : IsFormOf g.config g.good v (is_fresh v.state) running.form) (started : IsStarted ghosts.seen v numbers old new running) where
  abbrev see : P → Seen
  see = ghosts.seen

  abbrev shape : VolumeShape
  shape = running.form.shape

  abbrev mask : ℕ
  mask = maps_to_copy shape

  abbrev vs : VolumeSeen
  vs = volume_seen see running.volume

  abbrev ps : List Plex
  ps = data_plexes g.config v.name

  mask_fits : mask < 2 ^ 64
  mask_fits = without-lt (all_maps shape) _ (union-lt shape.on shape.off form.shape_is.on.fits form.shape_is.off.fits)

  -- What is said of a plex that is copied to.
  pub record IsCopiedBy (p : Plex) : Type 0 where
    pub never : is_new v.state ≡ true
    pub data_is : is_data_plex_of v.name p ≡ true
    pub higher : is_lowest g.config v.name p ≡ false
    pub low : map_or_zero p.map < 30
    pub in_mask : has mask (map_or_zero p.map) ≡ true
    pub on : has shape.on (map_or_zero p.map) ≡ true

  not_true : (b : Bool) → not b ≡ true → b ≡ false
  not_true true e = sym e
  not_true false e = refl

  pub copied_by : (p : Plex) → IsIn g.config.plexes p → is_copied_plex g v p ≡ true → IsCopiedBy p
  copied_by p there is =
      let a = and_parts (is_new v.state) _ is in
      let b = and_parts (is_on g.config g.good p) _ a.1 in
      let c = and_parts (is_data_plex_of v.name p) _ b.1 in
      record {
        never = a.0;
        data_is = c.0;
        higher = not_true (is_lowest g.config v.name p) c.1;
        low = plex_low g.config v of p there c.0;
        in_mask = copied_others g.config g.good v of shape form.shape_is p (contains ps p (kept (is_data_plex_of v.name) g.config.plexes p there c.0)) ∙ c.1;
        on = sym (on_as g.config g.good v of shape form.shape_is p there c.0) ∙ b.0;
      }

  -- a map that is to be copied and on is that of such a plex
  copied_there : is_new v.state ≡ true → (k : ℕ) → has mask k ≡ true → has shape.on k ≡ true → list_any (is_copied_plex g v) g.config.plexes ≡ true
  copied_there never k in_mask on =
      let p = on_plex g.config g.good v of shape form.shape_is k on in
      let other : not (is_lowest g.config v.name p.plex) ≡ true =
      sym (copied_others g.config g.good v of shape form.shape_is p.plex (contains ps p.plex (kept (is_data_plex_of v.name) g.config.plexes p.plex p.there p.own))) ∙ ap (has mask) p.map_is ∙ in_mask in
      in_any (is_copied_plex g v) g.config.plexes p.plex p.there (and_from _ _ never (and_from _ _ p.on (and_from _ _ p.own other)))

  stage_on : (r : ℕ) → r < length vs.cells → (cell_at vs r).stage.on ≡ shape.on
  stage_on r lt =
      let count = started.opened.cells.count in
      let cell = started.opened.cells.each r (omega (arith, lt, count)) in
      ap (λ (y : CellSeen). y.stage.on) cell.is

  same_count : count_of shape ≡ region_count v.len v.region
  same_count = ap (λ n. region_count n shape.geometry.region) form.shape_is.length_is ∙ ap (λ n. region_count v.len n) form.shape_is.region_is

  -- ---- never started

  module _ (never : is_new v.state ≡ true) where
    is_new_log : IsFreshLog see shape.geometry mask started.log.copies (log_of running.volume)
    is_new_log = subst (λ b. IsLogOf see b shape started.log.copies (log_of running.volume)) (sym (new_is_fresh v.state) ∙ never) started.log.log_is

    -- without a log there is one plex, which is the lowest
    alone : is_some v.dco ≡ false → (p : Plex) → IsIn g.config.plexes p → IsCopiedBy p → ⊥
    alone plain p there by =
        let lowest_is : is_lowest g.config v.name p ≡ true = all_from_each (λ (q : Plex). nat_le (map_or_zero p.map) (map_or_zero q.map)) ps (λ q one.
        let w = in_filtered (is_data_plex_of v.name) g.config.plexes q (is_in ps q one) in
        let same : p ≡ q = one_without g.config v of p q there w.0 by.data_is w.1 plain in
        let equal = ap (λ (x : Plex). map_or_zero x.map) same in
        le-leb (map_or_zero p.map) (map_or_zero q.map) (omega (arith, equal))) in
        absurd (let both : true ≡ false = sym lowest_is ∙ by.higher in cc)

    claims : (p : Plex) → IsIn g.config.plexes p → IsCopiedBy p → (r k : ℕ) → r < count_of shape → (log_seen see (log_of running.volume)).claims r k ≡ marked_maps mask k
    claims p there by r k inside = by_log (log_of running.volume) is_new_log started.log.fits.there (started.log.fits.regions r (subst (λ n. r < n) same_count inside))
      where
        by_log : (l : VolumeLog P ghosts) → IsFreshLog see shape.geometry mask started.log.copies l → (log_seen see l).there ≡ is_some v.dco → (log_seen see l).has_region r ≡ true → (log_seen see l).claims r k ≡ marked_maps mask k
        by_log Absent is there_is region = absurd (alone (sym there_is) p there by)
        by_log (Maps store) is there_is region = is.claims r k region

    counted : missed_regions mask vs ≡ regions_copied g v
    counted = by (list_any (is_copied_plex g v) g.config.plexes) refl
      where
        by : (some : Bool) → list_any (is_copied_plex g v) g.config.plexes ≡ some → missed_regions mask vs ≡ (if some then region_count v.len v.region else 0)
        by true e =
            let p = any_in (is_copied_plex g v) g.config.plexes e in
            let c = copied_by p.0 p.1 p.2 in
            law shape (log_seen see (log_of running.volume)) started.regions vs started.opened started.long form.shape_is.on.fits
            (λ k on. let q = on_plex g.config g.good v of shape form.shape_is k on in let small = plex_low g.config v of q.plex q.there q.own in let same = q.map_is in omega (arith, small, same))
            (claims p.0 p.1 c) (map_or_zero p.0.map) c.on c.in_mask
            ∙ same_count
        by false e = none_missed mask mask_fits vs (λ r k lt in_mask on.
            let some = copied_there never k in_mask (subst (λ n. has n k ≡ true) (stage_on r lt) on) in
            (let both : true ≡ false = sym some ∙ e in cc))

  -- ---- started before

  none_now : is_new v.state ≡ false → list_any (is_copied_plex g v) g.config.plexes ≡ false
  none_now old = by (list_any (is_copied_plex g v) g.config.plexes) refl
    where
      by : (b : Bool) → list_any (is_copied_plex g v) g.config.plexes ≡ b → b ≡ false
      by true e =
          let p = any_in (is_copied_plex g v) g.config.plexes e in
          let c = copied_by p.0 p.1 p.2 in
          absurd (let both : true ≡ false = sym c.never ∙ old in cc)
      by false e = refl

  -- the regions that are counted are those that are told
  pub count_is : missed_regions (maps_copied (is_fresh v.state) running) vs ≡ regions_copied g v
  count_is = by (is_new v.state) refl
    where
      by : (b : Bool) → is_new v.state ≡ b → missed_regions (maps_copied (is_fresh v.state) running) vs ≡ regions_copied g v
      by true e = ap (λ b. missed_regions (if b then mask else 0) vs) (sym (new_is_fresh v.state) ∙ e) ∙ counted e
      by false e =
          ap (λ b. missed_regions (if b then mask else 0) vs) (sym (new_is_fresh v.state) ∙ e)
          ∙ none_missed 0 (omega arith) vs (λ r k lt in_zero on. (let both : false ≡ true = sym (has-zero k) ∙ in_zero in cc))
          ∙ ap (λ b. if b then region_count v.len v.region else 0) (sym (none_now e))
