-- The plexes that a running volume was opened with: each region has them. The others are off.
use Rattle.std.proofs.Common.{◌≡◌, inl, inr, ℕ, ◌<◌, Bool, true, false, not, List, length, refl, sym, ◌∙◌, ap, subst, arith}
use Rattle.std.specs.Prelude.{◌&&◌, ◌||◌, ◌==◌}
use Rattle.std.specs.Int.{bit_at}
use Rattle.std.proofs.lemmas.Nat.Bits.{bit_at-lt, same_from_bits}
use Rattle.std.proofs.lemmas.Bool.Decides.{nat_tests}
use Rattle.std.proofs.lemmas.Bool.{and_parts, false≢true, false_from_ne_true}
use Rattle.std.proofs.lemmas.List.{length-map}
use Rattle.vx_base.specs.Named.{Word}
use Rattle.vx_mask.specs.Mask.{has, only, union, without}
use Rattle.vx_mask.proofs.MaskLemmas.{has-union, has-without, same_as_only}
use Rattle.vx_mask.proofs.Tests.{not_both}
use Rattle.vx_core.specs.declared.stage.Stage.{Stage}
use Rattle.vx_piece.specs.Seen.{Seen}
use Rattle.vx_pages.specs.declared.local_piece.LocalPiece.{Ghosts}
use Rattle.vx_config_parts.specs.declared.plex.Plex.{Plex}
use Rattle.vx_config_parts.specs.declared.vol.Vol.{Vol}
use Rattle.vx_config_parts.specs.Objects.{is_data_plex_of}
use Rattle.vx_objects.specs.declared.config.Config.{Config}
use Rattle.vx_image.specs.Bytes.{is_held, map_or_zero}
use Rattle.vx_image.specs.Image.{is_available_state}
use Rattle.vx_image.proofs.Members.{is_in}
use Rattle.vx_image.proofs.PlexMembers.{IsIn}
use Rattle.vx_moments.specs.Holding.{is_among}
use Rattle.vx_cell.specs.Changes.{CellSeen, stage_with}
use Rattle.vx_cell.specs.Plexes.{PlexSeen, holds}
use Rattle.vx_volume.specs.declared.volume.VolumeShape.{VolumeShape}
use Rattle.vx_volume.specs.Switching.{HasPlex, Switches, shape_with}
use Rattle.vx_volume.specs.Volume.{cell_at, volume_seen}
use Rattle.vx_lending.proofs.Bits.{into_held}
use Rattle.vx_lending.specs.RegionsTaken.{is_among as is_map_among}
use Rattle.vx_lending.specs.declared.public.Running.{Running}
use Rattle.vx_volume_laws.proofs.Plexes.{plexes_at}
use Rattle.vx_group_volumes.specs.Opened.{opened_plexes}
use Rattle.vx_group_volumes.specs.Places.{RunsInPlace}
use Rattle.vx_group_volumes.proofs.HeldDevices.{on_as, on_or_off}
use Rattle.vx_group_volumes.proofs.Plexes.{held_among}
use Rattle.vx_joined_volumes.specs.Joined.{good_joined, opening_joined}
use Rattle.vx_joined_volumes.specs.Switched.{HasSwitched, IsFormSwitched, WasTaken}
use Rattle.vx_joined_volumes.specs.SwitchLaws.{EachPlexLeftOutIsOff, EachTakenPlexIsThere, IsKnownPlex}
use Rattle.vx_joined_volumes.proofs.Held.{held_more}
use Rattle.vx_joined_volumes.proofs.Now.{form_now, more_good, names_now}

-- ---- masks of a plex that is off

bit_same : (a b : ℕ) → a < 2 → b < 2 → (a == 1) ≡ (b == 1) → a ≡ b
bit_same a b low low' e = grind (arith, nat_tests)

same_masks : (a b : ℕ) → ((k : ℕ) → has a k ≡ has b k) → a ≡ b
unfolding has
same_masks a b same = same_from_bits a b (λ k. bit_same (bit_at a k) (bit_at b k) (bit_at-lt a k) (bit_at-lt b k) (same k))

by_without : (x y : Bool) → (y ≡ true → x ≡ false) → (x && not y) ≡ x
by_without true true none = not_both refl (none refl)
by_without true false none = refl
by_without false y none = refl

by_union : (x y : Bool) → (y ≡ true → x ≡ true) → (x || y) ≡ x
by_union true y there = refl
by_union false true there = sym (there refl)
by_union false false there = refl

without_none : (a m : ℕ) → has a m ≡ false → without a (only m) ≡ a
without_none a m none = same_masks (without a (only m)) a (λ k. has-without a (only m) k ∙ by_without (has a k) (has (only m) k) (λ here. subst (λ n. has a n ≡ false) (sym (same_as_only m k here)) none))

union_there : (a m : ℕ) → has a m ≡ true → union a (only m) ≡ a
union_there a m there = same_masks (union a (only m)) a (λ k. has-union a (only m) k ∙ by_union (has a k) (has (only m) k) (λ here. subst (λ n. has a n ≡ true) (sym (same_as_only m k here)) there))

shape_off : (shape : VolumeShape) (m : ℕ) → has shape.on m ≡ false → has shape.off m ≡ true → shape_with shape m false ≡ shape
shape_off shape m not_on is_off = let on = without_none shape.on m not_on in let off = union_there shape.off m is_off in λ i. record shape { on = on i; off = off i }

stage_off : (s : Stage) (m : ℕ) → has s.on m ≡ false → has s.off m ≡ true → stage_with s m false ≡ s
stage_off s m not_on is_off = let on = without_none s.on m not_on in let off = union_there s.off m is_off in λ i. record s { on = on i; off = off i }

-- ---- the plex

module _ {P : Type 0} {ghosts : Ghosts P} (see : P → Seen) (running : Running P ghosts) (c : Config) (good : ℕ) (numbers : List ℕ) (v : Vol) (placed : RunsInPlace see c good numbers v running)
    (p : Plex) (there : IsIn c.plexes p) (own : is_data_plex_of v.name p ≡ true) where
  abbrev joined : ℕ
  joined = good_joined placed.runs.opening good

  taken_from : is_held c joined p ≡ true → WasTaken running.form p
  taken_from held = subst (λ ms. is_map_among (map_or_zero p.map) ms ≡ true) (sym (form_now see running c good numbers v placed).maps) (into_held c joined v p there own held)

  by_disks : is_held c good p ≡ true → WasTaken running.form p
  by_disks held = taken_from (held_more c good joined (more_good see running c good numbers v placed) p there held)

  by_mask : has running.form.shape.on (map_or_zero p.map) ≡ true → WasTaken running.form p
  by_mask on =
      let is = on_as c joined v placed.runs.recorded running.form.shape (form_now see running c good numbers v placed).shape_is p there own in
      taken_from (and_parts (is_held c joined p) (is_available_state p.state) (is ∙ on)).0

  by_name : is_among p.name (opened_plexes placed.runs.opening) ≡ true → WasTaken running.form p
  by_name among = taken_from (held_among (opening_joined placed.runs.opening c good v) p there (subst (λ (ns : List Word). is_among p.name ns ≡ true) (sym (names_now see running c good numbers v placed)) among))

  in_regions : WasTaken running.form p → HasPlex (map_or_zero p.map) (volume_seen see running.volume)
  in_regions taken r lt =
      let cells = (volume_seen see running.volume).cells in
      let long = length-map cells (λ (cell : CellSeen). cell.plexes) in
      let region = placed.runs.lies.lies.regions r (omega (arith, lt, long)) in
      ap (λ (ps : List PlexSeen). holds ps (map_or_zero p.map)) (sym (plexes_at (volume_seen see running.volume).cells r)) ∙ region.held (map_or_zero p.map) ∙ taken

  pub known_plex : IsKnownPlex see running placed.runs.opening c good p
  known_plex = record { held = by_disks; on = by_mask; named = by_name; there = in_regions }

  -- ---- where it was opened without the plex

  module _ (none : is_map_among (map_or_zero p.map) running.form.maps.items ≡ false) where
    not_on : has running.form.shape.on (map_or_zero p.map) ≡ false
    not_on = false_from_ne_true _ (λ on. false≢true (sym none ∙ by_mask on))

    is_off : has running.form.shape.off (map_or_zero p.map) ≡ true
    is_off = elim (on_or_off c joined v placed.runs.recorded running.form.shape (form_now see running c good numbers v placed).shape_is p there own) [
      | inl on ↦ not_both on not_on
      | inr off ↦ off
    ]

    shape_same : shape_with running.form.shape (map_or_zero p.map) false ≡ running.form.shape
    shape_same = shape_off running.form.shape (map_or_zero p.map) not_on is_off

    cell_same : (r : ℕ) → r < length (volume_seen see running.volume).cells → stage_with (cell_at (volume_seen see running.volume) r).stage (map_or_zero p.map) false ≡ (cell_at (volume_seen see running.volume) r).stage
    cell_same r lt =
        let masks = placed.runs.lies.lies.masks r lt in
        stage_off (cell_at (volume_seen see running.volume) r).stage (map_or_zero p.map) (ap (λ n. has n (map_or_zero p.map)) masks.on ∙ not_on) (ap (λ n. has n (map_or_zero p.map)) masks.off ∙ is_off)

    switches_off : Switches (map_or_zero p.map) false (volume_seen see running.volume) (volume_seen see running.volume)
    switches_off = record {
      cells = record { size = refl; each = λ r lt. ap (λ (s : Stage). record (cell_at (volume_seen see running.volume) r) { stage = s }) (sym (cell_same r lt)) };
      same = refl;
    }

    pub left_out : IsFormSwitched (map_or_zero p.map) false running.form running.form × HasSwitched see (map_or_zero p.map) false running.volume running.volume
    left_out = (
      record { shape = sym shape_same; maps = refl; layouts = refl; logs = refl },
      record {
        switches = switches_off;
        whole = placed.runs.whole;
        shape = placed.runs.shape ∙ sym shape_same ∙ ap (λ (s : VolumeShape). shape_with s (map_or_zero p.map) false) (sym placed.runs.shape);
        log = refl;
      },
    )

pub each_plex_known : {P : Type 0} {ghosts : Ghosts P} (see : P → Seen) (running : Running P ghosts) → EachTakenPlexIsThere see running
each_plex_known see running c good numbers v placed p there own = known_plex see running c good numbers v placed p (is_in c.plexes p there) own

pub each_plex_left_out : {P : Type 0} {ghosts : Ghosts P} (see : P → Seen) (running : Running P ghosts) → EachPlexLeftOutIsOff see running
each_plex_left_out see running c good numbers v placed p there own none = left_out see running c good numbers v placed p (is_in c.plexes p there) own none
