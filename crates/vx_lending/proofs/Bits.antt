-- The masks of a form: each map is one thing.
use Rattle.std.proofs.Common.{◌≡◌, inl, inr, ℕ, ◌<◌, Bool, true, false, not, List, refl, sym, ap, ◌∙◌, subst, arith}
use Rattle.std.specs.Prelude.{◌&&◌, is_some}
use Rattle.std.specs.List.{filter}
use Rattle.std.proofs.lemmas.Bool.{and_parts, and_from, false≢true, false_from_ne_true}
use Rattle.vx_block.specs.Regions.{region_count}
use Rattle.vx_mask.specs.Mask.{has, union}
use Rattle.vx_mask.proofs.Sets.{union_cases}
use Rattle.vx_core.specs.Soundness.{IsDataIn}
use Rattle.vx_marks.specs.Log.{LogSeen}
use Rattle.vx_config_parts.specs.declared.plex.Plex.{Plex}
use Rattle.vx_config_parts.specs.declared.vol.Vol.{Vol}
use Rattle.vx_config_parts.specs.Objects.{is_data_plex_of}
use Rattle.vx_objects.specs.declared.config.Config.{Config}
use Rattle.vx_image.proofs.PlexMembers.{IsIn}
use Rattle.vx_image.proofs.Members.{is_in, contains, into_filter}
use Rattle.vx_image.specs.Bytes.{is_held, map_or_zero}
use Rattle.vx_volume.specs.declared.volume.VolumeShape.{VolumeShape}
use Rattle.vx_volume.specs.Opening.{AreVolumeMasks}
use Rattle.vx_lending.specs.RegionLaws.{AreMapsOf}
use Rattle.vx_lending.specs.RegionsTaken.{is_among}
use Rattle.vx_image.specs.UsedPlexes.{IsVolOf, is_on, held_plexes, on_plexes, off_plexes, maps_of}
use Rattle.vx_lending.specs.Form.{IsShapeOf}
use Rattle.vx_lending.specs.FormLaws.{HasOn, IsLogFor}
use Rattle.vx_lending.proofs.Distinct.{filtered}
use Rattle.vx_lending.proofs.Rules.{plex_low, relation_low, relation_prepared}
use Rattle.vx_lending.proofs.Maps.{HasSnap, plex_among, among_plex, snap_among, one_without, one_of_map, relation_apart}

-- a data plex of the volume has the map; it is on, or it is not
pub record IsPlexAt (c : Config) (good : ℕ) (v : Vol) (k : ℕ) (available : Bool) : Type 0 where
  pub plex : Plex
  pub there : IsIn c.plexes plex
  pub own : is_data_plex_of v.name plex ≡ true
  pub map_is : map_or_zero plex.map ≡ k
  pub on : is_on c good plex ≡ available

not_true : (b : Bool) → not b ≡ true → b ≡ false
not_true true h = absurd (false≢true h)
not_true false h = refl

not_false : (b : Bool) → b ≡ false → not b ≡ true
not_false b h = ap not h

pub kept : {A : Type 0} (test : A → Bool) (xs : List A) (x : A) → IsIn xs x → test x ≡ true → IsIn (filter test xs) x
kept test xs x there passes = is_in _ x (into_filter test xs x (contains xs x there) passes)

module _ (c : Config) (good : ℕ) (v : Vol) where
  on_at : (k : ℕ) → is_among k (maps_of (on_plexes c good v.name)) ≡ true → IsPlexAt c good v k true
  on_at k h =
      let r = plex_among (on_plexes c good v.name) k h in
      let w = filtered (λ p. is_data_plex_of v.name p && is_on c good p) c.plexes r.plex r.there in
      let parts = and_parts (is_data_plex_of v.name r.plex) (is_on c good r.plex) w.1 in
      record { plex = r.plex; there = w.0; own = parts.0; map_is = r.map_is; on = parts.1 }

  off_at : (k : ℕ) → is_among k (maps_of (off_plexes c good v.name)) ≡ true → IsPlexAt c good v k false
  off_at k h =
      let r = plex_among (off_plexes c good v.name) k h in
      let w = filtered (λ p. is_data_plex_of v.name p && not (is_on c good p)) c.plexes r.plex r.there in
      let parts = and_parts (is_data_plex_of v.name r.plex) (not (is_on c good r.plex)) w.1 in
      record { plex = r.plex; there = w.0; own = parts.0; map_is = r.map_is; on = not_true (is_on c good r.plex) parts.1 }

  pub into_on : (p : Plex) → IsIn c.plexes p → is_data_plex_of v.name p ≡ true → is_on c good p ≡ true → is_among (map_or_zero p.map) (maps_of (on_plexes c good v.name)) ≡ true
  into_on p there own on = among_plex (on_plexes c good v.name) p (kept (λ p. is_data_plex_of v.name p && is_on c good p) c.plexes p there (and_from _ _ own on))

  pub into_off : (p : Plex) → IsIn c.plexes p → is_data_plex_of v.name p ≡ true → is_on c good p ≡ false → is_among (map_or_zero p.map) (maps_of (off_plexes c good v.name)) ≡ true
  into_off p there own off = among_plex (off_plexes c good v.name) p (kept (λ p. is_data_plex_of v.name p && not (is_on c good p)) c.plexes p there (and_from _ _ own (not_false (is_on c good p) off)))

  pub into_held : (p : Plex) → IsIn c.plexes p → is_data_plex_of v.name p ≡ true → is_held c good p ≡ true → is_among (map_or_zero p.map) (maps_of (held_plexes c good v.name)) ≡ true
  into_held p there own held = among_plex (held_plexes c good v.name) p (kept (λ p. is_data_plex_of v.name p && is_held c good p) c.plexes p there (and_from _ _ own held))

  module _ (of : IsVolOf c v) (shape : VolumeShape) (is : IsShapeOf c good v shape) where
    pub on_plex : (k : ℕ) → has shape.on k ≡ true → IsPlexAt c good v k true
    on_plex k h = on_at k (sym (is.on.each k) ∙ h)

    pub off_plex : (k : ℕ) → has shape.off k ≡ true → IsPlexAt c good v k false
    off_plex k h = off_at k (sym (is.off.each k) ∙ h)

    snap_of : (k : ℕ) → has shape.snaps k ≡ true → HasSnap c v k
    snap_of k h = snap_among c v k (sym (is.snaps.each k) ∙ h)

    -- a map is not on and off
    pub on_off : (j k : ℕ) → IsPlexAt c good v j true → IsPlexAt c good v k false → j ≡ k → ⊥
    on_off j k p q e =
        let one = one_of_map c v of p.plex q.plex p.there q.there p.own q.own (p.map_is ∙ e ∙ sym q.map_is) in
        false≢true (sym q.on ∙ ap (λ x. is_on c good x) (sym one) ∙ p.on)

    plex_snap : (k : ℕ) (available : Bool) → IsPlexAt c good v k available → HasSnap c v k → ⊥
    plex_snap k available p s = relation_apart c v of p.plex s.snap k p.there p.own s.has_it p.map_is

    plex_below : (k : ℕ) (available : Bool) → IsPlexAt c good v k available → k < 30
    plex_below k available p = subst (λ n. n < 30) p.map_is (plex_low c v of p.plex p.there p.own)

    snap_below : (k : ℕ) → HasSnap c v k → k < 30
    snap_below k s = relation_low c v of s.snap k s.has_it

    pub low : (k : ℕ) → has (union (union shape.on shape.off) shape.snaps) k ≡ true → k < 30
    low k h = elim (union_cases (union shape.on shape.off) shape.snaps k h) [
      | inl own ↦ elim (union_cases shape.on shape.off k own) [
        | inl on ↦ plex_below k true (on_plex k on)
        | inr off ↦ plex_below k false (off_plex k off)
      ]
      | inr snap ↦ snap_below k (snap_of k snap)
    ]

    not_thirty : (b : Bool) → (b ≡ true → 30 < 30) → b ≡ false
    not_thirty b h = false_from_ne_true b (λ e. let lt = h e in omega (arith, lt))

    -- without a DCO there is one data plex
    one_alone : (j k : ℕ) (a b : Bool) → is_some v.dco ≡ false → (p : IsPlexAt c good v j a) (q : IsPlexAt c good v k b) → p.plex ≡ q.plex
    one_alone j k a b none p q = one_without c v of p.plex q.plex p.there q.there p.own q.own none

    pub masks : (log : LogSeen) → IsLogFor v log → (log.there ≡ false → HasOn shape) → AreVolumeMasks shape log
    masks log for some =
        record {
          on_fits = is.on.fits;
          off_fits = is.off.fits;
          snaps_fit = is.snaps.fits;
          off_apart = λ k on. false_from_ne_true _ (λ off. on_off k k (on_plex k on) (off_plex k off) refl);
          snaps_apart = λ k on. false_from_ne_true _ (λ snap. plex_snap k true (on_plex k on) (snap_of k snap));
          off_snaps = λ k off. false_from_ne_true _ (λ snap. plex_snap k false (off_plex k off) (snap_of k snap));
          dirty_apart = (not_thirty _ (λ e. plex_below 30 true (on_plex 30 e)), not_thirty _ (λ e. plex_below 30 false (off_plex 30 e)), not_thirty _ (λ e. snap_below 30 (snap_of 30 e)));
          alone = λ none j k on on'.
              let p = on_plex j on in
              let q = on_plex k on' in
              sym p.map_is ∙ ap (λ (x : Plex). map_or_zero x.map) (one_alone j k true true (sym for.there ∙ none) p q) ∙ q.map_is;
          unlogged = λ none k. (
            false_from_ne_true _ (λ off.
                let p = on_plex (some none).0 (some none).1 in
                let q = off_plex k off in
                let same = one_alone (some none).0 k true false (sym for.there ∙ none) p q in
                false≢true (sym q.on ∙ ap (λ x. is_on c good x) (sym same) ∙ p.on)),
            false_from_ne_true _ (λ snap. let s = snap_of k snap in false≢true (sym none ∙ for.there ∙ relation_prepared c v of s.snap k s.has_it)),
          );
          regions = λ r lt. for.regions r (subst (λ n. r < n) (ap (λ n. region_count n shape.geometry.region) is.length_is ∙ ap (λ n. region_count v.len n) is.region_is) lt);
          maps = λ there. (λ k h. let below = low k h in let more = for.maps there in omega (arith, below, more), for.maps there);
        }

    pub held_on : (p : Plex) → (a : Bool) → is_on c good p ≡ a → IsIn c.plexes p → is_data_plex_of v.name p ≡ true → IsDataIn shape.on shape.off (map_or_zero p.map)
    held_on p true e there own = inl (is.on.each (map_or_zero p.map) ∙ into_on p there own e)
    held_on p false e there own = inr (is.off.each (map_or_zero p.map) ∙ into_off p there own e)

    pub maps : (ms : List ℕ) → ms ≡ maps_of (held_plexes c good v.name) → AreMapsOf shape ms
    maps ms e =
        record {
          on = λ k h.
              let p = on_plex k h in
              let held = (and_parts (is_held c good p.plex) _ p.on).0 in
              subst (λ xs. is_among k xs ≡ true) (sym e) (subst (λ n. is_among n (maps_of (held_plexes c good v.name)) ≡ true) p.map_is (into_held p.plex p.there p.own held));
          known = λ k h.
              let r = plex_among (held_plexes c good v.name) k (subst (λ xs. is_among k xs ≡ true) e h) in
              let w = filtered (λ p. is_data_plex_of v.name p && is_held c good p) c.plexes r.plex r.there in
              subst (λ n. IsDataIn shape.on shape.off n) r.map_is (held_on r.plex (is_on c good r.plex) refl w.0 (and_parts (is_data_plex_of v.name r.plex) (is_held c good r.plex) w.1).0);
        }
