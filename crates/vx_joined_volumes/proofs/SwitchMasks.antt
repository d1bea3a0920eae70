-- The masks of a volume of which a plex is set to another state.
use Rattle.std.proofs.Common.{◌≡◌, ◌≢◌, inl, inr, ℕ, ◌<◌, Bool, true, false, List, sym, ◌∙◌, ap, subst, arith}
use Rattle.std.specs.Prelude.{◌&&◌}
use Rattle.std.specs.List.{filter}
use Rattle.std.proofs.lemmas.Bool.{and_from, and_parts}
use Rattle.vx_base.specs.Named.{Word}
use Rattle.vx_mask.specs.Mask.{has, only, union, without}
use Rattle.vx_mask.proofs.MaskLemmas.{has-only_other, has-only_same, only-lt, same_as_only, union-lt, without-lt}
use Rattle.vx_mask.proofs.Sets.{in_union, in_without, union_cases, without_parts}
use Rattle.vx_mask.proofs.Tests.{not_both}
use Rattle.vx_config_parts.specs.declared.plex.Plex.{Plex}
use Rattle.vx_config_parts.specs.declared.state.PlexState.{PlexState}
use Rattle.vx_config_parts.specs.declared.vol.Vol.{Vol}
use Rattle.vx_config_parts.specs.Objects.{is_data_plex_of}
use Rattle.vx_objects.specs.declared.config.Config.{Config}
use Rattle.vx_image.specs.Bytes.{map_or_zero}
use Rattle.vx_image.specs.UsedPlexes.{IsVolOf, maps_of}
use Rattle.vx_image.proofs.PlexMembers.{IsIn}
use Rattle.vx_lending.specs.RegionsTaken.{is_among}
use Rattle.vx_lending.specs.Form.{IsMaskOf}
use Rattle.vx_lending.proofs.Bits.{kept}
use Rattle.vx_lending.proofs.Distinct.{filtered}
use Rattle.vx_lending.proofs.Maps.{among_plex, one_of_map, plex_among}
use Rattle.vx_lending.proofs.Rules.{plex_low}
use Rattle.vx_joined_volumes.specs.Switched.{SetsState, restated}
use Rattle.vx_joined_volumes.proofs.Held.{same_test}
use Rattle.vx_joined_volumes.proofs.SwitchEdits.{came_from, data_same, map_same, own_or_other, p_there, set, set_own, stays_in}

-- the data plexes of a volume that pass a test
abbrev pub data_that : (Plex → Bool) → Config → Word → List Plex
data_that t c vol = filter (λ p. is_data_plex_of vol p && t p) c.plexes

-- one of them has the map
record HasDataAt (t : Plex → Bool) (c : Config) (vol : Word) (k : ℕ) : Type 0 where
  pub plex : Plex
  pub there : IsIn c.plexes plex
  pub own : is_data_plex_of vol plex ≡ true
  pub passes : t plex ≡ true
  pub map_is : map_or_zero plex.map ≡ k

data_at : (t : Plex → Bool) (c : Config) (vol : Word) (k : ℕ) → is_among k (maps_of (data_that t c vol)) ≡ true → HasDataAt t c vol k
data_at t c vol k among =
    let r = plex_among (data_that t c vol) k among in
    let w = filtered (λ p. is_data_plex_of vol p && t p) c.plexes r.plex r.there in
    let parts = and_parts (is_data_plex_of vol r.plex) (t r.plex) w.1 in
    record { plex = r.plex; there = w.0; own = parts.0; passes = parts.1; map_is = r.map_is }

among_data : (t : Plex → Bool) (c : Config) (vol : Word) (k : ℕ) → HasDataAt t c vol k → is_among k (maps_of (data_that t c vol)) ≡ true
among_data t c vol k at =
    subst (λ n. is_among n (maps_of (data_that t c vol)) ≡ true) at.map_is
    (among_plex (data_that t c vol) at.plex (kept (λ p. is_data_plex_of vol p && t p) c.plexes at.plex at.there (and_from _ _ at.own at.passes)))

-- The plexes of the volume that pass a test now are those that passed one before, but for the plex that is set.
module _ (c c' : Config) (v : Vol) (p : Plex) (next : PlexState) (sets : SetsState c v p next c') (of : IsVolOf c v) (t u : Plex → Bool)
    (others : (q : Plex) → IsIn c.plexes q → q ≢ p → u (set c c' v p next sets q) ≡ t q) (mask : ℕ) (is : IsMaskOf (maps_of (data_that t c v.name)) mask) where
  abbrev m : ℕ
  m = map_or_zero p.map

  abbrev becomes : Plex → Plex
  becomes q = set c c' v p next sets q

  low : m < 64
  low = let below = plex_low c v of p (p_there c c' v p next sets) sets.data_is in omega (arith, below)

  -- a plex that passed, if it is another
  passes_now : (k : ℕ) (at : HasDataAt t c v.name k) → at.plex ≢ p → is_among k (maps_of (data_that u c' v.name)) ≡ true
  passes_now k at other = among_data u c' v.name k (record {
    plex = becomes at.plex;
    there = stays_in c c' v p next sets at.plex at.there;
    own = data_same c c' v p next sets at.plex at.there ∙ at.own;
    passes = others at.plex at.there other ∙ at.passes;
    map_is = map_same c c' v p next sets at.plex at.there ∙ at.map_is;
  })

  passed : (k : ℕ) → has mask k ≡ true → HasDataAt t c v.name k
  passed k there = data_at t c v.name k (sym (is.each k) ∙ there)

  -- the plex of before that one which passes has been, if it is another
  passed_before : (q : Plex) → IsIn c.plexes q → q ≢ p → (k : ℕ) → is_data_plex_of v.name (becomes q) ≡ true → u (becomes q) ≡ true → map_or_zero (becomes q).map ≡ k → has mask k ≡ true
  passed_before q there other k own passes map_is =
      is.each k ∙ among_data t c v.name k (record {
        plex = q;
        there = there;
        own = sym (data_same c c' v p next sets q there) ∙ own;
        passes = sym (others q there other) ∙ passes;
        map_is = sym (map_same c c' v p next sets q there) ∙ map_is;
      })

  -- ---- it passes now

  module _ (own_passes : u (restated p next) ≡ true) where
    itself : is_among m (maps_of (data_that u c' v.name)) ≡ true
    itself = among_data u c' v.name m (record {
      plex = becomes p;
      there = stays_in c c' v p next sets p (p_there c c' v p next sets);
      own = data_same c c' v p next sets p (p_there c c' v p next sets) ∙ sets.data_is;
      passes = ap u (set_own c c' v p next sets) ∙ own_passes;
      map_is = map_same c c' v p next sets p (p_there c c' v p next sets);
    })

    into : (k : ℕ) → has (union mask (only m)) k ≡ true → is_among k (maps_of (data_that u c' v.name)) ≡ true
    into k there = elim (union_cases mask (only m) k there) [
      | inl was ↦
          let at = passed k was in
          elim (own_or_other c c' v p next sets at.plex at.there) [
            | inl same ↦ subst (λ n. is_among n (maps_of (data_that u c' v.name)) ≡ true) (ap (λ (x : Plex). map_or_zero x.map) (sym same) ∙ at.map_is) itself
            | inr other ↦ passes_now k at other.0
          ]
      | inr one ↦ subst (λ n. is_among n (maps_of (data_that u c' v.name)) ≡ true) (sym (same_as_only m k one)) itself
    ]

    from : (k : ℕ) → is_among k (maps_of (data_that u c' v.name)) ≡ true → has (union mask (only m)) k ≡ true
    from k among =
        let at = data_at u c' v.name k among in
        let r = came_from c c' v p next sets at.plex at.there in
        elim (own_or_other c c' v p next sets r.0 r.1) [
          | inl same ↦
              let map_is : m ≡ k = sym (map_same c c' v p next sets p (p_there c c' v p next sets)) ∙ ap (λ (x : Plex). map_or_zero (becomes x).map) (sym same) ∙ ap (λ (x : Plex). map_or_zero x.map) (sym r.2) ∙ at.map_is in
              in_union mask (only m) k (inr (subst (λ n. has (only m) n ≡ true) map_is (has-only_same m low)))
          | inr other ↦
              in_union mask (only m) k (inl (passed_before r.0 r.1 other.0 k (subst (λ (x : Plex). is_data_plex_of v.name x ≡ true) r.2 at.own) (subst (λ (x : Plex). u x ≡ true) r.2 at.passes) (ap (λ (x : Plex). map_or_zero x.map) (sym r.2) ∙ at.map_is)))
        ]

    pub mask_gains : IsMaskOf (maps_of (data_that u c' v.name)) (union mask (only m))
    mask_gains = record { fits = union-lt mask (only m) is.fits (only-lt m); each = λ k. same_test _ _ (into k) (from k) }

  -- ---- it does not

  module _ (own_fails : u (restated p next) ≡ false) where
    into_less : (k : ℕ) → has (without mask (only m)) k ≡ true → is_among k (maps_of (data_that u c' v.name)) ≡ true
    into_less k there =
        let parts = without_parts mask (only m) k there in
        let at = passed k parts.0 in
        passes_now k at (λ same. not_both (subst (λ n. has (only m) n ≡ true) (ap (λ (x : Plex). map_or_zero x.map) (sym same) ∙ at.map_is) (has-only_same m low)) parts.1)

    from_less : (k : ℕ) → is_among k (maps_of (data_that u c' v.name)) ≡ true → has (without mask (only m)) k ≡ true
    from_less k among =
        let at = data_at u c' v.name k among in
        let r = came_from c c' v p next sets at.plex at.there in
        elim (own_or_other c c' v p next sets r.0 r.1) [
          | inl same ↦ not_both at.passes (ap u (r.2 ∙ ap becomes same ∙ set_own c c' v p next sets) ∙ own_fails)
          | inr other ↦
              let own = subst (λ (x : Plex). is_data_plex_of v.name x ≡ true) r.2 at.own in
              let map_is : map_or_zero (becomes r.0).map ≡ k = ap (λ (x : Plex). map_or_zero x.map) (sym r.2) ∙ at.map_is in
              in_without mask (only m) k (passed_before r.0 r.1 other.0 k own (subst (λ (x : Plex). u x ≡ true) r.2 at.passes) map_is)
              (has-only_other m k (λ same. other.0
              (one_of_map c v of r.0 p r.1 (p_there c c' v p next sets) (sym (data_same c c' v p next sets r.0 r.1) ∙ own) sets.data_is (sym (map_same c c' v p next sets r.0 r.1) ∙ map_is ∙ same))))
        ]

    pub mask_loses : IsMaskOf (maps_of (data_that u c' v.name)) (without mask (only m))
    mask_loses = record { fits = without-lt mask (only m) is.fits; each = λ k. same_test _ _ (into_less k) (from_less k) }
