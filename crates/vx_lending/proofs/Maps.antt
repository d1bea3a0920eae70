-- The maps of a volume's data plexes and relations are each one thing.
use Rattle.std.proofs.Common.{◌≡◌, ◌⊎◌, inl, inr, ℕ, ◌<◌, Bool, true, false, cond, Option, Some, None, List, [], ◌∷◌, refl, sym, subst, arith}
use Rattle.std.specs.Prelude.{◌&&◌, ◌==◌, is_some}
use Rattle.std.specs.List.{filter}
use Rattle.std.specs.Str.{bytes_eq}
use Rattle.std.proofs.lemmas.Bool.{and_parts, and_from, false≢true, leb-true, eq-eqb, eqb-true, false_from_ne_true}
use Rattle.vx_base.specs.Named.{Word}
use Rattle.vx_config_parts.specs.declared.object.Object.{Object}
use Rattle.vx_config_parts.specs.declared.object.Object.TheVariants.{PlexRecord, SnapRecord}
use Rattle.vx_config_parts.specs.declared.plex.Plex.{Plex}
use Rattle.vx_config_parts.specs.declared.plex.PlexKind.TheVariants.{Data}
use Rattle.vx_config_parts.specs.declared.snap.Snap.{Snap}
use Rattle.vx_config_parts.specs.declared.vol.Vol.{Vol}
use Rattle.vx_config_parts.specs.Objects.{is_data_plex_of, is_plex, is_snap}
use Rattle.vx_rules.specs.Maps.{has_map, data_count, plex_map_fits, logs_are_good}
use Rattle.vx_objects.specs.declared.config.Config.{Config}
use Rattle.vx_objects.specs.Config.{objects_of}
use Rattle.vx_image.proofs.PlexMembers.{IsIn, in_any, any_in, from_map, in_map, count_some, count_one, plex_in}
use Rattle.vx_image.specs.Bytes.{map_or_zero, relation_maps}
use Rattle.vx_lending.specs.RegionsTaken.{is_among, AreDifferent}
use Rattle.vx_image.specs.UsedPlexes.{IsVolOf, maps_of}
use Rattle.vx_lending.proofs.Distinct.{AreDistinct, distinct_by, filtered, distinct_filter}
use Rattle.vx_lending.proofs.Rules.{vol_logs, map_once, plex_fits, plex_low, HasRelation, snap_in, relation_low, relation_prepared, plex_names}

-- ---- among maps

pub among_in : (k : ℕ) (maps : List ℕ) → is_among k maps ≡ true → IsIn maps k
among_in k maps h = let r = any_in (λ m. m == k) maps h in subst (λ m. IsIn maps m) (eqb-true r.0 k r.2) r.1

pub in_among : (k : ℕ) (maps : List ℕ) → IsIn maps k → is_among k maps ≡ true
in_among k maps h = in_any (λ m. m == k) maps k h (eq-eqb k k refl)

-- a plex of the list has the map
pub record HasPlex (ps : List Plex) (k : ℕ) : Type 0 where
  pub plex : Plex
  pub there : IsIn ps plex
  pub map_is : map_or_zero plex.map ≡ k

pub plex_among : (ps : List Plex) (k : ℕ) → is_among k (maps_of ps) ≡ true → HasPlex ps k
plex_among ps k h =
    let r = from_map (λ (p : Plex). map_or_zero p.map) ps k (among_in k (maps_of ps) h) in
    record { plex = r.0; there = r.1; map_is = sym r.2 }

pub among_plex : (ps : List Plex) (p : Plex) → IsIn ps p → is_among (map_or_zero p.map) (maps_of ps) ≡ true
among_plex ps p h = in_among (map_or_zero p.map) (maps_of ps) (in_map (λ (p : Plex). map_or_zero p.map) ps p h)

relation_in : (b d : Bool) (s : Snap) (k : ℕ) (rest : List ℕ) → is_among k (cond b (s.map ∷ rest) (cond d (s.ofmap ∷ rest) rest)) ≡ true →
    (((b ≡ true) × (s.map ≡ k)) ⊎ ((d ≡ true) × (s.ofmap ≡ k))) ⊎ (is_among k rest ≡ true)
relation_in true d s k rest h = elim (among_in k (s.map ∷ rest) h) [ inl here ↦ inl (inl (refl, sym here)) | inr later ↦ inr (in_among k rest later) ]
relation_in false true s k rest h = elim (among_in k (s.ofmap ∷ rest) h) [ inl here ↦ inl (inr (refl, sym here)) | inr later ↦ inr (in_among k rest later) ]
relation_in false false s k rest h = inr h

relation_of : (ss : List Snap) (vol : Word) (k : ℕ) → is_among k (relation_maps ss vol) ≡ true →
    (s : Snap) × IsIn ss s × (((bytes_eq s.vol vol ≡ true) × (s.map ≡ k)) ⊎ ((bytes_eq s.of vol ≡ true) × (s.ofmap ≡ k)))
relation_of [] vol k h = absurd (false≢true h)
relation_of (s ∷ ss) vol k h = elim (relation_in (bytes_eq s.vol vol) (bytes_eq s.of vol) s k (relation_maps ss vol) h) [
  | inl here ↦ (s, inl refl, here)
  | inr later ↦ let r = relation_of ss vol k later in (r.0, inr r.1, r.2)
]

-- a relation of the volume has the map
pub record HasSnap (c : Config) (v : Vol) (k : ℕ) : Type 0 where
  pub snap : Snap
  pub has_it : HasRelation c v snap k

pub snap_among : (c : Config) (v : Vol) (k : ℕ) → is_among k (relation_maps c.snaps v.name) ≡ true → HasSnap c v k
snap_among c v k h = let r = relation_of c.snaps v.name k h in record { snap = r.0; has_it = record { there = r.1; side = r.2 } }

-- ---- one plex for a map

same_plex : (p q : Plex) → PlexRecord p ≡ PlexRecord q → p ≡ q
same_plex p q e = cc

abbrev uses_plex : Word → ℕ → Object → Bool
uses_plex vol m o = is_plex (λ p. is_data_plex_of vol p && has_map p.map m) o

map_here : (p : Plex) (vol : Word) (m k : ℕ) → p.map ≡ Some m → m ≡ k → is_data_plex_of vol p ≡ true → (is_data_plex_of vol p && has_map p.map k) ≡ true
map_here p vol m k e same own = and_from _ _ own (subst (λ o. has_map o k ≡ true) (sym e) (eq-eqb m k same))

module _ (c : Config) (v : Vol) (of : IsVolOf c v) where
  -- of a volume with a DCO
  one_prepared : (p q : Plex) → IsIn c.plexes p → IsIn c.plexes q → is_data_plex_of v.name p ≡ true → is_data_plex_of v.name q ≡ true → (m n : Option ℕ) → p.map ≡ m → q.map ≡ n →
      plex_map_fits Data true m ≡ true → plex_map_fits Data true n ≡ true → map_or_zero m ≡ map_or_zero n → p ≡ q
  one_prepared p q here there own own' None n e e' fits fits' same = absurd (false≢true fits)
  one_prepared p q here there own own' (Some m) None e e' fits fits' same = absurd (false≢true fits')
  one_prepared p q here there own own' (Some m) (Some n) e e' fits fits' same =
      let low : m < 30 = subst (λ o. map_or_zero o < 30) e (plex_low c v of p here own) in
      let few = map_once c v of m low in
      same_plex p q (count_one (λ o. uses_plex v.name m o) (objects_of c) (PlexRecord p) (PlexRecord q) (omega (arith, few)) (plex_in c p here) (plex_in c q there)
      (map_here p v.name m m e refl own) (map_here q v.name n m e' (sym same) own'))

  -- of one without
  one_alone : (p q : Plex) → IsIn c.plexes p → IsIn c.plexes q → is_data_plex_of v.name p ≡ true → is_data_plex_of v.name q ≡ true → (o : Option Word) → is_some o ≡ false → logs_are_good (objects_of c) v.name o ≡ true → p ≡ q
  one_alone p q here there own own' None alone good =
      same_plex p q (count_one (λ o. is_plex (λ p. is_data_plex_of v.name p) o) (objects_of c) (PlexRecord p) (PlexRecord q) (leb-true (data_count (objects_of c) v.name) 1 good) (plex_in c p here) (plex_in c q there) own own')
  one_alone p q here there own own' (Some dco) alone good = absurd (false≢true (sym alone))

  pub one_without : (p q : Plex) → IsIn c.plexes p → IsIn c.plexes q → is_data_plex_of v.name p ≡ true → is_data_plex_of v.name q ≡ true → is_some v.dco ≡ false → p ≡ q
  one_without p q here there own own' alone = one_alone p q here there own own' v.dco alone (vol_logs c v of)

  pub one_of_map : (p q : Plex) → IsIn c.plexes p → IsIn c.plexes q → is_data_plex_of v.name p ≡ true → is_data_plex_of v.name q ≡ true → map_or_zero p.map ≡ map_or_zero q.map → p ≡ q
  one_of_map p q here there own own' same = by (is_some v.dco) refl
    where
      by : (b : Bool) → is_some v.dco ≡ b → p ≡ q
      by true e = one_prepared p q here there own own' p.map q.map refl refl (subst (λ b. plex_map_fits Data b p.map ≡ true) e (plex_fits c v of p here own)) (subst (λ b. plex_map_fits Data b q.map ≡ true) e (plex_fits c v of q there own')) same
      by false e = one_without p q here there own own' e

  -- no relation has the map of a data plex
  clash : (p : Plex) (s : Snap) (k : ℕ) → IsIn c.plexes p → is_data_plex_of v.name p ≡ true → HasRelation c v s k → (m : Option ℕ) → p.map ≡ m → plex_map_fits Data true m ≡ true → map_or_zero m ≡ k → ⊥
  clash p s k here own r None e fits same = false≢true fits
  clash p s k here own r (Some m) e fits same =
      let few = map_once c v of k (relation_low c v of s k r) in
      let one = count_some (λ o. uses_plex v.name k o) (objects_of c) (PlexRecord p) (plex_in c p here) (map_here p v.name m k e same own) in
      elim r.side [
        | inl w ↦
            let two = count_some (λ o. is_snap (λ s. bytes_eq s.vol v.name && s.map == k) o) (objects_of c) (SnapRecord s) (snap_in c s r.there) (and_from _ _ w.0 (eq-eqb s.map k w.1)) in
            omega (arith, few, one, two)
        | inr w ↦
            let two = count_some (λ o. is_snap (λ s. bytes_eq s.of v.name && s.ofmap == k) o) (objects_of c) (SnapRecord s) (snap_in c s r.there) (and_from _ _ w.0 (eq-eqb s.ofmap k w.1)) in
            omega (arith, few, one, two)
      ]

  pub relation_apart : (p : Plex) (s : Snap) (k : ℕ) → IsIn c.plexes p → is_data_plex_of v.name p ≡ true → HasRelation c v s k → map_or_zero p.map ≡ k → ⊥
  relation_apart p s k here own r same =
      clash p s k here own r p.map refl (subst (λ b. plex_map_fits Data b p.map ≡ true) (relation_prepared c v of s k r) (plex_fits c v of p here own)) same

  -- ---- lists

  different : (ps : List Plex) → AreDistinct (λ (p : Plex). map_or_zero p.map) ps → AreDifferent (maps_of ps)
  different [] h = tt
  different (p ∷ ps) h =
      (false_from_ne_true _ (λ there. let r = plex_among ps (map_or_zero p.map) there in h.0 r.plex r.there (sym r.map_is)), different ps h.1)

  -- data plexes of the volume have maps that differ
  pub maps_differ : (test : Plex → Bool) → AreDifferent (maps_of (filter (λ p. is_data_plex_of v.name p && test p) c.plexes))
  maps_differ test =
      let keep = λ (p : Plex). is_data_plex_of v.name p && test p in
      different (filter (λ p. is_data_plex_of v.name p && test p) c.plexes)
      (distinct_by (λ (p : Plex). p.name) (λ (p : Plex). map_or_zero p.map) (filter (λ p. is_data_plex_of v.name p && test p) c.plexes) (distinct_filter (λ (p : Plex). p.name) (λ p. is_data_plex_of v.name p && test p) c.plexes (plex_names c))
      (λ p q here there same.
      let a = filtered (λ p. is_data_plex_of v.name p && test p) c.plexes p here in
      let b = filtered (λ p. is_data_plex_of v.name p && test p) c.plexes q there in
      one_of_map p q a.0 b.0 (and_parts (is_data_plex_of v.name p) (test p) a.1).0 (and_parts (is_data_plex_of v.name q) (test q) b.1).0 same))
