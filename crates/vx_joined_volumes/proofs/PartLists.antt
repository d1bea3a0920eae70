-- Lists of plexes without the one of a name, and what goes with them without that of its map.
use Rattle.std.proofs.Common.{◌≡◌, inl, inr, ℕ, ◌<◌, Bool, true, false, cond, not, List, [], ◌∷◌, map, refl, sym, ◌∙◌, ap, subst}
use Rattle.std.specs.Prelude.{◌==◌, if◌then◌else◌}
use Rattle.std.specs.List.{AllZip, filter}
use Rattle.std.proofs.lemmas.Bool.{eq-eqb, eqb-true, false≢true, false_from_ne_true}
use Rattle.vx_mask.specs.Mask.{has, only, without}
use Rattle.vx_mask.proofs.MaskLemmas.{apart_from_only, has-only_other, without-lt}
use Rattle.vx_mask.proofs.Sets.{in_without, without_parts}
use Rattle.vx_config_parts.specs.declared.plex.Plex.{Plex}
use Rattle.vx_image.specs.Bytes.{map_or_zero}
use Rattle.vx_image.specs.UsedPlexes.{maps_of}
use Rattle.vx_image.proofs.PlexMembers.{IsIn}
use Rattle.vx_lending.specs.Form.{IsMaskOf}
use Rattle.vx_lending.specs.RegionsTaken.{AreDifferent, is_among}
use Rattle.vx_lending.proofs.Bits.{kept}
use Rattle.vx_lending.proofs.Distinct.{filtered}
use Rattle.vx_lending.proofs.Maps.{among_plex, plex_among}
use Rattle.vx_group_edits.proofs.Lists.{filter_passed}
use Rattle.vx_joined_volumes.specs.Parted.{without_map}
use Rattle.vx_joined_volumes.proofs.Held.{same_test}

-- ---- filters

-- tests that agree on the members pass the same of them
pub filter_alike : {A : Type 0} (t u : A → Bool) (xs : List A) → ((x : A) → IsIn xs x → t x ≡ u x) → filter t xs ≡ filter u xs
filter_alike t u [] same = refl
filter_alike t u (x ∷ xs) same =
    ap (λ b. cond b (x ∷ filter t xs) (filter t xs)) (same x (inl refl))
    ∙ ap (λ ys. cond (u x) (x ∷ ys) ys) (filter_alike t u xs (λ y there. same y (inr there)))

-- what is filtered by what is seen of it
pub map_filtered : {A B : Type 0} (f : A → B) (t : B → Bool) (xs : List A) → map f (filter (λ x. t (f x)) xs) ≡ filter t (map f xs)
map_filtered f t [] = refl
map_filtered f t (x ∷ xs) = by (t (f x)) (map_filtered f t xs)
  where
    by : (b : Bool) → map f (filter (λ x. t (f x)) xs) ≡ filter t (map f xs) → map f (cond b (x ∷ filter (λ x. t (f x)) xs) (filter (λ x. t (f x)) xs)) ≡ cond b (f x ∷ filter t (map f xs)) (filter t (map f xs))
    by true e = ap (λ ys. f x ∷ ys) e
    by false e = e

-- ---- a list goes with what is seen of it

zip_of_map : {A B : Type 0} (f : A → B) (xs : List A) → AllZip (λ x y. y ≡ f x) xs (map f xs)
zip_of_map f [] = tt
zip_of_map f (x ∷ xs) = (refl, zip_of_map f xs)

map_of_zip : {A B : Type 0} (f : A → B) (xs : List A) (ys : List B) → AllZip (λ x y. y ≡ f x) xs ys → ys ≡ map f xs
map_of_zip f [] [] h = refl
map_of_zip f [] (y ∷ ys) h = absurd h
map_of_zip f (x ∷ xs) [] h = absurd h
map_of_zip f (x ∷ xs) (y ∷ ys) h = let first = h.0 in let rest = map_of_zip f xs ys h.1 in λ i. first i ∷ rest i

-- ---- plexes without those of a map

abbrev map_of_plex : Plex → ℕ
map_of_plex q = map_or_zero q.map

module _ (m : ℕ) (stays : Plex → Bool) where
  -- the plexes that go are those of the map
  abbrev pub GoByMap : List Plex → Type 0
  GoByMap ps = (q : Plex) → IsIn ps q → stays q ≡ not (map_or_zero q.map == m)

  -- of plexes whose maps are others each stays
  others_stay : (p : Plex) (ps : List Plex) → is_among (map_or_zero p.map) (maps_of ps) ≡ false → (map_or_zero p.map == m) ≡ true → GoByMap ps → (q : Plex) → IsIn ps q → stays q ≡ true
  others_stay p ps none is go q there =
      go q there
      ∙ ap not (false_from_ne_true _ (λ same.
      false≢true (sym none ∙ subst (λ n. is_among n (maps_of ps) ≡ true) (eqb-true (map_or_zero q.map) m same ∙ sym (eqb-true (map_or_zero p.map) m is)) (among_plex ps q there))))

  -- what goes with plexes of which the maps differ goes with those that stay, without what goes with the map
  pub zip_without : {B : Type 0} (R : Plex → B → Type 0) (ps : List Plex) (xs : List B) → GoByMap ps → AreDifferent (maps_of ps) → AllZip R ps xs → AllZip R (filter stays ps) (without_map m (maps_of ps) xs)
  zip_without R [] [] go differ zip = tt
  zip_without R [] (x ∷ xs) go differ zip = absurd zip
  zip_without R (p ∷ ps) [] go differ zip = absurd zip
  zip_without R (p ∷ ps) (x ∷ xs) go differ zip = by (zip_without R ps xs (λ q there. go q (inr there)) differ.1 zip.1) (map_or_zero p.map == m) refl
    where
      first : (b : Bool) → (map_or_zero p.map == m) ≡ b → cond (not b) (p ∷ filter stays ps) (filter stays ps) ≡ filter stays (p ∷ ps)
      first b e = sym (ap (λ c. cond c (p ∷ filter stays ps) (filter stays ps)) (go p (inl refl) ∙ ap not e))

      by : AllZip R (filter stays ps) (without_map m (maps_of ps) xs) → (b : Bool) → (map_or_zero p.map == m) ≡ b → AllZip R (filter stays (p ∷ ps)) (if b then xs else x ∷ without_map m (maps_of ps) xs)
      by rest true e =
          let all = filter_passed stays ps (others_stay p ps differ.0 e (λ q there. go q (inr there))) in
          subst (λ ys. AllZip R ys xs) (sym all ∙ first true e) zip.1
      by rest false e = subst (λ ys. AllZip R ys (x ∷ without_map m (maps_of ps) xs)) (first false e) (zip.0, rest)

  -- so do their maps
  pub maps_without : (ps : List Plex) → GoByMap ps → AreDifferent (maps_of ps) → without_map m (maps_of ps) (maps_of ps) ≡ maps_of (filter stays ps)
  maps_without ps go differ =
      map_of_zip map_of_plex (filter stays ps) (without_map m (maps_of ps) (maps_of ps))
      (zip_without (λ q k. k ≡ map_or_zero q.map) ps (maps_of ps) go differ (zip_of_map map_of_plex ps))

  -- ---- their mask

  module _ (low : m < 64) (ps : List Plex) (go : GoByMap ps) (mask : ℕ) (is : IsMaskOf (maps_of ps) mask) where
    into : (k : ℕ) → has (without mask (only m)) k ≡ true → is_among k (maps_of (filter stays ps)) ≡ true
    into k there =
        let parts = without_parts mask (only m) k there in
        let r = plex_among ps k (sym (is.each k) ∙ parts.0) in
        let other = false_from_ne_true (map_or_zero r.plex.map == m) (λ same. apart_from_only m k low parts.1 (sym r.map_is ∙ eqb-true (map_or_zero r.plex.map) m same)) in
        subst (λ n. is_among n (maps_of (filter stays ps)) ≡ true) r.map_is (among_plex (filter stays ps) r.plex (kept stays ps r.plex r.there (go r.plex r.there ∙ ap not other)))

    from : (k : ℕ) → is_among k (maps_of (filter stays ps)) ≡ true → has (without mask (only m)) k ≡ true
    from k among =
        let r = plex_among (filter stays ps) k among in
        let w = filtered stays ps r.plex r.there in
        in_without mask (only m) k (is.each k ∙ subst (λ n. is_among n (maps_of ps) ≡ true) r.map_is (among_plex ps r.plex w.0))
        (has-only_other m k (λ same. false≢true (sym (go r.plex w.0 ∙ ap not (eq-eqb (map_or_zero r.plex.map) m (r.map_is ∙ same))) ∙ w.1)))

    pub mask_without : IsMaskOf (maps_of (filter stays ps)) (without mask (only m))
    mask_without = record { fits = without-lt mask (only m) is.fits; each = λ k. same_test _ _ (into k) (from k) }
