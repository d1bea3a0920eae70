-- The plexes of a region that was taken are those of the image that are held, each with the blocks of the region.
use Rattle.std.proofs.Common.{◌≡◌, inl, inr, ℕ, zero, suc, ◌<◌, Bool, true, false, cond, List, [], ◌∷◌, length, map, refl, sym, ap, ◌∙◌, subst, arith}
use Rattle.std.specs.Prelude.{◌==◌, slice_index_or, Contains}
use Rattle.std.specs.List.{All, filter}
use Rattle.std.proofs.lemmas.Bool.{false≢true, eq-eqb, eqb-true, or_left, or_right}
use Rattle.std.proofs.lemmas.List.Elements.{All-contains, All-nil, All-cons}
use Rattle.vx_piece.specs.Seen.{Seen}
use Rattle.vx_runs.specs.Run.{run_contents}
use Rattle.vx_cell.specs.Plexes.{PlexSeen, MapsDiffer, holds, contents_of}
use Rattle.vx_config_parts.specs.declared.plex.Plex.{Plex}
use Rattle.vx_config_parts.specs.declared.vol.Vol.{Vol}
use Rattle.vx_config_parts.specs.Objects.{is_data_plex_of}
use Rattle.vx_objects.specs.declared.config.Config.{Config}
use Rattle.vx_image.proofs.PlexMembers.{IsIn, in_left, in_right, in_map, from_map}
use Rattle.vx_image.specs.Image.{PlexImage}
use Rattle.vx_image.specs.Bytes.{Sectors, plex_image, image_of}
use Rattle.vx_image.proofs.Members.{is_in, contains, from_filter, into_filter}
use Rattle.vx_lending.specs.RegionPieces.{own_pieces, pieces_of, all_pieces}
use Rattle.vx_lending.specs.RegionsTaken.{own_map}

-- ---- the plex of a map, by its place in the list

-- the plex at this place has the map, and so has no other
map_holds : (plexes : List PlexSeen) (j : ℕ) → j < length plexes → holds plexes (slice_index_or (map own_map plexes) j 0) ≡ true
map_holds [] j lt = absurd (omega (arith, lt))
map_holds (p ∷ ps) zero lt = or_left _ _ (eq-eqb p.map p.map refl)
map_holds (p ∷ ps) (suc j) lt = or_right _ _ (map_holds ps j (omega (arith, lt)))

pub contents_at : (plexes : List PlexSeen) (j i : ℕ) → MapsDiffer plexes → j < length plexes → contents_of plexes (slice_index_or (map own_map plexes) j 0) i ≡ run_contents (slice_index_or (map own_pieces plexes) j []) i
contents_at [] j i differ lt = absurd (omega (arith, lt))
contents_at (p ∷ ps) zero i differ lt = by (p.map == p.map) (eq-eqb p.map p.map refl)
  where
    by : (b : Bool) → b ≡ true → cond b (run_contents p.pieces i) (contents_of ps p.map i) ≡ run_contents p.pieces i
    by true e = refl
    by false e = absurd (false≢true e)
contents_at (p ∷ ps) (suc j) i differ lt = by (contents_at ps j i differ.1 (omega (arith, lt))) (p.map == slice_index_or (map own_map ps) j 0) refl
  where
    by : contents_of ps (slice_index_or (map own_map ps) j 0) i ≡ run_contents (slice_index_or (map own_pieces ps) j []) i → (b : Bool) → (p.map == slice_index_or (map own_map ps) j 0) ≡ b →
        cond b (run_contents p.pieces i) (contents_of ps (slice_index_or (map own_map ps) j 0) i) ≡ run_contents (slice_index_or (map own_pieces ps) j []) i
    by rest true e = absurd (false≢true (sym differ.0 ∙ subst (λ m. holds ps m ≡ true) (sym (eqb-true p.map (slice_index_or (map own_map ps) j 0) e)) (map_holds ps j (omega (arith, lt)))))
    by rest false e = rest

-- ---- its pieces

own_in : (plexes : List PlexSeen) (j : ℕ) (x : Seen) → j < length plexes → IsIn (slice_index_or (map own_pieces plexes) j []) x → IsIn (pieces_of plexes) x
own_in [] j x lt h = absurd (omega (arith, lt))
own_in (p ∷ ps) zero x lt h = in_left p.pieces (pieces_of ps) x h
own_in (p ∷ ps) (suc j) x lt h = in_right p.pieces (pieces_of ps) x (own_in ps j x (omega (arith, lt)) h)

region_in : (regions : List (List PlexSeen)) (r : ℕ) (x : Seen) → r < length regions → IsIn (pieces_of (slice_index_or regions r [])) x → IsIn (all_pieces regions) x
region_in [] r x lt h = absurd (omega (arith, lt))
region_in (plexes ∷ regions) zero x lt h = in_left (pieces_of plexes) (all_pieces regions) x h
region_in (plexes ∷ regions) (suc r) x lt h = in_right (pieces_of plexes) (all_pieces regions) x (region_in regions r x (omega (arith, lt)) h)

each_in : {A : Type 0} (P : A → Type 0) (xs : List A) → ((x : A) → IsIn xs x → P x) → All P xs
each_in P [] each = All-nil P
each_in P (x ∷ xs) each = All-cons P x xs (each x (inl refl)) (each_in P xs (λ y there. each y (inr there)))

-- what all pieces hold, those of one plex of a region do
pub own_hold : (P : Seen → Type 0) (regions : List (List PlexSeen)) (r j : ℕ) → All P (all_pieces regions) → r < length regions → j < length (slice_index_or regions r []) → All P (slice_index_or (map own_pieces (slice_index_or regions r [])) j [])
own_hold P regions r j all lt lt' = each_in P (slice_index_or (map own_pieces (slice_index_or regions r [])) j []) (λ x h. All-contains P (all_pieces regions) x all (contains (all_pieces regions) x (region_in regions r x lt (own_in (slice_index_or regions r []) j x lt' h))))

-- ---- the plexes of the image

pub record IsImageOf (c : Config) (good : ℕ) (bytes : Sectors) (v : Vol) (p : PlexImage) : Type 0 where
  pub plex : Plex
  pub there : IsIn c.plexes plex
  pub of : is_data_plex_of v.name plex ≡ true
  pub is : p ≡ plex_image c good bytes plex

pub of_image : (c : Config) (good : ℕ) (bytes : Sectors) (v : Vol) (p : PlexImage) → Contains (image_of c good bytes v).plexes p → IsImageOf c good bytes v p
of_image c good bytes v p one =
    let r = from_map (plex_image c good bytes) (filter (is_data_plex_of v.name) c.plexes) p (is_in (map (plex_image c good bytes) (filter (is_data_plex_of v.name) c.plexes)) p one) in
    let w = from_filter (is_data_plex_of v.name) c.plexes r.0 (contains (filter (is_data_plex_of v.name) c.plexes) r.0 r.1) in
    record { plex = r.0; there = is_in c.plexes r.0 w.0; of = w.1; is = r.2 }

pub in_image : (c : Config) (good : ℕ) (bytes : Sectors) (v : Vol) (q : Plex) → IsIn c.plexes q → is_data_plex_of v.name q ≡ true → Contains (image_of c good bytes v).plexes (plex_image c good bytes q)
in_image c good bytes v q there of =
    let w = into_filter (is_data_plex_of v.name) c.plexes q (contains c.plexes q there) of in
    contains (map (plex_image c good bytes) (filter (is_data_plex_of v.name) c.plexes)) (plex_image c good bytes q) (in_map (plex_image c good bytes) (filter (is_data_plex_of v.name) c.plexes) q (is_in (filter (is_data_plex_of v.name) c.plexes) q w))

-- ---- places in lists

-- an element and its place
pub record IsPlaceOf {A : Type 0} (xs : List A) (x : A) (j : ℕ) : Type 0 where
  pub inside : j < length xs
  pub at : (d : A) → slice_index_or xs j d ≡ x

pub place_in : {A : Type 0} (xs : List A) (x : A) → IsIn xs x → (j : ℕ) × IsPlaceOf xs x j
place_in [] x h = absurd h
place_in (y ∷ xs) x (inl h) = (0, record { inside = omega arith; at = λ d. sym h })
place_in (y ∷ xs) x (inr h) = let r = place_in xs x h in let lt = r.1.inside in (suc r.0, record { inside = omega (arith, lt); at = r.1.at })

pub at_map : {A B : Type 0} (f : A → B) (xs : List A) (x : A) (j : ℕ) (d : B) → IsPlaceOf xs x j → slice_index_or (map f xs) j d ≡ f x
at_map f [] x j d is = let lt = is.inside in absurd (omega (arith, lt))
at_map f (y ∷ xs) x zero d is = ap f (is.at y)
at_map f (y ∷ xs) x (suc j) d is = let lt = is.inside in at_map f xs x j d (record { inside = omega (arith, lt); at = λ e. is.at e })
