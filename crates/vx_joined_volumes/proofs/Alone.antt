-- A running volume that has one data plex was opened with that plex alone, which was on then, and without a relation each of its
-- regions has that plex alone.
use Rattle.std.proofs.Common.{◌≡◌, inl, inr, ℕ, ◌<◌, Bool, true, false, cond, not, List, [], ◌∷◌, length, map, refl, sym, ◌∙◌, ap, subst, arith}
use Rattle.std.specs.Prelude.{◌&&◌, ◌==◌, slice_index_or}
use Rattle.std.specs.List.{AllZip, filter}
use Rattle.std.proofs.lemmas.Bool.{and_parts, eq-eqb, eqb-true, false≢true, or_left}
use Rattle.std.proofs.lemmas.List.{length-map}
use Rattle.vx_base.specs.Named.{Word}
use Rattle.vx_block.specs.Regions.{region_count}
use Rattle.vx_mask.specs.Mask.{has}
use Rattle.vx_mask.proofs.Tests.{or_cases}
use Rattle.vx_piece.specs.Seen.{Seen}
use Rattle.vx_pages.specs.declared.local_piece.LocalPiece.{Ghosts}
use Rattle.vx_config_parts.specs.declared.plex.Plex.{Plex}
use Rattle.vx_config_parts.specs.declared.vol.Vol.{Vol}
use Rattle.vx_config_parts.specs.Objects.{is_data_plex_of}
use Rattle.vx_objects.specs.declared.config.Config.{Config}
use Rattle.vx_image.specs.Bytes.{is_held, map_or_zero, relation_maps}
use Rattle.vx_image.specs.Image.{is_available_state}
use Rattle.vx_image.specs.UsedPlexes.{held_plexes, is_on, maps_of, off_plexes, on_plexes}
use Rattle.vx_cell.specs.Changes.{CellSeen}
use Rattle.vx_cell.specs.Plexes.{PlexSeen}
use Rattle.vx_volume.specs.Volume.{cell_at, volume_seen}
use Rattle.vx_lending.specs.RegionsTaken.{is_among, own_map}
use Rattle.vx_lending.specs.Left.{region_plexes}
use Rattle.vx_lending.specs.declared.public.Running.{Running}
use Rattle.vx_volume_laws.specs.Keeping.{data_plexes}
use Rattle.vx_volume_laws.proofs.Plexes.{plexes_at}
use Rattle.vx_group_volumes.specs.Places.{RunsInPlace}
use Rattle.vx_group_volumes.specs.Runs.{Opening}
use Rattle.vx_volume.specs.Logging.{IsAloneIn}
use Rattle.vx_joined_volumes.specs.Joined.{good_joined, plex_of_run}
use Rattle.vx_joined_volumes.specs.RelogLaws.{EachLonePlexIsAlone}
use Rattle.vx_joined_volumes.proofs.Plexes.{IsSameData, same_datas}
use Rattle.vx_joined_volumes.proofs.Zips.{filter_twice}

-- ---- lists of one

-- these are one element, which goes with the other
pub record IsLone {A B : Type 0} (R : A → B → Type 0) (xs : List A) (y : B) : Type 0 where
  pub item : A
  pub is : xs ≡ item ∷ []
  pub goes : R item y

lone_zip : {A B : Type 0} (R : A → B → Type 0) (xs : List A) (y : B) → AllZip R xs (y ∷ []) → IsLone R xs y
lone_zip R [] y h = absurd h
lone_zip R (x ∷ []) y h = record { item = x; is = refl; goes = h.0 }
lone_zip R (x ∷ z ∷ xs) y h = absurd h.1

-- plexes of a region whose maps are one map are one plex
lone_plex : (ps : List PlexSeen) (m : ℕ) → map own_map ps ≡ m ∷ [] → (pieces : List Seen) × (ps ≡ plex_of_run m pieces)
lone_plex [] m e = let n = ap length e in absurd (omega (arith, n))
lone_plex (p ∷ []) m e = (p.pieces, ap (λ n. plex_of_run n p.pieces) (ap (λ ms. slice_index_or ms 0 0) e))
lone_plex (p ∷ q ∷ ps) m e = let n = ap length e in absurd (omega (arith, n))

-- no other map is among one
pub only_map : (m k : ℕ) → is_among k (m ∷ []) ≡ true → k ≡ m
only_map m k among = elim (or_cases (m == k) false among) [
  | inl same ↦ sym (eqb-true m k same)
  | inr none ↦ absurd (false≢true none)
]

-- ---- a configuration in which a volume has one data plex

module _ (c : Config) (good : ℕ) (vol : Word) (p : Plex) (one : data_plexes c vol ≡ p ∷ []) where
  -- those that pass another test
  those : (t : Plex → Bool) → filter (λ q. is_data_plex_of vol q && t q) c.plexes ≡ filter t (p ∷ [])
  those t = sym (filter_twice (is_data_plex_of vol) t c.plexes) ∙ ap (λ ps. filter t ps) one

  pub held_lone : is_held c good p ≡ true → held_plexes c good vol ≡ p ∷ []
  held_lone held = those (is_held c good) ∙ ap (λ b. cond b (p ∷ []) []) held

  pub on_lone : is_on c good p ≡ true → on_plexes c good vol ≡ p ∷ []
  on_lone on = those (is_on c good) ∙ ap (λ b. cond b (p ∷ []) []) on

  pub off_lone : is_on c good p ≡ true → off_plexes c good vol ≡ []
  off_lone on = those (λ q. not (is_on c good q)) ∙ ap (λ b. cond (not b) (p ∷ []) []) on

  -- it is on, where some plex is
  on_if : (k : ℕ) → is_among k (maps_of (on_plexes c good vol)) ≡ true → is_on c good p ≡ true
  on_if k among = by (is_on c good p) (subst (λ ps. is_among k (maps_of ps) ≡ true) (those (is_on c good)) among)
    where
      by : (b : Bool) → is_among k (maps_of (cond b (p ∷ []) [])) ≡ true → b ≡ true
      by true some = refl
      by false some = absurd (false≢true some)

-- ---- a running volume that has one

module _ {P : Type 0} {ghosts : Ghosts P} (see : P → Seen) (running : Running P ghosts) (c : Config) (good : ℕ) (numbers : List ℕ) (v : Vol) (placed : RunsInPlace see c good numbers v running) (p : Plex) (one : data_plexes c v.name ≡ p ∷ []) where
  abbrev o : Opening
  o = placed.runs.opening

  abbrev joined : ℕ
  joined = good_joined placed.runs.opening good

  -- the plex as the volume was opened
  pub lone_data : IsLone (IsSameData o.config o.good c joined) (data_plexes o.config o.vol.name) p
  lone_data =
      lone_zip (IsSameData o.config o.good c joined) (data_plexes o.config o.vol.name) p
      (subst (λ qs. AllZip (IsSameData o.config o.good c joined) (data_plexes o.config o.vol.name) qs) one (same_datas see running c good numbers v placed))

  -- there is a region, ..
  some_region : 0 < length (volume_seen see running.volume).cells
  some_region =
      let some = placed.runs.lies.some in
      let lies = placed.runs.lies.lies in
      let count : length (volume_seen see running.volume).cells ≡ region_count running.form.shape.geometry.length running.form.shape.geometry.region =
      placed.runs.whole.count ∙ ap (λ n. region_count n (volume_seen see running.volume).region) lies.length_is ∙ ap (λ n. region_count running.form.shape.geometry.length n) lies.region_is in
      omega (arith, some, count)

  -- .. in which a plex is on
  pub was_on : is_on o.config o.good lone_data.item ≡ true
  was_on =
      let first = placed.runs.whole.each 0 some_region in
      let on = first.whole.formed.readable in
      let masks = placed.runs.lies.lies.masks 0 some_region in
      on_if o.config o.good o.vol.name lone_data.item lone_data.is on.0 (sym (placed.runs.form.shape_is.on.each on.0) ∙ ap (λ n. has n on.0) (sym masks.on) ∙ on.1)

  pub was_held : is_held o.config o.good lone_data.item ≡ true
  was_held = (and_parts (is_held o.config o.good lone_data.item) (is_available_state lone_data.item.state) was_on).0

  pub was_available : is_available_state lone_data.item.state ≡ true
  was_available = (and_parts (is_held o.config o.good lone_data.item) (is_available_state lone_data.item.state) was_on).1

  -- ---- its form

  pub lone_maps : running.form.maps.items ≡ map_or_zero p.map ∷ []
  lone_maps = placed.runs.form.maps ∙ ap maps_of (held_lone o.config o.good o.vol.name lone_data.item lone_data.is was_held) ∙ ap (λ m. m ∷ []) (sym lone_data.goes.map)

  on_is : (k : ℕ) → has running.form.shape.on k ≡ is_among k (map_or_zero p.map ∷ [])
  on_is k =
      placed.runs.form.shape_is.on.each k ∙ ap (λ ps. is_among k (maps_of ps)) (on_lone o.config o.good o.vol.name lone_data.item lone_data.is was_on)
      ∙ ap (λ m. is_among k (m ∷ [])) (sym lone_data.goes.map)

  off_is : (k : ℕ) → has running.form.shape.off k ≡ false
  off_is k = placed.runs.form.shape_is.off.each k ∙ ap (λ ps. is_among k (maps_of ps)) (off_lone o.config o.good o.vol.name lone_data.item lone_data.is was_on)

  snaps_is : relation_maps c.snaps v.name ≡ [] → (k : ℕ) → has running.form.shape.snaps k ≡ false
  snaps_is none k = placed.runs.form.shape_is.snaps.each k ∙ ap (λ ms. is_among k ms) (sym placed.runs.keeps.relations ∙ none)

  -- ---- its regions

  pub alone_in : relation_maps c.snaps v.name ≡ [] → (r : ℕ) → r < length (volume_seen see running.volume).cells → IsAloneIn (map_or_zero p.map) (cell_at (volume_seen see running.volume) r)
  alone_in none r lt =
      let cells = (volume_seen see running.volume).cells in
      let long = length-map cells (λ (cell : CellSeen). cell.plexes) in
      let taken = placed.runs.lies.lies.regions r (omega (arith, lt, long)) in
      let masks = placed.runs.lies.lies.masks r lt in
      let plex = lone_plex (slice_index_or (region_plexes (volume_seen see running.volume).cells) r []) (map_or_zero p.map) (taken.maps_are ∙ lone_maps) in
      record {
        pieces = plex.0;
        plexes = sym (plexes_at (volume_seen see running.volume).cells r) ∙ plex.1;
        on = ap (λ n. has n (map_or_zero p.map)) masks.on ∙ on_is (map_or_zero p.map) ∙ or_left _ _ (eq-eqb (map_or_zero p.map) (map_or_zero p.map) refl);
        others = λ k there. only_map (map_or_zero p.map) k (sym (on_is k) ∙ ap (λ n. has n k) (sym masks.on) ∙ there);
        off = λ k. ap (λ n. has n k) masks.off ∙ off_is k;
        snaps = λ k. ap (λ n. has n k) masks.snaps ∙ snaps_is none k;
      }

pub each_plex_alone : {P : Type 0} {ghosts : Ghosts P} (see : P → Seen) (running : Running P ghosts) → EachLonePlexIsAlone see running
each_plex_alone see running c good numbers v placed c' v' p p' changes region = alone_in see running c good numbers v placed p changes.was changes.alone
