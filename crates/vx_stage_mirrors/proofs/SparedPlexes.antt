-- A plex that a volume at rest needs, or can spare, in the world: what the others of its plexes may miss.
use Rattle.std.proofs.Common.{◌≡◌, ◌≢◌, ◌∙◌, ℕ, ◌<◌, Bool, true, false, cond, ◌^◌, List, [], length, map, refl, sym, ap, subst, inl, arith}
use Rattle.std.specs.Prelude.{◌==◌, Contains}
use Rattle.std.specs.List.{filter}
use Rattle.std.proofs.lemmas.Bool.{and_from, and_parts, false≢true, false_from_ne_true}
use Rattle.vx_base.specs.Named.{Word}
use Rattle.vx_block.specs.Regions.{region_count}
use Rattle.vx_mask.specs.Mask.{has, lowest, only, without}
use Rattle.vx_mask.proofs.MaskLemmas.{empty_from_test, has-only_same, has-zero, lowest_there, same_as_only, some_from_test, without-lt}
use Rattle.vx_mask.proofs.Sets.{out_without, without_parts}
use Rattle.vx_mask.proofs.Tests.{not_both}
use Rattle.vx_core.specs.declared.stage.Stage.{Stage}
use Rattle.vx_core.specs.Table.{current}
use Rattle.vx_piece.specs.Seen.{Seen}
use Rattle.vx_pages.specs.declared.local_piece.LocalPiece.{Ghosts}
use Rattle.vx_cell.specs.Changes.{has_other}
use Rattle.vx_copies.specs.Disks.{DiskSeen}
use Rattle.vx_config_parts.specs.declared.plex.Plex.{Plex}
use Rattle.vx_config_parts.specs.Objects.{is_data_plex_of}
use Rattle.vx_image.specs.Bytes.{Sectors, is_held, map_or_zero, plex_image}
use Rattle.vx_image.specs.Image.{PlexImage, is_available_state}
use Rattle.vx_image.proofs.Members.{contains, is_in}
use Rattle.vx_image.proofs.PlexMembers.{IsIn, in_map}
use Rattle.vx_moments.specs.Holding.{is_among}
use Rattle.vx_moments.specs.Owners.{owners_of}
use Rattle.vx_moments.specs.Tracks.{TrackOwner}
use Rattle.vx_moments.specs.World.{Group, OnPlexes, Volume}
use Rattle.vx_lending.proofs.Bits.{IsPlexAt, kept, on_plex}
use Rattle.vx_lending.proofs.Maps.{one_of_map}
use Rattle.vx_lending.proofs.Rules.{one_plex, plex_low}
use Rattle.vx_lending.specs.declared.public.Running.{Running}
use Rattle.vx_volume.specs.Switching.{CanSpare, Needs}
use Rattle.vx_volume.specs.Volume.{VolumeSeen, cell_at, volume_seen}
use Rattle.vx_volume_laws.specs.RunLaws.{OwnersFit}
use Rattle.vx_volume_laws.specs.Running.{RunsAsVolume}
use Rattle.vx_group_volumes.specs.Opened.{opened_plexes}
use Rattle.vx_group_volumes.proofs.HeldDevices.{plexes_fit}
use Rattle.vx_group_volumes.proofs.Plexes.{among_held, owner_is}
use Rattle.vx_joined_volumes.specs.Joined.{good_joined, opening_joined}
use Rattle.vx_joined_volumes.proofs.Now.{form_now, names_now}
use Rattle.vx_house.specs.Runs.{IsRunOf}
use Rattle.vx_stages.specs.Detached.{CanBeSpared, IsBesides, IsNeeded}

-- ---- masks

no_test : (n : ℕ) → cond (n == 0) false true ≡ false → n ≡ 0
no_test n is = by (n == 0) refl is
  where
    by : (b : Bool) → (n == 0) ≡ b → cond b false true ≡ false → n ≡ 0
    by true e h = empty_from_test n e
    by false e h = absurd (false≢true (sym h))

some_test : (n : ℕ) → cond (n == 0) false true ≡ true → n ≢ 0
some_test n is = by (n == 0) refl is
  where
    by : (b : Bool) → (n == 0) ≡ b → cond b false true ≡ true → n ≢ 0
    by true e h = absurd (false≢true h)
    by false e h = some_from_test n e

-- another plex that is on and unmarked
record IsCurrent (s : Stage) (map : ℕ) : Type 0 where
  k : ℕ
  on : has s.on k ≡ true
  unmarked : has s.bits k ≡ false
  other : k ≢ map

other_of : (s : Stage) (map : ℕ) → s.on < 2 ^ 64 → map < 64 → has_other s map ≡ true → IsCurrent s map
other_of s map fits low is =
    let n = without (current s) (only map) in
    let there = lowest_there n (some_test n is) (without-lt (current s) (only map) (without-lt s.on s.bits fits)) in
    let parts = without_parts (current s) (only map) (lowest n) there.0 in
    let now = without_parts s.on s.bits (lowest n) parts.0 in
    record { k = lowest n; on = now.0; unmarked = now.1; other = λ e. not_both (ap (λ k. has (only map) k) e ∙ has-only_same map low) parts.1 }

-- where there is none, each other plex that is on is marked
none_other : (s : Stage) (map k : ℕ) → has_other s map ≡ false → has s.on k ≡ true → k ≢ map → has s.bits k ≡ true
none_other s map k is on other =
    let n = without (current s) (only map) in
    let none : has n k ≡ false = ap (λ m. has m k) (no_test n is) ∙ has-zero k in
    out_without s.on s.bits k (false_from_ne_true (has (current s) k) (λ here. other (same_as_only map k (out_without (current s) (only map) k none here)))) on

in_kept : {X : Type 0} (test : X → Bool) (xs : List X) (x : X) → Contains xs x → test x ≡ true → Contains (filter test xs) x
in_kept test xs x there is = contains (filter test xs) x (kept test xs x (is_in xs x there) is)

same_list : (xs ys : List Word) → OnPlexes xs ≡ OnPlexes ys → xs ≡ ys
same_list xs ys e = cc

-- ---- a running volume of the world

module _ {P : Type 0} {ghosts : Ghosts P} (hs : List DiskSeen) (g : Group) (name : Word) (r : Running P ghosts) (w : Volume) (run : IsRunOf ghosts.seen hs g name r w) (sound : w.sound ≡ true)
    (p : Plex) (there : Contains g.config.plexes p) (data_is : is_data_plex_of name p ≡ true) (plexes : List Word) (lies : w.lies ≡ OnPlexes plexes) where
  abbrev see : P → Seen
  see = ghosts.seen

  abbrev v : VolumeSeen
  v = volume_seen see r.volume

  abbrev runs : RunsAsVolume run.plexes v w
  runs = run.runs_as sound

  abbrev names : List Word
  names = opened_plexes run.placed.runs.opening

  abbrev map_of : ℕ
  map_of = map_or_zero p.map

  same_names : names ≡ plexes
  same_names = same_list names plexes (sym run.lies ∙ lies)

  -- it has so many regions
  regions : region_count w.length w.region ≡ length v.cells
  regions = ap (λ n. region_count n w.region) runs.length_is ∙ ap (λ n. region_count v.length n) runs.region_is ∙ sym run.placed.runs.whole.count

  own_of : (q : Plex) → is_data_plex_of name q ≡ true → is_data_plex_of run.of.name q ≡ true
  own_of q is = ap (λ n. is_data_plex_of n q) run.named ∙ is

  p_in : IsIn g.config.plexes p
  p_in = is_in g.config.plexes p there

  low : map_of < 64
  low = let few = plex_low g.config run.of run.placed.runs.recorded p p_in (own_of p data_is) in omega (arith, few)

  image_of_plex : (q : Plex) → Contains g.config.plexes q → is_data_plex_of name q ≡ true → (x : PlexImage) × Contains run.plexes x × (x.name ≡ q.name) × (x.map ≡ map_or_zero q.map)
  image_of_plex q here is_data =
      let bytes : Sectors = λ slot k. [] in
      let image : PlexImage = plex_image g.config g.good bytes q in
      let own = own_of q is_data in
      let among = in_map (plex_image g.config g.good bytes) (filter (is_data_plex_of run.of.name) g.config.plexes) q
      (is_in (filter (is_data_plex_of run.of.name) g.config.plexes) q (in_kept (is_data_plex_of run.of.name) g.config.plexes q here own)) in
      run.plexes_of bytes image (contains (map (plex_image g.config g.good bytes) (filter (is_data_plex_of run.of.name) g.config.plexes)) image among)

  -- ---- it is needed

  fits : OwnersFit run.plexes v (owners_of g name names)
  fits = subst (λ n. OwnersFit run.plexes v (owners_of g n names)) run.named (plexes_fit r g run.numbers run.of run.placed run.plexes run.plexes_then)

  missed : (region : ℕ) → region < length v.cells → has_other (cell_at v region).stage map_of ≡ false → (q : Plex) → IsBesides g name plexes p q → (w.tracks q.name).possible region ≡ true
  missed region within none q besides =
      let x = image_of_plex q besides.there besides.data_is in
      let fit = fits x.0 x.1 region within in
      let on = sym fit.available ∙ ap (λ (n : Word). (owners_of g name names n).available) x.2 ∙ ap (λ (ns : List Word). (owners_of g name ns q.name).available) same_names ∙ besides.written in
      let other : x.0.map ≢ map_of = λ e.
      besides.other (ap (λ (y : Plex). y.name) (one_of_map g.config run.of run.placed.runs.recorded q p (is_in g.config.plexes q besides.there) p_in (own_of q besides.data_is) (own_of p data_is) (sym x.3 ∙ e))) in
      let marked = none_other (cell_at v region).stage map_of x.0.map none on other in
      ap (λ (t : Word). (w.tracks t).possible region) (sym x.2) ∙ ((runs.each region within).tracks x.0 x.1).possible (inl marked)

  pub is_needed : Needs map_of v → IsNeeded g name plexes p w
  is_needed (region, within, none) = record { region = region; inside = subst (λ n. region < n) (sym regions) within; missed = missed region within none }

  -- ---- it can be spared

  abbrev joined : ℕ
  joined = good_joined run.placed.runs.opening g.good

  module _ (region : ℕ) (within : region < length v.cells) (k : ℕ) (unmarked : has (cell_at v region).stage.bits k ≡ false) (other : k ≢ map_of) (q : IsPlexAt g.config joined run.of k true) where
    its_data : is_data_plex_of name q.plex ≡ true
    its_data = ap (λ n. is_data_plex_of n q.plex) (sym run.named) ∙ q.own

    held_on : (is_held g.config joined q.plex ≡ true) × (is_available_state q.plex.state ≡ true)
    held_on = and_parts (is_held g.config joined q.plex) (is_available_state q.plex.state) q.on

    among : is_among q.plex.name plexes ≡ true
    among =
        subst (λ (ns : List Word). is_among q.plex.name ns ≡ true) (names_now see r g.config g.good run.numbers run.of run.placed ∙ same_names)
        (among_held (opening_joined run.placed.runs.opening g.config g.good run.of) q.plex q.there q.own held_on.0)

    beside : IsBesides g name plexes p q.plex
    beside = record {
      there = contains g.config.plexes q.plex q.there;
      data_is = its_data;
      other = λ e. other (sym q.map_is ∙ ap (λ (y : Plex). map_or_zero y.map) (one_plex g.config q.plex p q.there p_in e));
      written = ap (λ (o : TrackOwner). o.available) (owner_is g name plexes q.plex q.there its_data) ∙ and_from _ _ held_on.1 among;
    }

    not_sure : (w.tracks q.plex.name).sure region ≡ false
    not_sure =
        let x = image_of_plex q.plex (contains g.config.plexes q.plex q.there) its_data in
        false_from_ne_true _ (λ sure.
        let surely : (w.tracks x.0.name).sure region ≡ true = ap (λ (t : Word). (w.tracks t).sure region) x.2 ∙ sure in
        let marked = ((runs.each region within).tracks x.0 x.1).sure (run.sure sound x.0 x.1 region within surely) surely in
        not_both (ap (λ n. has (cell_at v region).stage.bits n) (sym (x.3 ∙ q.map_is)) ∙ marked) unmarked)

  pub is_spared : CanSpare map_of v → CanBeSpared g name plexes p w
  is_spared spare region inside =
      let within = subst (λ n. region < n) regions inside in
      let s = (cell_at v region).stage in
      let masks = run.placed.runs.lies.lies.masks region within in
      let form = form_now see r g.config g.good run.numbers run.of run.placed in
      let few : s.on < 2 ^ 64 = subst (λ n. n < 2 ^ 64) (sym masks.on) form.shape_is.on.fits in
      let c = other_of s map_of few low (spare region within) in
      let q = on_plex g.config joined run.of run.placed.runs.recorded r.form.shape form.shape_is c.k (ap (λ n. has n c.k) (sym masks.on) ∙ c.on) in
      (q.plex, beside region within c.k c.unmarked c.other q, not_sure region within c.k c.unmarked c.other q)
