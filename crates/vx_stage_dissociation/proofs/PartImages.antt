-- The image of a volume without one of its plexes, as the next configuration records it: it is left by the regions of a volume of which each has
-- another plex that is current.
use Rattle.std.proofs.Common.{◌≡◌, ◌≢◌, ◌∙◌, ℕ, ◌/◌, ◌^◌, ◌<◌, Bool, true, false, cond, List, [], ◌∷◌, length, map, Option, Some, None, refl, sym, ap, subst, inl, inr, arith}
use Rattle.std.specs.Prelude.{◌&&◌, Contains, nat_lt, not}
use Rattle.std.specs.List.{All, filter}
use Rattle.std.specs.Str.{bytes_eq}
use Rattle.std.proofs.lemmas.Bool.{and_parts, false_from_ne_true, false≢true, lt-ltb, ltb-true}
use Rattle.vx_base.specs.Blocks.{Contents}
use Rattle.vx_base.specs.Named.{Word}
use Rattle.vx_base.proofs.NamedLemmas.{bytes_eq_same}
use Rattle.vx_layout.specs.Columns.{place_of}
use Rattle.vx_mapfmt.specs.Bits.{is_headed, marks}
use Rattle.vx_block.specs.Regions.{region_count}
use Rattle.vx_mask.specs.Mask.{has, only}
use Rattle.vx_mask.proofs.MaskLemmas.{has-only_same}
use Rattle.vx_mask.proofs.Tests.{not_both}
use Rattle.vx_piece.specs.Seen.{Seen}
use Rattle.vx_carve.specs.Together.{Holds}
use Rattle.vx_core.specs.declared.stage.Phase.{Phase}
use Rattle.vx_core.specs.declared.stage.Phase.TheVariants.{Settled}
use Rattle.vx_core.specs.Region.{RegionState}
use Rattle.vx_core.specs.Soundness.{IsBetween, IsStray, freeing}
use Rattle.vx_cell.specs.Region.{marks_or}
use Rattle.vx_config_parts.specs.declared.plex.Plex.{Plex}
use Rattle.vx_config_parts.specs.declared.snap.Snap.{Snap}
use Rattle.vx_config_parts.specs.declared.vol.Vol.{Vol}
use Rattle.vx_config_parts.specs.Objects.{is_data, is_data_plex_of, is_log, is_log_plex_of, refers}
use Rattle.vx_objects.specs.declared.config.Config.{Config}
use Rattle.vx_moments.specs.World.{Volume}
use Rattle.vx_moments.proofs.Blocks.{below_count}
use Rattle.vx_image.specs.Bytes.{Sectors, bytes_at, image_of, is_active, is_held, is_log_copy, log_copies, map_or_zero, plex_contents, plex_image, plex_marks, relation_maps}
use Rattle.vx_image.specs.Image.{Image, PlexImage, regions_of}
use Rattle.vx_image.specs.UsedPlexes.{IsVolOf}
use Rattle.vx_image.proofs.PlexMembers.{IsIn}
use Rattle.vx_group_edits.proofs.Lists.{filter_narrow}
use Rattle.vx_lending.specs.Form.{IsFormOf}
use Rattle.vx_lending.specs.declared.form.VolumeForm.{VolumeForm}
use Rattle.vx_lending.proofs.Distinct.{filtered}
use Rattle.vx_lending.proofs.Rules.{one_plex}
use Rattle.vx_volume.specs.Volume.{IsVolume, VolumeSeen, cell_at}
use Rattle.vx_volume.proofs.Switchings.{other_of}
use Rattle.vx_volume_laws.specs.Contents.{AreSectorsOf}
use Rattle.vx_volume_laws.specs.Keeping.{KeepsVolume}
use Rattle.vx_volume_laws.specs.Leaving.{IsLeftBy, told_by}
use Rattle.vx_volume_laws.specs.Lying.{LiesAs, pieces_in}
use Rattle.vx_volume_laws.specs.Regions.{IsMarkedEverywhere, IsPlexOfRegions, LeaveImage, Regions}
use Rattle.vx_volume_laws.specs.Running.{RunsAsVolume, state_at, states_of}
use Rattle.vx_volume_laws.proofs.Held.{in_image, of_image}
use Rattle.vx_volume_laws.proofs.Plexes.{block_now, has_been, held_now, off_now, on_now}
use Rattle.vx_joined_volumes.specs.Parted.{TakesOut}
use Rattle.vx_joined_volumes.proofs.PartEdits.{came_from, columns_stay, has_lost, held_as, is_other, log_other, other_name, p_there}
use Rattle.vx_joined_volumes.proofs.PartLists.{filter_alike}
use Rattle.vx_joined_volumes.proofs.Zips.{filter_twice}
use Rattle.vx_stage_dissociation.proofs.PartWhole.{IsReadyToLeave}

-- ---- an image with fewer plexes

-- each plex of the later image is one of the first, and else they are the same
pub record IsFewerImage (v v' : Image) : Type 0 where
  pub same : v' ≡ record v { plexes = v'.plexes }
  pub comes : (x : PlexImage) → Contains v'.plexes x → Contains v.plexes x

-- in each region a plex is left that may be read
abbrev pub IsCurrentIn : Regions → Image → Image → Type 0
IsCurrentIn regions v v' =
    (r : ℕ) (B : ℕ → Bool) → IsBetween (regions r).stage (regions r).stage.phase (regions r).around B →
    (x : PlexImage) × Contains v'.plexes x × (B x.map ≡ false) × IsPlexOfRegions v.length v.region regions x

module _ (n : ℕ) (regions : Regions) (v v' : Image) (fewer : IsFewerImage v v') where
  fewer_plex : (x : PlexImage) → IsPlexOfRegions v.length v.region regions x → IsPlexOfRegions v'.length v'.region regions x
  fewer_plex x is = subst (λ (i : Image). IsPlexOfRegions i.length i.region regions x) (sym fewer.same) is

  fewer_marked : (x : PlexImage) → IsMarkedEverywhere (told_by n v) x → IsMarkedEverywhere (told_by n v') x
  fewer_marked x marked c one r low =
      marked c (subst (λ (i : Image). Contains (told_by n i).copies c) fewer.same one) r (subst (λ (i : Image). r < regions_of i) fewer.same low)

  pub fewer_leave : IsCurrentIn regions v v' → LeaveImage regions (told_by n v) → LeaveImage regions (told_by n v')
  fewer_leave current leave = record {
    sized = subst (λ (i : Image). 0 < i.region) (sym fewer.same) leave.sized;
    plexes = λ x one. elim (leave.plexes x (fewer.comes x one)) [ inl is ↦ inl (fewer_plex x is) | inr marked ↦ inr (fewer_marked x marked) ];
    copies = λ c one. leave.copies c (subst (λ (i : Image). Contains (told_by n i).copies c) fewer.same one);
    current = λ r B set. let x = current r B set in (x.0, x.1, x.2, fewer_plex x.0 x.3);
    snaps = λ m one. leave.snaps m (subst (λ (i : Image). Contains i.snaps m) fewer.same one);
  }

-- ---- the images of the records

pub alike : {A B : Type 0} (f g : A → B) (xs : List A) → ((x : A) → IsIn xs x → f x ≡ g x) → map f xs ≡ map g xs
alike f g [] same = refl
alike f g (x ∷ xs) same = let first = same x (inl refl) in let rest = alike f g xs (λ y there. same y (inr there)) in λ i. first i ∷ rest i

un_not : (b : Bool) → not b ≡ false → b ≡ true
un_not true e = refl
un_not false e = absurd (false≢true (sym e))

-- of a plex of another name a test says what it said, and of one of the name it says nothing
pub test_by : (other own now was : Bool) → (now ≡ true → other ≡ true → own ≡ true) → (other ≡ true → now ≡ was) → (other ≡ false → was ≡ false) → ((other && own) && now) ≡ was
test_by false own now was narrow same none = sym (none refl)
test_by true true now was narrow same none = same refl
test_by true false true was narrow same none = absurd (false≢true (narrow refl refl))
test_by true false false was narrow same none = same refl

module _ (c : Config) (v : Vol) (p : Plex) (remove : Bool) (c' : Config) (takes : TakesOut c v p remove c') (good : ℕ) (bytes : Sectors) where
  contents_same : (q : Plex) → q.name ≢ p.name → plex_contents c' bytes q ≡ plex_contents c bytes q
  contents_same q other = let columns = columns_stay c c' v p.name (has_lost c c' v p remove takes) q other in λ i b. bytes_at bytes (place_of q.unit (columns i) b)

  pub image_same : (q : Plex) → q.name ≢ p.name → plex_image c' good bytes q ≡ plex_image c good bytes q
  image_same q other =
      let held = held_as c c' v p.name (has_lost c c' v p remove takes) good q other in
      let values = contents_same q other in
      λ i. record { name = q.name; map = map_or_zero q.map; state = q.state; held = held i; values = values i }

  -- ---- its log

  copy_same : (q : Plex) → q.name ≢ p.name → is_log_copy c' good bytes v q ≡ is_log_copy c good bytes v q
  copy_same q other =
      let held = held_as c c' v p.name (has_lost c c' v p remove takes) good q other in
      let values = contents_same q other in
      λ i. is_log_plex_of v.name q && (is_active q.state && (held i && is_headed v.len v.region (values i)))

  copy_own : (d : Config) (q : Plex) → is_log_copy d good bytes v q ≡ true → is_log_plex_of v.name q ≡ true
  copy_own d q is = (and_parts (is_log_plex_of v.name q) (is_active q.state && (is_held d good q && is_headed v.len v.region (plex_contents d bytes q))) is).0

  own_log : (q : Plex) → is_log_plex_of v.name q ≡ true → refers q.vol v.name ≡ true
  own_log q log = (and_parts (refers q.vol v.name) (is_log q.kind) log).0

  -- the plex itself is no copy
  no_copy : (q : Plex) → IsIn c.plexes q → is_other p.name q ≡ false → is_log_copy c good bytes v q ≡ false
  no_copy q there same = false_from_ne_true (is_log_copy c good bytes v q) (λ is. log_other c c' v p remove takes q there (copy_own c q is) (bytes_eq_same q.name p.name (un_not (bytes_eq q.name p.name) same)))

  copies_here : filter (is_log_copy c' good bytes v) c'.plexes ≡ filter (is_log_copy c good bytes v) c.plexes
  copies_here =
      filter_narrow (is_log_copy c' good bytes v) (λ q. refers q.vol v.name) (λ q is. own_log q (copy_own c' q is)) c'.plexes
      ∙ ap (λ ps. filter (is_log_copy c' good bytes v) ps) (has_lost c c' v p remove takes).own
      ∙ filter_twice (λ q. is_other p.name q && refers q.vol v.name) (is_log_copy c' good bytes v) c.plexes
      ∙ filter_alike (λ q. (is_other p.name q && refers q.vol v.name) && is_log_copy c' good bytes v q) (is_log_copy c good bytes v) c.plexes
      (λ q there.
      test_by (is_other p.name q) (refers q.vol v.name) (is_log_copy c' good bytes v q) (is_log_copy c good bytes v q) (λ is other. own_log q (copy_own c' q is)) (λ other. copy_same q (other_name p.name q other)) (no_copy q there))

  marks_same : (q : Plex) → q.name ≢ p.name → plex_marks c' bytes v q ≡ plex_marks c bytes v q
  marks_same q other = let values = contents_same q other in λ i r k. marks (region_count v.len v.region) (values i) k r

  copies_same : (dco : Option Word) → log_copies dco c' good bytes v ≡ log_copies dco c good bytes v
  copies_same None = refl
  copies_same (Some dco) =
      ap (λ ps. map (plex_marks c' bytes v) ps) copies_here
      ∙ alike (plex_marks c' bytes v) (plex_marks c bytes v) (filter (is_log_copy c good bytes v) c.plexes)
      (λ q one. let w = filtered (is_log_copy c good bytes v) c.plexes q one in marks_same q (log_other c c' v p remove takes q w.0 (copy_own c q w.1)))

  -- ---- the image

  pub image_fewer : IsFewerImage (image_of c good bytes v) (image_of c' good bytes v)
  image_fewer = record {
    same =
        let snaps = ap (λ (ss : List Snap). relation_maps ss v.name) (has_lost c c' v p remove takes).snaps in
        let copies = copies_same v.dco in
        λ i. record (image_of c' good bytes v) { snaps = snaps i; copies = copies i };
    comes = λ x one.
        let x_is = of_image c' good bytes v x one in
        let q = came_from c c' v p.name (has_lost c c' v p remove takes) x_is.plex x_is.there (and_parts (refers x_is.plex.vol v.name) (is_data x_is.plex.kind) x_is.of).0 in
        subst (λ (y : PlexImage). Contains (image_of c good bytes v).plexes y) (sym (x_is.is ∙ image_same x_is.plex (other_name p.name x_is.plex q.1))) (in_image c good bytes v x_is.plex q.0 x_is.of);
  }

  -- another plex is one of its plexes then
  pub image_then : (q : Plex) → IsIn c.plexes q → is_data_plex_of v.name q ≡ true → q.name ≢ p.name → Contains (image_of c' good bytes v).plexes (plex_image c good bytes q)
  image_then q there own other =
      subst (λ (y : PlexImage). Contains (image_of c' good bytes v).plexes y) (image_same q other) (in_image c' good bytes v q ((has_lost c c' v p remove takes).others q there other) own)

  -- one of another map has another name
  pub apart : (q : Plex) → IsIn c.plexes q → map_or_zero q.map ≢ map_or_zero p.map → q.name ≢ p.name
  apart q there other same = other (ap (λ (x : Plex). map_or_zero x.map) (one_plex c q p there (p_there c c' v p remove takes) same))

-- ---- what the regions leave

settled_free : (phase : Phase) (k : ℕ) → phase ≡ Settled → freeing phase k ≡ true → ⊥
settled_free phase k is free = false≢true (subst (λ (f : Phase). freeing f k ≡ true) is free)

module _ (c0 : Config) (good0 : ℕ) (v0 : Vol) (fresh : Bool) (form : VolumeForm) (of : IsVolOf c0 v0) (is : IsFormOf c0 good0 v0 fresh form) (numbers : List ℕ) (volume : VolumeSeen) (copies : List (List Seen)) (whole : IsVolume volume) (lies : LiesAs numbers form volume copies)
    (contents : ℕ → Contents) (hold : All (Holds contents) (pieces_in volume copies)) (c : Config) (good : ℕ) (v : Vol) (keeps : KeepsVolume c0 good0 v0 fresh c good v) (bytes : Sectors) (sectors : AreSectorsOf good numbers contents bytes)
    (plexes : List PlexImage) (w : Volume) (run : RunsAsVolume plexes volume w) where
  abbrev n : ℕ
  n = length volume.cells

  abbrev regions : Regions
  regions = states_of volume run.fixed w.life.entries

  abbrev at : Regions
  at = state_at volume run.fixed w.life.entries

  abbrev image : Image
  image = image_of c good bytes v

  length_is : image.length ≡ volume.length
  length_is = keeps.length_is ∙ sym is.shape_is.length_is ∙ sym lies.length_is

  region_is : image.region ≡ volume.region
  region_is = keeps.region_is ∙ sym is.shape_is.region_is ∙ sym lies.region_is

  first_below : 0 < n
  first_below = let h = below_count 0 volume.length volume.region run.sized run.some in let count = whole.count in omega (arith, h, count)

  -- the region of a number: behind the last one the first again
  abbrev turned : ℕ → ℕ
  turned r = cond (nat_lt r n) r 0

  turned_below : (r : ℕ) → turned r < n
  turned_below r = by (nat_lt r n) refl
    where
      by : (b : Bool) → nat_lt r n ≡ b → cond b r 0 < n
      by true e = ltb-true r n e
      by false e = first_below

  turned_state : (r : ℕ) → regions r ≡ at (turned r)
  turned_state r = by (nat_lt r n)
    where
      by : (b : Bool) → cond b (at r) (at 0) ≡ at (cond b r 0)
      by true = refl
      by false = refl

  turned_same : (r : ℕ) → r < n → turned r ≡ r
  turned_same r lt = ap (λ (b : Bool). cond b r 0) (lt-ltb r n lt)

  -- what holds of each region of the volume holds of all
  of_all : (Q : RegionState → Type 0) → ((r : ℕ) → r < n → Q (at r)) → (r : ℕ) → Q (regions r)
  of_all Q each r = subst Q (sym (turned_state r)) (each (turned r) (turned_below r))

  -- a data plex has what the regions do
  plex_of : (q : Plex) → IsIn c.plexes q → is_data_plex_of v.name q ≡ true → IsPlexOfRegions image.length image.region regions (plex_image c good bytes q)
  plex_of q there own =
      let been = has_been c0 good0 v0 fresh form of is numbers volume copies whole lies c good v keeps q there own in
      record {
        values = λ held b lt.
            let low : b < volume.length = subst (λ m. b < m) length_is lt in
            let here : b / image.region ≡ b / volume.region = ap (λ m. b / m) region_is in
            let below : b / volume.region < n = let h = below_count b volume.length volume.region run.sized low in let count = whole.count in omega (arith, h, count) in
            block_now c0 good0 v0 fresh form of is numbers volume copies whole lies c good v keeps (b / volume.region) below contents hold bytes sectors q been held b run.sized low refl
            ∙ sym (ap (λ (s : RegionState). s.around.disks.blocks (plex_image c good bytes q).map b) (ap regions here ∙ turned_state (b / volume.region) ∙ ap at (turned_same (b / volume.region) below)));
        held = λ r held. of_all (λ (s : RegionState). s.around.fixed.held (plex_image c good bytes q).map ≡ true)
            (λ i lt. run.held i (plex_image c good bytes q).map lt ∙ held_now c0 good0 v0 fresh form of is numbers volume copies whole lies c good v keeps i lt q been held) r;
        stale = λ r held stale. inl (of_all (λ (s : RegionState). has s.stage.off (plex_image c good bytes q).map ≡ true)
            (λ i lt. ap (λ m. has m (plex_image c good bytes q).map) (lies.masks i lt).off ∙ off_now c0 good0 v0 fresh form of is numbers volume copies whole lies c good v keeps q been stale) r);
      }

  module _ (p : Plex) (remove : Bool) (c' : Config) (takes : TakesOut c v p remove c') (low : map_or_zero p.map < 64) (ready : IsReadyToLeave (map_or_zero p.map) volume) where
    abbrev m : ℕ
    m = map_or_zero p.map

    -- what is not marked of a region at rest no choice of its marks has
    unmarked : (r : ℕ) → r < n → (B : ℕ → Bool) → IsBetween (at r).stage (at r).stage.phase (at r).around B → (k : ℕ) → has (cell_at volume r).stage.bits k ≡ false → B k ≡ false
    unmarked r lt B between k clear = false_from_ne_true (B k) (λ set. elim (between.most k set) [
      | inl marked ↦ not_both marked clear
      | inr stray ↦ none stray
    ])
      where
        none : IsStray (at r).stage.phase (at r).around k → ⊥
        none (inl loose) = not_both (ap (λ i. (marks_or volume.log.told i).loose k) (sym (whole.each r lt).index) ∙ loose) (ready.tight r k lt)
        none (inr free) = settled_free (cell_at volume r).stage.phase k (ready.settled r lt) free

    current_at : (r : ℕ) → r < n → (B : ℕ → Bool) → IsBetween (at r).stage (at r).stage.phase (at r).around B →
        (x : PlexImage) × Contains (image_of c' good bytes v).plexes x × (B x.map ≡ false) × IsPlexOfRegions image.length image.region regions x
    current_at r lt B between =
        let s = (cell_at volume r).stage in
        let few : s.on < 2 ^ 64 = subst (λ k. k < 2 ^ 64) (sym (lies.masks r lt).on) is.shape_is.on.fits in
        let k = other_of s m few (ready.spare r lt) in
        let q = on_now c0 good0 v0 fresh form of is numbers volume copies whole lies c good v keeps k.0 (sym (ap (λ i. has i k.0) (lies.masks r lt).on) ∙ k.1) in
        let other : map_or_zero q.plex.map ≢ m = λ same. not_both (has-only_same m low) (ap (λ i. has (only m) i) (sym same ∙ q.map_is) ∙ k.3) in (
          plex_image c good bytes q.plex,
          image_then c v p remove c' takes good bytes q.plex q.there q.own (apart c v p remove c' takes good bytes q.plex q.there other),
          ap B q.map_is ∙ unmarked r lt B between k.0 k.2,
          plex_of q.plex q.there q.own,
        )

    current : IsCurrentIn regions image (image_of c' good bytes v)
    current r B =
        subst (λ (s : RegionState). IsBetween s.stage s.stage.phase s.around B → (x : PlexImage) × Contains (image_of c' good bytes v).plexes x × (B x.map ≡ false) × IsPlexOfRegions image.length image.region regions x)
        (sym (turned_state r)) (current_at (turned r) (turned_below r) B)

    -- so the volume leaves the image without the plex
    pub left_without : IsLeftBy plexes volume w run (image_of c good bytes v) → IsLeftBy plexes volume w run (image_of c' good bytes v)
    left_without left = record {
      leave = fewer_leave n regions image (image_of c' good bytes v) (image_fewer c v p remove c' takes good bytes) current left.leave;
      plexes_of = λ x one. left.plexes_of x ((image_fewer c v p remove c' takes good bytes).comes x one);
      length_is = left.length_is;
      region_is = left.region_is;
      filled = left.filled;
    }
