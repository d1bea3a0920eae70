-- What a volume leaves is its image.
use Rattle.std.proofs.Common.{◌≡◌, ◌⊎◌, inl, inr, ℕ, ◌<◌, ◌/◌, Bool, true, false, cond, List, length, map, refl, sym, ap, ◌∙◌, subst, arith}
use Rattle.std.specs.Prelude.{nat_lt, Contains}
use Rattle.std.specs.List.{All}
use Rattle.std.proofs.lemmas.Bool.{false≢true, lt-ltb, ltb-true}
use Rattle.vx_base.specs.Blocks.{Contents}
use Rattle.vx_mask.specs.Mask.{has}
use Rattle.vx_piece.specs.Seen.{Seen}
use Rattle.vx_carve.specs.Together.{Holds}
use Rattle.vx_cell.specs.Region.{marks_or}
use Rattle.vx_core.specs.Region.{RegionState}
use Rattle.vx_core.specs.Soundness.{IsBetween}
use Rattle.vx_config_parts.specs.declared.vol.Vol.{Vol}
use Rattle.vx_objects.specs.declared.config.Config.{Config}
use Rattle.vx_moments.specs.World.{Volume}
use Rattle.vx_image.proofs.PlexMembers.{IsIn, from_map}
use Rattle.vx_image.specs.Image.{PlexImage, LogCopy, Image, IsFilled}
use Rattle.vx_image.specs.Bytes.{Sectors, image_of, log_copies, plex_image, relation_maps}
use Rattle.vx_image.proofs.Members.{is_in}
use Rattle.vx_volume.specs.Volume.{VolumeSeen, IsVolume}
use Rattle.vx_lending.specs.declared.form.VolumeForm.{VolumeForm}
use Rattle.vx_image.specs.UsedPlexes.{IsVolOf}
use Rattle.vx_lending.specs.Form.{IsFormOf}
use Rattle.vx_lending.specs.RegionPieces.{all_pieces}
use Rattle.vx_lending.specs.Left.{region_plexes}
use Rattle.vx_lending.specs.Pieces.{copy_pieces}
use Rattle.vx_moments.proofs.Blocks.{below_count}
use Rattle.vx_volume_laws.specs.Regions.{Regions, IsCopyOfRegions, IsPlexOfRegions}
use Rattle.vx_volume_laws.specs.Contents.{AreSectorsOf}
use Rattle.vx_volume_laws.proofs.Held.{of_image, in_image}
use Rattle.vx_volume_laws.specs.Running.{RunsAsVolume, state_at, states_of}
use Rattle.vx_volume_laws.specs.Leaving.{AreNamedIn, IsLeftBy}
use Rattle.vx_volume_laws.specs.Keeping.{KeepsVolume}
use Rattle.vx_volume_laws.specs.Left.{EachVolumeLeavesItsImage}
use Rattle.vx_volume_laws.specs.Lying.{LiesAs, pieces_in}
use Rattle.vx_volume_laws.proofs.LeftCopies.{MarksAsCopy, MarksNothing, copy_now}
use Rattle.vx_volume_laws.proofs.Spots.{all_right}
use Rattle.vx_volume_laws.proofs.Plexes.{block_now, has_been, held_now, off_now, on_now, snap_now}

module _ (c0 : Config) (good0 : ℕ) (v0 : Vol) (fresh : Bool) (form : VolumeForm) (of : IsVolOf c0 v0) (is : IsFormOf c0 good0 v0 fresh form) (numbers : List ℕ) (volume : VolumeSeen) (copies : List (List Seen)) (whole : IsVolume volume) (lies : LiesAs numbers form volume copies)
    (contents : ℕ → Contents) (hold : All (Holds contents) (pieces_in volume copies)) (c : Config) (good : ℕ) (v : Vol) (keeps : KeepsVolume c0 good0 v0 fresh c good v) (bytes : Sectors) (sectors : AreSectorsOf good numbers contents bytes)
    (plexes : List PlexImage) (w : Volume) (run : RunsAsVolume plexes volume w) where
  abbrev n : ℕ
  n = length volume.cells

  abbrev regions : Regions
  regions = states_of volume run.fixed w.life.entries

  abbrev at : Regions
  at = state_at volume run.fixed w.life.entries

  abbrev image : Image
  image = image_of c good bytes v

  length_is : image.length ≡ volume.length
  length_is = keeps.length_is ∙ sym is.shape_is.length_is ∙ sym lies.length_is

  region_is : image.region ≡ volume.region
  region_is = keeps.region_is ∙ sym is.shape_is.region_is ∙ sym lies.region_is

  first_below : 0 < n
  first_below = let h = below_count 0 volume.length volume.region run.sized run.some in let count = whole.count in omega (arith, h, count)

  -- the region of a number: behind the last one the first again
  abbrev turned : ℕ → ℕ
  turned r = cond (nat_lt r n) r 0

  turned_below : (r : ℕ) → turned r < n
  turned_below r = by (nat_lt r n) refl
    where
      by : (b : Bool) → nat_lt r n ≡ b → cond b r 0 < n
      by true e = ltb-true r n e
      by false e = first_below

  turned_state : (r : ℕ) → regions r ≡ at (turned r)
  turned_state r = by (nat_lt r n)
    where
      by : (b : Bool) → cond b (at r) (at 0) ≡ at (cond b r 0)
      by true = refl
      by false = refl

  turned_same : (r : ℕ) → r < n → turned r ≡ r
  turned_same r lt = ap (λ (b : Bool). cond b r 0) (lt-ltb r n lt)

  -- what holds of each region of the volume holds of all
  of_all : (P : RegionState → Type 0) → ((r : ℕ) → r < n → P (at r)) → (r : ℕ) → P (regions r)
  of_all P each r = subst P (sym (turned_state r)) (each (turned r) (turned_below r))

  plex_of : (p : PlexImage) → Contains image.plexes p → IsPlexOfRegions image.length image.region regions p
  plex_of p one =
      let x = of_image c good bytes v p one in
      let been = has_been c0 good0 v0 fresh form of is numbers volume copies whole lies c good v keeps x.plex x.there x.of in
      let q = x.plex in
      subst (λ (y : PlexImage). IsPlexOfRegions image.length image.region regions y) (sym x.is) (
      record {
        values = λ held b lt.
            let low : b < volume.length = subst (λ m. b < m) length_is lt in
            let here : b / image.region ≡ b / volume.region = ap (λ m. b / m) region_is in
            let below : b / volume.region < n = let h = below_count b volume.length volume.region run.sized low in let count = whole.count in omega (arith, h, count) in
            block_now c0 good0 v0 fresh form of is numbers volume copies whole lies c good v keeps (b / volume.region) below contents hold bytes sectors q been held b run.sized low refl
            ∙ sym (ap (λ (s : RegionState). s.around.disks.blocks (plex_image c good bytes q).map b) (ap regions here ∙ turned_state (b / volume.region) ∙ ap at (turned_same (b / volume.region) below)));
        held = λ r held. of_all (λ (s : RegionState). s.around.fixed.held (plex_image c good bytes q).map ≡ true)
            (λ i lt. run.held i (plex_image c good bytes q).map lt ∙ held_now c0 good0 v0 fresh form of is numbers volume copies whole lies c good v keeps i lt q been held) r;
        stale = λ r held stale. inl (of_all (λ (s : RegionState). has s.stage.off (plex_image c good bytes q).map ≡ true)
            (λ i lt. ap (λ m. has m (plex_image c good bytes q).map) (lies.masks i lt).off ∙ off_now c0 good0 v0 fresh form of is numbers volume copies whole lies c good v keeps q been stale) r);
      }
      )

  current_at : (r : ℕ) → r < n → (B : ℕ → Bool) → IsBetween (at r).stage (at r).stage.phase (at r).around B →
      (p : PlexImage) × Contains image.plexes p × (B p.map ≡ false) × IsPlexOfRegions image.length image.region regions p
  current_at r lt B between =
      let k = ((run.each r lt).kept.sound.under B between).readable in
      let q = on_now c0 good0 v0 fresh form of is numbers volume copies whole lies c good v keeps k.0 (sym (ap (λ m. has m k.0) (lies.masks r lt).on) ∙ k.1) in
      let p = plex_image c good bytes q.plex in
      let one : Contains image.plexes p = in_image c good bytes v q.plex q.there q.own in
      (p, one, ap B q.map_is ∙ k.2, plex_of p one)

  own : All (Holds contents) (copy_pieces copies)
  own = all_right (Holds contents) (all_pieces (region_plexes volume.cells)) (copy_pieces copies) hold

  copy_at : (x : LogCopy) → IsIn (log_copies v.dco c good bytes v) x → IsCopyOfRegions regions (λ r. x (turned r))
  copy_at x there = by (copy_now c0 good0 v0 fresh form is numbers copies lies.logs contents own c good v keeps bytes sectors x there)
    where
      logged_is : (r : ℕ) → (regions r).stage.logged ≡ nat_lt 0 (length copies)
      logged_is = of_all (λ (s : RegionState). s.stage.logged ≡ nat_lt 0 (length copies)) (λ i lt. (lies.masks i lt).logged_is ∙ lies.log.there)

      none_logged : length copies ≡ 0 → (r : ℕ) → (regions r).stage.logged ≡ true → (A : Type 0) → A
      none_logged none r logged A = let h = ltb-true 0 (length copies) (sym (logged_is r) ∙ logged) in absurd (omega (arith, none, h))

      by : MarksNothing c0 good0 v0 fresh form is numbers copies lies.logs contents own c good v keeps bytes sectors x ⊎ MarksAsCopy c0 good0 v0 fresh form is numbers copies lies.logs contents own c good v keeps bytes sectors x →
          IsCopyOfRegions regions (λ r. x (turned r))
      by (inl nothing) = record { copy = 0; logged = λ r logged. none_logged nothing.none r logged _; plain = λ r plain k. nothing.clear (turned r) k }
      by (inr it) =
          record {
            copy = it.copy;
            logged = λ r logged.
                let few = it.inside in
                let count = lies.log.count in
                let own = run.copies (turned r) (turned_below r) in
                let same : (at (turned r)).around.fixed.copies ≡ length copies = own ∙ count in (
                  subst (λ (s : RegionState). it.copy < s.around.fixed.copies) (sym (turned_state r)) (omega (arith, few, same)),
                  λ k. it.marks_are (turned r) k
                      ∙ sym (lies.log.shows (run.told (turned r) (turned_below r)).1 it.copy (turned r) k it.inside)
                      ∙ sym (ap (λ (s : RegionState). s.around.disks.marks.shows it.copy k) (turned_state r) ∙ ap (λ m. (marks_or volume.log.told m).shows it.copy k) (whole.each (turned r) (turned_below r)).index),
                );
            plain = λ r plain k. let few = it.inside in absurd (false≢true (sym plain ∙ logged_is r ∙ lt-ltb 0 (length copies) (omega (arith, few))));
          }

  left : IsFilled v.state → AreNamedIn image.plexes plexes → IsLeftBy plexes volume w run image
  left filled named =
      record {
        leave = record {
          sized = let h = run.sized in let e = region_is in omega (arith, h, e);
          plexes = λ p one. inl (plex_of p one);
          copies = λ x one.
              let turn : LogCopy → LogCopy = λ y i. y (turned i) in
              let r = from_map turn (log_copies v.dco c good bytes v) x (is_in (map turn (log_copies v.dco c good bytes v)) x one) in
              subst (λ (y : LogCopy). IsCopyOfRegions regions y) (sym r.2) (copy_at r.0 r.1);
          current = λ r B. subst (λ (s : RegionState). IsBetween s.stage s.stage.phase s.around B → (p : PlexImage) × Contains image.plexes p × (B p.map ≡ false) × IsPlexOfRegions image.length image.region regions p) (sym (turned_state r))
              (current_at (turned r) (turned_below r) B);
          snaps = λ m one r.
              of_all (λ (s : RegionState). has s.stage.snaps m ≡ true)
              (λ i lt. ap (λ mask. has mask m) (lies.masks i lt).snaps ∙ snap_now c0 good0 v0 fresh form of is numbers volume copies whole lies c good v keeps m (is_in (relation_maps c.snaps v.name) m one)) r;
        };
        plexes_of = named;
        length_is = length_is;
        region_is = region_is;
        filled = filled;
      }

pub volume_leaves : EachVolumeLeavesItsImage
volume_leaves c0 good0 v0 fresh form of is numbers volume copies whole lies contents hold c good v keeps filled bytes sectors plexes w run named =
    left c0 good0 v0 fresh form of is numbers volume copies whole lies contents hold c good v keeps bytes sectors plexes w run filled named
