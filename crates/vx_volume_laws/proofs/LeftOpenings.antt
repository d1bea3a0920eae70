-- A volume that is opened is opened over its image.
use Rattle.std.proofs.Common.{◌≡◌, inl, inr, ℕ, zero, suc, ◌<◌, false, List, [], ◌∷◌, length, sym, ap, ◌∙◌, subst, arith}
use Rattle.std.specs.Prelude.{◌&&◌, nat_lt, slice_index_or, Contains}
use Rattle.std.specs.List.{All}
use Rattle.std.proofs.lemmas.Bool.{and_parts, cases_lt, ltb-true}
use Rattle.vx_block.specs.Geometry.{is_region_size}
use Rattle.vx_piece.specs.Seen.{Seen}
use Rattle.vx_life.specs.Candidates.Values.{OneOf}
use Rattle.vx_core.specs.History.{NoCall}
use Rattle.vx_core.specs.Region.{Fixed}
use Rattle.vx_carve.specs.Together.{Holds}
use Rattle.vx_cell.specs.Changes.{CellSeen}
use Rattle.vx_cell.specs.Plexes.{AllTell, PlexSeen}
use Rattle.vx_cell.specs.Region.{Tells, state_of}
use Rattle.vx_base.specs.Blocks.{Contents}
use Rattle.vx_config_parts.specs.declared.vol.Vol.{Vol}
use Rattle.vx_objects.specs.declared.config.Config.{Config}
use Rattle.vx_moments.specs.World.{Volume}
use Rattle.vx_image.specs.Image.{LogCopy}
use Rattle.vx_image.specs.Bytes.{Sectors, image_of}
use Rattle.vx_volume.specs.Volume.{VolumeSeen, cell_at, region_at}
use Rattle.vx_lending.specs.RegionPieces.{all_pieces, pieces_of}
use Rattle.vx_volume_laws.specs.Opening.{IsOpened}
use Rattle.vx_lending.specs.declared.form.VolumeForm.{VolumeForm}
use Rattle.vx_image.specs.UsedPlexes.{IsVolOf}
use Rattle.vx_lending.proofs.Rules.{vol_geometry}
use Rattle.vx_volume_laws.specs.Opened.{IsFixedOf, IsOpenedBy}
use Rattle.vx_volume_laws.proofs.Loaded.{run_tells}
use Rattle.vx_volume_laws.proofs.OpenedImages.{opened_is, same_item}
use Rattle.vx_volume_laws.specs.Starting.{IsOpenedOver}
use Rattle.vx_volume_laws.specs.Over.{EachOpenedVolumeIsOver}
use Rattle.vx_volume_laws.proofs.Spots.{all_left, all_right}

-- ---- what is told

own_region : (P : Seen → Type 0) (regions : List (List PlexSeen)) (r : ℕ) → All P (all_pieces regions) → r < length regions → All P (pieces_of (slice_index_or regions r []))
own_region P [] r all lt = absurd (omega (arith, lt))
own_region P (x ∷ xs) zero all lt = all_left P (pieces_of x) (all_pieces xs) all
own_region P (x ∷ xs) (suc r) all lt = own_region P xs r (all_right P (pieces_of x) (all_pieces xs) all) (omega (arith, lt))

plexes_tell : (contents : ℕ → Contents) (ps : List PlexSeen) → All (Holds contents) (pieces_of ps) → AllTell ps
plexes_tell contents [] all = tt
plexes_tell contents (p ∷ ps) all = (run_tells contents p.pieces (all_left (Holds contents) p.pieces (pieces_of ps) all), plexes_tell contents ps (all_right (Holds contents) p.pieces (pieces_of ps) all))

some_length : (c : Config) (v : Vol) → IsVolOf c v → 0 < v.len
some_length c v of =
    let first = and_parts (is_region_size v.region && nat_lt 0 v.len) _ (vol_geometry c v of) in
    ltb-true 0 v.len (and_parts (is_region_size v.region) (nat_lt 0 v.len) first.0).1

-- ---- the volume

module _ (c : Config) (good : ℕ) (bytes : Sectors) (v : Vol) (form : VolumeForm) (copy : LogCopy) (volume : VolumeSeen) (by : IsOpenedBy c good bytes v form copy volume) (one : Contains (image_of c good bytes v).copies copy) (told : Tells volume.log.told) (w : Volume) where
  -- what is fixed of a region; behind the last one anything
  IsFixedAt : ℕ → Fixed → Type 0
  IsFixedAt r fixed = r < length volume.cells → IsOpened (image_of c good bytes v) copy w.life.candidates r (state_of (region_at volume r) fixed [] NoCall (cell_at volume r).number) × IsFixedOf (region_at volume r) fixed

  chosen : (r : ℕ) → (fixed : Fixed) × IsFixedAt r fixed
  unfolding IsFixedAt
  chosen r =
      elim (cases_lt r (length volume.cells)) [
        | inl lt ↦ let x = opened_is c good bytes v form copy volume by w.life.candidates r lt in (x.0, λ again. (x.1, x.2))
        | inr past ↦ (record { held = λ k. false; copies = 0; base = λ m b. []; first = λ b. OneOf []; region = r; from = 0 }, λ lt. absurd (omega (arith, lt, past)))
      ]

  fixed_at : (r : ℕ) → r < length volume.cells → IsOpened (image_of c good bytes v) copy w.life.candidates r (state_of (region_at volume r) (chosen r).0 [] NoCall (cell_at volume r).number) × IsFixedOf (region_at volume r) (chosen r).0
  unfolding IsFixedAt
  fixed_at r lt = (chosen r).1 lt

  inside : (r : ℕ) → r < length volume.cells → r < length by.regions
  inside r lt = let count = by.opened.cells.count in omega (arith, lt, count)

  plexes_are : (r : ℕ) → r < length volume.cells → (cell_at volume r).plexes ≡ slice_index_or by.regions r []
  plexes_are r lt = ap (λ (x : CellSeen). x.plexes) (by.opened.cells.each r (inside r lt)).is ∙ same_item [] by.regions r

  opened_over : IsOpenedOver (image_of c good bytes v) volume w
  opened_over =
      record {
        fixed = λ r. (chosen r).0;
        copy = copy;
        copy_of = one;
        some = let long = by.opened.length_is in let is = by.form_is.shape_is.length_is in let some = some_length c v by.of in omega (arith, long, is, some);
        length_is = by.opened.length_is ∙ by.form_is.shape_is.length_is;
        region_is = by.opened.region_is ∙ by.form_is.shape_is.region_is;
        told = λ r lt. (subst AllTell (sym (plexes_are r lt)) (plexes_tell by.contents (slice_index_or by.regions r []) (own_region (Holds by.contents) by.regions r by.hold (inside r lt))), told);
        here = λ r lt. (fixed_at r lt).1.region ∙ (by.whole.each r lt).index;
        number = λ r lt. ap (λ (x : CellSeen). x.number) (by.opened.cells.each r (inside r lt)).is;
        epoch = λ r lt. ap (λ (x : CellSeen). x.epoch) (by.opened.cells.each r (inside r lt)).is;
        held = λ r k lt. (fixed_at r lt).1.held k;
        copies = λ r lt. (fixed_at r lt).1.copies;
        opened = λ r lt. (fixed_at r lt).0;
      }

pub opened_is_over : EachOpenedVolumeIsOver
opened_is_over c good bytes v form copy volume by one told w = opened_over c good bytes v form copy volume by one told w
