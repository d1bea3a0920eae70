-- As a volume starts, its data plexes are written to just where they are available.
use Rattle.std.proofs.Common.{◌≡◌, inl, inr, ℕ, Bool, true, false, List, refl, sym, ap, ◌∙◌, subst, arith}
use Rattle.std.specs.Prelude.{Contains}
use Rattle.std.proofs.lemmas.Bool.{false≢true}
use Rattle.vx_base.specs.Named.{Word}
use Rattle.vx_mask.specs.Mask.{has}
use Rattle.vx_core.specs.declared.stage.Stage.{Stage}
use Rattle.vx_marks.specs.Log.{LogSeen}
use Rattle.vx_cell.specs.Changes.{CellSeen}
use Rattle.vx_cell.specs.Plexes.{PlexSeen}
use Rattle.vx_config_parts.specs.declared.plex.Plex.{Plex}
use Rattle.vx_config_parts.specs.declared.vol.Vol.{Vol}
use Rattle.vx_config_parts.specs.Objects.{is_data_plex_of}
use Rattle.vx_objects.specs.declared.config.Config.{Config}
use Rattle.vx_image.proofs.PlexMembers.{IsIn}
use Rattle.vx_image.specs.Image.{PlexImage, is_available}
use Rattle.vx_image.specs.Bytes.{Sectors, image_of, map_or_zero}
use Rattle.vx_volume.specs.declared.volume.VolumeShape.{VolumeShape}
use Rattle.vx_volume.specs.Opening.{IsOpened, stage_of}
use Rattle.vx_volume.specs.Volume.{VolumeSeen}
use Rattle.vx_image.specs.UsedPlexes.{IsVolOf, is_on}
use Rattle.vx_lending.specs.Form.{IsShapeOf}
use Rattle.vx_lending.proofs.Bits.{held_on, into_on, on_plex}
use Rattle.vx_lending.proofs.Maps.{one_of_map}
use Rattle.vx_lending.proofs.Rules.{plex_low}
use Rattle.vx_volume_laws.proofs.Held.{of_image}
use Rattle.vx_volume_laws.specs.Tracks.{HasMap}
use Rattle.vx_moments.specs.Tracks.{TrackOwner}
use Rattle.vx_volume_laws.specs.RunLaws.{OwnersFit}

module _ (c : Config) (good : ℕ) (v : Vol) (of : IsVolOf c v) (shape : VolumeShape) (is : IsShapeOf c good v shape) where
  -- a data plex is on by the mask just where it is available
  on_is : (p : Plex) → IsIn c.plexes p → is_data_plex_of v.name p ≡ true → (a : Bool) → is_on c good p ≡ a → has shape.on (map_or_zero p.map) ≡ a
  on_is p there own true e = is.on.each (map_or_zero p.map) ∙ into_on c good v p there own e
  on_is p there own false e = by (has shape.on (map_or_zero p.map)) refl
    where
      by : (b : Bool) → has shape.on (map_or_zero p.map) ≡ b → b ≡ false
      by true h =
          let q = on_plex c good v of shape is (map_or_zero p.map) h in
          let one : q.plex ≡ p = one_of_map c v of q.plex p q.there there q.own own q.map_is in
          absurd (false≢true (sym e ∙ ap (λ (x : Plex). is_on c good x) (sym one) ∙ q.on))
      by false h = refl

  has_map : (p : Plex) → IsIn c.plexes p → is_data_plex_of v.name p ≡ true → (owner : TrackOwner) → owner.available ≡ is_on c good p → (logged : Bool) (bits : ℕ) → HasMap (stage_of shape logged bits) (map_or_zero p.map) owner
  has_map p there own owner e logged bits =
      let small = plex_low c v of p there own in
      record {
        available = e ∙ sym (on_is p there own (is_on c good p) refl);
        known = elim (held_on c good v of shape is p (is_on c good p) refl there own) [ inl on ↦ inl on | inr off ↦ inr (inl off) ];
        not_dirty = λ same. omega (arith, small, same);
      }

  pub owners_fit : (log : LogSeen) (regions : List (List PlexSeen)) (volume : VolumeSeen) → IsOpened shape log regions volume → (bytes : Sectors) (owners : Word → TrackOwner) →
      ((p : PlexImage) → Contains (image_of c good bytes v).plexes p → (owners p.name).available ≡ is_available p) → OwnersFit (image_of c good bytes v).plexes volume owners
  owners_fit log regions volume opened bytes owners each p one r lt =
      let x = of_image c good bytes v p one in
      let count = opened.cells.count in
      let cell = opened.cells.each r (omega (arith, lt, count)) in
      let stage_is = ap (λ (y : CellSeen). y.stage) cell.is in
      let available : (owners x.plex.name).available ≡ is_on c good x.plex = subst (λ (y : PlexImage). (owners y.name).available ≡ is_available y) x.is (each p one) in
      subst (λ (s : Stage). HasMap s p.map (owners p.name)) (sym stage_is)
      (subst (λ (y : PlexImage). HasMap (stage_of shape log.there cell.bits) y.map (owners y.name)) (sym x.is) (has_map x.plex x.there x.of (owners x.plex.name) available log.there cell.bits))
