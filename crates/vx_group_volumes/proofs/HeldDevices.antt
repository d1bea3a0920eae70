-- The data plexes of a running volume, as their tracks see them, fit its regions.
use Rattle.std.proofs.Common.{◌≡◌, ◌⊎◌, inl, inr, ℕ, Bool, true, false, refl, sym, ap, ◌∙◌, subst, arith}
use Rattle.std.specs.Prelude.{◌&&◌}
use Rattle.vx_base.specs.Named.{Word}
use Rattle.vx_mask.specs.Mask.{has}
use Rattle.vx_core.specs.declared.stage.Stage.{Stage}
use Rattle.vx_core_laws.specs.Tracking.{IsOther}
use Rattle.vx_pages.specs.declared.local_piece.LocalPiece.{Ghosts}
use Rattle.vx_config_parts.specs.declared.plex.Plex.{Plex}
use Rattle.vx_config_parts.specs.Objects.{is_data_plex_of}
use Rattle.vx_config_parts.specs.declared.vol.Vol.{Vol}
use Rattle.vx_objects.specs.declared.config.Config.{Config}
use Rattle.vx_image.proofs.PlexMembers.{IsIn}
use Rattle.vx_image.specs.Bytes.{is_held, map_or_zero}
use Rattle.vx_image.specs.Image.{is_available_state}
use Rattle.vx_moments.specs.Holding.{is_among}
use Rattle.vx_moments.specs.World.{Group}
use Rattle.vx_moments.specs.Owners.{owner_of, owners_of}
use Rattle.vx_moments.specs.Tracks.{TrackOwner}
use Rattle.vx_volume.specs.declared.volume.VolumeShape.{VolumeShape}
use Rattle.vx_volume.specs.Volume.{cell_at, volume_seen}
use Rattle.vx_volume_laws.specs.Tracks.{HasMap}
use Rattle.vx_lending.specs.Form.{IsShapeOf}
use Rattle.vx_image.specs.UsedPlexes.{IsVolOf, is_on}
use Rattle.vx_lending.proofs.Bits.{into_off, into_on, on_plex}
use Rattle.vx_lending.proofs.Maps.{one_of_map}
use Rattle.vx_lending.proofs.Rules.{plex_low}
use Rattle.vx_volume_laws.specs.Lying.{HasMasksOf}
use Rattle.vx_lending.specs.declared.public.Running.{Running}
use Rattle.vx_group_volumes.specs.Runs.{Opening}
use Rattle.vx_group_volumes.specs.PlexLaws.{PlexesFit}
use Rattle.vx_group_volumes.specs.Opened.{opened_plexes}
use Rattle.vx_group_volumes.proofs.Plexes.{IsPlexNow, among_held, held_among, opened_plex, owner_is, plex_now}

-- two tests are one where each passes with the other
same_test : (a b : Bool) → (a ≡ true → b ≡ true) → (b ≡ true → a ≡ true) → a ≡ b
same_test true b f h = sym (f refl)
same_test false true f h = h refl
same_test false false f h = refl

turned : (a b : Bool) → (a && b) ≡ (b && a)
turned true true = refl
turned true false = refl
turned false true = refl
turned false false = refl

-- ---- the masks

module _ (c : Config) (good : ℕ) (v : Vol) (of : IsVolOf c v) (shape : VolumeShape) (is : IsShapeOf c good v shape) (p : Plex) (there : IsIn c.plexes p) (data_is : is_data_plex_of v.name p ≡ true) where
  -- a data plex is on just where its map is
  pub on_as : is_on c good p ≡ has shape.on (map_or_zero p.map)
  on_as = same_test (is_on c good p) (has shape.on (map_or_zero p.map))
      (λ on. is.on.each (map_or_zero p.map) ∙ into_on c good v p there data_is on)
      (λ h.
      let r = on_plex c good v of shape is (map_or_zero p.map) h in
      subst (λ (x : Plex). is_on c good x ≡ true) (one_of_map c v of r.plex p r.there there r.own data_is r.map_is) r.on)

  -- .. and else it is off
  pub on_or_off : (has shape.on (map_or_zero p.map) ≡ true) ⊎ (has shape.off (map_or_zero p.map) ≡ true)
  on_or_off = by (is_on c good p) refl
    where
      by : (b : Bool) → is_on c good p ≡ b → (has shape.on (map_or_zero p.map) ≡ true) ⊎ (has shape.off (map_or_zero p.map) ≡ true)
      by true e = inl (sym on_as ∙ e)
      by false e = inr (is.off.each (map_or_zero p.map) ∙ into_off c good v p there data_is e)

  pub has_map : (logged : Bool) (s : Stage) → HasMasksOf shape logged s → (owner : TrackOwner) → owner.available ≡ is_on c good p → HasMap s (map_or_zero p.map) owner
  has_map logged s masks owner same =
      let low = plex_low c v of p there data_is in
      record {
        available = same ∙ on_as ∙ ap (λ (n : ℕ). has n (map_or_zero p.map)) (sym masks.on);
        known = known on_or_off;
        not_dirty = λ e. omega (arith, low, e);
      }
    where
      known : (has shape.on (map_or_zero p.map) ≡ true) ⊎ (has shape.off (map_or_zero p.map) ≡ true) → (has s.on (map_or_zero p.map) ≡ true) ⊎ IsOther s (map_or_zero p.map)
      known (inl on) = inl (ap (λ (n : ℕ). has n (map_or_zero p.map)) masks.on ∙ on)
      known (inr off) = inr (inl (ap (λ (n : ℕ). has n (map_or_zero p.map)) masks.off ∙ off))

-- ---- the owners

-- the plex of now is written to just where that of the opening was on
available_as : (o : Opening) (g : Group) (vol : Word) (p : Plex) (now : IsPlexNow o.config o.good g.config g.good vol p) → IsIn o.config.plexes p → is_data_plex_of o.vol.name p ≡ true →
    (owner_of g (opened_plexes o) now.plex).available ≡ is_on o.config o.good p
available_as o g vol p now there data_is =
    let held : is_among p.name (opened_plexes o) ≡ is_held o.config o.good p = same_test _ _ (held_among o p there) (among_held o p there data_is) in
    ap (λ (b : Bool). b && is_among now.plex.name (opened_plexes o)) now.keeps.available
    ∙ ap (λ (n : Word). is_available_state p.state && is_among n (opened_plexes o)) now.keeps.name
    ∙ ap (λ (b : Bool). is_available_state p.state && b) held
    ∙ turned (is_available_state p.state) (is_held o.config o.good p)

module _ {P : Type 0} {ghosts : Ghosts P} (running : Running P ghosts) where
  pub plexes_fit : PlexesFit ghosts.seen running
  plexes_fit g numbers v placed plexes were p there r lt =
      let runs = placed.runs in
      let o = runs.opening in
      let was = opened_plex o plexes were p there in
      let now = plex_now o.config o.good o.vol o.fresh g.config g.good v runs.keeps was.plex was.there was.data_is in
      let names = opened_plexes o in
      let name : now.plex.name ≡ p.name = now.keeps.name ∙ was.name_is in
      let owner : owners_of g v.name names p.name ≡ owner_of g names now.plex = ap (owners_of g v.name names) (sym name) ∙ owner_is g v.name names now.plex now.there now.data_is in
      let same : (owners_of g v.name names p.name).available ≡ is_on o.config o.good was.plex = ap (λ (x : TrackOwner). x.available) owner ∙ available_as o g v.name was.plex now was.there was.data_is in
      subst (λ (k : ℕ). HasMap (cell_at (volume_seen ghosts.seen running.volume) r).stage k (owners_of g v.name names p.name)) was.map_is
      (has_map o.config o.good o.vol runs.of running.form.shape runs.form.shape_is was.plex was.there was.data_is _ (cell_at (volume_seen ghosts.seen running.volume) r).stage (runs.lies.lies.masks r lt) (owners_of g v.name names p.name) same)
