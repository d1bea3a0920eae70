-- The form of a volume is what the configuration says of it.
use Rattle.std.specs.Prelude.{◌≡◌, ℕ, ◌<◌, ◌^◌, Bool, List}
use Rattle.std.specs.List.{AllZip}
use Rattle.vx_mask.specs.Mask.{has}
use Rattle.vx_layout.specs.declared.layout.Layout.{Layout}
use Rattle.vx_config_parts.specs.declared.plex.Plex.{Plex}
use Rattle.vx_config_parts.specs.declared.vol.Vol.{Vol}
use Rattle.vx_objects.specs.declared.config.Config.{Config}
use Rattle.vx_image.specs.Lies.{columns_of}
use Rattle.vx_image.specs.Bytes.{relation_maps}
use Rattle.vx_volume.specs.declared.volume.VolumeShape.{VolumeShape}
use Rattle.vx_lending.specs.RegionsTaken.{is_among}
use Rattle.vx_lending.specs.declared.form.VolumeForm.{VolumeForm}
use Rattle.vx_image.specs.UsedPlexes.{held_plexes, on_plexes, off_plexes, used_logs, maps_of}

-- the mask has these maps and no other
pub record IsMaskOf (maps : List ℕ) (mask : ℕ) : Type 0 where
  pub fits : mask < 2 ^ 64
  pub each : (k : ℕ) → has mask k ≡ is_among k maps

-- the layout is that of the plex
pub record IsLayoutOf (c : Config) (p : Plex) (l : Layout) : Type 0 where
  pub unit : l.unit ≡ p.unit
  pub columns : l.columns ≡ columns_of c p

-- the layouts are those of the plexes, in their order
abbrev pub AreLayouts : Config → List Plex → List Layout → Type 0
AreLayouts c plexes layouts = AllZip (IsLayoutOf c) plexes layouts

-- the shape has the blocks and regions of the volume, and the maps of its plexes and relations
pub record IsShapeOf (c : Config) (good : ℕ) (v : Vol) (shape : VolumeShape) : Type 0 where
  pub length_is : shape.geometry.length ≡ v.len
  pub region_is : shape.geometry.region ≡ v.region
  pub on : IsMaskOf (maps_of (on_plexes c good v.name)) shape.on
  pub off : IsMaskOf (maps_of (off_plexes c good v.name)) shape.off
  pub snaps : IsMaskOf (relation_maps c.snaps v.name) shape.snaps

-- the form has that shape; the maps and layouts of the plexes of which all disks are good; and the layouts of the logs that are used
pub record IsFormOf (c : Config) (good : ℕ) (v : Vol) (fresh : Bool) (form : VolumeForm) : Type 0 where
  pub shape_is : IsShapeOf c good v form.shape
  pub maps : form.maps.items ≡ maps_of (held_plexes c good v.name)
  pub layouts : AreLayouts c (held_plexes c good v.name) form.layouts.items
  pub logs : AreLayouts c (used_logs v.dco c good fresh v.name) form.logs.items
