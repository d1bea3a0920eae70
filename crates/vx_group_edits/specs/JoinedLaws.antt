-- Plexes of a volume that are added to a group join the volume.
use Rattle.std.specs.Prelude.{◌≡◌, ℕ, ◌<◌, true, List, [], ◌∷◌, Contains}
use Rattle.std.specs.List.{list_all}
use Rattle.vx_base.specs.Named.{Word}
use Rattle.vx_config_parts.specs.declared.object.Object.{Object}
use Rattle.vx_config_parts.specs.declared.plex.Plex.{Plex}
use Rattle.vx_config_parts.specs.declared.vol.Vol.{Vol}
use Rattle.vx_layout.specs.Valid.{is_apart}
use Rattle.vx_objects.specs.declared.config.Config.{Config}
use Rattle.vx_objects.specs.declared.edit.Edit.TheVariants.{Make}
use Rattle.vx_objects.specs.Applied.{IsEdited}
use Rattle.vx_image.specs.Lies.{strips_of}
use Rattle.vx_image.specs.Bytes.{Sectors, image_of}
use Rattle.vx_image.specs.Image.{Image, PlexImage, is_marked_by_all, regions_of}
use Rattle.vx_image.specs.Soundness.{IsSoundImage}
use Rattle.vx_group_edits.specs.OfVolume.{AreOf}
use Rattle.vx_group_edits.specs.Joins.{Joins, joined_image, plexes_in, with_plex}

-- Plexes of a volume that are added with their subdisks join it, ..
abbrev pub EachPlexJoins : Type 0
EachPlexJoins = (c c' : Config) (vol : Word) (added : List Object) → AreOf vol added → IsEdited (Make added ∷ []) c c' → Joins c vol added c'

-- .. and its image, by whatever sectors and good disks, has what they hold behind what it had.
abbrev pub EachImageIsJoined : Type 0
EachImageIsJoined =
    (c c' : Config) (v : Vol) (added : List Object) → AreOf v.name added → IsEdited (Make added ∷ []) c c' →
    (good : ℕ) (bytes : Sectors) → image_of c' good bytes v ≡ joined_image c c' good bytes v added

-- A new plex has no sector of a disk that a plex had which was there.
abbrev pub EachNewPlexLiesApart : Type 0
EachNewPlexLiesApart =
    (c c' : Config) (vol : Word) (added : List Object) → AreOf vol added → IsEdited (Make added ∷ []) c c' →
    (p q : Plex) → Contains (plexes_in added) p → Contains c.plexes q → list_all (λ x. list_all (is_apart x) (strips_of c q)) (strips_of c' p) ≡ true

-- A plex that every copy of the log marks in each region leaves the image as sound as it was.
abbrev pub EachMarkedPlexStaysSound : Type 0
EachMarkedPlexStaysSound = (v : Image) (p : PlexImage) → ((r : ℕ) → r < regions_of v → is_marked_by_all v r p.map ≡ true) → IsSoundImage v → IsSoundImage (with_plex v p)
