-- What is known of a mirror of a volume by its definitions: it can be asked for, its map is free, its records are the volume's alone,
-- and it lies on good disks.
use Rattle.std.specs.Prelude.{◌≡◌, ℕ, true, Some, List, [], ◌∷◌, Contains}
use Rattle.vx_base.specs.Named.{Word}
use Rattle.vx_config_parts.specs.declared.object.Object.{Object}
use Rattle.vx_config_parts.specs.declared.plex.Plex.{Plex}
use Rattle.vx_config_parts.specs.declared.vol.Vol.{Vol}
use Rattle.vx_objects.specs.declared.config.Config.{Config}
use Rattle.vx_objects.specs.declared.edit.Edit.TheVariants.{Make}
use Rattle.vx_objects.specs.Applied.{IsEdited}
use Rattle.vx_objects.specs.Config.{objects_of}
use Rattle.vx_image.specs.Bytes.{is_held}
use Rattle.vx_image.specs.UsedPlexes.{IsVolOf}
use Rattle.vx_new_volumes.specs.declared.parts.Plan.{Plan}
use Rattle.vx_new_volumes.specs.Rule.{is_request}
use Rattle.vx_new_volumes.specs.Mirrors.{free_map, lowest_plex, mirror_of, mirror_plex, mirror_request}
use Rattle.vx_group_edits.specs.Joins.{plexes_in}
use Rattle.vx_stages.specs.Mirroring.{IsMirrorLaid}
use Rattle.vx_group_edits.specs.Mirrors.{IsFreeMapOf, IsLowestOf, IsMirrorAt}

-- Each volume of a configuration has a data plex with the lowest map, ..
abbrev pub EachVolumeHasALowestPlex : Type 0
EachVolumeHasALowestPlex = (c : Config) (v : Vol) → IsVolOf c v → (p : Plex) × (lowest_plex v.name (objects_of c) ≡ Some p)

-- .. which is one of its own, with no higher map than another.
abbrev pub EachLowestPlexIsLowest : Type 0
EachLowestPlexIsLowest = (c : Config) (vol : Word) (p : Plex) → lowest_plex vol (objects_of c) ≡ Some p → IsLowestOf c vol p

-- A plex like it can be asked for, on whatever disks.
abbrev pub EachMirrorCanBeAskedFor : Type 0
EachMirrorCanBeAskedFor =
    (c : Config) (v : Vol) (lowest : Plex) (disks : List Word) → IsVolOf c v → lowest_plex v.name (objects_of c) ≡ Some lowest →
    is_request (mirror_request (objects_of c) v lowest disks) ≡ true

-- A map that is found free is one that no data plex of the volume and none of its relations has.
abbrev pub EachFreeMapIsFree : Type 0
EachFreeMapIsFree = (c : Config) (vol : Word) (m : ℕ) → free_map (objects_of c) vol ≡ Some m → IsFreeMapOf c vol m

-- The records of a mirror are a data plex of the volume with its map, made like the other one, and the subdisks of that plex.
abbrev pub EachMirrorIsOfItsVolume : Type 0
EachMirrorIsOfItsVolume =
    (group : List Object) (v : Vol) (lowest : Plex) (m : ℕ) (plan : Plan) (added : List Object) → mirror_of group v lowest m plan ≡ Some added →
    (p : Plex) × (p ≡ mirror_plex v lowest m p.name) × IsMirrorAt v m added p

-- So a mirror that is laid as is planned has one plex, with a map that nothing of the volume has.
abbrev pub EachLaidMirrorIsNew : Type 0
EachLaidMirrorIsNew =
    (c : Config) (good : ℕ) (v : Vol) (disks : List Word) (m : ℕ) (added : List Object) → IsMirrorLaid c good v disks m added →
    (p : Plex) × IsMirrorAt v m added p × IsFreeMapOf c v.name m

-- Once its records are added, all disks of its plex are good.
abbrev pub EachLaidMirrorIsHeld : Type 0
EachLaidMirrorIsHeld =
    (c c' : Config) (good : ℕ) (v : Vol) (disks : List Word) (m : ℕ) (added : List Object) → IsMirrorLaid c good v disks m added → IsEdited (Make added ∷ []) c c' →
    (p : Plex) → Contains (plexes_in added) p → is_held c' good p ≡ true
