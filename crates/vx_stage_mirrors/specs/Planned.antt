-- What is to be committed for a mirror.
use Rattle.std.specs.Prelude.{◌≡◌, ℕ, Some, List, [], ◌∷◌}
use Rattle.vx_base.specs.Named.{Word}
use Rattle.vx_config_parts.specs.declared.object.Object.{Object}
use Rattle.vx_config_parts.specs.declared.object.Object.TheVariants.{PlexRecord}
use Rattle.vx_config_parts.specs.declared.plex.Plex.{Plex}
use Rattle.vx_config_parts.specs.declared.vol.Vol.{Vol}
use Rattle.vx_objects.specs.declared.config.Config.{Config}
use Rattle.vx_objects.specs.declared.edit.Edit.TheVariants.{Make}
use Rattle.vx_new_volumes.specs.Mirrors.{free_map, mirror_of}
use Rattle.vx_new_volumes.specs.declared.parts.Plan.{Plan}
use Rattle.vx_answers.specs.declared.answer.End.{End}
use Rattle.vx_group_edits.specs.Mirrors.{IsFreeMapOf, IsMirrorAt}
use Rattle.vx_house.specs.declared.stop.Stop.{Stop}
use Rattle.vx_house.specs.declared.stop.Stop.TheVariants as stops
use Rattle.vx_stage_changes.specs.Planning.{IsPlanned}
use Rattle.vx_stages.specs.Mirroring.{IsMirrorLaid}
use Rattle.vx_stage_mirrors.specs.declared.laying.LaidMirror.{LaidMirror}
use Rattle.vx_stage_mirrors.specs.declared.planning.PlannedMirror.{PlannedMirror}

-- the stop is an end with such a cause, or want of memory
abbrev pub EndsAs : (End → Type 0) → Stop → Type 0
EndsAs IsCause (stops.Ended end) = IsCause end
EndsAs IsCause stops.OutOfMemory = Unit {0}

-- a plex is the first of the records
abbrev pub IsFirst : Plex → List Object → Type 0
IsFirst p records = (rest : List Object) × (records ≡ PlexRecord p ∷ rest)

-- the records of a plan, with the lowest map that is free
pub record AreRecorded (group : List Object) (v : Vol) (lowest : Plex) (plan : Plan) (l : LaidMirror) : Type 0 where
  pub free : free_map group v.name ≡ Some l.map
  pub records : mirror_of group v lowest l.map plan ≡ Some l.records.items

-- The configuration with the records of a mirror and its text are to be committed; its plex has this record, and its map is one that
-- nothing of the volume has.
pub record IsMirrorPlanned (c : Config) (good : ℕ) (v : Vol) (disks : List Word) (p : PlannedMirror) : Type 0 where
  pub added : List Object
  pub laid : IsMirrorLaid c good v disks p.map added
  pub at : IsMirrorAt v p.map added p.plex
  pub free : IsFreeMapOf c v.name p.map
  pub next : IsPlanned (Make added ∷ []) c p.next
