-- Edits that are of one volume alone.
use Rattle.std.specs.Prelude.{◌≡◌, Bool, true, false, Option, Some, None, List, [], ◌∷◌, Contains}
use Rattle.std.specs.List.{list_all}
use Rattle.vx_base.specs.Named.{Word}
use Rattle.vx_config_parts.specs.declared.dco.Dco.{Dco}
use Rattle.vx_config_parts.specs.declared.object.Object.{Object}
use Rattle.vx_config_parts.specs.declared.object.Object.TheVariants.{SubdiskRecord, PlexRecord}
use Rattle.vx_config_parts.specs.declared.plex.Plex.{Plex}
use Rattle.vx_config_parts.specs.declared.vol.Vol.{Vol}
use Rattle.vx_config_parts.specs.Objects.{refers}
use Rattle.vx_objects.specs.declared.config.Config.{Config}
use Rattle.vx_objects.specs.declared.edit.Edit.{Edit}
use Rattle.vx_objects.specs.declared.edit.Edit.TheVariants.{AddDco, Make, RemoveDco, RemovePlex, SetPlex, SetRegion, SetVol}
use Rattle.vx_objects.specs.Edits.{names_plex_of}

-- the record is a plex of the volume, or a subdisk of a plex of the volume that is added with it
abbrev pub is_part_of : Word → List Object → Object → Bool
is_part_of vol added (PlexRecord p) = refers p.vol vol
is_part_of vol added (SubdiskRecord s) = names_plex_of s.plex vol added
is_part_of vol added o = false

-- the records are plexes of the volume and their subdisks
abbrev pub AreOf : Word → List Object → Type 0
AreOf vol added = list_all (is_part_of vol added) added ≡ true

-- the attribute names no volume but this one
abbrev pub NamesNoOther : Word → Option Word → Type 0
NamesNoOther vol None = Unit {0}
NamesNoOther vol (Some name) = name ≡ vol

-- what the configuration has of plexes of that name is of no other volume
abbrev pub IsPlexNameOf : Config → Word → Word → Type 0
IsPlexNameOf c vol plex = (p : Plex) → Contains c.plexes p → p.name ≡ plex → NamesNoOther vol p.vol

-- the DCO of that name is the volume's: no other volume names it, and what the configuration has of DCOs of that name is of the volume
pub record IsDcoNameOf (c : Config) (vol dco : Word) : Type 0 where
  pub records : (d : Dco) → Contains c.dcos d → d.name ≡ dco → d.vol ≡ vol
  pub volumes : (v : Vol) → Contains c.volumes v → v.dco ≡ Some dco → v.name ≡ vol

-- the edit is of the volume alone: it adds plexes to it, changes or removes one of its plexes, changes itself, or gives or takes its DCO
abbrev pub IsEditOf : Config → Word → Edit → Type 0
IsEditOf c vol (Make added) = AreOf vol added
IsEditOf c vol (SetPlex plex to next map) = NamesNoOther vol to × IsPlexNameOf c vol plex
IsEditOf c vol (SetVol name next policy) = name ≡ vol
IsEditOf c vol (SetRegion name region) = name ≡ vol
IsEditOf c vol (AddDco dco) = dco.vol ≡ vol
IsEditOf c vol (RemovePlex plex) = IsPlexNameOf c vol plex
IsEditOf c vol (RemoveDco dco) = IsDcoNameOf c vol dco
IsEditOf c vol edit = ⊥

-- each of the edits is
abbrev pub AreEditsOf : Config → Word → List Edit → Type 0
AreEditsOf c vol [] = Unit {0}
AreEditsOf c vol (edit ∷ edits) = IsEditOf c vol edit × AreEditsOf c vol edits
