-- The record of a name, where names differ.
use Rattle.std.specs.Prelude.{Option, Some, None, List, [], ◌∷◌, if◌then◌else◌}
use Rattle.std.specs.Str.{bytes_eq}
use Rattle.vx_base.specs.Named.{Word}
use Rattle.vx_config_parts.specs.declared.disk.Disk.{Disk}
use Rattle.vx_config_parts.specs.declared.plex.Plex.{Plex}
use Rattle.vx_config_parts.specs.declared.vol.Vol.{Vol}
use Rattle.vx_config_parts.specs.declared.dco.Dco.{Dco}
use Rattle.vx_config_parts.specs.declared.object.Object.{Object}
use Rattle.vx_config_parts.specs.declared.object.Object.TheVariants.{DiskRecord, PlexRecord, VolRecord, DcoRecord}
use Rattle.vx_config_parts.specs.Objects.{name_of}

-- the first record of the name
abbrev pub first_named : Word → List Object → Option Object
first_named name [] = None
first_named name (o ∷ os) = if bytes_eq (name_of o) name then Some o else first_named name os

abbrev pub as_disk : Option Object → Option Disk
as_disk (Some (DiskRecord d)) = Some d
as_disk _ = None

abbrev pub as_plex : Option Object → Option Plex
as_plex (Some (PlexRecord p)) = Some p
as_plex _ = None

abbrev pub as_vol : Option Object → Option Vol
as_vol (Some (VolRecord v)) = Some v
as_vol _ = None

abbrev pub as_dco : Option Object → Option Dco
as_dco (Some (DcoRecord d)) = Some d
as_dco _ = None
