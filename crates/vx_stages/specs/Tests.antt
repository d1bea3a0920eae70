-- The tests of commands: each says with which refusal it fails in a world.
use Rattle.std.specs.Prelude.{ℕ, ◌+◌, ◌&&◌, ◌||◌, nat_lt, Bool, true, false, not, if◌then◌else◌, is_some, Option, Some, None, List, [], ◌∷◌, length}
use Rattle.std.specs.List.{list_all, list_any}
use Rattle.std.specs.Str.{bytes_eq}
use Rattle.vx_base.specs.Named.{Word}
use Rattle.vx_block.specs.Geometry.{is_geometry}
use Rattle.vx_header.specs.Sectors.{is_short_name}
use Rattle.vx_config_parts.specs.declared.plex.PlexKind.{PlexKind}
use Rattle.vx_config_parts.specs.declared.plex.PlexKind.TheVariants.{Data, Log}
use Rattle.vx_config_parts.specs.declared.vol.Vol.{Vol}
use Rattle.vx_config_parts.specs.declared.fault.Limit.TheVariants as limit
use Rattle.vx_config_parts.specs.Objects.{refers, comes_before}
use Rattle.vx_rules.specs.Rules.{first_broken}
use Rattle.vx_script_words.specs.declared.value.DiskAt.{DiskAt}
use Rattle.vx_answers.specs.declared.refusal.Refusal.{Refusal}
use Rattle.vx_answers.specs.declared.refusal.Refusal.TheVariants as refusal
use Rattle.vx_moments.specs.World.{World, Volume, Group}
use Rattle.vx_moments.specs.Holding.{has_volume}
use Rattle.vx_stages.specs.Records.{devices_of, names_of, sectors_at, are_disk_sized, slot_in, new_records}
use Rattle.vx_stages.specs.Refusals.{refusal_from}
use Rattle.vx_stages.specs.declared.test.Test.{Test}
use Rattle.vx_stages.specs.declared.test.Test.TheVariants as tests

-- refused so, unless the condition holds
abbrev pub unless : Bool → Refusal → Option Refusal
unless holds r = if holds then None else Some r

-- refused so, where the condition holds
abbrev pub where_ : Bool → Refusal → Option Refusal
where_ holds r = if holds then Some r else None

-- the first limit that is passed: on the devices, on the number of disks, on the length of names
abbrev pub limit_passed : ℕ → List Word → Bool → Option Refusal
limit_passed count names sized =
    if not sized then Some refusal.DeviceLimit
    else (if nat_lt 32 count then Some (refusal.Limit limit.Disks)
    else unless (list_all is_short_name names) (refusal.Limit limit.Name))

-- the group is the one that is named, if one is
abbrev pub is_meant : Option Word → Group → Bool
is_meant None g = true
is_meant (Some name) g = bytes_eq g.config.group name

-- the imported group is the one that is named
abbrev pub is_here : Option Word → Option Group → Bool
is_here dg None = false
is_here dg (Some g) = is_meant dg g

-- the imported group is in use
abbrev pub in_use : Option Group → Option Refusal
in_use None = None
in_use (Some g) = Some (refusal.InUse g.config.group)

-- the volume of the name in a list of them
abbrev pub volume_in : Word → List Vol → Option Vol
volume_in name [] = None
volume_in name (v ∷ vs) = if bytes_eq v.name name then Some v else volume_in name vs

-- the imported group's volume of the name
abbrev pub recorded : Word → Option Group → Option Vol
recorded name None = None
recorded name (Some g) = volume_in name g.config.volumes

-- the first by name of two
abbrev pub earlier : Word → Option Word → Option Word
earlier name None = Some name
earlier name (Some other) = if comes_before other name then Some other else Some name

-- the first by name of the volumes that are started
abbrev pub first_started : (Word → Option Volume) → List Vol → Option Word
first_started started [] = None
first_started started (v ∷ vs) = if is_some (started v.name) then earlier v.name (first_started started vs) else first_started started vs

-- the group's first volume by name that is started
abbrev pub started_of : (Word → Option Volume) → Option Group → Option Word
started_of started None = None
started_of started (Some g) = first_started started g.config.volumes

abbrev pub in_use_by : Option Word → Option Refusal
in_use_by None = None
in_use_by (Some name) = Some (refusal.InUse name)

-- the volume's state does not fit
abbrev pub state_of : Option Vol → Option Refusal
state_of None = None
state_of (Some v) = Some (refusal.VolState v.state)

-- the group has a relation of the volume, as the snapshot or as the original
abbrev pub is_related : Word → Option Group → Bool
is_related vol None = false
is_related vol (Some g) = list_any (λ s. bytes_eq s.vol vol || bytes_eq s.of vol) g.config.snaps

abbrev pub is_data : PlexKind → Bool
is_data Data = true
is_data Log = false

-- the plex is a data plex of the volume
abbrev pub is_data_plex : Word → Word → Option Group → Bool
is_data_plex vol plex None = false
is_data_plex vol plex (Some g) = list_any (λ p. bytes_eq p.name plex && refers p.vol vol && is_data p.kind) g.config.plexes

-- a volume of the name is started, or recorded
abbrev pub is_volume : Word → World → Bool
is_volume vol w = is_some (w.volumes vol) || has_volume w.group vol

-- with which refusal the test fails in the world, if it does; the disks are those that the command names
unfoldable pub fails : Test → List DiskAt → World → Option Refusal
fails (tests.Sized device) disks w = unless (is_geometry (sectors_at w device) 128) (refusal.Limit limit.Regions)
fails tests.NoGroup disks w = in_use w.group
fails (tests.GroupIs dg) disks w = unless (is_here dg w.group) (refusal.NoGroup dg)
fails (tests.GroupLimits dg) disks w = limit_passed (length disks) (dg ∷ names_of disks) (are_disk_sized w (devices_of disks))
fails tests.JoinLimits disks w = limit_passed (slot_in w.group + 1) (names_of disks) (are_disk_sized w (devices_of disks))
fails (tests.GroupRecords dg) disks w = refusal_from (first_broken (new_records dg w disks))
fails (tests.HasVolume vol) disks w = unless (is_some (recorded vol w.group)) (refusal.NoObject vol)
fails tests.NoneStarted disks w = in_use_by (started_of w.volumes w.group)
fails (tests.Stopped vol) disks w = if is_some (w.volumes vol) then state_of (recorded vol w.group) else None
fails (tests.Unrelated vol) disks w = where_ (is_related vol w.group) (refusal.InUse vol)
fails (tests.HasPlex vol plex) disks w = unless (is_data_plex vol plex w.group) (refusal.NoObject plex)
