-- The tests of a new volume before it is planned, in their order.
use Rattle.std.specs.Prelude.{◌&&◌, ◌||◌, not, nat_lt, nat_le, Bool, true, Option, Some, None, List, [], ◌∷◌}
use Rattle.std.specs.List.{count_by}
use Rattle.vx_base.specs.Named.{Word}
use Rattle.vx_block.specs.Geometry.{is_region_size, is_geometry}
use Rattle.vx_config_parts.specs.declared.object.Object.{Object}
use Rattle.vx_config_parts.specs.declared.fault.Limit.TheVariants as limit
use Rattle.vx_config_parts.specs.declared.fault.ObjectFault.{ObjectFault}
use Rattle.vx_config_parts.specs.declared.fault.ObjectFault.TheVariants.{Exists, Limit, NoLog, NoObject}
use Rattle.vx_config_parts.specs.Objects.{is_vol}
use Rattle.vx_rules.specs.Faults.{first_some, unless}
use Rattle.vx_rules.specs.Limits.{is_short_name}
use Rattle.vx_rules.specs.References.{has_disk, has_name}
use Rattle.vx_new_volumes.specs.Rule.{has_small_numbers}
use Rattle.vx_new_volumes.specs.declared.volume.NewVolume.{NewVolume}
use Rattle.vx_new_volumes.specs.Records.{dco_name, has_logs}

-- the first of the names that is no disk's
abbrev pub absent_disk : List Object → List Word → Option ObjectFault
absent_disk group [] = None
absent_disk group (d ∷ ds) = first_some (unless (has_disk d group) (NoObject d)) (absent_disk group ds)

-- there is room for one more volume
abbrev pub has_room : List Object → Bool
has_room group = nat_lt (count_by (λ o. is_vol (λ v. true) o) group) 64

-- the limits: how many volumes, the length of the name, regions, and the numbers of the request
abbrev pub limit_fault : List Object → NewVolume → Option ObjectFault
limit_fault group n =
    first_some (unless (has_room group) (Limit limit.Volumes))
    (first_some (unless (is_short_name n.vol) (Limit limit.Name))
    (first_some (unless (is_region_size n.request.region) (Limit limit.Region))
    (first_some (unless (is_geometry n.request.length n.request.region) (Limit limit.Regions))
    (unless (has_small_numbers n.request) (Limit limit.Number)))))

-- the DCO's name is the group's already, where there is to be one
abbrev pub dco_fault_named : List Object → NewVolume → Option Word → Option ObjectFault
dco_fault_named group n None = None
dco_fault_named group n (Some dco) = unless (not (has_logs n && has_name dco group)) (Exists dco)

-- the names of the volume and of its DCO are free; a volume of the name may be started without a record
abbrev pub name_fault : Bool → List Object → NewVolume → Option ObjectFault
name_fault started group n =
    first_some (unless (not (started || has_name n.vol group)) (Exists n.vol)) (dco_fault_named group n (dco_name n.vol))

-- a volume of several plexes has a log
abbrev pub log_fault : NewVolume → Option ObjectFault
log_fault n = unless (nat_le n.request.mirrors 1 || has_logs n) (NoLog n.vol)

-- Why the volume cannot be made in a group of these records, whatever space there is. The first says whether a volume of the name is
-- started.
unfoldable pub new_fault : Bool → List Object → NewVolume → Option ObjectFault
new_fault started group n =
    first_some (absent_disk group n.request.disks)
    (first_some (limit_fault group n)
    (first_some (name_fault started group n)
    (log_fault n)))
