-- How a volume is laid: which extents its plexes and logs get of the free space.
use Rattle.std.specs.Prelude.{ℕ, ◌*◌, ◌^◌, ◌==◌, ◌&&◌, nat_lt, nat_le, Bool, if◌then◌else◌, Result, Ok, Err, List, [], ◌∷◌, length}
use Rattle.vx_base.specs.Named.{Word}
use Rattle.vx_block.specs.Geometry.{is_geometry}
use Rattle.vx_mapfmt.specs.Sizes.{parts_of}
use Rattle.vx_rules.specs.Sizes.{log_length}
use Rattle.vx_space.specs.declared.extent.Extent.{Extent}
use Rattle.vx_new_volumes.specs.declared.fault.PlanFault.{PlanFault}
use Rattle.vx_new_volumes.specs.declared.fault.PlanFault.TheVariants.{TooFewDisks}
use Rattle.vx_new_volumes.specs.declared.request.Request.{Request}
use Rattle.vx_new_volumes.specs.declared.parts.Plan.{Plan}
use Rattle.vx_new_volumes.specs.Disks.{candidates, without}
use Rattle.vx_new_volumes.specs.Steps.{Taken, Step, and_then, repeated, place, spread}

-- 1 to 16 columns, a unit of 1 to 2^40 sectors, at most 8 mirrors and 2 logs
abbrev pub has_small_numbers : Request → Bool
has_small_numbers r = nat_le 1 r.ncol && (nat_le r.ncol 16 && (nat_le 1 r.unit && (nat_le r.unit (2 ^ 40) && (nat_le r.mirrors 8 && nat_le r.logs 2))))

-- what a request keeps to
abbrev pub is_request : Request → Bool
is_request r = is_geometry r.length r.region && has_small_numbers r

-- the sectors of a column of a stripe: whole units, as many as it takes
abbrev pub column_length : Request → ℕ
column_length r = r.unit * parts_of (r.ncol * r.unit) r.length

-- the one column of a plex
abbrev pub as_column : Taken (List Extent) → Result (Taken (List (List Extent))) PlanFault
as_column t = Ok (record { part = t.part ∷ []; disks = t.disks; free = t.free })

-- a mirror of one column takes from the disks in turn, a striped one each column from one disk
abbrev pub mirror : Request → Step (List (List Extent))
mirror r disks free =
    if r.ncol == 1
    then and_then (spread r.length disks free) as_column
    else repeated (place (column_length r)) r.ncol [] disks free

-- behind the mirrors, each log takes from a candidate that holds no other log of the request
abbrev pub then_logs : Request → List Word → Taken (List (List (List Extent))) → Result Plan PlanFault
then_logs r disks t =
    and_then (repeated (place (log_length r.length r.region)) r.logs [] disks t.free) (λ l. Ok (record { plexes = t.part; logs = l.part }))

-- the plan over these candidates, of which some are avoided by mirrors
abbrev pub plan_over : Request → List Word → List Word → List Extent → Result Plan PlanFault
plan_over r disks unused free =
    if nat_lt (length unused) (r.mirrors * r.ncol)
    then Err (TooFewDisks (r.mirrors * r.ncol))
    else and_then (repeated (mirror r) r.mirrors [] unused free) (then_logs r disks)

-- the plan over good disks by name and the free extents
abbrev pub rule : Request → List Word → List Extent → Result Plan PlanFault
rule r good free = plan_over r (candidates r.disks good) (without r.avoid (candidates r.disks good)) free
