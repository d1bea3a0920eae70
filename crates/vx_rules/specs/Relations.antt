-- The relations of snapshots to their originals.
use Rattle.std.specs.Prelude.{ℕ, Bool, Option, None, List, ◌==◌, ◌&&◌, not, is_some}
use Rattle.std.specs.List.{list_any, count_by}
use Rattle.std.specs.Str.{bytes_eq}
use Rattle.vx_base.specs.Named.{Word}
use Rattle.vx_config_parts.specs.declared.snap.Snap.{Snap}
use Rattle.vx_config_parts.specs.declared.object.Object.{Object}
use Rattle.vx_config_parts.specs.declared.object.Object.TheVariants.{SnapRecord}
use Rattle.vx_config_parts.specs.declared.fault.Limit.TheVariants.{Region}
use Rattle.vx_config_parts.specs.declared.fault.ObjectFault.{ObjectFault}
use Rattle.vx_config_parts.specs.declared.fault.ObjectFault.TheVariants.{InUse, NoLog, Limit}
use Rattle.vx_config_parts.specs.Objects.{is_vol, is_snap}
use Rattle.vx_rules.specs.Faults.{first_some, unless}

-- the snapshot has one relation, and its original is no snapshot
abbrev pub relation_is_alone : List Object → Snap → Bool
relation_is_alone all s = count_by (λ o. is_snap (λ t. bytes_eq t.vol s.vol) o) all == 1 && not (list_any (λ o. is_snap (λ t. bytes_eq t.vol s.of) o) all)

abbrev pub relation_fault : List Object → Object → Option ObjectFault
relation_fault all (SnapRecord s) = unless (relation_is_alone all s) (InUse s.vol)
relation_fault all _ = None

-- the volume has a DCO
abbrev pub is_prepared : List Object → Word → Bool
is_prepared all vol = list_any (λ o. is_vol (λ v. bytes_eq v.name vol && is_some v.dco) o) all

abbrev pub relation_log_fault : List Object → Object → Option ObjectFault
relation_log_fault all (SnapRecord s) = first_some (unless (is_prepared all s.vol) (NoLog s.vol)) (unless (is_prepared all s.of) (NoLog s.of))
relation_log_fault all _ = None

-- there is a volume of that name with the length and region
abbrev pub has_shape : List Object → Word → ℕ → ℕ → Bool
has_shape all vol len region = list_any (λ o. is_vol (λ v. bytes_eq v.name vol && v.len == len && v.region == region) o) all

-- snapshot and original have one length and one region
abbrev pub shapes_are_equal : List Object → Snap → Bool
shapes_are_equal all s = list_any (λ o. is_vol (λ v. bytes_eq v.name s.vol && has_shape all s.of v.len v.region) o) all

abbrev pub shape_fault : List Object → Object → Option ObjectFault
shape_fault all (SnapRecord s) = unless (shapes_are_equal all s) (Limit Region)
shape_fault all _ = None
