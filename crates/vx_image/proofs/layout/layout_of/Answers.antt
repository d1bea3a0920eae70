use Rattle.std.proofs.Common.{◌≡◌, true, sym, subst}
use Rattle.vx_layout.specs.Valid.{is_layout}
use Rattle.vx_objects.specs.Config.{objects_of}
use Rattle.vx_config_parts.specs.declared.object.Object.TheVariants.{PlexRecord}
use Rattle.vx_image.specs.Lies.{HoldsItsVolume, are_on_disks}
use Rattle.vx_image.proofs.PlexMembers.{one_in}
use Rattle.vx_image.proofs.Plexes.{config_valid}
use Rattle.vx_image.proofs.Apart.{columns_inside}
use Rattle.vx_image.proofs.Shapes.{lies, holds_its_volume}
use Rattle.vx_image.proofs.layout.layout_of.Goals as goal

pub invariant_of-result : goal.invariant_of-result
invariant_of-result c =
    let config = c.args.config.now in
    let plex = c.args.plex.now in
    record { valid = subst (λ columns. is_layout plex.unit columns ≡ true) (sym c.in_ok-columns.ensures) (lies config (config_valid config) plex (one_in (objects_of config) (PlexRecord plex) c.requires)) }

pub returns-clause-holds : goal.returns-clause-holds
returns-clause-holds c =
    let config = c.args.config.now in
    let plex = c.args.plex.now in
    subst (λ columns. HoldsItsVolume config plex columns) (sym c.in_ok-columns.ensures) (holds_its_volume config (config_valid config) plex (one_in (objects_of config) (PlexRecord plex) c.requires))

pub returns-clause-inside : goal.returns-clause-inside
returns-clause-inside c =
    let config = c.args.config.now in
    let plex = c.args.plex.now in
    subst (λ columns. are_on_disks config.disks columns ≡ true) (sym c.in_ok-columns.ensures) (columns_inside config (config_valid config) plex.ncol plex.name 0)
