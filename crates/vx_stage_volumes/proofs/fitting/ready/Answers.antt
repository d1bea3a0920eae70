use Rattle.std.proofs.Common.{◌≡◌, Some, rules}
use Rattle.vx_stages.specs.Tests.{volume_in}
use Rattle.vx_stage_volumes.proofs.Named.{found_of}
use Rattle.vx_stage_volumes.proofs.fitting.ready.Goals as goal

pub fits-requires : goal.fits-requires
fits-requires g c =
    let found : volume_in c.args.name.now c.args.group.now.config.volumes ≡ Some c.in-Some.vol = search rules in
    record { recorded = found_of c.args.group.now.config c.args.name.now c.in-Some.vol found }
