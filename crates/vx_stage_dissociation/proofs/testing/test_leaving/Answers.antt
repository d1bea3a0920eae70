use Rattle.std.proofs.Common.{◌≡◌, Some, rules}
use Rattle.std.proofs.lemmas.Result.{err_from_is_err_and}
use Rattle.vx_stages.specs.Plexes.{plex_in}
use Rattle.vx_stages.specs.Tests.{volume_in}
use Rattle.vx_stage_mirrors.specs.LogEnding.{is_running}
use Rattle.vx_stage_volumes.specs.Opening.{good_of}
use Rattle.vx_stage_dissociation.proofs.Tests.{refused_as}
use Rattle.vx_stage_dissociation.proofs.testing.test_leaving.Goals as goal

pub returns-in_err-test_in_volume-clause-refused : goal.returns-in_err-test_in_volume-clause-refused
returns-in_err-test_in_volume-clause-refused g c =
    let p = err_from_is_err_and c.from_residual.result c.from_residual.ensures.1 in
    let group = c.args.group.now in
    let found : plex_in c.args.name.now group.config.plexes ≡ Some c.in-Some.plex = search rules in
    let there : volume_in c.in-Some-vol.vol group.config.volumes ≡ Some c.in-Some-volume_in.volume = search rules in
    rw (p.1, p.2)
    (refused_as (is_running group) group.config (good_of g.P.Piece.seen group) c.args.remove c.args.name.now c.in-Some.plex c.in-Some-vol.vol c.in-Some-volume_in.volume found c.in-Some-vol.is there
    c.contains_key-runs.result c.contains_key-runs.ensures c.good.result c.good.ensures.just c.in_err-test_in_volume.field-0.0 c.in_err-test_in_volume.ensures.refused)
