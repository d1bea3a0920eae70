use Rattle.std.proofs.Common.{◌∙◌}
use Rattle.vx_print.proofs.Choice.{by_set}
use Rattle.vx_print.proofs.shown.of_volume.Goals as goal

pub returns : goal.returns
returns c = c.in_ok-shown.ensures ∙ by_set c.args.vol.now c.args.all.now c.in_ok-plexes.plexes c.in_ok-plexes.ensures
