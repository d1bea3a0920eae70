use Rattle.vx_objects.proofs.Fields.{number_fits}
use Rattle.vx_objects.proofs.printed.number.Goals as goal

pub returns-clause-fits : goal.returns-clause-fits
returns-clause-fits c = rw (c.value.ensures, c.number.ensures) (number_fits c.args.label c.args.number c.requires)
