use Rattle.std.proofs.Common.{arith}
use Rattle.vx_record.specs.Table.{columns}
use Rattle.vx_objects.proofs.Fields.{fit_length, value_there, value_fits_there}
use Rattle.vx_objects.proofs.said.value.Goals as goal

pub bounds-attrs-index : goal.bounds-attrs-index
bounds-attrs-index c = omega (arith, fit_length (columns c.args.kind) c.args.attrs.now c.requires.form, c.requires.inside)

pub bounds-attrs-index-2 : goal.bounds-attrs-index-2
bounds-attrs-index-2 c = omega (arith, fit_length (columns c.args.kind) c.args.attrs.now c.requires.form, c.requires.inside)

pub returns-clause-there : goal.returns-clause-there
returns-clause-there c = value_there c.args.kind c.args.attrs.now c.args.index _ c.requires.form c.requires.inside

pub returns-clause-fits : goal.returns-clause-fits
returns-clause-fits c = value_fits_there c.args.kind c.args.attrs.now c.args.index _ c.requires.form c.requires.inside
