use Rattle.vx_lending.proofs.Places.{form_lies, form_free}
use Rattle.vx_lending.proofs.form_laws.forms_lie_on_good_disks.Goals as goal

pub returns-clause-lie : goal.returns-clause-lie
returns-clause-lie c = form_lies

pub returns-clause-free : goal.returns-clause-free
returns-clause-free c = form_free
