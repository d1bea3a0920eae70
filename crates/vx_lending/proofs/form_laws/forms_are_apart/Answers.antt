use Rattle.vx_lending.proofs.Places.{forms_apart}
use Rattle.vx_lending.proofs.form_laws.forms_are_apart.Goals as goal

pub returns : goal.returns
returns c = forms_apart
