use Rattle.vx_lending.proofs.Places.{can_be_taken}
use Rattle.vx_lending.proofs.form_laws.forms_can_be_taken.Goals as goal

pub returns : goal.returns
returns c = λ config good v fresh form of is. can_be_taken config good v fresh form is of
