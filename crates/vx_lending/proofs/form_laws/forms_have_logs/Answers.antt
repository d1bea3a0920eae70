use Rattle.vx_lending.proofs.Rooms.{logs_are}
use Rattle.vx_lending.proofs.form_laws.forms_have_logs.Goals as goal

pub returns : goal.returns
returns c = logs_are
