use Rattle.vx_fronts.proofs.Behind.{devices_called, none_behind}
use Rattle.vx_fronts.proofs.laws.each_device_goes_on.Goals as goal

pub returns-clause-none : goal.returns-clause-none
returns-clause-none c = none_behind

pub returns-clause-called : goal.returns-clause-called
returns-clause-called c = devices_called
