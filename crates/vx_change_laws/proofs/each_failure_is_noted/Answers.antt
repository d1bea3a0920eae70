-- Devices of a volume that runs have failed.
use Rattle.vx_change_laws.proofs.Failures.{failure_noted}
use Rattle.vx_change_laws.proofs.each_failure_is_noted.Goals as goal

pub returns : goal.returns
returns c = failure_noted
