use Rattle.vx_volume_laws.proofs.Configurations.{keeping_goes_on, kept_named, volume_kept}
use Rattle.vx_volume_laws.proofs.left.each_volume_is_kept.Goals as goal

pub returns-clause-own : goal.returns-clause-own
returns-clause-own c = volume_kept

pub returns-clause-again : goal.returns-clause-again
returns-clause-again c = keeping_goes_on

pub returns-clause-named : goal.returns-clause-named
returns-clause-named c = kept_named
