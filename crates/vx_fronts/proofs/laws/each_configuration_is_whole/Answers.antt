use Rattle.vx_fronts.proofs.Groups.{each_configuration, each_lead, each_mask}
use Rattle.vx_fronts.proofs.laws.each_configuration_is_whole.Goals as goal

pub returns-clause-gives : goal.returns-clause-gives
returns-clause-gives c = each_configuration

pub returns-clause-mask : goal.returns-clause-mask
returns-clause-mask c = each_mask

pub returns-clause-led : goal.returns-clause-led
returns-clause-led c = each_lead
