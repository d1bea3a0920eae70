-- Loose marks are written again.
use Rattle.vx_volume.proofs.Switchings.{firming_goes, firming_tightens}
use Rattle.vx_volume.proofs.laws.each_firming_goes_on.Goals as goal

pub returns-clause-follows : goal.returns-clause-follows
returns-clause-follows c = firming_goes

pub returns-clause-tight : goal.returns-clause-tight
returns-clause-tight c = firming_tightens
