-- All regions go on through a pass.
use Rattle.vx_volume.proofs.PassHistories.{clear_pass, copy_pass, settle_pass}
use Rattle.vx_volume.proofs.laws.each_pass_goes_on.Goals as goal

pub returns-clause-settled : goal.returns-clause-settled
returns-clause-settled c = settle_pass

pub returns-clause-cleared : goal.returns-clause-cleared
returns-clause-cleared c = clear_pass

pub returns-clause-copied : goal.returns-clause-copied
returns-clause-copied c = copy_pass
