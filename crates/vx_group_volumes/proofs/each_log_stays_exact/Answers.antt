use Rattle.vx_group_volumes.proofs.ExactPasses.{copying_exact, rest_exact}
use Rattle.vx_group_volumes.proofs.ExactRests.{well_rest_clean}
use Rattle.vx_group_volumes.proofs.each_log_stays_exact.Goals as goal

pub returns-clause-copied : goal.returns-clause-copied
returns-clause-copied c = copying_exact

pub returns-clause-rested : goal.returns-clause-rested
returns-clause-rested c = rest_exact

pub returns-clause-clean : goal.returns-clause-clean
returns-clause-clean c = well_rest_clean
