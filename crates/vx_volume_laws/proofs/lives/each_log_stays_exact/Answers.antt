-- A log stays exact.
use Rattle.vx_volume_laws.proofs.ExactLeft.{clean_left}
use Rattle.vx_volume_laws.proofs.ExactLogs.{clearing_exact, copy_exact, opening_exact, settling_exact}
use Rattle.vx_volume_laws.proofs.lives.each_log_stays_exact.Goals as goal

pub returns-clause-opened : goal.returns-clause-opened
returns-clause-opened c = opening_exact

pub returns-clause-settled : goal.returns-clause-settled
returns-clause-settled c = settling_exact

pub returns-clause-cleared : goal.returns-clause-cleared
returns-clause-cleared c = clearing_exact

pub returns-clause-copied : goal.returns-clause-copied
returns-clause-copied c = copy_exact

pub returns-clause-left : goal.returns-clause-left
returns-clause-left c = clean_left
