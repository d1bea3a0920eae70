use Rattle.vx_group_calls.proofs.Failures.{clearing_keeps, copying_keeps, opened_alive, settling_keeps}
use Rattle.vx_group_calls.proofs.laws.dead_regions_are_cut.Goals as goal

pub returns-clause-opened : goal.returns-clause-opened
returns-clause-opened c = opened_alive

pub returns-clause-settled : goal.returns-clause-settled
returns-clause-settled c = settling_keeps

pub returns-clause-cleared : goal.returns-clause-cleared
returns-clause-cleared c = clearing_keeps

pub returns-clause-copied : goal.returns-clause-copied
returns-clause-copied c = copying_keeps
