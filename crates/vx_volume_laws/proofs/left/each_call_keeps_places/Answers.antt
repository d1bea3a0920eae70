use Rattle.vx_volume_laws.proofs.Keepings.{each_clearing_keeps, each_copy_keeps, each_read_keeps, each_settling_keeps, each_write_keeps, keeping_keeps}
use Rattle.vx_volume_laws.proofs.left.each_call_keeps_places.Goals as goal

pub returns-clause-read : goal.returns-clause-read
returns-clause-read c = each_read_keeps

pub returns-clause-written : goal.returns-clause-written
returns-clause-written c = each_write_keeps

pub returns-clause-settled : goal.returns-clause-settled
returns-clause-settled c = each_settling_keeps

pub returns-clause-cleared : goal.returns-clause-cleared
returns-clause-cleared c = each_clearing_keeps

pub returns-clause-copied : goal.returns-clause-copied
returns-clause-copied c = each_copy_keeps

pub returns-clause-again : goal.returns-clause-again
returns-clause-again c = keeping_keeps
