use Rattle.vx_fronts.proofs.Entries.{each_addition, each_entry}
use Rattle.vx_fronts.proofs.laws.each_entry_is_whole.Goals as goal

pub returns-clause-entry : goal.returns-clause-entry
returns-clause-entry c = each_entry

pub returns-clause-added : goal.returns-clause-added
returns-clause-added c = each_addition
