use Rattle.vx_group_volumes.proofs.Copied.{copy_misses_nothing, copy_unmarks_all, unmarked_misses_nothing}
use Rattle.vx_group_volumes.proofs.Tight.{stays_tight}
use Rattle.vx_group_volumes.proofs.each_copy_misses_nothing.Goals as goal

pub returns-clause-unmarks : goal.returns-clause-unmarks
returns-clause-unmarks c = copy_unmarks_all

pub returns-clause-tight : goal.returns-clause-tight
returns-clause-tight c = stays_tight

pub returns-clause-unmarked : goal.returns-clause-unmarked
returns-clause-unmarked c = unmarked_misses_nothing

pub returns-clause-nothing : goal.returns-clause-nothing
returns-clause-nothing c = copy_misses_nothing
