use Rattle.vx_fronts.proofs.Groups.{each_commit, each_text, each_write}
use Rattle.vx_fronts.proofs.laws.each_commit_is_whole.Goals as goal

pub returns-clause-commits : goal.returns-clause-commits
returns-clause-commits c = each_commit

pub returns-clause-carries : goal.returns-clause-carries
returns-clause-carries c = each_text

pub returns-clause-writes : goal.returns-clause-writes
returns-clause-writes c = each_write
