-- The laws are lemmas.
use Rattle.vx_group_start.proofs.Together.{among, beside, contents, counts, own, together}
use Rattle.vx_group_start.proofs.laws.copies_alone_are_called.Goals as goal

pub returns-clause-together : goal.returns-clause-together
returns-clause-together c = together

pub returns-clause-beside : goal.returns-clause-beside
returns-clause-beside c = beside

pub returns-clause-among : goal.returns-clause-among
returns-clause-among c = among

pub returns-clause-holds : goal.returns-clause-holds
returns-clause-holds c = own

pub returns-clause-contents : goal.returns-clause-contents
returns-clause-contents c = contents

pub returns-clause-counts : goal.returns-clause-counts
returns-clause-counts c = counts
