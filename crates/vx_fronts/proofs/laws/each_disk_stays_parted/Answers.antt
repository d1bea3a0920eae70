use Rattle.vx_fronts.proofs.Joined.{back_parted, lent_parted}
use Rattle.vx_fronts.proofs.Parted.{free_parted, parted_alone, parted_called, parted_committed, parted_once, parted_stay, private_parted}
use Rattle.vx_fronts.proofs.laws.each_disk_stays_parted.Goals as goal

pub returns-clause-alone : goal.returns-clause-alone
returns-clause-alone c = parted_alone

pub returns-clause-private : goal.returns-clause-private
returns-clause-private c = private_parted

pub returns-clause-once : goal.returns-clause-once
returns-clause-once c = parted_once

pub returns-clause-free : goal.returns-clause-free
returns-clause-free c = free_parted

pub returns-clause-stay : goal.returns-clause-stay
returns-clause-stay c = parted_stay

pub returns-clause-called : goal.returns-clause-called
returns-clause-called c = parted_called

pub returns-clause-committed : goal.returns-clause-committed
returns-clause-committed c = parted_committed

pub returns-clause-lent : goal.returns-clause-lent
returns-clause-lent c = lent_parted

pub returns-clause-back : goal.returns-clause-back
returns-clause-back c = back_parted
