use Rattle.vx_fronts.proofs.Behind.{back_counted, back_held, lent_counted, lent_empty, pieces_tell, rests_counted, rests_stay}
use Rattle.vx_fronts.proofs.laws.each_rest_stays.Goals as goal

pub returns-clause-counted : goal.returns-clause-counted
returns-clause-counted c = rests_counted

pub returns-clause-stay : goal.returns-clause-stay
returns-clause-stay c = rests_stay

pub returns-clause-tell : goal.returns-clause-tell
returns-clause-tell c = pieces_tell

pub returns-clause-lent : goal.returns-clause-lent
returns-clause-lent c = lent_counted

pub returns-clause-empty : goal.returns-clause-empty
returns-clause-empty c = lent_empty

pub returns-clause-back : goal.returns-clause-back
returns-clause-back c = back_counted

pub returns-clause-held : goal.returns-clause-held
returns-clause-held c = back_held
