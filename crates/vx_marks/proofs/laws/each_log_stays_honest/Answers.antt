use Rattle.vx_marks.proofs.Honest.{mark_stays, unmark_stays, others_stay}
use Rattle.vx_marks.proofs.laws.each_log_stays_honest.Goals as goal

pub returns-clause-marked : goal.returns-clause-marked
returns-clause-marked c = mark_stays

pub returns-clause-unmarked : goal.returns-clause-unmarked
returns-clause-unmarked c = unmark_stays

pub returns-clause-others : goal.returns-clause-others
returns-clause-others c = others_stay
