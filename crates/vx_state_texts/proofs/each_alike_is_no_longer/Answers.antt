use Rattle.vx_state_texts.proofs.Alike.{alike_is_no_longer, change_stays_alike}
use Rattle.vx_state_texts.proofs.each_alike_is_no_longer.Goals as goal

pub returns-clause-text : goal.returns-clause-text
returns-clause-text c = alike_is_no_longer

pub returns-clause-change : goal.returns-clause-change
returns-clause-change c = change_stays_alike
