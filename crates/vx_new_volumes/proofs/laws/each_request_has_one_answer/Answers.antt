use Rattle.vx_new_volumes.proofs.OneAnswer.{one_answer}
use Rattle.vx_new_volumes.proofs.laws.each_request_has_one_answer.Goals as goal

pub returns : goal.returns
returns c = one_answer c.each_has_one_free_list.ensures
