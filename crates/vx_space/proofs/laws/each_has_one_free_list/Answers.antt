use Rattle.std.proofs.Common.{sym, ◌∙◌}
use Rattle.vx_space.proofs.OneList.{one_list}
use Rattle.vx_space.proofs.laws.each_has_one_free_list.Goals as goal

pub returns : goal.returns
returns c config good es fs p q = one_list es fs p.order q.order (λ d x. p.sectors d x ∙ sym (q.sectors d x))
