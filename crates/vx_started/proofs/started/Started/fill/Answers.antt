use Rattle.std.proofs.Common.{◌∙◌}
use Rattle.std.proofs.lemmas.Result.{IfOk-weaker}
use Rattle.vx_started.proofs.Service.{fill_writes}
use Rattle.vx_started.proofs.started.Started.fill.Goals as goal

pub returns-clause-served : goal.returns-clause-served
returns-clause-served g c = IfOk-weaker c.write_bytes.result _ _ (λ end serves vol v shape. serves _ v (fill_writes vol c.args.start c.args.count c.args.byte _ (c.deref.ensures.value ∙ c.in_ok-bytes.ensures)) shape) c.write_bytes.ensures.served
