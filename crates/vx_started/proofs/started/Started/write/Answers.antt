use Rattle.std.proofs.Common.{◌∙◌, arith}
use Rattle.std.proofs.lemmas.Result.{IfOk-weaker}
use Rattle.vx_started.proofs.Service.{data_writes}
use Rattle.vx_started.proofs.started.Started.write.Goals as goal

pub returns-clause-served : goal.returns-clause-served
returns-clause-served g c = IfOk-weaker c.write_bytes.result _ _ (λ end serves vol v shape. serves _ v (data_writes vol c.args.start _ c.args.blocks.now _ (c.deref.ensures.value ∙ c.in_ok-bytes.ensures) (omega (arith, c.count.ensures))) shape) c.write_bytes.ensures.served
