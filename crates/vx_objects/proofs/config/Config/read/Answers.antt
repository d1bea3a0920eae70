use Rattle.vx_objects.proofs.Readings.{ok_read}
use Rattle.vx_objects.proofs.config.Config.read.Goals as goal

pub returns-clause-made : goal.returns-clause-made
returns-clause-made c =
    ok_read c.from_objects.result c.args.records.now c.in-Ok.all.items c.deref.result.now c.deref.ensures.value c.from_objects.ensures.made c.in-Ok.ensures
