use Rattle.vx_objects.proofs.Readings.{read_more}
use Rattle.vx_objects.proofs.records.objects_of.Goals as goal

pub loop-entry-preserved : goal.loop-entry-preserved
loop-entry-preserved c =
    record { read = read_more c.args.records.now c.loop-entry.entry-index c.entry-item.result c.loop-entry.all.items c.join.new.out.items c.object_of.result c.loop-entry-test.true c.entry-item.is c.loop-entry.invariant.read c.object_of.ensures c.in_ok-join.ensures }
