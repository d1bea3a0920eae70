use Rattle.vx_stage_gates.proofs.DiskLists.{few_disks}
use Rattle.vx_stage_gates.proofs.test.failing.Goals as goal

pub has_group_records-requires-clause-few : goal.has_group_records-requires-clause-few
has_group_records-requires-clause-few g c κs within = few_disks c.in-GroupRecords.dg c.args.disks.now _ ((rw c.in-GroupRecords.is at c.requires.ready.wants).1.0)
