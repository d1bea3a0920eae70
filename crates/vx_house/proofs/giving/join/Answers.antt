use Rattle.std.proofs.Common.{refl}
use Rattle.vx_house.proofs.Joined.{group_same, still_some, holders_joined, holders_same, idle_new, parted_alone, whole_new}
use Rattle.vx_house.proofs.Results.{on_both, on_err}
use Rattle.vx_house.proofs.giving.join.Goals as goal

pub close_group-requires-clause-parted : goal.close_group-requires-clause-parted
close_group-requires-clause-parted g c κs within = parted_alone g.P.Piece.seen c.requires.alike c.args.group.now c.requires.whole c.requires.idle

pub returns-clause-closed : goal.returns-clause-closed
returns-clause-closed g c = on_both c.close_group.result (λ counts told. holders_joined g.P.Piece.seen c.requires.alike c.args.group.now c.requires.whole c.requires.idle _ counts told) c.close_group.ensures.counts c.close_group.ensures.whole

pub returns-clause-same : goal.returns-clause-same
returns-clause-same g c = on_err c.close_group.result (holders_same g.P.Piece.seen c.requires.alike c.args.group.now (record c.args.group.now { base = c.close_group.new.group; public = record c.args.group.now.public { pool = c.close_group.new.pool } }) c.requires.whole c.requires.idle refl refl refl c.close_group.ensures.same)

pub returns-clause-group : goal.returns-clause-group
returns-clause-group g c = on_err c.close_group.result (group_same g.P.Piece.seen c.args.group.now (record c.args.group.now { base = c.close_group.new.group; public = record c.args.group.now.public { pool = c.close_group.new.pool } }) refl c.close_group.ensures.group c.close_group.ensures.same.disks)

pub returns-clause-whole : goal.returns-clause-whole
returns-clause-whole g c = on_err c.close_group.result (whole_new g.P.Piece.seen c.requires.alike c.args.group.now (record c.args.group.now { base = c.close_group.new.group; public = record c.args.group.now.public { pool = c.close_group.new.pool } }) c.requires.whole c.requires.idle refl refl refl c.close_group.ensures.same)

pub returns-clause-disks : goal.returns-clause-disks
returns-clause-disks g c = on_err c.close_group.result (still_some g.P.Piece.seen c.args.group.now.base.disks.items c.close_group.new.group.disks.items c.close_group.ensures.same.disks c.requires.some)

pub returns-clause-idle : goal.returns-clause-idle
returns-clause-idle g c = on_err c.close_group.result (idle_new g.P.Piece.seen c.requires.alike c.args.group.now (record c.args.group.now { base = c.close_group.new.group; public = record c.args.group.now.public { pool = c.close_group.new.pool } }) c.requires.whole c.requires.idle refl refl refl c.close_group.ensures.same)
