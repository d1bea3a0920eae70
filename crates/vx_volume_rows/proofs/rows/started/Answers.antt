use Rattle.vx_confdb.specs.Groups.{members}
use Rattle.vx_piece.specs.MemPiece.{mem_seen}
use Rattle.vx_volume_rows.proofs.rows.started.Goals as goal

pub open_volume-requires-clause-numbered : goal.open_volume-requires-clause-numbered
open_volume-requires-clause-numbered c κs = c.volumes_can_be_opened.ensures.numbered c.args.numbers.now (members mem_seen c.args.group) c.good_of.result c.args.config.now.disks (c.requires.disks c.good_of.result)

pub open_volume-requires-clause-free : goal.open_volume-requires-clause-free
open_volume-requires-clause-free c κs = λ form is. c.volumes_can_be_opened.ensures.free c.args.config.now c.good_of.result c.args.vol.now _ form is c.args.numbers.now (members mem_seen c.args.group) _ c.requires.parted c.requires.short (c.requires.disks c.good_of.result)
