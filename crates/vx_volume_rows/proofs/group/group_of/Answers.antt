use Rattle.std.proofs.Common.{rules}
use Rattle.vx_volume_rows.proofs.Parts.{two_disks}
use Rattle.vx_volume_rows.proofs.group.group_of.Goals as goal

pub returns : goal.returns
returns c =
    two_disks c.each_disk_stays_parted.ensures.alone c.each_joined_disk_is_whole.ensures.parted c.of-2.result.disks.items c.disk_of-first.result c.disk_of-second.result c.args.first c.args.second (search rules)
    (record { piece = search rules; sectors = search rules; start = search rules; private = search rules })
    (record { piece = search rules; sectors = search rules; start = search rules; private = search rules })
    (search rules)
