use Rattle.std.proofs.Common.{◌∙◌, sym}
use Rattle.vx_volume_rows.proofs.Matches.{are_disks}
use Rattle.vx_volume_rows.proofs.matching.are_group_disks.Goals as goal

pub returns : goal.returns
returns c = λ is. are_disks c.args.numbers.now c.args.config.now.disks c.args.group.now.disks.items (sym (rw (c.disks.ensures, c.as_slice.ensures) at c.all_are_disks.ensures) ∙ is)
