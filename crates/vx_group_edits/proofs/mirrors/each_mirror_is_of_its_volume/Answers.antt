-- The records of a mirror are of its volume.
use Rattle.vx_group_edits.proofs.Records.{mirror_is_of}
use Rattle.vx_group_edits.proofs.mirrors.each_mirror_is_of_its_volume.Goals as goal

pub returns : goal.returns
returns c = mirror_is_of
