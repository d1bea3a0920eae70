-- Without maps nothing is marked.
use Rattle.vx_mask.proofs.MaskLemmas.{has-zero}
use Rattle.vx_volume.proofs.log.VolumeLogMarker.marked.Goals as goal

pub returns-in-Absent : goal.returns-in-Absent
returns-in-Absent g c k = rw c.in-Absent.is (has-zero k)
