-- Notes of a course are told by its entries.
use Rattle.vx_volume.proofs.Notes.{course_noted}
use Rattle.vx_volume.proofs.laws.each_course_is_noted.Goals as goal

pub returns : goal.returns
returns c = course_noted
