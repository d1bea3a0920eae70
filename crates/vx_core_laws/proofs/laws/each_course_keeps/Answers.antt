use Rattle.vx_core_laws.proofs.Courses.{course_keeps, schedule_keeps}
use Rattle.vx_core_laws.proofs.laws.each_course_keeps.Goals as goal

pub returns-clause-course : goal.returns-clause-course
returns-clause-course c = course_keeps

pub returns-clause-schedule : goal.returns-clause-schedule
returns-clause-schedule c = schedule_keeps
