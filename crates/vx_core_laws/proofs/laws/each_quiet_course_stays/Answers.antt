use Rattle.vx_core_laws.proofs.Stills.{quiet_course, quiet_schedule}
use Rattle.vx_core_laws.proofs.laws.each_quiet_course_stays.Goals as goal

pub returns-clause-course : goal.returns-clause-course
returns-clause-course c = quiet_course

pub returns-clause-schedule : goal.returns-clause-schedule
returns-clause-schedule c = quiet_schedule
