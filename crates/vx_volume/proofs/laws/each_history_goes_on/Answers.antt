-- Histories go on and stand.
use Rattle.vx_volume.proofs.Schedules.{going_scheduled}
use Rattle.vx_volume.proofs.Volumes.{going_stands, going_then}
use Rattle.vx_volume.proofs.laws.each_history_goes_on.Goals as goal

pub returns-clause-follows : goal.returns-clause-follows
returns-clause-follows c = going_then

pub returns-clause-stands : goal.returns-clause-stands
returns-clause-stands c = going_stands

pub returns-clause-scheduled : goal.returns-clause-scheduled
returns-clause-scheduled c = going_scheduled
