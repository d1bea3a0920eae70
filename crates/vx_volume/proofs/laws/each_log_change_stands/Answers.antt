-- A volume of one plex is given another log.
use Rattle.vx_volume.proofs.Loggings.{log_change_stands, log_change_tells}
use Rattle.vx_volume.proofs.laws.each_log_change_stands.Goals as goal

pub returns-clause-stands : goal.returns-clause-stands
returns-clause-stands c = log_change_stands

pub returns-clause-told : goal.returns-clause-told
returns-clause-told c = log_change_tells
