-- A map is set in all regions of a log.
use Rattle.vx_volume.proofs.Remarks.{setting_knows, setting_marks, setting_stands, setting_tells}
use Rattle.vx_volume.proofs.laws.each_setting_stands.Goals as goal

pub returns-clause-stands : goal.returns-clause-stands
returns-clause-stands c = setting_stands

pub returns-clause-told : goal.returns-clause-told
returns-clause-told c = setting_tells

pub returns-clause-known : goal.returns-clause-known
returns-clause-known c = setting_knows

pub returns-clause-marks : goal.returns-clause-marks
returns-clause-marks c = setting_marks
