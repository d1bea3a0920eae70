-- A volume runs on when a map is set.
use Rattle.vx_change_laws.proofs.Settings.{setting_quiet, setting_runs}
use Rattle.vx_change_laws.proofs.each_setting_runs_on.Goals as goal

pub returns-clause-quiet : goal.returns-clause-quiet
returns-clause-quiet c = setting_quiet c.each_setting_stands.ensures.stands c.each_setting_stands.ensures.told

pub returns-clause-runs : goal.returns-clause-runs
returns-clause-runs c = setting_runs c.each_setting_stands.ensures.stands c.each_setting_stands.ensures.told
