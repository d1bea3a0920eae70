-- Owners fit when a map is set.
use Rattle.vx_change_laws.proofs.Settings.{setting_fits}
use Rattle.vx_change_laws.proofs.each_setting_fits.Goals as goal

pub returns : goal.returns
returns c = setting_fits
