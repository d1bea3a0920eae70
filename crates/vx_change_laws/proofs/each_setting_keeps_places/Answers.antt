-- A volume keeps its places when a map is set.
use Rattle.vx_change_laws.proofs.Places.{setting_cut, setting_free, setting_places}
use Rattle.vx_change_laws.proofs.each_setting_keeps_places.Goals as goal

pub returns-clause-free : goal.returns-clause-free
returns-clause-free c = setting_free

pub returns-clause-places : goal.returns-clause-places
returns-clause-places c = setting_places

pub returns-clause-cut : goal.returns-clause-cut
returns-clause-cut c = setting_cut
