use Rattle.vx_volume_laws.proofs.Loaded.{loaded_shows, absent_shows}
use Rattle.vx_volume_laws.proofs.opened.each_log_shows_a_copy.Goals as goal

pub returns-clause-loaded : goal.returns-clause-loaded
returns-clause-loaded c = loaded_shows

pub returns-clause-absent : goal.returns-clause-absent
returns-clause-absent c = absent_shows
