-- A volume has a lowest data plex.
use Rattle.vx_group_edits.proofs.Each.{has_lowest, is_lowest}
use Rattle.vx_group_edits.proofs.mirrors.each_volume_has_a_lowest_plex.Goals as goal

pub returns : goal.returns
returns c = record { has = has_lowest; lowest = is_lowest }
