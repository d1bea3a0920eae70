use Rattle.vx_image.proofs.Once.{valid_once}
use Rattle.vx_image.proofs.plex_laws.each_sector_is_in_one_subdisk.Goals as goal

pub returns : goal.returns
returns c = valid_once
