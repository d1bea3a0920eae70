use Rattle.vx_image.proofs.Apart.{plexes_apart}
use Rattle.vx_image.proofs.plex_laws.plexes_lie_apart.Goals as goal

pub returns : goal.returns
returns c = plexes_apart
