use Rattle.vx_image.proofs.Room.{layouts_apart, plexes_have_room}
use Rattle.vx_image.proofs.plex_laws.plexes_have_room.Goals as goal

pub returns-clause-room : goal.returns-clause-room
returns-clause-room c = plexes_have_room

pub returns-clause-apart : goal.returns-clause-apart
returns-clause-apart c = layouts_apart
