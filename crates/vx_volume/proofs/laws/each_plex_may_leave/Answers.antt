-- A plex leaves each region.
use Rattle.vx_volume.proofs.Partings.{leaving_tells, plex_leaves}
use Rattle.vx_volume.proofs.laws.each_plex_may_leave.Goals as goal

pub returns-clause-stands : goal.returns-clause-stands
returns-clause-stands c = plex_leaves

pub returns-clause-told : goal.returns-clause-told
returns-clause-told c = leaving_tells
