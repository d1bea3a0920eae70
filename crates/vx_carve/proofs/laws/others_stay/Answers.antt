use Rattle.vx_carve.proofs.Places.{list_stays, volumes_stay, blocks_stay}
use Rattle.vx_carve.proofs.laws.others_stay.Goals as goal

pub returns-clause-plexes : goal.returns-clause-plexes
returns-clause-plexes c = list_stays

pub returns-clause-volumes : goal.returns-clause-volumes
returns-clause-volumes c = volumes_stay

pub returns-clause-blocks : goal.returns-clause-blocks
returns-clause-blocks c = blocks_stay
