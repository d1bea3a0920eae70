use Rattle.vx_group_volumes.proofs.Places.{places_go_on, places_stay, restated_keep}
use Rattle.vx_group_volumes.proofs.each_place_is_kept.Goals as goal

pub returns-clause-stay : goal.returns-clause-stay
returns-clause-stay c = places_stay

pub returns-clause-go_on : goal.returns-clause-go_on
returns-clause-go_on c = places_go_on

pub returns-clause-restated : goal.returns-clause-restated
returns-clause-restated c = restated_keep
