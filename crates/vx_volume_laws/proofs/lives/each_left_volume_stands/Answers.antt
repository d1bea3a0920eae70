-- A volume is left.
use Rattle.vx_volume_laws.proofs.LivesLeft.{each_leaving_stands, each_stop_stands}
use Rattle.vx_volume_laws.proofs.lives.each_left_volume_stands.Goals as goal

pub returns-clause-leaving : goal.returns-clause-leaving
returns-clause-leaving c = each_leaving_stands c.each_volume_is_left.ensures

pub returns-clause-stop : goal.returns-clause-stop
returns-clause-stop c = each_stop_stands c.each_volume_is_left.ensures
