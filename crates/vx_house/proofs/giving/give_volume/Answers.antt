use Rattle.vx_house.specs.Holders.{volume_holder}
use Rattle.vx_house.proofs.Returns.{gives_one}
use Rattle.vx_house.proofs.giving.give_volume.Goals as goal

pub returns-clause-back : goal.returns-clause-back
returns-clause-back g c = λ name. gives_one (volume_holder g.S.P.Piece.seen (name, c.args.started)) _ _ c.give.ensures.given c.give.ensures.back c.give.ensures.quiet c.give.ensures.counts
