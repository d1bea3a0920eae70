use Rattle.vx_house.specs.Holders.{disk_holder}
use Rattle.vx_house.proofs.Returns.{gives_one}
use Rattle.vx_house.proofs.giving.give_disk.Goals as goal

pub returns-clause-back : goal.returns-clause-back
returns-clause-back g c = gives_one (disk_holder g.S.P.Piece.seen c.args.disk) _ _ c.give.ensures.given c.give.ensures.back c.give.ensures.quiet c.give.ensures.counts
