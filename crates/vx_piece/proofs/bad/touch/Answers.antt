use Rattle.vx_piece.proofs.Goods.{good_sectors_few}
use Rattle.vx_piece.proofs.bad.touch.Goals as goal

pub returns-clause-few : goal.returns-clause-few
returns-clause-few c = rw (c.good_sectors-good.ensures) (good_sectors_few c.args.start c.args.count c.args.is_write c.deref.result.now)
