use Rattle.std.proofs.Common.{length, arith}
use Rattle.vx_import.proofs.Picks.{choose_more, pick_inside, rest_long, weaker}
use Rattle.vx_import.proofs.choosing.+choose.Goals as goal

pub choose-behind-requires-clause-few : goal.choose-behind-requires-clause-few
choose-behind-requires-clause-few g t c = omega (arith, rest_long c.args.found.now c.in-len1-up.len_at_least, c.requires.few)

pub pick-requires : goal.pick-requires
pick-requires g t c = record { room = weaker c.choose-behind.result _ _ (omega (arith, rest_long c.args.found.now c.in-len1-up.len_at_least, c.requires.few)) c.choose-behind.ensures.inside }

pub returns-in-len1-up-clause-best : goal.returns-in-len1-up-clause-best
returns-in-len1-up-clause-best g t c = rw c.pick.ensures (choose_more g.P.Piece.seen c.args.found.now c.first-item.result c.readable_toggle-toggle.result c.choose-behind.result c.in-len1-up.len_at_least c.first-item.is c.readable_toggle-toggle.ensures c.choose-behind.ensures.best)

pub returns-in-len1-up-clause-inside : goal.returns-in-len1-up-clause-inside
returns-in-len1-up-clause-inside g t c = rw c.pick.ensures (pick_inside c.readable_toggle-toggle.result c.choose-behind.result (length c.args.found.now) c.in-len1-up.len_at_least (weaker c.choose-behind.result _ _ (omega (arith, rest_long c.args.found.now c.in-len1-up.len_at_least)) c.choose-behind.ensures.inside))
