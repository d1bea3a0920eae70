use Rattle.std.proofs.Common.{◌≤◌, ◌<◌, rules, arith, subst}
use Rattle.std.proofs.lemmas.Grind.{common_steps}
use Rattle.vx_piece.specs.MemPiece.{mem_seen}
use Rattle.vx_shelf.proofs.Numbers.{below_next}
use Rattle.vx_shelf.proofs.mem_shelf.number_above.Goals as goal

pub loop-place-preserved : goal.loop-place-preserved
loop-place-preserved c =
    let place = c.place-item.result in
    let above : (mem_seen place.1).device < c.max-next.result = grind (arith, common_steps) in
    let more : c.loop-place.next ≤ c.max-next.result = grind (arith, common_steps) in
    below_next c.args.places.now c.loop-place.place-index c.loop-place.next c.max-next.result place (search rules) c.loop-place.invariant more (subst (λ p. (mem_seen p.1).device < c.max-next.result) c.place-item.is above)
