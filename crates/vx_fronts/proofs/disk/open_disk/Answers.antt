use Rattle.std.proofs.Common.{rules, arith, ◌∷◌, ◌+◌, ◌≤◌, map, vec_len, vec_capacity, subst}
use Rattle.vx_carve.specs.Together.{SameSectors}
use Rattle.vx_carve.proofs.Again.{ok_gives}
use Rattle.vx_copies.specs.Disks.{disk_seen}
use Rattle.vx_fronts.proofs.Steps.{opened_one}
use Rattle.vx_fronts.proofs.disk.open_disk.Goals as goal

pub returns-in-Ok-clause-parts : goal.returns-in-Ok-clause-parts
returns-in-Ok-clause-parts g c =
    let room : vec_len c.reserve.new.self.items + 1 ≤ vec_capacity c.reserve.new.self.items = search rules in
    let put = ok_gives c.put.result _ (c.put.ensures.room (omega (arith, room))) c.put.ensures.put in
    opened_one (disk_seen g.P.Piece.seen c.args.disk) (g.P.Piece.seen c.in-Ok.front) (g.P.Piece.seen c.in-Ok.rest) _ _ (search rules) c.in-Ok.ensures.parts
    (subst (λ is. SameSectors (g.P.Piece.seen c.in-Ok.rest ∷ map g.P.Piece.seen is) (map g.P.Piece.seen c.put.new.self.items.items)) c.reserve.ensures.same put)
