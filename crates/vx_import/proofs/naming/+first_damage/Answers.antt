use Rattle.std.specs.Prelude.{None}
use Rattle.vx_import.specs.Looks.{looked}
use Rattle.vx_import.specs.Naming.{HurtIs}
use Rattle.vx_import.proofs.Absent.{damage_more}
use Rattle.vx_import.proofs.naming.+first_damage.Goals as goal

pub returns-in-None : goal.returns-in-None
returns-in-None g t c =
    let whole : HurtIs None c.args.meant (looked g.P.Piece.seen c.first-item.result) = rw c.in-None.is at c.damage_of.ensures in
    damage_more g.P.Piece.seen c.args.meant c.first_damage.result c.args.found.now c.first-item.result c.in-len1-up.len_at_least c.first-item.is whole c.first_damage.ensures
