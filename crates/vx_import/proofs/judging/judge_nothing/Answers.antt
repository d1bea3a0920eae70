use Rattle.std.proofs.Common.{map, inl}
use Rattle.std.specs.Prelude.{Some, None}
use Rattle.vx_import.specs.Looks.{looked}
use Rattle.vx_import.specs.Naming.{DamageIs}
use Rattle.vx_import.proofs.Verdicts.{empty_is}
use Rattle.vx_import.proofs.judging.judge_nothing.Goals as goal

pub returns-in-Some : goal.returns-in-Some
returns-in-Some g c =
    let first : DamageIs (Some c.in-Some.damage) None (map (looked g.P.Piece.seen) c.args.found.now) = rw c.in-Some.is at c.first_damage.ensures in
    record { answers = λ group of. rw c.damaged.ensures (inl (record { empty = empty_is group _ of c.requires.read c.requires.none; first = first })) }

pub returns-in-None : goal.returns-in-None
returns-in-None g c =
    let whole : DamageIs None None (map (looked g.P.Piece.seen) c.args.found.now) = rw c.in-None.is at c.first_damage.ensures in
    record { answers = λ group of. record { empty = empty_is group _ of c.requires.read c.requires.none; whole = whole } }
