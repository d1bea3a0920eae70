use Rattle.std.proofs.Common.{◌≡◌, Some, rules, subst, sym}
use Rattle.std.specs.Prelude.{IfSome}
use Rattle.std.specs.BTreeMap.{get}
use Rattle.std.specs.Cmp.Lexicographic.{slice_cmp}
use Rattle.std.specs.Ordering.{nat_cmp}
use Rattle.vx_stage_mirrors.specs.Relogging.{IsPowered}
use Rattle.vx_stage_dissociation.proofs.powering.is_powered.Goals as goal

pub returns-in-Some : goal.returns-in-Some
returns-in-Some g c =
    let found : get (slice_cmp nat_cmp) c.args.running.now c.args.name.now ≡ Some c.in-Some.one.now = search rules in
    record { powered = λ is. subst (λ o. IfSome o (IsPowered g.P.Piece.seen)) (sym found) (c.has_power.ensures.powered is) }
