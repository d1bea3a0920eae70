use Rattle.std.proofs.Common.{◌∙◌, sym, subst, rules}
use Rattle.vx_run.specs.Grouped.{NamesFault}
use Rattle.vx_run.proofs.Told.{none_found, told_as}
use Rattle.vx_run.proofs.grouped.told.Goals as goal

pub unreachable-requires : goal.unreachable-requires
unreachable-requires g c = none_found g.P.Piece.seen c.in-Fault.device c.args.disks.now (subst (NamesFault g.P.Piece.seen c.args.disks.now) c.in-Fault.is c.requires) (sym c.disk_on.ensures ∙ c.in-None.is)

pub returns-in-Some : goal.returns-in-Some
returns-in-Some g c =
    let is = told_as g.P.Piece.seen c.in-Fault.device c.args.disks.now c.args.served c.in-Fault.parts c.in-Fault.is c.in-Some.told c.in-Some.device (sym c.disk_on.ensures ∙ c.in-Some.is) in
    search (rules, is)
