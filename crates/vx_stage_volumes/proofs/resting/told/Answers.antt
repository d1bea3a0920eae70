use Rattle.std.proofs.Common.{◌≡◌, ◌∙◌, Some, sym, subst, rules}
use Rattle.std.specs.List.{find}
use Rattle.std.specs.Option.{option_map}
use Rattle.vx_copies.specs.Lists.{AnyOf}
use Rattle.vx_stage_volumes.specs.Resting.{HasFaultDisk, is_on}
use Rattle.vx_stage_volumes.proofs.FaultNames.{none_found, told_as}
use Rattle.vx_stage_volumes.proofs.resting.told.Goals as goal

pub unreachable-requires : goal.unreachable-requires
unreachable-requires g c =
    none_found g.P.Piece.seen c.device_of.result c.args.disks.now
    (subst (λ n. AnyOf (λ d. (g.P.Piece.seen d.piece).device ≡ n) c.args.disks.now) (sym c.device_of.ensures) (subst (HasFaultDisk g.P.Piece.seen c.args.disks.now) c.in-Fault.is c.requires))
    (sym c.disk_on.ensures ∙ c.in-None.is)

pub returns-in-Some : goal.returns-in-Some
returns-in-Some g c =
    let found = subst (λ n. option_map (λ d. (d.name, d.device)) (find (is_on g.P.Piece.seen n) c.args.disks.now) ≡ Some (c.in-Some.told, c.in-Some.device)) c.device_of.ensures (sym c.disk_on.ensures ∙ c.in-Some.is) in
    let is = told_as g.P.Piece.seen c.in-Fault.place c.args.disks.now c.args.fault c.in-Fault.is c.in-Some.told c.in-Some.device found in
    search (rules, is)
