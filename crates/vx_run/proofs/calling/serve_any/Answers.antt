use Rattle.std.proofs.Common.{◌≡◌, None, Some, refl, sym, subst, rules}
use Rattle.vx_stages.specs.Calls.{volume_of}
use Rattle.vx_house.specs.Holders.{volume_at}
use Rattle.vx_run.specs.Grouped.{ServesBy, ServesGroup}
use Rattle.vx_run.proofs.Among.{one_ok}
use Rattle.vx_run.proofs.calling.serve_any.Goals as goal

pub returns-in-Some-clause-serves : goal.returns-in-Some-clause-serves
returns-in-Some-clause-serves g c =
    let bare : volume_at c.args.house.now (volume_of c.args.call.now) ≡ None = search rules in
    one_ok c.serve_in_group.result _ _
    (λ end serves. subst (λ o. ServesBy g.P.Piece.seen c.args.call.now o c.args.house.now (record c.args.house.now { group = Some c.serve_in_group.new.group }) end) (sym bare)
    (subst (λ o. ServesGroup g.P.Piece.seen c.args.call.now o c.args.house.now (record c.args.house.now { group = Some c.serve_in_group.new.group }) end) (sym c.in-Some.is)
    (record { group = c.serve_in_group.new.group; now = refl; serves = serves })))
    c.serve_in_group.ensures.serves
