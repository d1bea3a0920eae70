use Rattle.std.proofs.Common.{◌≡◌, Ok, rules}
use Rattle.std.proofs.lemmas.Result.{err_from_is_err_and}
use Rattle.vx_stage_volumes.proofs.Named.{found_of}
use Rattle.vx_stage_volumes.proofs.OpenedGroup.{free_parted, of_parted}
use Rattle.vx_stage_recovery.proofs.Opens.{is_ready, left_out, opened_out, refused_out}
use Rattle.vx_stage_recovery.proofs.opening.open.Goals as goal

pub test_early-requires : goal.test_early-requires
test_early-requires g c = record { of = found_of c.args.group.now.config c.args.vol.now.name c.args.vol.now c.requires.begun.found }

pub returns-in_err-test_early-clause-unopened : goal.returns-in_err-test_early-clause-unopened
returns-in_err-test_early-clause-unopened g c =
    let p = err_from_is_err_and c.from_residual.result c.from_residual.ensures.1 in
    rw (p.1, p.2) (refused_out g.P.Piece.seen c.args.vol.now c.args.group.now c.good.result c.good.ensures.just c.requires.alike c.requires.kept c.in_err-test_early.field-0.0 c.in_err-test_early.ensures.refused)

pub open_in-requires-clause-of : goal.open_in-requires-clause-of
open_in-requires-clause-of g c κs within = of_parted g.P.Piece.seen c.args.vol.now.name c.args.group.now c.requires.kept c.requires.begun.found c.requires.begun.absent c.prepare.ensures.parts

pub open_in-requires-clause-free : goal.open_in-requires-clause-free
open_in-requires-clause-free g c κs within =
    let passed : c.test_early.result ≡ Ok tt = search rules in
    let ready = is_ready g.P.Piece.seen c.args.vol.now c.args.group.now c.good.result c.good.ensures.just c.test_early.result c.test_early.ensures.passes passed c.prepare.new.group c.prepare.ensures.parts
    c.prepare.result c.prepare.ensures.ready c.is_err.result c.is_err.ensures.value c.if-is_err.false in
    free_parted g.P.Piece.seen c.args.vol.now.name c.args.group.now c.requires.kept c.requires.begun.found c.requires.begun.absent c.prepare.ensures.parts ready.ready c.each_idle_volume_is_free.ensures

pub returns-clause-opens : goal.returns-clause-opens
returns-clause-opens g c =
    let passed : c.test_early.result ≡ Ok tt = search rules in
    opened_out g.P.Piece.seen c.args.vol.now c.args.group.now c.good.result c.good.ensures.just c.test_early.result c.test_early.ensures.passes passed c.prepare.new.group c.prepare.ensures.parts
    c.prepare.result c.prepare.ensures.ready c.is_err.result c.is_err.ensures.value c.if-is_err.false c.open_in.new.group c.open_in.result c.open_in.ensures.opens

pub returns-clause-unopened : goal.returns-clause-unopened
returns-clause-unopened g c =
    let passed : c.test_early.result ≡ Ok tt = search rules in
    left_out g.P.Piece.seen c.args.vol.now c.args.group.now c.good.result c.good.ensures.just c.test_early.result c.test_early.ensures.passes passed c.prepare.new.group c.prepare.ensures.parts
    c.prepare.result c.prepare.ensures.ready c.is_err.result c.is_err.ensures.value c.if-is_err.false c.open_in.new.group c.open_in.result c.open_in.ensures.unopened
