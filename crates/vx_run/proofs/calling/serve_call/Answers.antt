use Rattle.std.specs.Prelude.{◌≡◌}
use Rattle.vx_plans.specs.Steps.{DoesCall}
use Rattle.vx_house.specs.Scene.{shelved}
use Rattle.vx_house.proofs.Ends.{whole_kept}
use Rattle.vx_run.proofs.CallLaws.{given}
use Rattle.vx_run.proofs.CommandEnds.{over_ends}
use Rattle.vx_run.proofs.Given.{call_refused, given_over}
use Rattle.vx_run.proofs.calling.serve_call.Goals as goal

pub over-requires-clause-held : goal.over-requires-clause-held
over-requires-clause-held g c κs within = (given _ c.args.house.now c.args.call.now c.requires.keeps g.met.S.Shelf.pieces_tell 0 c.in-Ok.end c.serve_any.new.house c.in-Ok.ensures.serves).keeps.devices

pub over-requires-clause-whole : goal.over-requires-clause-whole
over-requires-clause-whole g c κs within = whole_kept g.S.P.Piece.seen c.serve_any.new.house.group (given (shelved g.S.Shelf.free g.S.Shelf.held g.S.Shelf.counted g.S.Shelf.faults c.args.shelf.now) c.args.house.now c.args.call.now c.requires.keeps g.met.S.Shelf.pieces_tell 0 c.in-Ok.end c.serve_any.new.house c.in-Ok.ensures.serves).keeps.house.group

pub returns-in-Ok : goal.returns-in-Ok
returns-in-Ok g c = record {
  goes = λ place. over_ends g.S.P.Piece.seen (DoesCall place c.args.call.now) (λ m n. n.world ≡ m.world) c.over.result c.from_vec.result c.in-Ok.end _ _ _ c.over.ensures.told c.over.ensures.left c.over.ensures.held_up
      (λ left. rw (c.from_vec.ensures, c.new.ensures.items)
      (given_over g.S.P.Piece.seen _ c.args.call.now c.args.house.now c.serve_any.new.house place c.in-Ok.end _
      (given _ c.args.house.now c.args.call.now c.requires.keeps g.met.S.Shelf.pieces_tell place c.in-Ok.end c.serve_any.new.house c.in-Ok.ensures.serves) left));
}

pub returns-in-Err : goal.returns-in-Err
returns-in-Err g c = record {
  goes = λ place. call_refused g.S.P.Piece.seen _ c.args.call.now c.args.house.now c.serve_any.new.house c.in-Err.ensures.refused c.requires.keeps c.requires.empty;
}
