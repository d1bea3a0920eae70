use Rattle.std.proofs.Common.{◌≤◌, ◌≡◌, [], take}
use Rattle.vx_house.specs.Scene.{shelved}
use Rattle.vx_house.specs.View.{Keeps, at}
use Rattle.vx_run.specs.Run.{HasRun}
use Rattle.vx_run.proofs.lines.all_lines.Given as goal

-- the commands so far have run
abbrev pub invariant-loop-command : goal.invariant-loop-command
invariant-loop-command g l = record {
  keeps : Keeps g.S.P.Piece.seen (at (shelved g.S.Shelf.free g.S.Shelf.held g.S.Shelf.counted g.S.Shelf.faults l.shelf) l.house);
  empty : l.house.hand.items ≡ [];
  run : HasRun g.S.P.Piece.seen 0 (take l.command-index l.commands) (at (shelved g.S.Shelf.free g.S.Shelf.held g.S.Shelf.counted g.S.Shelf.faults l.fn.shelf) l.fn.house) (g.B.Sink.taken l.fn.sink) (at (shelved g.S.Shelf.free g.S.Shelf.held g.S.Shelf.counted g.S.Shelf.faults l.shelf) l.house) (g.B.Sink.taken l.sink) l.fine;
  later : g.B.Sink.faults l.fn.sink ≤ g.B.Sink.faults l.sink;
  quiet : g.B.Sink.faults l.sink ≡ g.B.Sink.faults l.fn.sink;
}
