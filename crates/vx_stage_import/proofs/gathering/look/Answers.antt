use Rattle.vx_stage_import.proofs.PutAmong.{look_ends, look_each}
use Rattle.vx_stage_import.proofs.gathering.look.Goals as goal

pub returns-in-Ok-Some-clause-finds : goal.returns-in-Ok-Some-clause-finds
returns-in-Ok-Some-clause-finds g c = record {
  roomy = c.keep.ensures.room;
  each = look_each c.args.dg.now c.args.name.now c.in-Ok-Some.header (g.S.P.Piece.seen c.args.piece) (g.S.P.Piece.seen c.read_header.new.piece) _ _ _ _ c.read_header.ensures.kept c.read_header.ensures.same (rw c.in-Ok-Some.field-0-is at c.in-Ok-Some.ensures.header) c.keep.ensures.ends c.requires.finds.each;
}

pub returns-in-Ok-Some-clause-ends : goal.returns-in-Ok-Some-clause-ends
returns-in-Ok-Some-clause-ends g c = record {
  after = g.S.P.Piece.seen c.read_header.new.piece;
  kept = c.read_header.ensures.kept;
  same = c.read_header.ensures.same;
  most = c.read_header.ensures.most;
  ends = look_ends c.args.dg.now c.args.name.now c.in-Ok-Some.header (g.S.P.Piece.seen c.args.piece) (g.S.P.Piece.seen c.read_header.new.piece) _ _ _ _ c.read_header.ensures.kept c.read_header.ensures.same (rw c.in-Ok-Some.field-0-is at c.in-Ok-Some.ensures.header) c.keep.ensures.ends;
}
