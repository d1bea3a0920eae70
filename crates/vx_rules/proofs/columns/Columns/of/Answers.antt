use Rattle.vx_rules.proofs.Growth.{grown, grown_small}
use Rattle.vx_rules.proofs.columns.Columns.of.Goals as goal

pub loop-piece-preserved : goal.loop-piece-preserved
loop-piece-preserved c = record {
  columns = grown c.loop-piece.map c.insert.new.self c.args.pieces.now c.loop-piece.piece-index c.piece-item.result c.column_with-column.result c.loop-piece.invariant.columns c.in_ok-insert.ensures.updates.0 c.column_with-column.ensures.column c.loop-piece-test.true c.piece-item.is;
  small = grown_small c.loop-piece.map c.insert.new.self c.piece-item.result c.column_with-column.result 36893488147419103232 c.loop-piece.invariant.small c.in_ok-insert.ensures.updates.0 c.column_with-column.ensures.small;
}
