use Rattle.std.proofs.Common.{◌≡◌, ◌<◌, take}
use Rattle.std.specs.BTreeMap.{get}
use Rattle.vx_rules.specs.Keys.{Key, key_cmp}
use Rattle.vx_rules.specs.Pieces.{column_of, end_of}
use Rattle.vx_rules.proofs.columns.Columns.of.Given as goal

abbrev pub invariant-loop-piece : goal.invariant-loop-piece
invariant-loop-piece l = record {
  columns : (q : Key) → get key_cmp l.map q ≡ column_of q (take l.piece-index l.pieces);
  small : (q : Key) → end_of (get key_cmp l.map q) < 36893488147419103232;
}
