use Rattle.std.proofs.Common.{◌≡◌, ◌+◌, ◌-◌, ◌*◌, ◌≤◌, [], Some, vec_len, vec_capacity}
use Rattle.vx_base.specs.Blocks.{Contents, block_at}
use Rattle.vx_block.specs.Parts.{reached}
use Rattle.vx_piece.specs.Seen.{Keeps, IsRead}
use Rattle.vx_life.specs.declared.EntryKind.TheVariants.{Read, Missed}
use Rattle.vx_started.specs.Stands.{CallsAtMost, AreBelow, CallGoes, IsSized}
use Rattle.vx_started.specs.Buffers.{HoldsFirst}
use Rattle.vx_started.proofs.range.read_range.Given as goal

-- the call has gone so far, as one that will be done and as one that will fail
abbrev pub invariant-loop-index : goal.invariant-loop-index
invariant-loop-index g l = record {
  kept : Keeps (g.P.Piece.seen l.fn.piece) (g.P.Piece.seen l.piece);
  same : IsRead (g.P.Piece.seen l.fn.piece) (g.P.Piece.seen l.piece);
  still : (g.P.Piece.seen l.piece).faults ≡ (g.P.Piece.seen l.fn.piece).faults;
  calls : CallsAtMost (reached l.geometry.region l.start l.count l.index - l.start) 0 (g.P.Piece.seen l.fn.piece) (g.P.Piece.seen l.piece);
  sized : IsSized (g.P.Piece.seen l.piece) l.geometry.length;
  numbers : vec_len l.numbers ≡ vec_len l.fn.numbers;
  below : AreBelow (l.most + l.index) l.numbers.items;
  count_of : vec_len l.parts ≡ l.index;
  spare : l.total ≤ vec_capacity l.parts;
  buffer : vec_len l.blocks ≡ 512 * l.count;
  holds : HoldsFirst l.blocks.items (g.P.Piece.seen l.fn.piece).told l.start (reached l.geometry.region l.start l.count l.index - l.start);
  read : (contents : Contents) → (g.P.Piece.seen l.fn.piece).told ≡ Some contents → CallGoes l.geometry.length l.geometry.region l.start l.count Read contents (g.P.Piece.seen l.fn.piece) l.fn.numbers.items (g.P.Piece.seen l.piece) l.numbers.items l.parts.items;
  missed : CallGoes l.geometry.length l.geometry.region l.start l.count Missed (λ k. block_at [] (k - l.start)) (g.P.Piece.seen l.fn.piece) l.fn.numbers.items (g.P.Piece.seen l.piece) l.numbers.items l.parts.items;
}
