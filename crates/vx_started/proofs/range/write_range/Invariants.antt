use Rattle.std.proofs.Common.{◌≡◌, ◌+◌, ◌-◌, ◌≤◌, vec_len, vec_capacity}
use Rattle.vx_base.specs.Blocks.{block_at}
use Rattle.vx_block.specs.Parts.{reached}
use Rattle.vx_piece.specs.Seen.{Keeps}
use Rattle.vx_life.specs.declared.EntryKind.TheVariants.{Write, Torn}
use Rattle.vx_started.specs.Stands.{CallsAtMost, AreBelow, CallGoes, IsSized}
use Rattle.vx_started.proofs.range.write_range.Given as goal

-- the call has gone so far, as one that will be done and as one that will fail
abbrev pub invariant-loop-index : goal.invariant-loop-index
invariant-loop-index g l = record {
  kept : Keeps (g.P.Piece.seen l.fn.piece) (g.P.Piece.seen l.piece);
  still : (g.P.Piece.seen l.piece).faults ≡ (g.P.Piece.seen l.fn.piece).faults;
  calls : CallsAtMost 0 (reached l.geometry.region l.start l.count l.index - l.start) (g.P.Piece.seen l.fn.piece) (g.P.Piece.seen l.piece);
  sized : IsSized (g.P.Piece.seen l.piece) l.geometry.length;
  numbers : vec_len l.numbers ≡ vec_len l.fn.numbers;
  below : AreBelow (l.most + l.index) l.numbers.items;
  count_of : vec_len l.parts ≡ l.index;
  spare : l.total ≤ vec_capacity l.parts;
  written : CallGoes l.geometry.length l.geometry.region l.start l.count Write (λ k. block_at l.bytes (k - l.start)) (g.P.Piece.seen l.fn.piece) l.fn.numbers.items (g.P.Piece.seen l.piece) l.numbers.items l.parts.items;
  torn : CallGoes l.geometry.length l.geometry.region l.start l.count Torn (λ k. block_at l.bytes (k - l.start)) (g.P.Piece.seen l.fn.piece) l.fn.numbers.items (g.P.Piece.seen l.piece) l.numbers.items l.parts.items;
}
