use Rattle.std.proofs.Common.{ℕ, sym, subst, length}
use Rattle.std.proofs.lemmas.List.{length-take-le}
use Rattle.vx_piece.specs.Seen.{IsInside}
use Rattle.vx_piece.specs.MemPiece.{mem_seen}
use Rattle.vx_store_rows.proofs.Ranges.{at_least, first_inside}
use Rattle.vx_store_rows.proofs.piece.tear.Goals as goal

pub slice_bounds-write-end : goal.slice_bounds-write-end
slice_bounds-write-end c = sym (length-take-le 512 c.args.from.now (at_least (mem_seen c.args.memory.now) c.args.at (length c.args.from.now) c.requires))

pub write-requires : goal.write-requires
write-requires c =
    subst (λ (n : ℕ). IsInside (mem_seen c.args.memory.now) c.args.at n)
    (sym (length-take-le 512 c.args.from.now (at_least (mem_seen c.args.memory.now) c.args.at (length c.args.from.now) c.requires)))
    (first_inside (mem_seen c.args.memory.now) c.args.at (length c.args.from.now) c.requires)
