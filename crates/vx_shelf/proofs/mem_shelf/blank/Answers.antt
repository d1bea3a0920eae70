use Rattle.std.proofs.Common.{◌≡◌, ◌*◌, replicate, rules}
use Rattle.vx_piece.specs.MemPiece.{mem_seen}
use Rattle.vx_shelf.proofs.NewImages.{is_blank}
use Rattle.vx_shelf.proofs.mem_shelf.blank.Goals as goal

pub returns-clause-zeros : goal.returns-clause-zeros
returns-clause-zeros c =
    let zeros : c.in_ok-bytes.bytes.items ≡ replicate (512 * c.args.sectors) 0 = search rules in
    is_blank c.args.sectors c.args.number c.in_ok-bytes.bytes.items (mem_seen c.in-Some.piece) zeros c.in-Some.ensures.seen
