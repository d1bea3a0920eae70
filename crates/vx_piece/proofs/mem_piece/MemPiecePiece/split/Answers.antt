use Rattle.std.proofs.Common.{◌≡◌, ◌*◌, take, drop, arith, refl, ap, List, ℕ, length, Some}
use Rattle.std.proofs.lemmas.List.{length-drop, length-take-le}
use Rattle.vx_piece.proofs.Sectors.{front_bytes, back_bytes}
use Rattle.vx_piece.proofs.mem_piece.MemPiecePiece.split.Goals as goal

pub returns-clause-parts : goal.returns-clause-parts
returns-clause-parts c =
    let items : List ℕ = c.args.self.bytes.items in
    let rest : c.in-Ok-tail_of.bytes.items ≡ drop (512 * c.args.at) items = c.in-Ok-tail_of.ensures in
    let front : length (take (512 * c.args.at) items) ≡ 512 * c.args.at = length-take-le (512 * c.args.at) items (omega (arith, c.requires.inside)) in
    record {
      devices = (refl, refl);
      starts = (refl, refl);
      sizes = (rw c.keep_front.ensures (omega (arith, front)), rw rest (omega (arith, length-drop (512 * c.args.at) items, c.requires.inside)));
      stops = (refl, refl);
      cuts = (refl, refl);
      faults = omega arith;
      writes = omega arith;
      reads = omega arith;
      front = rw c.keep_front.ensures (ap Some (front_bytes items c.args.at (omega (arith, c.requires.inside))));
      back = rw rest (ap Some (back_bytes items c.args.at));
    }
