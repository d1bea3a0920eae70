use Rattle.std.proofs.Common.{◌≡◌, ◌%◌, ◌++◌, rules, refl, ap, length, Some}
use Rattle.vx_piece.proofs.Sectors.{joined_bytes, blocks_in-append}
use Rattle.vx_piece.proofs.mem_piece.MemPiecePiece.join.Goals as goal

pub returns-clause-joined : goal.returns-clause-joined
returns-clause-joined c =
    let bytes : c.append.new.self.items ≡ c.args.self.bytes.items ++ c.args.next.bytes.items = search rules in
    let whole : length c.args.self.bytes.items % 512 ≡ 0 = search rules in
    record {
      device = refl;
      start = refl;
      sectors = rw bytes (blocks_in-append c.args.self.bytes.items c.args.next.bytes.items whole);
      stop = refl;
      cut = refl;
      faults = search rules;
      writes = search rules;
      reads = search rules;
      told = rw bytes (ap Some (joined_bytes c.args.self.bytes.items c.args.next.bytes.items whole));
    }
