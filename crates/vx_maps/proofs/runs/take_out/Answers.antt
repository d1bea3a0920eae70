use Rattle.std.proofs.Common.{rules, ◌≡◌, ◌∷◌, ◌++◌, [], Some}
use Rattle.vx_maps.proofs.SlotRuns.{one_out, full_rest}
use Rattle.vx_maps.proofs.runs.take_out.Goals as goal

pub taking-preserved : goal.taking-preserved
taking-preserved g c =
    let items : c.taking.left.items ≡ c.pop.new.self.items ++ c.in-Some.slot ∷ [] = search rules in
    let some : c.in-Some.slot ≡ Some c.unwrap.result = search rules in
    record {
      same = one_out g.P.LocalPiece.seen c.taking.left.items c.pop.new.self.items c.in-Some.slot c.unwrap.result c.taking.pieces.items c.push_reserved.new.self.items _ items some c.push_reserved.ensures.items c.taking.invariant.same;
      full = full_rest g.P.LocalPiece.seen c.taking.left.items c.pop.new.self.items c.in-Some.slot items c.taking.invariant.full;
      room = search rules;
    }
