use Rattle.std.proofs.Common.{rules, ◌≡◌, ◌∙◌, sym, Some}
use Rattle.vx_pages.proofs.Partings.{first_stays, second_stays}
use Rattle.vx_pages.proofs.sector.MapSector.give_up.Goals as goal

pub invariant_of-self : goal.invariant_of-self
invariant_of-self g c =
    let some : c.take.result ≡ Some c.unwrap-second.result = search rules in
    record {
      formed =
          second_stays g.P.LocalPiece.seen c.args.self.now.sure.items c.args.self.now.loose.items c.args.self.now.first c.args.self.now.second c.take.new.self c.unwrap-second.result (sym c.take.ensures.value ∙ some) c.take.ensures.after c.args.self.now.formed
          c.replace.new.dest c.replace.ensures.after;
    }

pub invariant_of-self-else-copy-eq0 : goal.invariant_of-self-else-copy-eq0
invariant_of-self-else-copy-eq0 g c =
    let some : c.take.result ≡ Some c.unwrap-second.result = search rules in
    record {
      formed =
          first_stays g.P.LocalPiece.seen c.args.self.now.sure.items c.args.self.now.loose.items c.args.self.now.first c.args.self.now.second c.take.new.self c.unwrap-second.result (sym c.take.ensures.value ∙ some) c.take.ensures.after c.args.self.now.formed;
    }
