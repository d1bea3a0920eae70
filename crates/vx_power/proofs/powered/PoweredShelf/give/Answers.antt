use Rattle.std.proofs.Common.{Some, ap, ◌∙◌}
use Rattle.vx_power.proofs.ShelfFacts.{given_berthed, given_free, given_flagged, given_untold, wired_held}
use Rattle.vx_power.proofs.powered.PoweredShelf.give.Goals as goal

pub invariant_of-self : goal.invariant_of-self
invariant_of-self g c =
    let self = c.args.self.now in
    let free = g.S.Shelf.free self.shelf in
    let after = g.S.Shelf.free c.give.new.self in
    let held = g.S.Shelf.held self.shelf in
    let then_held = g.S.Shelf.held c.give.new.self in
    let name = c.args.name.now in
    let seen = g.S.P.Piece.seen c.args.piece.inner in
    record {
      berthed = given_berthed free after held then_held self.berths.items c.keep.new.berths.items name c.acted_wire-kept.result seen c.give.ensures.given c.give.ensures.back (c.requires.out ∙ ap Some (wired_held c.args.piece.wire seen)) c.keep.ensures.same self.berthed;
      unheld = given_free free after held then_held self.berths.items c.keep.new.berths.items name c.acted_wire-kept.result seen c.give.ensures.given c.give.ensures.back c.keep.ensures.gone self.unheld;
      flagged = given_flagged self.berths.items c.keep.new.berths.items name c.acted_wire-kept.result self.some_gone c.is_some.result c.is_some.ensures c.keep.ensures.gone self.flagged;
      untold = λ tells. given_untold free after held then_held self.berths.items c.keep.new.berths.items name c.acted_wire-kept.result seen c.give.ensures.back (self.untold tells);
    }
