use Rattle.std.proofs.Common.{◌≡◌, [], ◌∷◌, map, refl, sym, subst, rules}
use Rattle.vx_house.specs.Closing.{GivesBack}
use Rattle.vx_house.specs.Holders.{volume_holder}
use Rattle.vx_house.specs.Scene.{shelved}
use Rattle.vx_house.proofs.Returns.{apart_behind, each_behind, gives_first, gives_none, no_entries, volumes_each, volumes_apart}
use Rattle.vx_house.proofs.giving.give_volumes.Goals as goal

pub loop-started-init : goal.loop-started-init
loop-started-init g c = record {
  each = volumes_each g.S.P.Piece.seen c.args.house.now (g.S.Shelf.held c.args.shelf.now) c.requires.held.each;
  apart = volumes_apart g.S.P.Piece.seen c.args.house.now c.requires.held.apart;
  back = λ k rest. rest;
  hand = refl;
  group = refl;
}

pub loop-started-preserved : goal.loop-started-preserved
loop-started-preserved g c =
    let was : c.loop-started.house.volumes.entries ≡ (c.in-Some.field-0-0, c.in-Some.started) ∷ c.pop_first.new.self.entries = rw c.in-Some.is at c.pop_first.ensures.removal in
    record {
      each = each_behind (volume_holder g.S.P.Piece.seen) c.loop-started.house.volumes.entries c.pop_first.new.self.entries (c.in-Some.field-0-0, c.in-Some.started) was (g.S.Shelf.held c.loop-started.shelf) (g.S.Shelf.held c.give_volume.new.shelf) c.give_volume.ensures.given c.loop-started.invariant.apart c.loop-started.invariant.each;
      apart = apart_behind (volume_holder g.S.P.Piece.seen) c.loop-started.house.volumes.entries c.pop_first.new.self.entries (c.in-Some.field-0-0, c.in-Some.started) was c.loop-started.invariant.apart;
      back = λ k rest. c.loop-started.invariant.back k (gives_first (volume_holder g.S.P.Piece.seen) c.loop-started.house.volumes.entries c.pop_first.new.self.entries (c.in-Some.field-0-0, c.in-Some.started) was _ _ k (c.give_volume.ensures.back c.in-Some.field-0-0) rest);
      hand = c.loop-started.invariant.hand;
      group = c.loop-started.invariant.group;
    }

pub returns : goal.returns
returns g c =
    let none : c.loop-started.house.volumes.entries ≡ [] = no_entries c.pop_first.result c.loop-started.house.volumes.entries c.pop_first.ensures.variant.1 c.in_default.not-Some in
    record {
      gives = record {
        back = c.loop-started.invariant.back _ (subst (λ es. GivesBack (map (volume_holder g.S.P.Piece.seen) es) (shelved g.S.Shelf.free g.S.Shelf.held g.S.Shelf.counted g.S.Shelf.faults c.loop-started.shelf) (shelved g.S.Shelf.free g.S.Shelf.held g.S.Shelf.counted g.S.Shelf.faults c.loop-started.shelf)) (sym none) (gives_none _));
        empty = search rules;
        group = c.loop-started.invariant.group;
        hand = c.loop-started.invariant.hand;
      };
    }
