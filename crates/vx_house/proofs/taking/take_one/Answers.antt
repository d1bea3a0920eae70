use Rattle.std.proofs.Common.{◌∙◌, refl, rules}
use Rattle.vx_house.proofs.Takes.{took_one, still_rested, away_ends, held_away, none_away, shelf_ends}
use Rattle.vx_house.proofs.taking.take_one.Goals as goal

pub returns-in-Ok : goal.returns-in-Ok
returns-in-Ok g c = record {
  gives = took_one g.S.P.Piece.seen _ c.requires.keeps _ _ refl refl (record { device = c.args.name.now; piece = c.in-Ok.piece })
      (c.push_reserved.ensures.items ∙ search rules)
      (record { taken = c.in-Ok.ensures.taken; left = c.in-Ok.ensures.left; quiet = c.in-Ok.ensures.quiet (search rules); counted = c.in-Ok.ensures.counted; counts = c.in-Ok.ensures.counts; law = g.met.S.Shelf.counts_are c.args.shelf.now; numbers = g.met.S.Shelf.numbers_differ c.take.new.self });
}

pub returns-in-Err-NoDisk : goal.returns-in-Err-NoDisk
returns-in-Err-NoDisk g c = record {
  gives = rw c.refused.ensures
      (away_ends g.S.P.Piece.seen c.args.name.now _ _ _
      (still_rested g.S.P.Piece.seen _ c.requires.keeps _ _ refl refl (search rules) c.in-Err-NoDisk.ensures.stays c.in-Err-NoDisk.ensures.same c.in-Err-NoDisk.ensures.counts (c.in-Err-NoDisk.ensures.quiet (search rules)))
      (none_away g.S.P.Piece.seen _ c.requires.keeps c.args.name.now c.in-Err-NoDisk.ensures.no_disk (search rules)));
}

pub returns-in-Err-Held : goal.returns-in-Err-Held
returns-in-Err-Held g c = record {
  gives = rw c.refused-in-Err-Held.ensures
      (away_ends g.S.P.Piece.seen c.args.name.now _ _ _
      (still_rested g.S.P.Piece.seen _ c.requires.keeps _ _ refl refl (search rules) c.in-Err-Held.ensures.stays c.in-Err-Held.ensures.same c.in-Err-Held.ensures.counts (c.in-Err-Held.ensures.quiet (search rules)))
      (held_away g.S.P.Piece.seen _ c.requires.keeps c.args.name.now (c.in-Err-Held.ensures.held.0 (search rules))));
}

pub returns-in-Err-Failed : goal.returns-in-Err-Failed
returns-in-Err-Failed g c = record {
  gives = rw c.fault.ensures
      (shelf_ends g.S.P.Piece.seen _ c.requires.keeps c.args.name.now _ _ refl refl (search rules) c.in-Err-Failed.ensures.stays c.in-Err-Failed.ensures.same c.in-Err-Failed.ensures.counts (c.in-Err-Failed.ensures.failed (search rules)) c.in-Err-Failed.ensures.later);
}
