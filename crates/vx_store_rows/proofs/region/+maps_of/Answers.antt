use Rattle.std.proofs.Common.{rules, ◌<◌, sym, ◌∙◌}
use Rattle.vx_store_rows.proofs.Plexes.{none_in, one_in}
use Rattle.vx_store_rows.proofs.region.+maps_of.Goals as goal

pub returns-in-empty : goal.returns-in-empty
returns-in-empty g t c = none_in g.P.Piece.seen c.args.plexes.now c.in-empty.len_below

pub returns-else-not-covers : goal.returns-else-not-covers
returns-else-not-covers g t c =
    let lt : c.first-item.result.map < 30 = search rules in
    one_in g.P.Piece.seen c.in_ok-maps-in-len1-up.maps c.of.result c.with.result c.args.plexes.now c.first-item.result c.in-len1-up.len_at_least c.first-item.is lt
    (sym c.contains.ensures ∙ c.if-contains.false) (c.covers.ensures c.if-not-covers.false) c.in_ok-maps-in-len1-up.ensures c.of.ensures c.with.ensures
