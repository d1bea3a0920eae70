-- What carving a region asks of the plexes of a log, and what it gives.
use Rattle.std.proofs.Common.{arith, ◌∙◌, ◌+◌, get_or, map}
use Rattle.std.proofs.lemmas.List.{length-map}
use Rattle.std.proofs.lemmas.Result.{IfOk-weaker}
use Rattle.vx_carve.proofs.Places.{blocks_on, blocks_free, list_apart}
use Rattle.vx_maps.specs.Spares.{copies_seen}
use Rattle.vx_lending.specs.Taken.{log_sectors, slot_of}
use Rattle.vx_lending.proofs.LogCopies.{cut_from, if_both, log_copies, stays_from}
use Rattle.vx_lending.proofs.copies.take_copies.Goals as goal

pub carve_region-requires-clause-on : goal.carve_region-requires-clause-on
carve_region-requires-clause-on g c κs within k d lt =
    let inside = c.requires.inside k d lt in
    let s = c.log_span.ensures.start in
    let n = c.log_span.ensures.count in
    blocks_on (get_or c.args.logs.now k d) c.args.numbers.now c.log_span.result.start (c.log_span.result.start + c.log_span.result.count) (omega (arith, inside, s, n)) (c.requires.plexes.numbered k d lt)

pub carve_region-requires-clause-free : goal.carve_region-requires-clause-free
carve_region-requires-clause-free g c κs within k d lt =
    let inside = c.requires.inside k d lt in
    let s = c.log_span.ensures.start in
    let n = c.log_span.ensures.count in
    blocks_free (get_or c.args.logs.now k d) c.args.numbers.now (map g.P.Piece.seen c.args.pool.now.items.items) c.log_span.result.start (c.log_span.result.start + c.log_span.result.count) (omega (arith, inside, s, n)) (c.requires.free k d lt)

pub carve_region-requires-clause-plexes : goal.carve_region-requires-clause-plexes
carve_region-requires-clause-plexes g c κs within j k d lt lt' ne =
    let inside = c.requires.inside j d lt in
    let inside' = c.requires.inside k d lt' in
    let s = c.log_span.ensures.start in
    let n = c.log_span.ensures.count in
    list_apart c.args.numbers.now c.args.logs.now c.requires.apart c.requires.plexes j k d lt lt' ne c.log_span.result.start (c.log_span.result.start + c.log_span.result.count) (omega (arith, inside, s, n)) (omega (arith, inside', s, n))

pub returns-clause-copies : goal.returns-clause-copies
returns-clause-copies g c =
    if_both c.carve_region.result _ _ _
    (λ v long cut. record {
      long = length-map v.items (λ x. map g.P.Piece.seen x.items) ∙ long;
      cut = λ k d lt. cut_from c.args.numbers.now (get_or c.args.logs.now k d) c.log_span.result.start c.log_span.result.count (log_sectors c.args.geometry.now) _ c.log_span.ensures.start c.log_span.ensures.count (cut k d lt);
    })
    c.carve_region.ensures.long c.carve_region.ensures.cut

pub returns-clause-log : goal.returns-clause-log
returns-clause-log g c =
    IfOk-weaker c.carve_region.result _ _ (λ v taken. log_copies c.args.numbers.now c.args.logs.now (slot_of c.args.geometry.now) (copies_seen g.P.Piece.seen v.items) c.requires.few taken) (returns-clause-copies g c)

pub returns-clause-beside : goal.returns-clause-beside
returns-clause-beside g c =
    IfOk-weaker c.carve_region.result _ _ (λ v stays. stays_from c.args.numbers.now c.args.logs.now c.log_span.result.start c.log_span.result.count (log_sectors c.args.geometry.now) (map g.P.Piece.seen c.args.pool.now.items.items) (map g.P.Piece.seen c.carve_region.new.pool.items.items) c.log_span.ensures.start c.log_span.ensures.count stays) c.carve_region.ensures.beside
