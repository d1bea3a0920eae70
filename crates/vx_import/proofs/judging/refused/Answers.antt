use Rattle.std.proofs.Common.{◌≡◌, Some, get_or, refl, inl, arith}
use Rattle.vx_header.specs.Said.{said_of}
use Rattle.vx_import.specs.Looks.{toggle_read}
use Rattle.vx_import.proofs.Absent.{at_below, at_here}
use Rattle.vx_import.proofs.judging.refused.Goals as goal

pub offset_bounds-found-best : goal.offset_bounds-found-best
offset_bounds-found-best g c = let lt = at_below g.P.Piece.seen (λ f. toggle_read f ≡ Some (said_of c.args.best.now.toggle)) c.args.found.now c.args.best.now.index c.requires.top.place in omega (arith, lt)

pub bounds-found-best : goal.bounds-found-best
bounds-found-best g c = at_below g.P.Piece.seen (λ f. toggle_read f ≡ Some (said_of c.args.best.now.toggle)) c.args.found.now c.args.best.now.index c.requires.top.place

pub bounds-found-best-then-best-gt-HIGHEST : goal.bounds-found-best-then-best-gt-HIGHEST
bounds-found-best-then-best-gt-HIGHEST g c = λ d. at_below g.P.Piece.seen (λ f. toggle_read f ≡ Some (said_of c.args.best.now.toggle)) c.args.found.now c.args.best.now.index c.requires.top.place

pub returns-then-best-gt-HIGHEST : goal.returns-then-best-gt-HIGHEST
returns-then-best-gt-HIGHEST g c =
    let lt = at_below g.P.Piece.seen (λ f. toggle_read f ≡ Some (said_of c.args.best.now.toggle)) c.args.found.now c.args.best.now.index c.requires.top.place in
    inl (c.if-best-gt-HIGHEST.true, at_here g.P.Piece.seen (λ f. f.label.disk ≡ (get_or c.args.found.now c.args.best.now.index c.index-found-best.result).header.disk) c.args.found.now c.args.best.now.index c.index-found-best.result lt refl, refl)
