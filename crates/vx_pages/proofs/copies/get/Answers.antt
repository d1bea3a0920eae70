use Rattle.std.proofs.Common.{subst, sym, arith, ◌<◌, Some, Option}
use Rattle.std.specs.Option.{option_map}
use Rattle.vx_pages.specs.Sector.{AreSectors}
use Rattle.vx_pages.specs.Pieces.{copies_of}
use Rattle.vx_pages.specs.Reading.{IsCopyOf, IsGot}
use Rattle.vx_pages.proofs.Repairs.{got_first, got_second}
use Rattle.vx_pages.proofs.copies.get.Goals as goal

pub get_one-requires-clause-sector : goal.get_one-requires-clause-sector
get_one-requires-clause-sector g c = c.requires.sectors 0

pub returns-then-copy-eq0-clause-got : goal.returns-then-copy-eq0-clause-got
returns-then-copy-eq0-clause-got g c = got_first c.args.copy c.get_one.new.into _ _ (option_map g.P.LocalPiece.seen c.args.second.now) c.get_one.result c.if-copy-eq0.true c.get_one.ensures.got

pub get_one-requires-in-Some-clause-sector : goal.get_one-requires-in-Some-clause-sector
get_one-requires-in-Some-clause-sector g c =
    let h : AreSectors (copies_of g.P.LocalPiece.seen c.args.first.now (Some c.in-Some.piece)) =
    subst (λ (o : Option g.row.P.Denot). AreSectors (copies_of g.P.LocalPiece.seen c.args.first.now o)) c.in-Some.is c.requires.sectors in h 1

pub returns-in-Some-clause-got : goal.returns-in-Some-clause-got
returns-in-Some-clause-got g c =
    let there : c.args.copy < 2 = subst (λ (o : Option g.row.P.Denot). IsCopyOf c.args.copy (copies_of g.P.LocalPiece.seen c.args.first.now o)) c.in-Some.is c.requires.there in
    subst (λ (o : Option g.row.P.Denot). IsGot c.args.copy c.get_one-in-Some.new.into (copies_of g.P.LocalPiece.seen c.args.first.now o) (copies_of g.P.LocalPiece.seen c.args.first.now (Some c.get_one-in-Some.new.piece)) c.get_one-in-Some.result)
    (sym c.in-Some.is)
    (got_second c.args.copy c.get_one-in-Some.new.into _ _ _ c.get_one-in-Some.result (omega arith) c.get_one-in-Some.ensures.got)
