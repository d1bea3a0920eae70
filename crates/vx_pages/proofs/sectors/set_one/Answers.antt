use Rattle.std.proofs.Common.{◌<◌, length, arith}
use Rattle.vx_mapfmt.specs.Bits.{bit_in}
use Rattle.vx_pages.specs.Sectors.{sector_seen}
use Rattle.vx_pages.proofs.Sets.{one_cause, one_set, still_clean}
use Rattle.vx_pages.proofs.sectors.set_one.Goals as goal

pub set-requires-clause-clean : goal.set-requires-clause-clean
set-requires-clause-clean g c =
    let lt : c.args.map < length c.args.sectors.now.items = let e = c.requires.maps in let f = c.requires.map in omega (arith, e, f) in
    still_clean (sector_seen g.P.LocalPiece.seen) c.args.map c.args.sectors.now.items c.index_mut-sector.result.now lt c.index_mut-sector.ensures.value c.requires.clean

pub returns-clause-each : goal.returns-clause-each
returns-clause-each g c =
    let lt : c.args.map < length c.args.sectors.now.items = let e = c.requires.maps in let f = c.requires.map in omega (arith, e, f) in
    one_set (sector_seen g.P.LocalPiece.seen) c.args.map c.args.sectors.now.items c.index_mut-sector.result.now lt c.index_mut-sector.ensures.value c.set.new.self (bit_in c.args.image.now) c.set.result
    c.requires.clean c.set.ensures.goes

pub returns-clause-cause : goal.returns-clause-cause
returns-clause-cause g c =
    let lt : c.args.map < length c.args.sectors.now.items = let e = c.requires.maps in let f = c.requires.map in omega (arith, e, f) in
    one_cause (sector_seen g.P.LocalPiece.seen) c.args.map c.set.result c.args.sectors.now.items c.index_mut-sector.result.now c.set.new.self lt c.index_mut-sector.ensures.value c.set.ensures.cause
