use Rattle.vx_maps.specs.Wholes.{store_faults, store_copies}
use Rattle.vx_maps.specs.Cutness.{store_cut}
use Rattle.vx_maps.proofs.Refusals.{refused_after}
use Rattle.std.proofs.Common.{sym, subst}
use Rattle.vx_pages.specs.Sector.{KeepsPiece}
use Rattle.vx_pages.specs.Stays.{piece_same}
use Rattle.vx_maps.specs.Going.{CopiesGo}
use Rattle.vx_maps.proofs.CopyLaws.{store_goes}
use Rattle.vx_maps.proofs.creating.create_in.Goals as goal

pub into_copies_in-requires : goal.into_copies_in-requires
into_copies_in-requires g c = c.write_new.ensures.room c.args.cut.spares c.requires.room

pub returns-in-Err-clause-refused : goal.returns-in-Err-clause-refused
returns-in-Err-clause-refused g c =
    refused_after c.in-Err.fault c.fault_of.result (store_faults g.P.LocalPiece.seen c.args.cut.store) (store_faults g.P.LocalPiece.seen c.write_new.new.store) (store_cut g.P.LocalPiece.seen c.write_new.new.store) _ c.fault_of.ensures c.in-Err.ensures.cause c.into_copies_in.ensures.faults c.into_copies_in.ensures.cut

pub returns-in-Err-clause-back : goal.returns-in-Err-clause-back
returns-in-Err-clause-back g c =
    subst (CopiesGo KeepsPiece (store_copies g.P.LocalPiece.seen c.args.cut.store)) (sym c.into_copies_in.ensures.copies) (store_goes KeepsPiece piece_same c.args.cut.store c.write_new.new.store c.write_new.ensures.goes)
