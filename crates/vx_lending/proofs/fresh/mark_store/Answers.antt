-- The store that was marked in part is taken apart.
use Rattle.std.proofs.Common.{sym, subst}
use Rattle.vx_pages.specs.Sector.{KeepsPiece}
use Rattle.vx_pages.specs.Stays.{piece_same}
use Rattle.vx_maps.specs.Going.{CopiesGo}
use Rattle.vx_maps.specs.Wholes.{store_copies}
use Rattle.vx_maps.proofs.CopyLaws.{store_goes}
use Rattle.vx_lending.proofs.fresh.mark_store.Goals as goal

pub returns-in-Err-clause-back : goal.returns-in-Err-clause-back
returns-in-Err-clause-back g c =
    subst (CopiesGo KeepsPiece (store_copies g.P.Piece.seen c.args.store)) (sym c.taken_apart.ensures.copies) (store_goes KeepsPiece piece_same c.args.store c.mark_maps.new.store c.mark_maps.ensures.goes)
