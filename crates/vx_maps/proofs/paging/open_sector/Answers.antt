use Rattle.vx_pages.specs.Pieces.{copies_of}
use Rattle.vx_pages.proofs.OpenBits.{open_formed}
use Rattle.vx_maps.proofs.paging.open_sector.Goals as goal

pub of-requires : goal.of-requires
of-requires g c = open_formed (copies_of g.P.LocalPiece.seen c.args.first c.args.second) c.args.sure.items c.args.loose.items c.requires.sectors c.requires.none c.requires.all
