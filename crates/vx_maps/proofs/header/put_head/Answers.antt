use Rattle.std.proofs.Common.{refl}
use Rattle.vx_pages.specs.Pieces.{copies_of}
use Rattle.vx_maps.specs.Sheets.{sheets_seen}
use Rattle.vx_maps.proofs.Heads.{put_alone}
use Rattle.vx_maps.proofs.header.put_head.Goals as goal

pub returns : goal.returns
returns g c = record {
  before = copies_of g.P.LocalPiece.seen c.take_both-first.result.0 c.take_both-first.result.1;
  after = copies_of g.P.LocalPiece.seen c.put-result.new.first c.take_both-first.result.1;
  between = sheets_seen g.P.LocalPiece.seen c.take_both-first.new.sheets;
  out = c.take_both-first.ensures;
  change = (put_alone c.args.sector.now _ _ _ c.put-result.result c.put-result.ensures, refl);
  back = c.put_both.ensures;
}
