use Rattle.std.proofs.Common.{◌∙◌, arith}
use Rattle.std.proofs.lemmas.List.{length-map}
use Rattle.vx_pages.specs.Sector.{is_sure}
use Rattle.vx_pages.specs.Page.{sector_at, sectors_seen}
use Rattle.vx_pages.specs.Sectors.{sector_seen}
use Rattle.vx_pages.proofs.Masks.{masks_start, masks_on, masks_end}
use Rattle.vx_pages.proofs.sectors.marks_at.Goals as goal

pub loop-map-init : goal.loop-map-init
loop-map-init g c = λ k. masks_start (λ m. is_sure (sector_at (sectors_seen g.P.LocalPiece.seen c.args.sectors.now.items) m) c.args.region) k

pub loop-map-preserved : goal.loop-map-preserved
loop-map-preserved g c =
    masks_on (sector_seen g.P.LocalPiece.seen) c.args.sectors.now.items c.loop-map.map c.args.region c.loop-map.marks c.with_map-marks.result c.index-sector.result.now c.is_marked.result (let e = c.requires in omega (arith, e))
    c.index-sector.ensures c.is_marked.ensures c.loop-map.invariant c.with_map-marks.ensures

pub returns : goal.returns
returns g c =
    masks_end _ c.args.region c.loop-map.marks c.loop-map.map (length-map c.args.sectors.now.items (sector_seen g.P.LocalPiece.seen) ∙ c.requires) c.loop-map-test.false c.loop-map.invariant
