use Rattle.std.proofs.Common.{rules, [], ℕ}
use Rattle.std.specs.Global.{Vec}
use Rattle.vx_pages.specs.Images.{images_seen}
use Rattle.vx_pages.specs.Reading.{AreImages}
use Rattle.vx_maps.proofs.FetchRows.{pushed}
use Rattle.vx_maps.proofs.reading.images_of.Goals as goal

pub loop-page-preserved : goal.loop-page-preserved
loop-page-preserved c = record {
  count = search rules;
  room = search rules;
  each = pushed [] (λ (row : Vec (Vec ℕ)). images_seen row.items) AreImages c.loop-page.rows.items c.push_reserved.new.self.items c.in_ok-row_of.field-0 c.loop-page._page c.loop-page.invariant.count c.push_reserved.ensures.items c.loop-page.invariant.each c.in_ok-row_of.ensures;
}
