use Rattle.std.proofs.Common.{◌≡◌, rules, [], ℕ, List, length}
use Rattle.std.specs.Global.{Vec}
use Rattle.vx_maps.proofs.FetchRows.{pushed}
use Rattle.vx_maps.proofs.reading.row_of.Goals as goal

pub loop-map-preserved : goal.loop-map-preserved
loop-map-preserved c = record {
  count = search rules;
  room = search rules;
  whole = pushed [] (λ (image : Vec ℕ). image.items) (λ (x : List ℕ). length x ≡ 512) c.loop-map.row.items c.push_reserved.new.self.items c.in_ok-empty_page.field-0 c.loop-map._map c.loop-map.invariant.count c.push_reserved.ensures.items c.loop-map.invariant.whole c.in_ok-empty_page.ensures.length;
}
