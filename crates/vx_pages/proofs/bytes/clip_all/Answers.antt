use Rattle.std.proofs.Common.{◌<◌, ◌∙◌, ap, sym, arith, length, List, ℕ}
use Rattle.vx_pages.proofs.Clips.{below_next, rest_next}
use Rattle.vx_pages.proofs.Settlement.{image_is, images_count, images_set}
use Rattle.vx_pages.proofs.bytes.clip_all.Goals as goal

pub clip-requires : goal.clip-requires
clip-requires c =
    let n = images_count c.loop-map.images.items c.loop-map.invariant.images in
    let lt : c.loop-map.map < length c.loop-map.images.items = omega (arith, n) in
    ap (λ (x : List ℕ). length x) (sym (image_is c.loop-map.images.items c.loop-map.map c.index_mut-image.result.now lt c.index_mut-image.ensures.value)) ∙ c.loop-map.invariant.images.whole c.loop-map.map c.loop-map-test.true

pub loop-map-preserved : goal.loop-map-preserved
loop-map-preserved c =
    let n = images_count c.loop-map.images.items c.loop-map.invariant.images in
    let lt : c.loop-map.map < length c.loop-map.images.items = omega (arith, n) in
    let is = c.index_mut-image.ensures.value in
    let rest = c.loop-map.invariant.rest in
    record {
      images = images_set c.loop-map.images.items c.loop-map.map c.clip.new.page lt c.clip.ensures.length c.loop-map.invariant.images;
      below = below_next _ c.loop-map.images.items c.loop-map.map c.args.inside c.index_mut-image.result.now c.clip.new.page lt is rest c.clip.ensures.bits c.loop-map.invariant.below;
      rest = rest_next _ c.loop-map.images.items c.loop-map.map c.args.inside c.index_mut-image.result.now c.clip.new.page lt is rest c.clip.ensures.bits;
    }
