use Rattle.std.proofs.Common.{◌<◌, ◌∙◌, [], length, arith, rules}
use Rattle.std.proofs.lemmas.List.{length-map}
use Rattle.vx_pages.specs.Arming.{armed_sectors}
use Rattle.vx_pages.specs.Pages.{sectors_of}
use Rattle.vx_pages.proofs.Rounds.{ends, goes_on}
use Rattle.vx_pages.proofs.Settlement.{each_is}
use Rattle.vx_maps.proofs.PageRows.{places_set}
use Rattle.vx_maps.proofs.pages.arm_pages.Goals as goal

pub loop-index-preserved : goal.loop-index-preserved
loop-index-preserved g c =
    let lt : c.loop-index.index < length c.loop-index.pages.items = let f = c.loop-index.invariant.size in omega (arith, c.len-index-end.ensures, f, c.args.pages.now.ok.0) in
    record {
      went = goes_on [] (sectors_of g.P.LocalPiece.seen) _ _ c.loop-index.pages.items c.loop-index.index c.index_mut-page.result.now c.arm.new.self lt c.index_mut-page.ensures.value c.loop-index.invariant.went c.arm.ensures.armed;
      size = search rules;
      places = places_set c.loop-index.pages.items c.loop-index.index c.index_mut-page.result.now c.arm.new.self c.index_mut-page.ensures.value c.arm.ensures.page ∙ c.loop-index.invariant.places;
    }

pub returns-clause-armed : goal.returns-clause-armed
returns-clause-armed g c =
    each_is [] (armed_sectors c.args.stop) _ _
    (ends [] _ c.loop-index.index _ _ (let f = c.loop-index.invariant.size in let e = length-map c.args.pages.now.items (sectors_of g.P.LocalPiece.seen) in omega (arith, e, f, c.len-index-end.ensures, c.args.pages.now.ok.0)) c.loop-index.invariant.went)
