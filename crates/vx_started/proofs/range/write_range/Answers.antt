use Rattle.std.proofs.Common.{◌≡◌, ◌+◌, ◌-◌, ◌/◌, length, Some, rules, arith, sym, ap, ◌∙◌, subst}
use Rattle.vx_base.specs.Blocks.{block_at}
use Rattle.vx_block.specs.Parts.{reached}
use Rattle.vx_block.specs.Regions.{part_at}
use Rattle.vx_piece.specs.Seen.{HasCause}
use Rattle.vx_life.specs.declared.EntryKind.TheVariants.{Write, Torn}
use Rattle.vx_started.proofs.CallCounts.{calls_more, calls_within, keeps_then, cause_after}
use Rattle.vx_started.proofs.PartSteps.{gone_more, below_more}
use Rattle.vx_started.proofs.range.write_range.Goals as goal

pub returns-in-Err-clause-kept : goal.returns-in-Err-clause-kept
returns-in-Err-clause-kept g c = keeps_then _ _ _ c.loop-index.invariant.kept c.write_part-outcome.ensures.kept

pub returns-in-Err-clause-cause : goal.returns-in-Err-clause-cause
returns-in-Err-clause-cause g c = subst (λ r. HasCause (g.P.Piece.seen c.args.piece.now) (g.P.Piece.seen c.write_part-outcome.new.piece) r) c.in-Err.is (cause_after _ _ _ c.write_part-outcome.result.1 c.loop-index.invariant.kept c.loop-index.invariant.still c.write_part-outcome.ensures.cause)

pub returns-in-Err-clause-below : goal.returns-in-Err-clause-below
returns-in-Err-clause-below g c = λ r.
    let more = below_more (c.args.most + c.loop-index.index) c.region_of-region.result c.loop-index.numbers.items c.write_part-outcome.result.0 c.write_part-outcome.new.numbers.items c.write_part-outcome.ensures.drawn c.loop-index.invariant.below r in
    omega (arith, more, c.loop-index-test.true, c.requires.few)

pub returns-in-Err-clause-failed : goal.returns-in-Err-clause-failed
returns-in-Err-clause-failed g c =
    let place = rw c.unwrap-span.ensures at c.part.ensures.place in
    let index : length c.loop-index.parts.items ≡ c.loop-index.index = search rules in
    rw c.push_reserved.ensures.items
    (gone_more c.args.geometry.now.length c.args.geometry.now.region c.args.start c.args.count Torn (λ k. block_at c.args.bytes.now (k - c.args.start)) _ (g.P.Piece.seen c.loop-index.piece) (g.P.Piece.seen c.write_part-outcome.new.piece) _ c.loop-index.numbers.items c.write_part-outcome.new.numbers.items c.loop-index.parts.items c.write_part-outcome.result.0 c.unwrap-span.result c.loop-index.invariant.torn
    (ap (part_at c.args.geometry.now.region c.args.start c.args.count) index ∙ sym c.part.ensures.value ∙ c.unwrap-span.ensures)
    (c.write_part-outcome.ensures.drawn.region_is ∙ c.region_of-region.ensures.value ∙ place.region ∙ ap (λ i. c.args.start / c.args.geometry.now.region + i) (sym index))
    (c.write_part-outcome.ensures.torn c.args.geometry.now.length))

pub loop-index-preserved : goal.loop-index-preserved
loop-index-preserved g c =
    let place = rw c.unwrap-span.ensures at c.part.ensures.place in
    let index : length c.loop-index.parts.items ≡ c.loop-index.index = search rules in
    let range : part_at c.args.geometry.now.region c.args.start c.args.count (length c.loop-index.parts.items) ≡ Some c.unwrap-span.result = ap (part_at c.args.geometry.now.region c.args.start c.args.count) index ∙ sym c.part.ensures.value ∙ c.unwrap-span.ensures in
    let region : c.write_part-outcome.result.0.region ≡ c.args.start / c.args.geometry.now.region + length c.loop-index.parts.items = c.write_part-outcome.ensures.drawn.region_is ∙ c.region_of-region.ensures.value ∙ place.region ∙ ap (λ i. c.args.start / c.args.geometry.now.region + i) (sym index) in
    record {
      kept = keeps_then _ _ _ c.loop-index.invariant.kept c.write_part-outcome.ensures.kept;
      still = (rw c.in_default.is at c.write_part-outcome.ensures.cause).quiet ∙ c.loop-index.invariant.still;
      calls = calls_within (0 + 0) ((reached c.args.geometry.now.region c.args.start c.args.count c.loop-index.index - c.args.start) + c.unwrap-span.result.count) 0 (reached c.args.geometry.now.region c.args.start c.args.count (c.loop-index.index + 1) - c.args.start) _ _ (calls_more 0 (reached c.args.geometry.now.region c.args.start c.args.count c.loop-index.index - c.args.start) 0 c.unwrap-span.result.count _ _ _ c.loop-index.invariant.calls c.write_part-outcome.ensures.calls) (omega arith) (omega (arith, place.begins, place.ends, place.from, place.to));
      sized = c.write_part-outcome.ensures.kept.sectors ∙ c.loop-index.invariant.sized;
      numbers = search rules;
      below = λ r.
          let more = below_more (c.args.most + c.loop-index.index) c.region_of-region.result c.loop-index.numbers.items c.write_part-outcome.result.0 c.write_part-outcome.new.numbers.items c.write_part-outcome.ensures.drawn c.loop-index.invariant.below r in
          omega (arith, more);
      count_of = search rules;
      spare = search rules;
      written = rw c.push_reserved.ensures.items
          (gone_more c.args.geometry.now.length c.args.geometry.now.region c.args.start c.args.count Write (λ k. block_at c.args.bytes.now (k - c.args.start)) _ (g.P.Piece.seen c.loop-index.piece) (g.P.Piece.seen c.write_part-outcome.new.piece) _ c.loop-index.numbers.items c.write_part-outcome.new.numbers.items c.loop-index.parts.items c.write_part-outcome.result.0 c.unwrap-span.result c.loop-index.invariant.written range region
          ((rw c.in_default.is at c.write_part-outcome.ensures.written) c.args.geometry.now.length));
      torn = rw c.push_reserved.ensures.items
          (gone_more c.args.geometry.now.length c.args.geometry.now.region c.args.start c.args.count Torn (λ k. block_at c.args.bytes.now (k - c.args.start)) _ (g.P.Piece.seen c.loop-index.piece) (g.P.Piece.seen c.write_part-outcome.new.piece) _ c.loop-index.numbers.items c.write_part-outcome.new.numbers.items c.loop-index.parts.items c.write_part-outcome.result.0 c.unwrap-span.result c.loop-index.invariant.torn range region
          (c.write_part-outcome.ensures.torn c.args.geometry.now.length));
    }

pub returns-in-Err-clause-calls : goal.returns-in-Err-clause-calls
returns-in-Err-clause-calls g c =
    let place = rw c.unwrap-span.ensures at c.part.ensures.place in
    calls_within (0 + 0) ((reached c.args.geometry.now.region c.args.start c.args.count c.loop-index.index - c.args.start) + c.unwrap-span.result.count) 0 c.args.count _ _ (calls_more 0 (reached c.args.geometry.now.region c.args.start c.args.count c.loop-index.index - c.args.start) 0 c.unwrap-span.result.count _ _ _ c.loop-index.invariant.calls c.write_part-outcome.ensures.calls) (omega arith) (omega (arith, place.begins, place.ends, place.from, place.to))

pub returns-clause-calls : goal.returns-clause-calls
returns-clause-calls g c = calls_within 0 (reached c.args.geometry.now.region c.args.start c.args.count c.loop-index.index - c.args.start) 0 c.args.count _ _ c.loop-index.invariant.calls (omega arith) (omega arith)
