use Rattle.std.proofs.Common.{◌≡◌, ◌+◌, ◌-◌, ◌/◌, [], length, Some, None, rules, arith, sym, ap, ◌∙◌, subst}
use Rattle.vx_base.specs.Blocks.{block_at}
use Rattle.vx_block.specs.Regions.{part_at}
use Rattle.vx_block.specs.Parts.{reached}
use Rattle.vx_block.proofs.PartLemmas.{all_reached}
use Rattle.vx_piece.specs.Seen.{HasCause}
use Rattle.vx_life.specs.declared.EntryKind.TheVariants.{Read, Missed}
use Rattle.vx_started.specs.Buffers.{HoldsFirst}
use Rattle.vx_started.proofs.CallCounts.{calls_more, calls_within, keeps_then, cause_after, read_then}
use Rattle.vx_started.proofs.PartSteps.{gone_more, below_more}
use Rattle.vx_started.proofs.range.read_range.Goals as goal

pub returns-in-Err-clause-kept : goal.returns-in-Err-clause-kept
returns-in-Err-clause-kept g c = keeps_then _ _ _ c.loop-index.invariant.kept c.read_part-outcome.ensures.kept

pub returns-in-Err-clause-cause : goal.returns-in-Err-clause-cause
returns-in-Err-clause-cause g c = subst (λ r. HasCause (g.P.Piece.seen c.args.piece.now) (g.P.Piece.seen c.read_part-outcome.new.piece) r) c.in-Err.is (cause_after _ _ _ c.read_part-outcome.result.1 c.loop-index.invariant.kept c.loop-index.invariant.still c.read_part-outcome.ensures.cause)

pub returns-in-Err-clause-below : goal.returns-in-Err-clause-below
returns-in-Err-clause-below g c = λ r.
    let more = below_more (c.args.most + c.loop-index.index) c.region_of-region.result c.loop-index.numbers.items c.read_part-outcome.result.0 c.read_part-outcome.new.numbers.items c.read_part-outcome.ensures.drawn c.loop-index.invariant.below r in
    omega (arith, more, c.loop-index-test.true, c.requires.few)

pub returns-in-Err-clause-failed : goal.returns-in-Err-clause-failed
returns-in-Err-clause-failed g c =
    let place = rw c.unwrap-span.ensures at c.part.ensures.place in
    let index : length c.loop-index.parts.items ≡ c.loop-index.index = search rules in
    rw c.push_reserved.ensures.items
    (gone_more c.args.geometry.now.length c.args.geometry.now.region c.args.start c.args.count Missed (λ k. block_at [] (k - c.args.start)) _ (g.P.Piece.seen c.loop-index.piece) (g.P.Piece.seen c.read_part-outcome.new.piece) _ c.loop-index.numbers.items c.read_part-outcome.new.numbers.items c.loop-index.parts.items c.read_part-outcome.result.0 c.unwrap-span.result c.loop-index.invariant.missed
    (ap (part_at c.args.geometry.now.region c.args.start c.args.count) index ∙ sym c.part.ensures.value ∙ c.unwrap-span.ensures)
    (c.read_part-outcome.ensures.drawn.region_is ∙ c.region_of-region.ensures.value ∙ place.region ∙ ap (λ i. c.args.start / c.args.geometry.now.region + i) (sym index))
    (c.read_part-outcome.ensures.missed c.args.geometry.now.length (λ k. block_at [] (k - c.args.start))))

pub loop-index-preserved : goal.loop-index-preserved
loop-index-preserved g c =
    let place = rw c.unwrap-span.ensures at c.part.ensures.place in
    let told = (g.P.Piece.seen c.args.piece.now).told in
    let index : length c.loop-index.parts.items ≡ c.loop-index.index = search rules in
    let range : part_at c.args.geometry.now.region c.args.start c.args.count (length c.loop-index.parts.items) ≡ Some c.unwrap-span.result = ap (part_at c.args.geometry.now.region c.args.start c.args.count) index ∙ sym c.part.ensures.value ∙ c.unwrap-span.ensures in
    let region : c.read_part-outcome.result.0.region ≡ c.args.start / c.args.geometry.now.region + length c.loop-index.parts.items = c.read_part-outcome.ensures.drawn.region_is ∙ c.region_of-region.ensures.value ∙ place.region ∙ ap (λ i. c.args.start / c.args.geometry.now.region + i) (sym index) in
    let held : HoldsFirst c.loop-index.blocks.items told c.args.start (c.unwrap-span.result.start - c.args.start) = subst (λ e. HoldsFirst c.loop-index.blocks.items told c.args.start (e - c.args.start)) (sym place.begins) c.loop-index.invariant.holds in
    record {
      kept = keeps_then _ _ _ c.loop-index.invariant.kept c.read_part-outcome.ensures.kept;
      same = read_then _ _ _ c.loop-index.invariant.same c.read_part-outcome.ensures.same;
      still = (rw c.in_default.is at c.read_part-outcome.ensures.cause).quiet ∙ c.loop-index.invariant.still;
      calls = calls_within ((reached c.args.geometry.now.region c.args.start c.args.count c.loop-index.index - c.args.start) + c.unwrap-span.result.count) (0 + 0) (reached c.args.geometry.now.region c.args.start c.args.count (c.loop-index.index + 1) - c.args.start) 0 _ _ (calls_more (reached c.args.geometry.now.region c.args.start c.args.count c.loop-index.index - c.args.start) 0 c.unwrap-span.result.count 0 _ _ _ c.loop-index.invariant.calls c.read_part-outcome.ensures.calls) (omega (arith, place.begins, place.ends, place.from, place.to)) (omega arith);
      sized = c.read_part-outcome.ensures.kept.sectors ∙ c.loop-index.invariant.sized;
      numbers = search rules;
      below = λ r.
          let more = below_more (c.args.most + c.loop-index.index) c.region_of-region.result c.loop-index.numbers.items c.read_part-outcome.result.0 c.read_part-outcome.new.numbers.items c.read_part-outcome.ensures.drawn c.loop-index.invariant.below r in
          omega (arith, more);
      count_of = search rules;
      spare = search rules;
      buffer = search rules;
      holds = subst (λ e. HoldsFirst c.read_part-outcome.new.blocks.items told c.args.start (e - c.args.start)) place.ends
          (subst (λ t. HoldsFirst c.read_part-outcome.new.blocks.items t c.args.start (c.unwrap-span.result.start + c.unwrap-span.result.count - c.args.start)) c.loop-index.invariant.same.told
          ((rw c.in_default.is at c.read_part-outcome.ensures.holds) (subst (λ t. HoldsFirst c.loop-index.blocks.items t c.args.start (c.unwrap-span.result.start - c.args.start)) (sym c.loop-index.invariant.same.told) held)));
      read = λ contents is. rw c.push_reserved.ensures.items
          (gone_more c.args.geometry.now.length c.args.geometry.now.region c.args.start c.args.count Read contents _ (g.P.Piece.seen c.loop-index.piece) (g.P.Piece.seen c.read_part-outcome.new.piece) _ c.loop-index.numbers.items c.read_part-outcome.new.numbers.items c.loop-index.parts.items c.read_part-outcome.result.0 c.unwrap-span.result (c.loop-index.invariant.read contents is) range region
          (c.read_part-outcome.ensures.read c.args.geometry.now.length contents (omega (arith, place.to, c.requires.inside)) (c.loop-index.invariant.same.told ∙ is)));
      missed = rw c.push_reserved.ensures.items
          (gone_more c.args.geometry.now.length c.args.geometry.now.region c.args.start c.args.count Missed (λ k. block_at [] (k - c.args.start)) _ (g.P.Piece.seen c.loop-index.piece) (g.P.Piece.seen c.read_part-outcome.new.piece) _ c.loop-index.numbers.items c.read_part-outcome.new.numbers.items c.loop-index.parts.items c.read_part-outcome.result.0 c.unwrap-span.result c.loop-index.invariant.missed range region
          (c.read_part-outcome.ensures.missed c.args.geometry.now.length (λ k. block_at [] (k - c.args.start))));
    }

pub returns-clause-cause : goal.returns-clause-cause
returns-clause-cause g c = record { failed = λ e. cc; cut = λ e. cc; quiet = c.loop-index.invariant.still }

pub returns-clause-holds : goal.returns-clause-holds
returns-clause-holds g c =
    let told = (g.P.Piece.seen c.args.piece.now).told in
    let all : c.loop-index.index ≡ c.args.total = omega (arith, c.loop-index-test.false, c.loop-index.auto.index-end) in
    let valid = c.args.geometry.now.valid in
    let end : part_at c.args.geometry.now.region c.args.start c.args.count c.loop-index.index ≡ None = ap (part_at c.args.geometry.now.region c.args.start c.args.count) all ∙ c.requires.end in
    let reach : reached c.args.geometry.now.region c.args.start c.args.count c.loop-index.index ≡ c.args.start + c.args.count = all_reached c.args.geometry.now.region c.args.start c.args.count c.loop-index.index (search rules) c.requires.some end in
    let long : reached c.args.geometry.now.region c.args.start c.args.count c.loop-index.index - c.args.start ≡ c.args.count = omega (arith, reach) in
    subst (λ n. HoldsFirst c.loop-index.blocks.items told c.args.start n) long c.loop-index.invariant.holds

pub returns-in-Err-clause-calls : goal.returns-in-Err-clause-calls
returns-in-Err-clause-calls g c =
    let place = rw c.unwrap-span.ensures at c.part.ensures.place in
    calls_within ((reached c.args.geometry.now.region c.args.start c.args.count c.loop-index.index - c.args.start) + c.unwrap-span.result.count) (0 + 0) c.args.count 0 _ _ (calls_more (reached c.args.geometry.now.region c.args.start c.args.count c.loop-index.index - c.args.start) 0 c.unwrap-span.result.count 0 _ _ _ c.loop-index.invariant.calls c.read_part-outcome.ensures.calls) (omega (arith, place.begins, place.ends, place.from, place.to)) (omega arith)

pub returns-clause-calls : goal.returns-clause-calls
returns-clause-calls g c = calls_within (reached c.args.geometry.now.region c.args.start c.args.count c.loop-index.index - c.args.start) 0 c.args.count 0 _ _ c.loop-index.invariant.calls (omega arith) (omega arith)
