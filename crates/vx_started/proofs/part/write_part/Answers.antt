use Rattle.std.proofs.Common.{ℕ, List, ◌-◌, ◌*◌, take, drop}
use Rattle.vx_base.specs.Blocks.{Contents, block_at}
use Rattle.vx_started.proofs.Choice.{written-part}
use Rattle.vx_started.proofs.PartWrites.{part_always_written, part_torn}
use Rattle.vx_started.proofs.part.write_part.Goals as goal

pub returns-clause-written : goal.returns-clause-written
returns-clause-written g c =
    let own : List ℕ = take (512 * c.args.span.count) (drop (512 * (c.args.span.start - c.args.start)) c.args.bytes.now) in
    let values : Contents = λ k. block_at c.args.bytes.now (k - c.args.start) in
    part_always_written c.args.region c.args.span _ _ _ _ c.draw-part.result c.draw-part.ensures.drawn own values (written-part c.args.bytes.now c.args.start c.args.span.start c.args.span.count c.requires.from c.requires.holds) c.write_own-outcome.result c.write_own-outcome.ensures.told

pub returns-clause-torn : goal.returns-clause-torn
returns-clause-torn g c = λ n.
    let own : List ℕ = take (512 * c.args.span.count) (drop (512 * (c.args.span.start - c.args.start)) c.args.bytes.now) in
    let values : Contents = λ k. block_at c.args.bytes.now (k - c.args.start) in
    part_torn n c.args.region c.args.span _ _ _ _ c.draw-part.result c.draw-part.ensures.drawn own values (written-part c.args.bytes.now c.args.start c.args.span.start c.args.span.count c.requires.from c.requires.holds) c.write_own-outcome.result c.write_own-outcome.ensures.told
