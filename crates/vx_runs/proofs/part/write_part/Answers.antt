use Rattle.std.proofs.Common.{ℕ, ◌+◌, ◌∙◌, ap}
use Rattle.std.specs.Prelude.{min, ◌/◌, length}
use Rattle.vx_runs.proofs.Parts.{part_written}
use Rattle.vx_runs.proofs.part.write_part.Goals as goal

pub returns-then-first-last : goal.returns-then-first-last
returns-then-first-last g c =
    part_written c.args.start c.args.at c.max-first.result c.min-last.result c.args.from.now _ _ c.write.result
    (record { from = c.max-first.ensures; upto = c.min-last.ensures ∙ ap (λ (n : ℕ). min (c.args.at + length c.args.from.now / 512) (c.args.start + n)) c.sectors.ensures })
    c.if-first-last.true c.requires.whole c.write.ensures.kept c.write.ensures.told c.write.ensures.cause
