use Rattle.std.proofs.Common.{ℕ, ◌+◌, ◌∙◌, ap, rules}
use Rattle.std.specs.Prelude.{min, ◌/◌, length}
use Rattle.vx_runs.proofs.Parts.{part_read}
use Rattle.vx_runs.proofs.part.read_part.Goals as goal

pub returns-then-first-last-clause-read : goal.returns-then-first-last-clause-read
returns-then-first-last-clause-read g c =
    part_read c.args.start c.args.at c.max-first.result c.min-last.result c.args.into.now c.read.new.into _ _ c.read.result
    (record { from = c.max-first.ensures; upto = c.min-last.ensures ∙ ap (λ (n : ℕ). min (c.args.at + length c.args.into.now / 512) (c.args.start + n)) c.sectors.ensures })
    c.if-first-last.true c.requires.whole (search rules) (search rules) c.read.ensures.kept c.read.ensures.same c.read.ensures.ok c.read.ensures.cause
