use Rattle.std.proofs.Common.{rules, sym}
use Rattle.vx_block.proofs.PartLemmas.{part_is}
use Rattle.vx_block.proofs.geometry.Geometry.part.Goals as goal

pub returns-then-low-high-clause-place : goal.returns-then-low-high-clause-place
returns-then-low-high-clause-place c = part_is _ _ _ _ (search rules) c.requires.some _ (search rules)
