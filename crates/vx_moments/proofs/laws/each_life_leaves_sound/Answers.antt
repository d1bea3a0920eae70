use Rattle.vx_moments.proofs.Lives.{start_leaves, leaving_leaves}
use Rattle.vx_moments.proofs.laws.each_life_leaves_sound.Goals as goal

pub returns-clause-start : goal.returns-clause-start
returns-clause-start c = start_leaves

pub returns-clause-leaving : goal.returns-clause-leaving
returns-clause-leaving c = leaving_leaves
