use Rattle.vx_run.proofs.Shelves.{told_shelf}
use Rattle.vx_run.proofs.laws.each_told_shelf_is_a_moment.Goals as goal

pub returns : goal.returns
returns c = told_shelf
