use Rattle.vx_joined_volumes.proofs.PartEdits.{each_leaving_keeps, each_leaving_own}
use Rattle.vx_joined_volumes.proofs.each_leaving_keeps_others.Goals as goal

pub returns : goal.returns
returns c = record { own = each_leaving_own; others = each_leaving_keeps }
