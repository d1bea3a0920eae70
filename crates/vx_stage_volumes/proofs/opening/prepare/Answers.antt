use Rattle.vx_stage_volumes.proofs.PartedGroup.{parts_self}
use Rattle.vx_stage_volumes.proofs.opening.prepare.Goals as goal

pub returns-then-not-is_empty-clause-parts : goal.returns-then-not-is_empty-clause-parts
returns-then-not-is_empty-clause-parts g c = parts_self g.P.Piece.seen c.requires.alike c.args.group.now c.requires.kept
