use Rattle.vx_stage_volumes.proofs.PartedGroup.{put_and_parted, put_back}
use Rattle.vx_stage_volumes.proofs.opening.part.Goals as goal

pub returns-in_err-gather-clause-parts : goal.returns-in_err-gather-clause-parts
returns-in_err-gather-clause-parts g c =
    put_back g.P.Piece.seen c.requires.alike c.args.group.now c.gather.new.public c.requires.kept c.gather.ensures.still
    c.gather.ensures.running c.gather.ensures.stuck

pub returns-clause-parts : goal.returns-clause-parts
returns-clause-parts g c =
    put_and_parted g.P.Piece.seen c.requires.alike c.each_piece_ends.ensures.ends c.each_piece_ends.ensures.counts
    c.args.group.now c.gather.new.public c.open_group.new.group c.open_group.new.pool
    c.requires.kept c.gather.ensures.still c.gather.ensures.running c.gather.ensures.stuck c.in_ok-gather.ensures.none
    c.open_group.ensures.group c.open_group.ensures.alive c.open_group.ensures.parts
