use Rattle.std.proofs.Common.{◌&&◌, ◌==◌, rules}
use Rattle.vx_rules.specs.Columns.{is_in_column}
use Rattle.vx_image.proofs.Walks.{find_more}
use Rattle.vx_image.proofs.strips.pieces_of.Goals as goal

pub loop-subdisk-preserved : goal.loop-subdisk-preserved
loop-subdisk-preserved c = λ at.
    find_more (λ s. is_in_column c.args.plex.now c.args.col s && s.at == at) c.args.subdisks.now c.loop-subdisk.subdisk-index c.subdisk-item.result _ _ (search rules) (search rules) (c.loop-subdisk.invariant at) (c.in_ok-put_piece.ensures at)
