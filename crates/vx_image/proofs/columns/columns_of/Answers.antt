use Rattle.std.proofs.Common.{rules, ◌-◌, ◌+◌, ◌++◌, ◌∙◌, ap}
use Rattle.vx_image.specs.Lies.{columns_from}
use Rattle.vx_image.proofs.Walks.{columns_more}
use Rattle.vx_image.proofs.columns.columns_of.Goals as goal

pub loop-col-preserved : goal.loop-col-preserved
loop-col-preserved c =
    ap (λ items. items ++ columns_from (c.args.plex.now.ncol - (c.loop-col.col + 1)) c.args.config.now c.args.plex.now.name (c.loop-col.col + 1)) (search rules)
    ∙ columns_more c.loop-col.columns.items c.args.plex.now.ncol c.loop-col.col c.args.config.now c.args.plex.now.name c.in_ok-column.column _ (search rules) (search rules) c.loop-col.invariant
