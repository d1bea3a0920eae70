use Rattle.std.proofs.Common.{rules}
use Rattle.vx_hierarchy.proofs.Named.{named_more}
use Rattle.vx_hierarchy.proofs.rows.plexes_by_name.Goals as goal

pub loop-plex-preserved : goal.loop-plex-preserved
loop-plex-preserved c = λ name.
    named_more c.args.plexes.now c.loop-plex.plex-index c.plex-item.result name _ _ (search rules) (search rules) (c.loop-plex.invariant name) (c.in_ok-put_plex.ensures name)
