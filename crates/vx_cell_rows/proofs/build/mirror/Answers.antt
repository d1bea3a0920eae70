use Rattle.std.proofs.Common.{refl, ◌∙◌}
use Rattle.vx_cell_rows.proofs.Masks.{mirror_ready}
use Rattle.vx_cell_rows.proofs.build.mirror.Goals as goal

pub returns : goal.returns
returns c =
    λ log.
    mirror_ready c.new.result c.args.bits c.with.result c.phase.result c.args.first c.args.second c.in-Ok.plexes.items log
    c.ranges.bits.fits (c.are_marked.ensures c.if-are_marked.false) c.phase.ensures c.requires.maps.0 c.requires.maps.1 c.requires.first c.requires.second
    (c.with.ensures ∙ rw (c.of.ensures, c.of-2.ensures) refl) c.in-Ok.ensures.items c.new.ensures
