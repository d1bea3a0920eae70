-- One plex after the other is copied to.
use Rattle.std.proofs.Common.{arith}
use Rattle.vx_volume.specs.Log.{log_kept_on}
use Rattle.vx_volume.specs.Volume.{volume_seen}
use Rattle.vx_group_start.proofs.Passes.{copies_stopped}
use Rattle.vx_group_start.proofs.copying.copy_all.Goals as goal

pub returns-in-Err-clause-follows : goal.returns-in-Err-clause-follows
returns-in-Err-clause-follows g c = log_kept_on _ _ _ c.loop-map.invariant.follows c.copy_map.ensures.follows

pub returns-in-Err-clause-copied : goal.returns-in-Err-clause-copied
returns-in-Err-clause-copied g c =
    copies_stopped c.args.mask c.loop-map.map (volume_seen g.P.Piece.seen c.args.volume.now) (volume_seen g.P.Piece.seen c.loop-map.volume) (volume_seen g.P.Piece.seen c.copy_map.new.volume) c.copy_map.result c.in-Err.fault c.in-Err.is c.loop-map-test.true c.loop-map.invariant.done
    c.copy_map.ensures.copies c.copy_map.ensures.range

pub returns-clause-copied : goal.returns-clause-copied
returns-clause-copied g c = let t = c.loop-map-test.false in let e = c.loop-map.auto.map-end in record { maps = c.loop-map.map; all = omega (arith, t, e); made = c.loop-map.invariant.done; plain = tt }
