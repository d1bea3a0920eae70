-- A volume into which a plex was put is one as before.
use Rattle.std.proofs.Common.{refl}
use Rattle.vx_volume.specs.Changing.{runs_seen}
use Rattle.vx_volume.specs.Volume.{cells_seen, volume_seen}
use Rattle.vx_volume.proofs.Puttings.{each_gets, volume_put}
use Rattle.vx_volume.proofs.volume.Volume.put_plex.Goals as goal

pub returns-clause-puts : goal.returns-clause-puts
returns-clause-puts g c =
    record {
      cells = each_gets c.args.map (runs_seen g.P.Piece.seen c.args.plexes.items) (volume_seen g.P.Piece.seen c.args.self.now) (cells_seen g.P.Piece.seen c.put_in_cells.new.cells.items) c.requires.free c.put_in_cells.ensures;
      same = refl;
    }

pub returns-clause-whole : goal.returns-clause-whole
returns-clause-whole g c =
    volume_put c.args.map (runs_seen g.P.Piece.seen c.args.plexes.items) (volume_seen g.P.Piece.seen c.args.self.now) (cells_seen g.P.Piece.seen c.put_in_cells.new.cells.items) c.requires.free c.requires.plex c.put_in_cells.ensures
    c.requires.whole
