-- A volume that a plex has left is one as before.
use Rattle.std.proofs.Common.{sym, subst}
use Rattle.vx_volume.specs.Volume.{IsVolume, VolumeSeen, cells_seen, volume_seen}
use Rattle.vx_volume.proofs.Partings.{seen_lost, volume_lost}
use Rattle.vx_volume.proofs.volume.Volume.take_plex.Goals as goal

pub returns-clause-loses : goal.returns-clause-loses
returns-clause-loses g c =
    record {
      cells = c.take_from_cells-runs.ensures.loses;
      same = seen_lost g.P.Piece.seen c.take_from_cells-runs.new.cells c.args.self.now.log c.args.self.now.scratch c.args.self.now.most c.args.self.now.shape c.shape_without-self.result c.args.map c.shape_without-self.ensures;
    }

pub returns-clause-whole : goal.returns-clause-whole
returns-clause-whole g c =
    subst (λ (v : VolumeSeen). IsVolume v)
    (sym (seen_lost g.P.Piece.seen c.take_from_cells-runs.new.cells c.args.self.now.log c.args.self.now.scratch c.args.self.now.most c.args.self.now.shape c.shape_without-self.result c.args.map c.shape_without-self.ensures))
    (volume_lost c.args.map (volume_seen g.P.Piece.seen c.args.self.now) (cells_seen g.P.Piece.seen c.take_from_cells-runs.new.cells.items) c.requires.spare c.take_from_cells-runs.ensures.loses c.requires.whole)
