-- A volume of which a plex went on or off is one as before.
use Rattle.std.proofs.Common.{sym, subst}
use Rattle.vx_volume.specs.Volume.{IsVolume, VolumeSeen, cells_seen, volume_seen}
use Rattle.vx_volume.proofs.Switchings.{seen_switched, volume_switched}
use Rattle.vx_volume.proofs.volume.Volume.set_plex.Goals as goal

pub returns-clause-switches : goal.returns-clause-switches
returns-clause-switches g c =
    record {
      cells = c.switch_cells.ensures;
      same = seen_switched g.P.Piece.seen c.switch_cells.new.cells c.args.self.now.log c.args.self.now.scratch c.args.self.now.most c.args.self.now.shape c.shape_with-self.result c.args.map c.args.on c.shape_with-self.ensures;
    }

pub returns-clause-whole : goal.returns-clause-whole
returns-clause-whole g c =
    subst (λ (v : VolumeSeen). IsVolume v)
    (sym (seen_switched g.P.Piece.seen c.switch_cells.new.cells c.args.self.now.log c.args.self.now.scratch c.args.self.now.most c.args.self.now.shape c.shape_with-self.result c.args.map c.args.on c.shape_with-self.ensures))
    (volume_switched c.args.map c.args.on (volume_seen g.P.Piece.seen c.args.self.now) (cells_seen g.P.Piece.seen c.switch_cells.new.cells.items) c.requires.plex c.requires.spare c.switch_cells.ensures c.requires.whole)
