-- A volume whose log was made firm is one as before.
use Rattle.std.proofs.Common.{refl}
use Rattle.vx_volume.specs.Log.{log_seen}
use Rattle.vx_volume.specs.Volume.{volume_seen}
use Rattle.vx_volume.proofs.Switchings.{volume_firm}
use Rattle.vx_volume.proofs.volume.Volume.firm.Goals as goal

pub returns-clause-firms : goal.returns-clause-firms
returns-clause-firms g c = record { told = c.firm.ensures.told; kept = c.firm.ensures.kept; claims = c.firm.ensures.claims; cause = c.firm.ensures.cause; same = refl }

pub returns-clause-whole : goal.returns-clause-whole
returns-clause-whole g c = volume_firm (volume_seen g.P.Piece.seen c.args.self.now) (log_seen g.P.Piece.seen c.firm.new.self) c.firm.ensures.kept c.requires.whole
