-- A volume whose log gave up a copy is one as before.
use Rattle.std.proofs.Common.{refl}
use Rattle.vx_volume.specs.Log.{log_seen}
use Rattle.vx_volume.specs.Volume.{volume_seen}
use Rattle.vx_volume.proofs.Yieldings.{volume_yielded}
use Rattle.vx_volume.proofs.volume.Volume.give_up_copy.Goals as goal

pub returns-clause-yields : goal.returns-clause-yields
returns-clause-yields g c = record { gives = c.give_up.ensures.gives; same = refl }

pub returns-clause-whole : goal.returns-clause-whole
returns-clause-whole g c = volume_yielded c.args.copy (volume_seen g.P.Piece.seen c.args.self.now) (log_seen g.P.Piece.seen c.give_up.new.self) c.give_up.ensures.gives c.requires.whole
