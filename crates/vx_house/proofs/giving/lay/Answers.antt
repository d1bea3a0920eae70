use Rattle.std.proofs.Common.{refl}
use Rattle.vx_house.proofs.Laid.{holders_laid, parted_laid}
use Rattle.vx_house.proofs.giving.lay.Goals as goal

pub returns-clause-same : goal.returns-clause-same
returns-clause-same g c = holders_laid g.P.Piece.seen c.requires.alike c.args.group.now (record c.args.group.now { public = c.lay_down.new.public }) refl c.requires.whole.parted c.lay_down.ensures.together

pub returns-clause-whole : goal.returns-clause-whole
returns-clause-whole g c = record {
  parted = parted_laid g.P.Piece.seen c.requires.alike c.args.group.now (record c.args.group.now { public = c.lay_down.new.public }) refl c.requires.whole.parted c.lay_down.ensures.together;
  volumes = c.lay_down.ensures.volumes;
  stuck = c.lay_down.ensures.stuck;
}
