use Rattle.std.proofs.Common.{◌+◌, refl, inl, arith}
use Rattle.vx_confdb.specs.Add.{IsJoined}
use Rattle.vx_confdb.specs.declared.joining.Prepared.TheVariants.{Cut}
use Rattle.vx_confdb.specs.Texts.{text_of}
use Rattle.vx_copies.proofs.StepLaws.{all_refl}
use Rattle.vx_copies.proofs.Leaders.{led_below}
use Rattle.vx_copies.proofs.ToggleOrder.{none_newer}
use Rattle.vx_copies.proofs.Records.{none_recorded}
use Rattle.vx_confdb.proofs.group.Group.write_joined.Goals as goal

pub returns-in-Cut-clause-written : goal.returns-in-Cut-clause-written
returns-in-Cut-clause-written g c =
    let cut : IsJoined g.P.Piece.seen Cut c.args.self.now = rw c.in-Cut.is at c.requires.alive in
    record {
      committed = record { name = refl; goes = all_refl (c.args.self.now.sequence + 1) c.args.self.now.sequence (text_of c.args.text) _; old_or_new = λ readable. inl refl; order = none_newer c.args.self.now.name c.args.self.now.sequence _ cut.1; few = omega arith };
      lead = λ tells. led_below c.args.self.now.name c.args.self.now.sequence c.args.carriers _ cut.1;
      ends = (refl, cut.2);
      recorded = none_recorded c.args.self.now.sequence (text_of c.args.text) _;
      done = tt;
      exact = tt;
    }

pub returns-in-Cut-clause-group : goal.returns-in-Cut-clause-group
returns-in-Cut-clause-group g c =
    let cut : IsJoined g.P.Piece.seen Cut c.args.self.now = rw c.in-Cut.is at c.requires.alive in
    cut.0
