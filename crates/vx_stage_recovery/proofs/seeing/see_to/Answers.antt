use Rattle.std.proofs.Common.{[], refl, sym}
use Rattle.std.proofs.lemmas.List.{append-nil}
use Rattle.vx_house.specs.View.{at}
use Rattle.vx_recovery.specs.Going.{Heal, Pass}
use Rattle.vx_stage_recovery.proofs.Seen.{heals_goes, passed_over}
use Rattle.vx_stage_recovery.proofs.Starts.{begun_goes, start_ready}
use Rattle.vx_stage_recovery.proofs.seeing.see_to.Goals as goal

pub returns-in-Pass : goal.returns-in-Pass
returns-in-Pass g c = record {
  goes = ([], sym (append-nil c.args.views.now.items), λ shelf held. passed_over g.P.Piece.seen c.args.name.now shelf c.args.house.now Pass (sym c.in-Pass.ensures) refl (record { devices = held; house = c.requires.keeps }));
}

pub returns-in-Begin : goal.returns-in-Begin
returns-in-Begin g c = record {
  goes = (
    [],
    sym (append-nil c.args.views.now.items),
    λ shelf held.
        rw c.begun.ensures
        (begun_goes g.P.Piece.seen c.args.name.now shelf c.args.house.now c.start.new.house (sym c.in-Begin.ensures) [] c.start.result
        (c.start.ensures.goes [] shelf (start_ready g.P.Piece.seen c.args.name.now shelf c.args.house.now c.start.new.house (sym c.in-Begin.ensures) []) held)),
  );
}

pub returns-in-Heal : goal.returns-in-Heal
returns-in-Heal g c = record {
  goes = (
    c.heal.ensures.goes.0,
    c.heal.ensures.goes.1,
    λ shelf held. heals_goes g.P.Piece.seen c.args.name.now shelf c.args.house.now Heal (sym c.in-Heal.ensures) refl c.heal.ensures.goes.0 (at shelf c.heal.new.house) c.heal.result (c.heal.ensures.goes.2 shelf held),
  );
}
