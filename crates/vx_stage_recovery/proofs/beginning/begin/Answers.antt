use Rattle.std.proofs.Common.{◌∙◌, sym}
use Rattle.vx_stage_recovery.proofs.BeginStage.{begin_goes, nothing_done}
use Rattle.vx_stage_recovery.proofs.beginning.begin.Goals as goal

pub returns-then-is_started : goal.returns-then-is_started
returns-then-is_started g c = record {
  goes = λ shelf held. nothing_done g.P.Piece.seen c.each_change_restates.ensures.recovery c.args.name.now shelf c.args.house.now c.requires.keeps held;
}

pub returns-in-None : goal.returns-in-None
returns-in-None g c = record {
  goes = λ shelf held. nothing_done g.P.Piece.seen c.each_change_restates.ensures.recovery c.args.name.now shelf c.args.house.now c.requires.keeps held;
}

pub returns-in-Some : goal.returns-in-Some
returns-in-Some g c = record {
  goes = λ shelf held. begin_goes g.P.Piece.seen c.each_change_restates.ensures.recovery c.args.name.now shelf c.args.house.now c.requires.keeps held
      (sym c.is_started.ensures ∙ c.if-is_started.false) c.in-Some.group c.in-Some.is c.begin_in.result c.begin_in.new.group c.begin_in.ensures.ends;
}
