use Rattle.std.proofs.Common.{subst}
use Rattle.std.proofs.lemmas.List.{take_rest}
use Rattle.vx_yielded_volumes.specs.Yielded.{IsCopyOn}
use Rattle.vx_stage_dissociation.proofs.YieldStrips.{on_later}
use Rattle.vx_stage_dissociation.proofs.layouts.+place_among.Goals as goal

pub returns-in-Some : goal.returns-in-Some
returns-in-Some t c = on_later c.args.layouts.now c.args.layout.now c.in-Some.index (subst (λ rest. IsCopyOn rest c.in-Some.index c.args.layout.now) (take_rest c.args.layouts.now 1) c.in-Some.ensures)
