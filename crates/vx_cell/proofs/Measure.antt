-- How far a job still is from its end.
use Rattle.std.proofs.Common.{ℕ}
use Rattle.vx_core.specs.declared.stage.Phase.{Phase}
use Rattle.vx_core.specs.declared.stage.Phase.TheVariants.{Settled, Unsettled, Dead, Busy}
use Rattle.vx_core.specs.Progress.{steps_left}

abbrev pub phase_steps : Phase → ℕ
phase_steps (Busy w) = steps_left w
phase_steps Settled = 0
phase_steps Unsettled = 0
phase_steps Dead = 0
