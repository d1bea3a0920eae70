use Rattle.std.proofs.Common.{refl}
use Rattle.vx_config_parts.specs.declared.state.VolState.TheVariants as vol
use Rattle.vx_state_edits.specs.Edits.{is_new, recovered, started, stopped}
use Rattle.vx_state_edits.proofs.Fine.{none_refused, recovered_counts, start_counts, stop_counts}
use Rattle.vx_state_edits.proofs.laws.each_change_is_fine.Goals as goal

pub returns-clause-start : goal.returns-clause-start
returns-clause-start c = λ config v recorded. none_refused (started (is_new v.state)) config v recorded vol.Active (start_counts (is_new v.state))

pub returns-clause-stop : goal.returns-clause-stop
returns-clause-stop c = λ config v marks recorded. none_refused (stopped marks) config v recorded vol.Clean (stop_counts marks)

pub returns-clause-recovery : goal.returns-clause-recovery
returns-clause-recovery c = λ config v recorded. none_refused (λ p. p.state) config v recorded vol.Sync (λ p e. refl)

pub returns-clause-recovered : goal.returns-clause-recovered
returns-clause-recovered c = λ config v marks recorded. none_refused (recovered marks) config v recorded vol.Active (recovered_counts marks)
