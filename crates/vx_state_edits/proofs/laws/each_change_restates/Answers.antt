use Rattle.vx_config_parts.specs.declared.state.VolState.TheVariants as vol
use Rattle.vx_state_edits.specs.Edits.{is_new, recovered, started, stopped}
use Rattle.vx_state_edits.proofs.Changes.{each_restates, still_recorded}
use Rattle.vx_state_edits.proofs.laws.each_change_restates.Goals as goal

pub returns-clause-start : goal.returns-clause-start
returns-clause-start c = λ config v recorded new edited. each_restates config v recorded vol.Active (started (is_new v.state)) new edited

pub returns-clause-stop : goal.returns-clause-stop
returns-clause-stop c = λ config v marks recorded new edited. each_restates config v recorded vol.Clean (stopped marks) new edited

pub returns-clause-recorded : goal.returns-clause-recorded
returns-clause-recorded c = λ config v next after new recorded changed. still_recorded config v recorded next after new changed

pub returns-clause-recovery : goal.returns-clause-recovery
returns-clause-recovery c = λ config v recorded new edited. each_restates config v recorded vol.Sync (λ p. p.state) new edited

pub returns-clause-ended : goal.returns-clause-ended
returns-clause-ended c = λ config v marks recorded new edited. each_restates config v recorded vol.Active (recovered marks) new edited
