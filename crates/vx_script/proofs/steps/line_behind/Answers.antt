use Rattle.vx_script.proofs.Faults.{session_place}
use Rattle.vx_script.proofs.steps.line_behind.Goals as goal

pub returns-then-session-eq0-clause-place : goal.returns-then-session-eq0-clause-place
returns-then-session-eq0-clause-place c = session_place c.args.session c.args.text.now

pub returns-else-session-eq0-clause-place : goal.returns-else-session-eq0-clause-place
returns-else-session-eq0-clause-place c = session_place c.args.session c.args.text.now
