use Rattle.vx_core.proofs.PlexLaws.{set_on_keeps, set_off_keeps, take_keeps, put_keeps}
use Rattle.vx_core.proofs.laws.plexes_keep.Goals as goal

pub returns-clause-on : goal.returns-clause-on
returns-clause-on c = set_on_keeps

pub returns-clause-off : goal.returns-clause-off
returns-clause-off c = set_off_keeps

pub returns-clause-taken : goal.returns-clause-taken
returns-clause-taken c = take_keeps

pub returns-clause-put : goal.returns-clause-put
returns-clause-put c = put_keeps
