use Rattle.vx_volume_laws.proofs.Lyings.{kept_volume_lies, opened_volume_lies}
use Rattle.vx_volume_laws.proofs.left.each_volume_lies_where_its_form_says.Goals as goal

pub returns-clause-opened : goal.returns-clause-opened
returns-clause-opened c = opened_volume_lies

pub returns-clause-kept : goal.returns-clause-kept
returns-clause-kept c = kept_volume_lies
