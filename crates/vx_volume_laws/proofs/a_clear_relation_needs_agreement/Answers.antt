use Rattle.vx_volume_laws.proofs.Examples.{a_clear_relation_needs_agreement}
use Rattle.vx_volume_laws.proofs.a_clear_relation_needs_agreement.Goals as goal

pub returns : goal.returns
returns c = a_clear_relation_needs_agreement
