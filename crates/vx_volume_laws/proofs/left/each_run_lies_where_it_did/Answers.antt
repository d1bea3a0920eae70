use Rattle.vx_volume_laws.proofs.Spots.{cut_lies, kept_lies, same_lies}
use Rattle.vx_volume_laws.proofs.left.each_run_lies_where_it_did.Goals as goal

pub returns-clause-cut : goal.returns-clause-cut
returns-clause-cut c = cut_lies

pub returns-clause-same : goal.returns-clause-same
returns-clause-same c = same_lies

pub returns-clause-kept : goal.returns-clause-kept
returns-clause-kept c = kept_lies
