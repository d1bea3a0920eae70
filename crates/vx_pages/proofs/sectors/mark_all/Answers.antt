use Rattle.vx_pages.proofs.Whole.{marked}
use Rattle.vx_pages.proofs.Hands.{firm_failed, mark_hands, stay_shut}
use Rattle.vx_pages.proofs.sectors.mark_all.Goals as goal

pub returns-clause-each : goal.returns-clause-each
returns-clause-each g c = marked c.args.bits c.args.region _ _ _ c.change_all.result c.in_default.ensures.each c.change_all.ensures.each

pub returns-in-Err-clause-counts : goal.returns-in-Err-clause-counts
returns-in-Err-clause-counts g c = firm_failed c.args.bits c.in-Err.fault _ _ c.in-Err.ensures.counts

pub returns-clause-counts : goal.returns-clause-counts
returns-clause-counts g c = mark_hands c.args.bits c.change_all.result _ _ _ c.in_default.ensures.counts c.change_all.ensures.counts

pub returns-clause-shut : goal.returns-clause-shut
returns-clause-shut g c = stay_shut c.change_all.result _ _ c.in_default.ensures.shut c.change_all.ensures.same
