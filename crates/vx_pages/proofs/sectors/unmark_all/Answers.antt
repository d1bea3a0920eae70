use Rattle.std.proofs.Common.{inl, Err}
use Rattle.vx_pages.specs.Sector.{Goes, Turns, SameBits, MaySweep, BitOpened}
use Rattle.vx_pages.specs.Page.{asked}
use Rattle.vx_pages.proofs.Ways.{leaves_open}
use Rattle.vx_pages.proofs.Whole.{unmarked, each_then, turned_faults, turned_cut, cause_stays}
use Rattle.vx_pages.specs.Writes.{writes_of}
use Rattle.vx_pages.proofs.Hands.{firm_failed, mark_hands, stay_shut, turned_hands}
use Rattle.vx_pages.proofs.sectors.unmark_all.Goals as goal

pub returns-in-Err-clause-each : goal.returns-in-Err-clause-each
returns-in-Err-clause-each g c = inl (each_then (λ m. Goes SameBits MaySweep) (λ m. Turns (BitOpened (asked c.args.bits c.args.region m)))
    (λ m. Goes (BitOpened (asked c.args.bits c.args.region m)) MaySweep) _ _ _ (λ m x y z one two. leaves_open (asked c.args.bits c.args.region m) x y z one two)
    c.in-Err.ensures.each c.open_all.ensures)

pub returns-in-Err-clause-cause : goal.returns-in-Err-clause-cause
returns-in-Err-clause-cause g c =
    cause_stays _ _ _ _ _ c.in-Err.fault c.in-Err.ensures.cause (turned_faults (λ m. BitOpened (asked c.args.bits c.args.region m)) _ _ c.open_all.ensures) (turned_cut (λ m. BitOpened (asked c.args.bits c.args.region m)) _ _ c.open_all.ensures)

pub returns-clause-each : goal.returns-clause-each
returns-clause-each g c = unmarked c.args.bits c.args.region _ _ _ c.change_all.result c.in_default.ensures.each c.change_all.ensures.each

pub returns-in-Err-clause-counts : goal.returns-in-Err-clause-counts
returns-in-Err-clause-counts g c =
    turned_hands (λ m. BitOpened (asked c.args.bits c.args.region m)) (writes_of c.args.bits) (Err c.in-Err.fault) _ _ _ (firm_failed c.args.bits c.in-Err.fault _ _ c.in-Err.ensures.counts) c.open_all.ensures

pub returns-clause-counts : goal.returns-clause-counts
returns-clause-counts g c = mark_hands c.args.bits c.change_all.result _ _ _ c.in_default.ensures.counts c.change_all.ensures.counts

pub returns-clause-shut : goal.returns-clause-shut
returns-clause-shut g c = stay_shut c.change_all.result _ _ c.in_default.ensures.shut c.change_all.ensures.same
