use Rattle.vx_pages.specs.Sector.{Goes, Turns, BitMay, BitOpened, ShownMay}
use Rattle.vx_pages.specs.Page.{asked}
use Rattle.std.proofs.Common.{Err}
use Rattle.vx_mask.specs.Mask.{has}
use Rattle.vx_pages.specs.Writes.{once_if}
use Rattle.vx_pages.proofs.Hands.{turned_hands}
use Rattle.vx_pages.proofs.Ways.{fails}
use Rattle.vx_pages.proofs.Whole.{each_then, turned_faults, turned_cut, cause_stays}
use Rattle.vx_pages.proofs.sectors.change_all.Goals as goal

pub returns-in-Err-clause-each : goal.returns-in-Err-clause-each
returns-in-Err-clause-each g c =
    each_then (λ m. Goes (BitMay (asked c.args.bits c.args.region m)) (ShownMay (asked c.args.bits c.args.region m) c.args.on)) (λ m. Turns (BitOpened (asked c.args.bits c.args.region m)))
    (λ m. Goes (BitOpened (asked c.args.bits c.args.region m)) (ShownMay (asked c.args.bits c.args.region m) c.args.on)) _ _ _ (λ m x y z one two. fails (asked c.args.bits c.args.region m) c.args.on x y z one two)
    c.in-Err.ensures.each c.open_all.ensures

pub returns-in-Err-clause-cause : goal.returns-in-Err-clause-cause
returns-in-Err-clause-cause g c =
    cause_stays _ _ _ _ _ c.in-Err.fault c.in-Err.ensures.cause (turned_faults (λ m. BitOpened (asked c.args.bits c.args.region m)) _ _ c.open_all.ensures) (turned_cut (λ m. BitOpened (asked c.args.bits c.args.region m)) _ _ c.open_all.ensures)

pub returns-in-Err-clause-counts : goal.returns-in-Err-clause-counts
returns-in-Err-clause-counts g c = turned_hands (λ m. BitOpened (asked c.args.bits c.args.region m)) (λ map s. once_if (has c.args.bits map)) (Err c.in-Err.fault) _ _ _ c.in-Err.ensures.counts c.open_all.ensures
