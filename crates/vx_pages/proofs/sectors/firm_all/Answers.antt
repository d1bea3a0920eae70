use Rattle.std.proofs.Common.{◌∙◌, subst, Result, Ok}
use Rattle.vx_marks.specs.declared.marker.MarkFault.{MarkFault}
use Rattle.vx_pages.specs.Sector.{Goes, Turns, SameBits, Swept, NoneLoose, IsTidied, HasCause}
use Rattle.vx_pages.specs.Page.{faults_in, cut_in, sectors_seen, EachSector}
use Rattle.vx_pages.specs.Writes.{PageHands, is_open, once_if}
use Rattle.vx_pages.proofs.Hands.{are_shut, turned_hands}
use Rattle.vx_pages.proofs.Ways.{firms}
use Rattle.vx_pages.proofs.Whole.{each_then, turned_faults}
use Rattle.vx_pages.proofs.sectors.firm_all.Goals as goal

pub returns-clause-each : goal.returns-clause-each
returns-clause-each g c =
    each_then (λ m. Goes SameBits Swept) (λ m. Turns NoneLoose) (λ m. Goes NoneLoose Swept) _ _ _ (λ m x y z one two. firms x y z one two)
    (subst (λ (r : Result (Unit {0}) MarkFault). EachSector (λ m. IsTidied r) (sectors_seen g.P.LocalPiece.seen c.args.sectors.now.items) (sectors_seen g.P.LocalPiece.seen c.tidy_all.new.sectors.items)) c.in_default.is c.tidy_all.ensures.each) c.forget_all.ensures.turns

pub returns-clause-cause : goal.returns-clause-cause
returns-clause-cause g c copy device =
    turned_faults (λ m. NoneLoose) _ _ c.forget_all.ensures.turns copy device
    ∙ (subst (λ (r : Result (Unit {0}) MarkFault). HasCause (faults_in (sectors_seen g.P.LocalPiece.seen c.args.sectors.now.items)) (faults_in (sectors_seen g.P.LocalPiece.seen c.tidy_all.new.sectors.items)) (cut_in (sectors_seen g.P.LocalPiece.seen c.tidy_all.new.sectors.items)) r) c.in_default.is c.tidy_all.ensures.cause) copy device

pub returns-clause-counts : goal.returns-clause-counts
returns-clause-counts g c =
    turned_hands (λ m. NoneLoose) (λ map s. once_if (is_open s)) (Ok tt) _ _ _
    (subst (λ (r : Result (Unit {0}) MarkFault). PageHands (λ map s. once_if (is_open s)) r (sectors_seen g.P.LocalPiece.seen c.args.sectors.now.items) (sectors_seen g.P.LocalPiece.seen c.tidy_all.new.sectors.items)) c.in_default.is c.tidy_all.ensures.counts) c.forget_all.ensures.turns

pub returns-clause-shut : goal.returns-clause-shut
returns-clause-shut g c = are_shut _ _ c.forget_all.ensures.shut
