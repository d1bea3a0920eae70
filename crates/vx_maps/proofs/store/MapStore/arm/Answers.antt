use Rattle.std.proofs.Common.{refl, sym, subst, ◌∙◌, ap, Bool, if◌then◌else◌, List}
use Rattle.vx_pages.specs.Pages.{grid_seen}
use Rattle.vx_pages.specs.Sector.{SectorSeen}
use Rattle.vx_piece.specs.Seen.{Seen}
use Rattle.vx_runs.specs.Run.{IsArmed}
use Rattle.vx_pages.proofs.Settlement.{sectors_if}
use Rattle.vx_maps.specs.Going.{GridGoes, SheetsGo}
use Rattle.vx_maps.specs.Sheets.{sheets_seen}
use Rattle.vx_maps.specs.Slots.{SheetsSeen}
use Rattle.vx_maps.specs.Store.{AreOnCopies, pages_seen}
use Rattle.vx_maps.proofs.Arms.{claims_armed, grid_armed, sheets_armed, told_armed}
use Rattle.vx_maps.proofs.PageRows.{copied_goes, pages_goes}
use Rattle.vx_maps.proofs.Steps.{laid_goes, second_goes}
use Rattle.vx_maps.proofs.store.MapStore.arm.Goals as goal

pub invariant_of-self : goal.invariant_of-self
invariant_of-self g c =
    let go : SheetsGo (IsArmed c.args.stop) (sheets_seen g.P.LocalPiece.seen c.args.self.now.base.sheets) (sheets_seen g.P.LocalPiece.seen c.arm_sheets.new.sheets) =
    subst (λ (s : SheetsSeen). SheetsGo (IsArmed c.args.stop) (sheets_seen g.P.LocalPiece.seen c.args.self.now.base.sheets) s) (sym c.arm_sheets.ensures) (sheets_armed c.args.stop _) in (
      laid_goes (IsArmed c.args.stop) (λ p q e. ap (λ (x : Seen). x.sectors) e ∙ sectors_if p.cut c.args.stop p) _ _ _ _ go c.args.self.now.base.laid,
      tt,
    )

pub invariant_of-self-2 : goal.invariant_of-self-2
invariant_of-self-2 g c =
    let go : SheetsGo (IsArmed c.args.stop) (sheets_seen g.P.LocalPiece.seen c.args.self.now.base.sheets) (sheets_seen g.P.LocalPiece.seen c.arm_sheets.new.sheets) =
    subst (λ (s : SheetsSeen). SheetsGo (IsArmed c.args.stop) (sheets_seen g.P.LocalPiece.seen c.args.self.now.base.sheets) s) (sym c.arm_sheets.ensures) (sheets_armed c.args.stop _) in
    record {
      paged = pages_goes _ c.args.self.now.pages.items c.arm_pages.new.pages.items c.arm_pages.ensures.places c.args.self.now.paged;
      copied =
          copied_goes (IsArmed c.args.stop) _ c.args.self.now.pages.items c.arm_pages.new.pages.items c.arm_pages.ensures.places
          (subst (λ (s : List (List SectorSeen)). GridGoes (IsArmed c.args.stop) (grid_seen g.P.LocalPiece.seen c.args.self.now.pages.items) s) (sym c.arm_pages.ensures.armed) (grid_armed c.args.stop _))
          (subst (λ (b : Bool). AreOnCopies (if b then 2 else 1) (pages_seen g.P.LocalPiece.seen c.args.self.now.pages.items)) (sym (second_goes (IsArmed c.args.stop) _ _ go.second)) c.args.self.now.copied);
    }

pub returns-clause-goes : goal.returns-clause-goes
returns-clause-goes g c = record {
  shape = refl;
  places = c.arm_pages.ensures.places;
  sheets = subst (λ (s : SheetsSeen). SheetsGo (IsArmed c.args.stop) (sheets_seen g.P.LocalPiece.seen c.args.self.now.base.sheets) s) (sym c.arm_sheets.ensures) (sheets_armed c.args.stop _);
  grid = subst (λ (s : List (List SectorSeen)). GridGoes (IsArmed c.args.stop) (grid_seen g.P.LocalPiece.seen c.args.self.now.pages.items) s) (sym c.arm_pages.ensures.armed) (grid_armed c.args.stop _);
}

pub returns-clause-claims : goal.returns-clause-claims
returns-clause-claims g c region m = claims_armed c.args.stop c.args.self.now.pages.items c.arm_pages.new.pages.items c.arm_pages.ensures.places c.arm_pages.ensures.armed c.args.self.now.base.shape.regions region m

pub returns-clause-told : goal.returns-clause-told
returns-clause-told g c = told_armed c.args.stop c.args.self.now.pages.items c.arm_pages.new.pages.items c.arm_pages.ensures.places c.arm_pages.ensures.armed c.args.self.now.base.shape.regions
