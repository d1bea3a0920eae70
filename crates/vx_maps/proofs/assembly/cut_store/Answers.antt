use Rattle.std.proofs.Common.{sym, subst, ◌∙◌, ◌/◌}
use Rattle.std.proofs.lemmas.Result.{IfOk-weaker, IfErr-weaker}
use Rattle.vx_maps.specs.Copies.{SameRuns}
use Rattle.vx_maps.specs.Spares.{copies_seen}
use Rattle.vx_maps.specs.Sheets.{sheets_seen}
use Rattle.vx_maps.proofs.Sizes.{plain, runs_faults, sheets_counted, second_full}
use Rattle.vx_maps.proofs.assembly.cut_store.Goals as goal

pub returns-in-Ok-cut_sheets-clause-same : goal.returns-in-Ok-cut_sheets-clause-same
returns-in-Ok-cut_sheets-clause-same g c =
    IfOk-weaker c.fill_store.result _ _ (λ cut h. subst (SameRuns (copies_seen g.P.Piece.seen c.args.copies.items)) (sym (h ∙ plain (c.args.shape.map_bytes / 512) (sheets_seen g.P.Piece.seen c.in-Ok-cut_sheets.cut.sheets))) c.in-Ok-cut_sheets.ensures.same) c.fill_store.ensures.same

pub returns-in-Ok-cut_sheets-clause-faults : goal.returns-in-Ok-cut_sheets-clause-faults
returns-in-Ok-cut_sheets-clause-faults g c =
    let whole = c.in-Ok-cut_sheets.ensures.whole in
    IfOk-weaker c.fill_store.result _ _ (λ cut h copy device. h copy device ∙ sheets_counted (sheets_seen g.P.Piece.seen c.in-Ok-cut_sheets.cut.sheets) whole.first.some (second_full _ _ whole.second) copy device
    ∙ runs_faults (copies_seen g.P.Piece.seen c.args.copies.items) _ c.in-Ok-cut_sheets.ensures.same copy device) c.fill_store.ensures.faults

pub returns-in-Ok-cut_sheets-clause-kept : goal.returns-in-Ok-cut_sheets-clause-kept
returns-in-Ok-cut_sheets-clause-kept g c =
    IfErr-weaker c.fill_store.result _ _ (λ x h. subst (SameRuns (copies_seen g.P.Piece.seen c.args.copies.items)) (sym (h ∙ plain (c.args.shape.map_bytes / 512) (sheets_seen g.P.Piece.seen c.in-Ok-cut_sheets.cut.sheets))) c.in-Ok-cut_sheets.ensures.same) c.fill_store.ensures.kept
