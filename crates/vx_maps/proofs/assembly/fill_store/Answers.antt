use Rattle.std.proofs.Common.{rules, subst, ◌∙◌, ◌≡◌, ◌/◌, [], Bool, length}
use Rattle.std.proofs.lemmas.List.{length-map}
use Rattle.vx_mapfmt.specs.Sizes.{page_count}
use Rattle.vx_pages.specs.Pages.{grid_seen}
use Rattle.vx_maps.specs.Sheets.{sheets_seen}
use Rattle.vx_maps.specs.Slots.{ArePairedRows, wholes_of}
use Rattle.vx_maps.proofs.Fills.{cuts_of, all_holed, holed_of, logs_paged, logs_copies}
use Rattle.vx_maps.proofs.Together.{room_still}
use Rattle.vx_maps.proofs.Sizes.{whole_same, whole_total, laid_of}
use Rattle.vx_maps.proofs.assembly.fill_store.Goals as goal

pub join_whole-requires-clause-holed : goal.join_whole-requires-clause-holed
join_whole-requires-clause-holed g c = holed_of _ _ _ _ (c.fill_pages.ensures.cut (wholes_of (c.args.shape.map_bytes / 512) [] (sheets_seen g.P.LocalPiece.seen c.args.cut.sheets)) (cuts_of _ _ _ (all_holed _ _ c.requires.whole)))

pub join_whole-requires-clause-room : goal.join_whole-requires-clause-room
join_whole-requires-clause-room g c =
    room_still _ _ [] _ _ c.args.cut.spares (c.fill_pages.ensures.cut (wholes_of (c.args.shape.map_bytes / 512) [] (sheets_seen g.P.LocalPiece.seen c.args.cut.sheets)) (cuts_of _ _ _ (all_holed _ _ c.requires.whole))) c.requires.room

pub returns-then-is_err-clause-kept : goal.returns-then-is_err-clause-kept
returns-then-is_err-clause-kept g c =
    c.join_whole.ensures.copies ∙ whole_same _ _ [] _ _ (c.fill_pages.ensures.cut (wholes_of (c.args.shape.map_bytes / 512) [] (sheets_seen g.P.LocalPiece.seen c.args.cut.sheets)) (cuts_of _ _ _ (all_holed _ _ c.requires.whole)))

pub invariant_of-base : goal.invariant_of-base
invariant_of-base g c =
    let count : length c.fill_pages.new.pages.items ≡ page_count c.args.shape.regions = search rules in
    record { laid = laid_of _ _ (grid_seen g.P.LocalPiece.seen c.fill_pages.new.pages.items) _ _ (c.fill_pages.ensures.cut (wholes_of (c.args.shape.map_bytes / 512) [] (sheets_seen g.P.LocalPiece.seen c.args.cut.sheets)) (cuts_of _ _ _ (all_holed _ _ c.requires.whole))) c.requires.whole c.fill_pages.ensures.logs.rows (length-map c.fill_pages.new.pages.items _ ∙ count) }

pub invariant_of-result : goal.invariant_of-result
invariant_of-result g c = let count : length c.fill_pages.new.pages.items ≡ page_count c.args.shape.regions = search rules in record {
  paged = logs_paged _ _ _ _ _ c.fill_pages.ensures.logs (length-map c.fill_pages.new.pages.items _ ∙ count);
  copied = logs_copies _ _ _ _ _ c.fill_pages.ensures.logs;
}

pub returns-clause-room : goal.returns-clause-room
returns-clause-room g c =
    room_still _ _ [] _ _ c.args.cut.spares (c.fill_pages.ensures.cut (wholes_of (c.args.shape.map_bytes / 512) [] (sheets_seen g.P.LocalPiece.seen c.args.cut.sheets)) (cuts_of _ _ _ (all_holed _ _ c.requires.whole))) c.requires.room

pub returns-clause-same : goal.returns-clause-same
returns-clause-same g c = whole_same _ _ [] _ _ (c.fill_pages.ensures.cut (wholes_of (c.args.shape.map_bytes / 512) [] (sheets_seen g.P.LocalPiece.seen c.args.cut.sheets)) (cuts_of _ _ _ (all_holed _ _ c.requires.whole)))

pub returns-clause-faults : goal.returns-clause-faults
returns-clause-faults g c copy device =
    whole_total (c.args.shape.map_bytes / 512) (grid_seen g.P.LocalPiece.seen c.fill_pages.new.pages.items) (sheets_seen g.P.LocalPiece.seen c.args.cut.sheets) (sheets_seen g.P.LocalPiece.seen c.fill_pages.new.sheets)
    (c.fill_pages.ensures.cut (wholes_of (c.args.shape.map_bytes / 512) [] (sheets_seen g.P.LocalPiece.seen c.args.cut.sheets)) (cuts_of _ _ _ (all_holed _ _ c.requires.whole)))
    (subst (λ (b : Bool). ArePairedRows b (grid_seen g.P.LocalPiece.seen c.fill_pages.new.pages.items)) c.fill_pages.ensures.second c.fill_pages.ensures.logs.pairs) copy device
