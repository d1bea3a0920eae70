use Rattle.std.proofs.Common.{ap, subst, ◌∙◌, ◌/◌, Bool, List, Option, is_some}
use Rattle.vx_piece.specs.Seen.{Seen}
use Rattle.vx_pages.specs.Pages.{grid_seen}
use Rattle.vx_maps.specs.Sheets.{sheets_seen}
use Rattle.vx_maps.specs.Slots.{ArePairedRows, wholes_of}
use Rattle.vx_maps.specs.Wholes.{copy_faults}
use Rattle.vx_maps.proofs.Fills.{cuts_of}
use Rattle.vx_maps.proofs.Together.{all_full, room_still, together, totals}
use Rattle.vx_maps.proofs.Quiet.{grid_quiet, grid_more}
use Rattle.vx_maps.proofs.assembly.join_whole.Goals as goal

pub join_sheets-requires : goal.join_sheets-requires
join_sheets-requires g c =
    let cuts = c.drain_pages.ensures.cut (wholes_of (c.args.shape.now.map_bytes / 512) (grid_seen g.P.LocalPiece.seen c.args.pages.items) (sheets_seen g.P.LocalPiece.seen c.args.sheets)) (cuts_of _ _ _ c.requires.holed) in
    record {
      first = (all_full _ _ _ cuts).0;
      second = (all_full _ _ _ cuts).1;
      room = room_still _ _ _ _ _ c.args.spares cuts c.requires.room;
    }

pub returns : goal.returns
returns g c =
    let cuts = c.drain_pages.ensures.cut (wholes_of (c.args.shape.now.map_bytes / 512) (grid_seen g.P.LocalPiece.seen c.args.pages.items) (sheets_seen g.P.LocalPiece.seen c.args.sheets)) (cuts_of _ _ _ c.requires.holed) in
    record {
      copies = c.join_sheets.ensures ∙ together _ _ _ _ cuts;
      faults = λ copy device. ap (λ (xs : List (List Seen)). copy_faults xs copy device) c.join_sheets.ensures
          ∙ totals _ (grid_seen g.P.LocalPiece.seen c.args.pages.items) (sheets_seen g.P.LocalPiece.seen c.args.sheets) _ cuts
          (λ d none. grid_quiet (grid_seen g.P.LocalPiece.seen c.args.pages.items) d (subst (λ (b : Bool). ArePairedRows b (grid_seen g.P.LocalPiece.seen c.args.pages.items)) (ap (λ (x : Option (List (Option Seen))). is_some x) none) c.requires.pairs))
          (grid_more (grid_seen g.P.LocalPiece.seen c.args.pages.items)) copy device;
    }
