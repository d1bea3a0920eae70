-- A region that a row can call.
use Rattle.std.specs.Prelude.{◌≡◌, true}
use Rattle.vx_core.specs.Schedule.{IsIdle}
use Rattle.vx_cell_rows.specs.Piece.{row_seen}
use Rattle.vx_cell_rows.specs.declared.piece.RowPiece.{RowPiece}
use Rattle.vx_cell.specs.declared.cell.Cell.{Cell}
use Rattle.vx_cell.specs.Plexes.{holds}
use Rattle.vx_cell.specs.Region.{IsWhole}
use Rattle.vx_cell.specs.Calls.{region_of}
use Rattle.vx_cell_rows.specs.declared.notes.Notes.{Notes}
use Rattle.vx_cell_rows.specs.Notes.{notes_log}

-- a cell of two sectors from the volume's first block on, with this log
pub record IsReady (cell : Cell RowPiece) (log : Notes) : Type 0 where
  pub whole : IsWhole (region_of row_seen cell (notes_log log))
  pub idle : IsIdle (region_of row_seen cell (notes_log log)).stage.phase
  pub start : (region_of row_seen cell (notes_log log)).start ≡ 0
  pub size : (region_of row_seen cell (notes_log log)).size ≡ 2
  pub number : (region_of row_seen cell (notes_log log)).number ≡ 0
  pub second : holds (region_of row_seen cell (notes_log log)).plexes 1 ≡ true
