-- The pieces of a volume, by its cells and the copies of its log.
use Rattle.std.proofs.Common.{◌≡◌, ◌++◌, List, [], ◌∷◌, refl, sym, ap, ◌∙◌, Result, Ok, Err}
use Rattle.std.specs.Prelude.{IfErr, IsOk}
use Rattle.vx_piece.specs.Seen.{Seen}
use Rattle.vx_pages.specs.declared.local_piece.LocalPiece.{Ghosts}
use Rattle.vx_cell.specs.declared.cell.Cell.{Cell}
use Rattle.vx_cell.specs.Changes.{cell_seen}
use Rattle.vx_cell.specs.Plexes.{PlexSeen}
use Rattle.vx_volume.specs.declared.volume.Volume.{Volume}
use Rattle.vx_volume.specs.Volume.{cells_seen, log_of, volume_seen}
use Rattle.vx_lending.specs.RegionPieces.{all_pieces, cell_plexes}
use Rattle.vx_lending.specs.Left.{held_pieces, region_plexes}
use Rattle.vx_lending.specs.Logs.{log_copies}
use Rattle.vx_lending.specs.Pieces.{copy_pieces}

cells_are : {P : Type 0} (seen : P → Seen) (cells : List (Cell P)) → region_plexes (cells_seen seen cells) ≡ cell_plexes seen cells
cells_are seen [] = refl
cells_are seen (x ∷ xs) = ap (λ (ps : List (List PlexSeen)). (cell_seen seen x).plexes ∷ ps) (cells_are seen xs)

pub held_are : {P : Type 0} {ghosts : Ghosts P} (seen : P → Seen) (volume : Volume P ghosts) (cells : List (Cell P)) (copies : List (List Seen)) → (volume_seen seen volume).cells ≡ cells_seen seen cells → copies ≡ log_copies seen (log_of volume) →
    all_pieces (cell_plexes seen cells) ++ copy_pieces copies ≡ held_pieces seen volume
held_are seen volume cells copies e f =
    ap (λ (ps : List (List PlexSeen)). all_pieces ps ++ copy_pieces copies) (sym (cells_are seen cells) ∙ ap region_plexes (sym e)) ∙ ap (λ (xs : List (List Seen)). all_pieces (region_plexes (volume_seen seen volume).cells) ++ copy_pieces xs) f

pub not_refused : {T E : Type 0} (r : Result T E) (P : E → Type 0) → IsOk r → IfErr r P
not_refused (Ok x) P ok = tt
not_refused (Err e) P ok = cc
