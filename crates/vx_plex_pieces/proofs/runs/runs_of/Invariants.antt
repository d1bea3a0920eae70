-- The regions so far are the last ones, and their pieces stand the last one first.
use Rattle.std.proofs.Common.{◌≡◌, ◌+◌, ◌≤◌, ◌++◌, map, reverse, vec_len, vec_capacity}
use Rattle.std.specs.List.{All}
use Rattle.vx_volume.specs.Changing.{runs_seen}
use Rattle.vx_volume.specs.Opening.{regions_seen}
use Rattle.vx_lending.specs.RegionPieces.{pieces_of}
use Rattle.vx_plex_pieces.specs.Runs.{HasOnePlex}
use Rattle.vx_plex_pieces.proofs.runs.runs_of.Given as goal

abbrev pub invariant-regions : goal.invariant-regions
invariant-regions g l = record {
  all : map pieces_of (regions_seen g.P.Piece.seen l.fn.regions.items) ≡ map pieces_of (regions_seen g.P.Piece.seen l.left.items) ++ reverse (runs_seen g.P.Piece.seen l.runs.items);
  one : All HasOnePlex (regions_seen g.P.Piece.seen l.left.items);
  room : vec_len l.left + vec_len l.runs ≤ vec_capacity l.runs;
}

abbrev pub decreases-regions : goal.decreases-regions
decreases-regions g l = vec_len l.left
