use Rattle.std.proofs.Common.{◌++◌, ap, map}
use Rattle.vx_lending.specs.Pieces.{copy_pieces}
use Rattle.vx_lending.specs.Public.{remaining_pieces}
use Rattle.vx_lending.specs.RegionPieces.{all_pieces}
use Rattle.vx_volume.specs.Changing.{runs_seen}
use Rattle.vx_volume.specs.Opening.{regions_seen}
use Rattle.vx_stage_dissociation.proofs.PartPieces.{left_behind}
use Rattle.vx_stage_dissociation.proofs.taking.leave_runs.Goals as goal

pub returns-clause-still : goal.returns-clause-still
returns-clause-still g c =
    let see = g.P.Piece.seen in
    left_behind (remaining_pieces see) c.args.public.now.left.items c.push_reserved.new.self.items _ (copy_pieces (runs_seen see c.args.runs.items)) (map see c.args.public.now.pool.items.items) c.push_reserved.ensures.items
    (ap (λ rs. all_pieces (regions_seen see rs) ++ copy_pieces (runs_seen see c.args.runs.items)) c.new-regions.ensures.items)
