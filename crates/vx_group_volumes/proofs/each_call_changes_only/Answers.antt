use Rattle.std.proofs.Common.{◌++◌, []}
use Rattle.vx_lending.specs.Left.{held_pieces}
use Rattle.vx_lending.specs.Logs.{log_copies}
use Rattle.vx_fronts.specs.Laws.{whole_disks}
use Rattle.vx_fronts.specs.Rests.{rests_of}
use Rattle.vx_volume.specs.Volume.{log_of, volume_seen}
use Rattle.vx_group_volumes.specs.Places.{disks_at}
use Rattle.vx_group_volumes.proofs.Called.{each_disk_on}
use Rattle.vx_group_volumes.proofs.Held.{kept_sector, of_pieces}
use Rattle.vx_group_volumes.proofs.Worlds.{changes_only, members_whole, others_whole}
use Rattle.vx_group_volumes.proofs.each_call_changes_only.Goals as goal

pub returns : goal.returns
returns g c group numbers v have place hs still before held' behind members parted called old new was is stay =
    let runs = place.runs in
    let held = held_pieces g.P.Piece.seen c.args.running.now.volume in
    let goes = each_disk_on hs still before held held' behind parted called in
    changes_only group v.name numbers (disks_at runs.opening) have place.numbered held
    (λ device k any. kept_sector runs.opening.config runs.opening.good runs.opening.vol numbers device k group.config v.name place.places
    (of_pieces runs.opening.config runs.opening.good runs.opening.vol runs.opening.fresh c.args.running.now.form runs.form numbers device k (volume_seen g.P.Piece.seen c.args.running.now.volume) (log_copies g.P.Piece.seen (log_of c.args.running.now.volume)) runs.lies.lies any))
    old new (whole_disks (rests_of (still ++ (before ++ (held ++ behind))) []) hs) (whole_disks (rests_of (still ++ (before ++ (held' ++ behind))) []) hs)
    (members_whole group numbers (rests_of (still ++ (before ++ (held ++ behind))) []) hs members) goes.1 was is (others_whole (rests_of (still ++ (before ++ (held ++ behind))) []) hs old new stay)
