-- Stages that keep the world.
use Rattle.std.proofs.Common.{◌≡◌, true, List, ap}
use Rattle.vx_script_words.specs.declared.value.DiskAt.{DiskAt}
use Rattle.vx_moments.specs.Moment.{Moment}
use Rattle.vx_stages.specs.Stages.{IsDone}
use Rattle.vx_stages.specs.declared.stage.Stage.{Stage}
use Rattle.vx_stages.specs.declared.stage.Stage.TheVariants as stage
use Rattle.vx_run.specs.Fed.{keeps_world}

pub world_kept : (s : Stage) (disks : List DiskAt) (m n : Moment) → keeps_world s ≡ true → IsDone s disks m n → n.world ≡ m.world
world_kept (stage.Gate test) disks m n keeps (holds, same) = ap (λ (x : Moment). x.world) same
world_kept (stage.Take name) disks m n keeps (free, rests) = rests.stays.world
world_kept stage.TakeDisks disks m n keeps (free, rests) = rests.stays.world
world_kept (stage.LookBlank name) disks m n keeps done = done.1
world_kept stage.LookDisks disks m n keeps done = done.1
world_kept (stage.LookHeaded name) disks m n keeps done = done.1
world_kept (stage.Search dg) disks m n keeps done = done.1
world_kept (stage.MakeImage name sectors) disks m n keeps done = cc
world_kept (stage.Wipe name) disks m n keeps done = cc
world_kept (stage.StartBare vol name) disks m n keeps done = cc
world_kept (stage.Change change) disks m n keeps done = cc
world_kept (stage.Make from) disks m n keeps done = cc
world_kept stage.Join disks m n keeps done = cc
world_kept (stage.Create dg) disks m n keeps done = cc
world_kept (stage.Import dg) disks m n keeps done = cc
world_kept stage.LetGo disks m n keeps done = cc
world_kept (stage.Start vol) disks m n keeps done = cc
world_kept (stage.Mirror mirror) disks m n keeps done = cc
world_kept (stage.Prepare logs) disks m n keeps done = cc
world_kept (stage.Unprepare vol) disks m n keeps done = cc
world_kept (stage.Detach plex) disks m n keeps done = cc
world_kept (stage.Attach vol plex) disks m n keeps done = cc
world_kept (stage.Dissociate plex remove) disks m n keeps done = cc
world_kept (stage.Stop vol) disks m n keeps done = cc
