-- What a house itself tells of the world: enough for the tests of commands.
use Rattle.std.specs.Prelude.{[], map, option_map, Option, Some, None}
use Rattle.vx_pages.specs.declared.local_piece.LocalPiece.{Ghosts}
use Rattle.vx_piece.specs.Seen.{Seen}
use Rattle.vx_started.specs.declared.started.Started.{Started}
use Rattle.vx_moments.specs.World.{World, Device, Volume}
use Rattle.vx_stages.specs.Stages.{bare_volume}
use Rattle.vx_lending.specs.declared.public.Running.{Running}
use Rattle.vx_house.specs.Holders.{hand_holder, held_as, volume_at}
use Rattle.vx_house.specs.Runs.{run_in}
use Rattle.vx_house.specs.View.{group_of}
use Rattle.vx_house.specs.declared.house.House.{House}

-- a device of which the sectors alone are told
abbrev pub sized_device : Seen → Device
sized_device seen = record { sectors = seen.sectors; contents = λ k. [] }

-- a volume of which only that it is started is told
abbrev pub some_volume : {P : Type 0} → Started P → Volume
some_volume b = bare_volume b.device (record { sectors = b.geometry.length; contents = λ k. [] })

-- a volume of which only that it runs is told
abbrev pub some_running : Volume
some_running = bare_volume [] (record { sectors = 0; contents = λ k. [] })

-- what is told of a volume that is started: of a whole device, or of the group
abbrev pub told_volume : {P : Type 0} {ghosts : Ghosts P} → Option (Started P) → Option (Running P ghosts) → Option Volume
told_volume (Some b) r = Some (some_volume b)
told_volume None (Some r) = Some some_running
told_volume None None = None

-- the devices in hand with their sectors, which volumes are started, and the group
abbrev pub plain : {P : Type 0} {ghosts : Ghosts P} → (P → Seen) → House P ghosts → World
plain see h = record {
  devices = λ name. option_map sized_device (held_as (map (hand_holder see) h.hand.items) name);
  volumes = λ vol. told_volume (volume_at h vol) (run_in h.group vol);
  group = group_of see h.group;
}
