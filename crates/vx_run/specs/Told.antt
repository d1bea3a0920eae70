-- Shelves that tell all there is to know of their devices.
use Rattle.std.specs.Prelude.{◌≡◌, Option, Some}
use Rattle.vx_base.specs.Blocks.{Contents}
use Rattle.vx_base.specs.Named.{Word}
use Rattle.vx_piece.specs.Seen.{Seen}
use Rattle.vx_moments.specs.Moment.{Moment}
use Rattle.vx_house.specs.Scene.{Shelved}
use Rattle.vx_run.specs.Ends.{IsShelfOf}

-- the shelf tells its devices, and each of them what it holds
pub record TellsAll (s : Shelved) : Type 0 where
  pub devices : Word → Option Seen
  pub free : s.free ≡ Some devices
  pub each : (name : Word) (seen : Seen) → devices name ≡ Some seen → (contents : Contents) × (seen.told ≡ Some contents)

abbrev pub EachToldShelfIsAMoment : Type 0
EachToldShelfIsAMoment = (s : Shelved) → TellsAll s → (m : Moment) × IsShelfOf s m
