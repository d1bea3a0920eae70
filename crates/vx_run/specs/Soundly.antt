-- Shelves whose configuration copies are sound, and whose volumes are.
use Rattle.std.specs.Prelude.{List}
use Rattle.vx_script.specs.declared.command.Command.{Command}
use Rattle.vx_moments.specs.Moment.{Moment}
use Rattle.vx_sound.specs.Laws.{WriteNoHeader}
use Rattle.vx_sound.specs.Sound.{AreSound}
use Rattle.vx_sound_imports.specs.Laws.{AreDevicesSound}
use Rattle.vx_house.specs.Scene.{Shelved}
use Rattle.vx_run.specs.Ends.{IsShelfOf}

-- the shelf is a moment of the world in which the configuration copies of all groups are sound
abbrev pub IsSoundShelf : Shelved → Type 0
IsSoundShelf s = (m : Moment) × IsShelfOf s m × AreSound m.world

-- and in which the volumes of each group are sound too
abbrev pub HasSoundVolumes : Shelved → Type 0
HasSoundVolumes s = (m : Moment) × IsShelfOf s m × AreDevicesSound m.world

-- what the shelf was in one of these ways it is
pub record StayAsSound (old new : Shelved) : Type 0 where
  pub copies : IsSoundShelf old → IsSoundShelf new
  pub volumes : HasSoundVolumes old → HasSoundVolumes new

-- where the shelf was sound, and no command puts a header at the front of a volume, it is sound
abbrev pub StaysSound : List Command → Shelved → Shelved → Type 0
StaysSound commands old new = WriteNoHeader commands → StayAsSound old new
