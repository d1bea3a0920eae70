use Rattle.vx_image.proofs.Imports.{sound_recorded, stands_recorded}
use Rattle.vx_image.proofs.laws.each_import_stands.Goals as goal

pub returns-clause-sound : goal.returns-clause-sound
returns-clause-sound c = sound_recorded

pub returns-clause-stands : goal.returns-clause-stands
returns-clause-stands c = stands_recorded
