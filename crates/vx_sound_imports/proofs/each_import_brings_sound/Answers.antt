use Rattle.vx_sound_imports.proofs.Runs.{each_import}
use Rattle.vx_sound_imports.proofs.each_import_brings_sound.Goals as goal

pub returns : goal.returns
returns c = each_import
