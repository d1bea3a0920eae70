use Rattle.vx_sound.proofs.Imports.{each_import_takes_the_newest as newest}
use Rattle.vx_sound.proofs.each_import_takes_the_newest.Goals as goal

pub returns : goal.returns
returns c = newest
