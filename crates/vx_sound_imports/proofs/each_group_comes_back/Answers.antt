use Rattle.vx_sound_imports.proofs.Back.{each_group_comes_back as proved}
use Rattle.vx_sound_imports.proofs.each_group_comes_back.Goals as goal

pub returns : goal.returns
returns c = proved
