-- An image of one plex is sound.
use Rattle.vx_group_edits.proofs.LoneImages.{lone_image_sound}
use Rattle.vx_group_edits.proofs.dcos.each_lone_image_is_sound.Goals as goal

pub returns : goal.returns
returns c = lone_image_sound
