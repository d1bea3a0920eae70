use Rattle.vx_image.proofs.Narrowing.{narrowed_on, narrowed_pair, narrowed_read, narrowed_self, narrowed_sound}
use Rattle.vx_image.proofs.laws.each_narrowed_image_is_sound.Goals as goal

pub returns-clause-own : goal.returns-clause-own
returns-clause-own c = narrowed_self

pub returns-clause-on : goal.returns-clause-on
returns-clause-on c = narrowed_on

pub returns-clause-sound : goal.returns-clause-sound
returns-clause-sound c = narrowed_sound

pub returns-clause-pair : goal.returns-clause-pair
returns-clause-pair c = narrowed_pair

pub returns-clause-read : goal.returns-clause-read
returns-clause-read c = narrowed_read
