use Rattle.vx_image.proofs.Counts.{count_fits}
use Rattle.vx_image.proofs.laws.each_count_fits.Goals as goal

pub returns : goal.returns
returns c = count_fits
