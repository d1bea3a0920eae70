-- Regions that were taken may be opened.
use Rattle.vx_lending.proofs.Openable.{regions_open}
use Rattle.vx_lending.proofs.region_laws.taken_regions_may_be_opened.Goals as goal

pub returns : goal.returns
returns c = regions_open
