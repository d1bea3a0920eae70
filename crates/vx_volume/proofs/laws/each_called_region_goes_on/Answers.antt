-- A region that was called goes on.
use Rattle.vx_volume.proofs.Entries.{clear_goes, copy_goes, read_goes, settle_goes, write_goes}
use Rattle.vx_volume.proofs.laws.each_called_region_goes_on.Goals as goal

pub returns-clause-read : goal.returns-clause-read
returns-clause-read c = read_goes

pub returns-clause-written : goal.returns-clause-written
returns-clause-written c = write_goes

pub returns-clause-settled : goal.returns-clause-settled
returns-clause-settled c = settle_goes

pub returns-clause-cleared : goal.returns-clause-cleared
returns-clause-cleared c = clear_goes

pub returns-clause-copied : goal.returns-clause-copied
returns-clause-copied c = copy_goes
