-- All regions go on where one is called.
use Rattle.vx_volume.specs.Calls.{IsRead, IsWritten}
use Rattle.vx_volume.specs.Laws.{MayTellRead, MayTellWrite}
use Rattle.vx_volume.specs.Passes.{IsClearedAt, IsCopiedAt, IsSettledAt}
use Rattle.vx_volume.proofs.Volumes.{call_of_region, clear_job, copy_job, job_of_region, read_way, settle_job, write_way}
use Rattle.vx_volume.proofs.laws.each_call_of_a_region_goes_on.Goals as goal

pub returns-clause-read : goal.returns-clause-read
returns-clause-read c = call_of_region IsRead MayTellRead read_way

pub returns-clause-written : goal.returns-clause-written
returns-clause-written c = call_of_region IsWritten MayTellWrite write_way

pub returns-clause-settled : goal.returns-clause-settled
returns-clause-settled c stop = job_of_region (IsSettledAt stop) (settle_job stop)

pub returns-clause-cleared : goal.returns-clause-cleared
returns-clause-cleared c stop = job_of_region (IsClearedAt stop) (clear_job stop)

pub returns-clause-copied : goal.returns-clause-copied
returns-clause-copied c map result = job_of_region (IsCopiedAt map result) (copy_job map result)
