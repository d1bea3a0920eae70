-- All regions go on after a call on their volume.
use Rattle.vx_volume.proofs.PartEntries.{read_of_volume, write_of_volume}
use Rattle.vx_volume.proofs.laws.each_call_goes_on.Goals as goal

pub returns-clause-read : goal.returns-clause-read
returns-clause-read c = read_of_volume

pub returns-clause-written : goal.returns-clause-written
returns-clause-written c = write_of_volume
