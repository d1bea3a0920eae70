-- What a lost commit answers.
use Rattle.vx_copies.specs.declared.writing.Lost.{Lost}
use Rattle.vx_copies.specs.declared.writing.Lost.TheVariants as lost
use Rattle.vx_confdb.specs.declared.fault.GroupFault.{GroupFault}
use Rattle.vx_confdb.specs.declared.fault.GroupFault.TheVariants as fault

abbrev pub fault_of : Lost → GroupFault
fault_of lost.GroupLost = fault.GroupLost
fault_of lost.PowerLost = fault.PowerLost
