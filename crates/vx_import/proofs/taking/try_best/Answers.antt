use Rattle.vx_copies.proofs.StepLaws.{each_refl}
use Rattle.vx_import.specs.Looks.{Reads}
use Rattle.vx_import.proofs.Looks.{reads_refl}
use Rattle.vx_import.proofs.taking.try_best.Goals as goal

pub returns-in-None-clause-reads : goal.returns-in-None-clause-reads
returns-in-None-clause-reads g c = each_refl Reads reads_refl _
