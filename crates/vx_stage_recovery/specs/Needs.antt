-- What a volume needs, as the code says it.
use Rattle.vx_recovery.specs.Going.{Need, Pass, Begin, Heal}
use Rattle.vx_stage_recovery.specs.declared.needs.Need.{Need as Code}
use Rattle.vx_stage_recovery.specs.declared.needs.Need.TheVariants as code

abbrev pub need_is : Code → Need
need_is code.Pass = Pass
need_is code.Begin = Begin
need_is code.Heal = Heal
