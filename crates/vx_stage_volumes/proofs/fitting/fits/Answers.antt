use Rattle.std.proofs.Common.{◌∙◌, subst}
use Rattle.vx_stage_changes.specs.Planning.{IsPlanned, IsUnplanned}
use Rattle.vx_stage_volumes.proofs.StopFine.{planned_fits, unplanned_long}
use Rattle.vx_stage_volumes.proofs.Named.{recorded_of}
use Rattle.vx_stage_volumes.proofs.fitting.fits.Goals as goal

pub returns-in-Ok-planned-clause-fits : goal.returns-in-Ok-planned-clause-fits
returns-in-Ok-planned-clause-fits c =
    planned_fits c.each_change_is_fine.ensures.stop c.args.config.now c.args.vol.now (recorded_of c.args.config.now c.args.vol.now c.requires.recorded) c.in-Ok-planned.field-0
    (subst (λ es. IsPlanned es c.args.config.now c.in-Ok-planned.field-0) (c.deref.ensures.value ∙ c.in-Ok.ensures) c.in-Ok-planned.ensures.planned)

pub returns-clause-long : goal.returns-clause-long
returns-clause-long c =
    unplanned_long c.each_change_is_fine.ensures.stop c.args.config.now c.args.vol.now (recorded_of c.args.config.now c.args.vol.now c.requires.recorded) c.in-Err.stop
    (subst (λ es. IsUnplanned es c.args.config.now c.in-Err.stop) (c.deref.ensures.value ∙ c.in-Ok.ensures) c.in-Err.ensures.unplanned)
