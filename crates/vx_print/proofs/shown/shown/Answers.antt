use Rattle.std.proofs.Common.{Some, ◌∙◌, ap}
use Rattle.std.specs.Option.{option_copied}
use Rattle.vx_objects.specs.Config.{objects_of}
use Rattle.vx_print.specs.Shown.{is_shown}
use Rattle.vx_print.proofs.Choice.{none_chosen, have_all, ok_have}
use Rattle.vx_print.proofs.shown.shown.Goals as goal

pub returns-in-None-clause-shown : goal.returns-in-None-clause-shown
returns-in-None-clause-shown c = none_chosen (option_copied c.args.only) (objects_of c.args.config.now) c.in_ok-all.all.items (ap option_copied c.in-None.is) c.in_ok-all.ensures

pub returns-in-None-clause-records : goal.returns-in-None-clause-records
returns-in-None-clause-records c = have_all c.args.config.now c.in_ok-all.all.items c.in_ok-all.ensures

pub returns-in-Some-clause-records : goal.returns-in-Some-clause-records
returns-in-Some-clause-records c = ok_have c.of_volume.result c.args.config.now (λ o. is_shown (Some c.in-Some.vol.now) c.deref.result.now o) c.deref.result.now (c.deref.ensures.value ∙ c.in_ok-all.ensures) c.of_volume.ensures
