use Rattle.vx_stage_mirrors.proofs.CopyingFacts.{CopyLaws}
use Rattle.vx_stage_mirrors.proofs.CopyingGoes.{copying_goes_on}
use Rattle.vx_stage_mirrors.proofs.copying.each_copying_goes.Goals as goal

pub returns : goal.returns
returns g c shelf name mask stop alike has_group copies keeps =
    let laws : CopyLaws = record { runs = c.each_pass_runs_on.ensures.copied; noted = c.each_failure_is_noted.ensures } in
    copying_goes_on laws shelf c.args.house.now c.args.old.now c.args.new.now alike has_group name mask stop copies keeps
