use Rattle.std.proofs.Common.{◌∙◌, sym}
use Rattle.vx_stage_dissociation.proofs.Tests.{logs_long}
use Rattle.vx_stage_dissociation.proofs.testing.has_used_log.Goals as goal

pub returns-then-is_some : goal.returns-then-is_some
returns-then-is_some c =
    c.has_log_among.ensures ∙ logs_long c.args.vol.now.dco c.args.config.now c.args.good c.args.vol.now.name (sym c.is_some.ensures ∙ c.if-is_some.true)
