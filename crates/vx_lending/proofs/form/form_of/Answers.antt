use Rattle.std.proofs.Common.{◌∙◌}
use Rattle.std.proofs.lemmas.List.Elements.{All-same}
use Rattle.vx_image.specs.Lies.{IsPlexOf}
use Rattle.vx_lending.proofs.Lists.{held_are, logs_are}
use Rattle.vx_lending.proofs.form.form_of.Goals as goal

pub layouts_of-requires : goal.layouts_of-requires
layouts_of-requires c = All-same (λ p. IsPlexOf c.args.config.now p) _ _ (c.deref-2.ensures.value ∙ c.in_ok-held.ensures) (held_are c.args.config.now c.args.good c.args.vol.now)

pub layouts_of-requires-2 : goal.layouts_of-requires-2
layouts_of-requires-2 c = All-same (λ p. IsPlexOf c.args.config.now p) _ _ (c.deref-3.ensures.value ∙ c.in_ok-used.ensures) (logs_are c.args.config.now c.args.good c.args.vol.now c.args.fresh)
