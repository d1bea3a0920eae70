use Rattle.std.proofs.Common.{◌∙◌, ◌<◌, not, ap}
use Rattle.std.proofs.lemmas.List.Elements.{All-same}
use Rattle.vx_image.specs.UsedPlexes.{is_on, maps_of}
use Rattle.vx_lending.proofs.Lists.{plexes_below, relations_below}
use Rattle.vx_lending.proofs.masks.shape_of.Goals as goal

pub mask_of-requires : goal.mask_of-requires
mask_of-requires c =
    All-same (λ m. m < 64) _ _ (c.deref-3.ensures.value ∙ c.in_ok-on-2.ensures ∙ ap maps_of (c.deref.ensures.value ∙ c.in_ok-on.ensures))
    (plexes_below c.args.config.now c.args.vol.now c.requires (is_on c.args.config.now c.args.good))

pub mask_of-requires-2 : goal.mask_of-requires-2
mask_of-requires-2 c =
    All-same (λ m. m < 64) _ _ (c.deref-4.ensures.value ∙ c.in_ok-off-2.ensures ∙ ap maps_of (c.deref-2.ensures.value ∙ c.in_ok-off.ensures))
    (plexes_below c.args.config.now c.args.vol.now c.requires (λ p. not (is_on c.args.config.now c.args.good p)))

pub mask_of-requires-3 : goal.mask_of-requires-3
mask_of-requires-3 c = All-same (λ m. m < 64) _ _ (c.deref-5.ensures.value ∙ c.in_ok-snaps.ensures) (relations_below c.args.config.now c.args.vol.now c.requires)
