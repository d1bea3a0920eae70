use Rattle.std.proofs.Common.{◌∙◌, ap}
use Rattle.std.specs.List.{filter_map}
use Rattle.vx_image.specs.UsedPlexes.{relation_map}
use Rattle.vx_lending.proofs.Lists.{relations_are}
use Rattle.vx_lending.proofs.masks.relation_maps.Goals as goal

pub returns : goal.returns
returns c = c.in_ok-maps.ensures ∙ ap (filter_map (relation_map c.args.vol.now)) c.as_slice.ensures ∙ relations_are c.args.config.now.snaps c.args.vol.now
