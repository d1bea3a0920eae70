use Rattle.std.proofs.Common.{◌∙◌, ap}
use Rattle.vx_volume_rows.proofs.Wholes.{none_left, ran_parted}
use Rattle.vx_volume_rows.proofs.running.ran.Goals as goal

pub closed-requires : goal.closed-requires
closed-requires c = ran_parted _ _ _ _ _ _ (none_left _ _ _ (ap (λ l. l.items) c.close_volume.ensures.left ∙ c.requires.left)) c.requires.behind c.used.ensures.goes c.in-Ok.ensures.put
