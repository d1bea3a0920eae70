use Rattle.std.proofs.Common.{refl, rules}
use Rattle.vx_stage_devices.proofs.Wipes.{counted_with_power}
use Rattle.vx_stage_devices.proofs.wiping.wipe_at.Goals as goal

pub returns-in-Ok : goal.returns-in-Ok
returns-in-Ok g c = record {
  device = refl;
  kept = c.in-Ok.ensures.kept;
  told = c.in-Ok.ensures.told.told;
  once = counted_with_power (g.P.Piece.seen c.args.taken.now.piece).cut _ _ (λ off. search rules) c.in-Ok.ensures.told.writes;
  reads = c.in-Ok.ensures.told.reads;
  quiet = search rules;
}
