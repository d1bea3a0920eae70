use Rattle.std.proofs.Common.{◌∙◌, ap}
use Rattle.vx_stage_devices.proofs.Entries.{puts_as}
use Rattle.vx_stage_devices.proofs.starting.put_in.Goals as goal

pub returns-in-Ok-insert-clause-put_in : goal.returns-in-Ok-insert-clause-put_in
returns-in-Ok-insert-clause-put_in g c = record {
  volume = c.in-Ok.started;
  device = c.in-Ok.ensures.shaped.1;
  piece = c.in-Ok.ensures.piece;
  length_is = ap (λ x. x.length) c.in-Ok.ensures.shaped.0 ∙ c.in-Some.ensures.length ∙ c.sectors.ensures;
  region_is = ap (λ x. x.region) c.in-Ok.ensures.shaped.0 ∙ c.in-Some.ensures.region;
  numbers = c.in-Ok.ensures.fresh;
  entries = c.in-Ok-insert.ensures.entries;
  puts = puts_as c.args.volumes.now c.insert.new.self c.args.vol c.in-Ok.started c.in-Ok-insert.ensures.updates.0;
  ordered = c.insert.ensures.ordered;
}
