use Rattle.std.proofs.Common.{◌∙◌, sym}
use Rattle.vx_stage_devices.proofs.BareVolumes.{start_stage, exists_stage, can_start, only_named}
use Rattle.vx_stage_devices.proofs.starting.start_bare.Goals as goal

pub start-requires-after_bounds : goal.start-requires-after_bounds
start-requires-after_bounds g c κs within = can_start g.P.Piece.seen c.args.house.now c.args._device.now c.args._disks.now c.requires.ready.wants.0 c.requires.ready.wants.1.0

pub returns : goal.returns
returns g c = record {
  goes = λ shelf are. start_stage g.P.Piece.seen c.args.vol.now c.args._device.now c.args.house.now c.start.new.house c.args._disks.now shelf are c.requires.keeps (sym c.is_named.ensures ∙ c.if-is_named.false)
      (λ t is. only_named c.args.house.now.hand.items c.args._device.now t c.requires.ready.wants.0 is) c.start.result c.start.ensures;
}

pub returns-then-is_named : goal.returns-then-is_named
returns-then-is_named g c = record {
  goes = λ shelf are. rw c.refused.ensures (exists_stage g.P.Piece.seen c.args.vol.now c.args._device.now c.args.house.now c.args._disks.now shelf are c.requires.keeps (sym c.is_named.ensures ∙ c.if-is_named.true));
}
