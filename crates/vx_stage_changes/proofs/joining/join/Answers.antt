use Rattle.std.proofs.Common.{Some, refl}
use Rattle.vx_stage_changes.proofs.OneItem.{one_item, join_goes}
use Rattle.vx_stage_changes.proofs.joining.join.Goals as goal

pub returns-in-Some : goal.returns-in-Some
returns-in-Some g c = record {
  goes = λ shelf held.
      join_goes g.P.Piece.seen c.pair-item.result c.args.disks.now (one_item c.args.disks.now c.pair-item.result c.in-len1.len_at_least c.in-len1.len_below c.pair-item.is) shelf c.args.house.now
      (record { volumes = c.args.house.now.volumes; group = Some c.join_in.new.group; hand = c.join_in.new.hand }) c.requires.keeps held c.in-Some.group c.join_in.new.group c.in-Some.is refl refl c.join_in.ensures.public c.join_in.result c.join_in.ensures.ends;
}
