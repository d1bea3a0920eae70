use Rattle.vx_copies.proofs.Masks.{slots_none, slots_more, slots_same, mask_none, mask_more, mask_same}
use Rattle.vx_copies.proofs.writing.+good_slots.Goals as goal

pub returns-in-empty : goal.returns-in-empty
returns-in-empty g t c = record {
  names = slots_none g.P.Piece.seen c.args.disks.now c.in-empty.len_below;
  just = mask_none g.P.Piece.seen c.args.disks.now c.in-empty.len_below;
}

pub returns-then-first : goal.returns-then-first
returns-then-first g t c = record {
  names = slots_more g.P.Piece.seen c.good_slots-others.result c.args.disks.now c.first-item.result c.in-len1-up.len_at_least c.first-item.is c.requires.slots c.good_slots-others.ensures.names c.if-first.true;
  just = mask_more g.P.Piece.seen c.good_slots-others.result c.args.disks.now c.first-item.result c.in-len1-up.len_at_least c.first-item.is c.requires.slots c.good_slots-others.ensures.just c.if-first.true;
}

pub returns-else-first : goal.returns-else-first
returns-else-first g t c = record {
  names = slots_same g.P.Piece.seen c.good_slots-others.result c.args.disks.now c.first-item.result c.in-len1-up.len_at_least c.first-item.is c.good_slots-others.ensures.names c.if-first.false;
  just = mask_same g.P.Piece.seen c.good_slots-others.result c.args.disks.now c.first-item.result c.in-len1-up.len_at_least c.first-item.is c.good_slots-others.ensures.just c.if-first.false;
}
