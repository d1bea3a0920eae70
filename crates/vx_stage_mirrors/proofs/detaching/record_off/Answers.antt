use Rattle.vx_stage_mirrors.proofs.Detaches.{left_out_ends}
use Rattle.vx_stage_mirrors.proofs.detaching.record_off.Goals as goal

pub returns-else-was_taken : goal.returns-else-was_taken
returns-else-was_taken g c =
    record {
      ends = left_out_ends g.P.Piece.seen c.args.group.now c.commit_next.new.group c.args.name.now c.args.map c.args.next c.stand_in_order.ensures c.requires.may c.was_taken.result c.was_taken.ensures c.if-was_taken.false
          c.commit_next.result c.commit_next.ensures.ends;
    }
