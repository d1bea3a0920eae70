use Rattle.std.proofs.Common.{sym, arith}
use Rattle.vx_picker.proofs.MemberLemmas.{none_below, counts_in, counts_out}
use Rattle.vx_picker.proofs.members.member_at.Goals.{then-contains+else-members-index, else-contains}
use Rattle.vx_picker.proofs.members.member_at.Goals as goal

pub loop-map-init : goal.loop-map-init
loop-map-init c = (sym (none_below c.args.mask), omega arith, omega arith)

pub loop-map-preserved : goal.loop-map-preserved
loop-map-preserved c =
    elim c.if-contains.branch [
      | then-contains+else-members-index w ↦
          let below = c.loop-map.invariant.1 in
          let most = c.loop-map.invariant.2 in
          let other = w.if-members-index.false in
          let is = w.members-is in (counts_in c.args.mask c.loop-map.map c.loop-map.members _ c.contains.result w.if-contains.true c.contains.ensures is c.loop-map.invariant.0, omega (arith, is, below, other), omega (arith, is, most))
      | else-contains w ↦
          let below = c.loop-map.invariant.1 in
          let most = c.loop-map.invariant.2 in
          let is = w.members-is in (counts_out c.args.mask c.loop-map.map c.loop-map.members _ c.contains.result w.if-contains.false c.contains.ensures is c.loop-map.invariant.0, omega (arith, is, below), omega (arith, is, most))
    ]
