use Rattle.std.proofs.Common.{sym, arith}
use Rattle.vx_picker.proofs.MemberLemmas.{none_below, counts_in, counts_out}
use Rattle.vx_picker.proofs.members.count.Goals.{then-contains, else-contains}
use Rattle.vx_picker.proofs.members.count.Goals as goal

pub loop-map-init : goal.loop-map-init
loop-map-init c = (sym (none_below c.args.mask), omega arith)

pub loop-map-preserved : goal.loop-map-preserved
loop-map-preserved c =
    elim c.if-contains.branch [
      | then-contains w ↦
          let most = c.loop-map.invariant.1 in
          let is = w.members-is in (counts_in c.args.mask c.loop-map.map c.loop-map.members _ c.contains.result w.if-contains.true c.contains.ensures is c.loop-map.invariant.0, omega (arith, is, most))
      | else-contains w ↦
          let most = c.loop-map.invariant.1 in
          let is = w.members-is in (counts_out c.args.mask c.loop-map.map c.loop-map.members _ c.contains.result w.if-contains.false c.contains.ensures is c.loop-map.invariant.0, omega (arith, is, most))
    ]
