use Rattle.std.proofs.Common.{◌≢◌, ◌∙◌, ◌<◌, ◌≤◌, [], None, length, get_or-set_other, get_or-set_same, below_more, ap, arith}
use Rattle.std.proofs.Math.ListN.{length-set}
use Rattle.vx_power.specs.Berths.{empty_berth}
use Rattle.vx_power.proofs.BerthLemmas.{has_set, all_clear}
use Rattle.vx_power.proofs.berths.clear.Goals as goal

pub loop-i-preserved : goal.loop-i-preserved
loop-i-preserved c =
    let items = c.loop-i.berths.items in
    let berth = c.index_mut-berth.result.now in
    let lt : c.loop-i.i < length items = let n = c.loop-i.invariant.sized in let e = c.len-i-end.ensures in let t = c.loop-i-test.true in omega (arith, c.args.berths.now.ok.0) in
    record {
      sized = length-set items c.loop-i.i _ ∙ c.loop-i.invariant.sized;
      clear = λ d. below_more _ _
          (λ k h. let ne : k ≢ c.loop-i.i = omega arith in ap (λ b. b.1) (get_or-set_other items c.loop-i.i k _ d ne) ∙ c.loop-i.invariant.clear d k h)
          (ap (λ b. b.1) (get_or-set_same items c.loop-i.i _ d lt));
      same = λ name. has_set items c.loop-i.i (berth.0, None) berth (ap (λ b. b.0) c.index_mut-berth.ensures.value) name ∙ c.loop-i.invariant.same name;
    }

pub returns-clause-gone : goal.returns-clause-gone
returns-clause-gone c =
    let end : length c.loop-i.berths.items ≤ c.loop-i.i = let n = c.loop-i.invariant.sized in let e = c.len-i-end.ensures in let t = c.loop-i-test.false in omega (arith, c.args.berths.now.ok.0) in
    all_clear c.loop-i.berths.items (empty_berth []) (λ k lt. c.loop-i.invariant.clear (empty_berth []) k (omega arith))

pub returns-clause-same : goal.returns-clause-same
returns-clause-same c = c.loop-i.invariant.same
