use Rattle.std.proofs.Common.{◌≡◌, Some, refl, inr, rules}
use Rattle.std.specs.BTreeMap.{get}
use Rattle.std.specs.Cmp.Lexicographic.{slice_cmp}
use Rattle.std.specs.Ordering.{nat_cmp}
use Rattle.vx_run.proofs.Among.{puts_as}
use Rattle.vx_run.proofs.policies.read_by.Goals as goal

pub returns-in-Some : goal.returns-in-Some
returns-in-Some g c =
    let found : get (slice_cmp nat_cmp) c.args.running.now c.args.vol.now ≡ Some c.in-Some.one.now = search rules in
    let after = record c.in-Some.one.now { volume = c.set_policy.new.self } in
    inr (record {
      before = c.in-Some.one.now;
      after = after;
      was = found;
      entries = (c.get_mut.follows.holds after).0;
      puts = puts_as c.args.running.now (c.get_mut.follows.lender after) c.args.vol.now after ((c.get_mut.follows.holds after).3 (search rules)).0;
      seen = record { form = refl; seen = c.set_policy.ensures.same; shape = c.set_policy.ensures.shape; log = c.set_policy.ensures.log };
    })
