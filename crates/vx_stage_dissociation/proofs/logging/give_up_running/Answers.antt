use Rattle.std.proofs.Common.{◌≡◌, Some, rules}
use Rattle.std.specs.BTreeMap.{get}
use Rattle.std.specs.Cmp.Lexicographic.{slice_cmp}
use Rattle.std.specs.Ordering.{nat_cmp}
use Rattle.vx_stage_mirrors.proofs.Entries.{puts_as}
use Rattle.vx_stage_dissociation.proofs.logging.give_up_running.Goals as goal

pub returns : goal.returns
returns g c =
    let found : get (slice_cmp nat_cmp) c.args.running.now c.args.name.now ≡ Some c.in-Some.one.now = search rules in
    let after = c.give_up_one.new.one in
    record {
      before = c.in-Some.one.now;
      after = after;
      ordered = c.get_mut.ensures.ordered;
      was = found;
      entries = (c.get_mut.follows.holds after).0;
      puts = puts_as c.args.running.now (c.get_mut.follows.lender after) c.args.name.now after ((c.get_mut.follows.holds after).3 (search rules)).0;
      has = c.give_up_one.ensures;
    }
