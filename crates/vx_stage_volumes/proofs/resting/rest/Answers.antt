use Rattle.std.proofs.Common.{◌≡◌, Some, refl, rules}
use Rattle.std.specs.BTreeMap.{get}
use Rattle.std.specs.Cmp.Lexicographic.{slice_cmp}
use Rattle.std.specs.Ordering.{nat_cmp}
use Rattle.vx_stage_volumes.proofs.Laid.{puts_as}
use Rattle.vx_stage_volumes.proofs.resting.rest.Goals as goal

pub returns : goal.returns
returns g c =
    let found : get (slice_cmp nat_cmp) c.args.running.now c.args.name.now ≡ Some c.in-Some.one.now = search rules in
    let after = record c.in-Some.one.now { volume = c.quiesce.new.volume } in
    record {
      rests = record {
        before = c.in-Some.one.now;
        after = after;
        was = found;
        entries = (c.get_mut.follows.holds after).0;
        puts = puts_as c.args.running.now (c.get_mut.follows.lender after) c.args.name.now (Some after) ((c.get_mut.follows.holds after).3 (search rules)).0;
        rests = c.quiesce.ensures.rests;
        whole = c.quiesce.ensures.whole;
        form = refl;
        shape = c.quiesce.ensures.shape;
        follows = c.quiesce.ensures.follows;
      };
    }
