use Rattle.std.proofs.Common.{◌≡◌, Some, refl, rules}
use Rattle.std.specs.BTreeMap.{get}
use Rattle.std.specs.Cmp.Lexicographic.{slice_cmp}
use Rattle.std.specs.Ordering.{nat_cmp}
use Rattle.vx_stage_mirrors.proofs.Entries.{puts_as}
use Rattle.vx_stage_mirrors.proofs.settling.settle_running.Goals as goal

pub returns : goal.returns
returns g c =
    let found : get (slice_cmp nat_cmp) c.args.running.now c.args.name.now ≡ Some c.in-Some.one.now = search rules in
    let after = record c.in-Some.one.now { volume = c.settle_volume.new.volume } in
    record {
      settles = record {
        before = c.in-Some.one.now;
        after = after;
        was = found;
        entries = (c.get_mut.follows.holds after).0;
        puts = puts_as c.args.running.now (c.get_mut.follows.lender after) c.args.name.now after ((c.get_mut.follows.holds after).3 (search rules)).0;
        comes = c.settle_volume.ensures.comes;
        whole = c.settle_volume.ensures.whole;
        form = refl;
        shape = c.settle_volume.ensures.shape;
        follows = c.settle_volume.ensures.follows;
      };
    }
