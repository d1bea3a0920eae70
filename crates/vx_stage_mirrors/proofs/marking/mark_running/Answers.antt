use Rattle.std.proofs.Common.{◌≡◌, Some, refl, rules}
use Rattle.std.specs.BTreeMap.{get}
use Rattle.std.specs.Cmp.Lexicographic.{slice_cmp}
use Rattle.std.specs.Ordering.{nat_cmp}
use Rattle.vx_stage_volumes.proofs.Laid.{puts_as}
use Rattle.vx_stage_mirrors.proofs.marking.mark_running.Goals as goal

pub returns : goal.returns
returns g c =
    let found : get (slice_cmp nat_cmp) c.args.running.now c.args.name.now ≡ Some c.in-Some.one.now = search rules in
    let after = record c.in-Some.one.now { volume = c.mark_volume.new.volume } in
    record {
      before = c.in-Some.one.now;
      after = after;
      was = found;
      entries = (c.get_mut.follows.holds after).0;
      puts = puts_as c.args.running.now (c.get_mut.follows.lender after) c.args.name.now (Some after) ((c.get_mut.follows.holds after).3 (search rules)).0;
      marks = c.mark_volume.ensures.marks;
      whole = c.mark_volume.ensures.whole;
      form = refl;
      shape = c.mark_volume.ensures.shape;
      follows = c.mark_volume.ensures.follows;
      room = c.mark_volume.ensures.room;
    }
