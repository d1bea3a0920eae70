use Rattle.std.proofs.Common.{◌≡◌, Some, refl, rules}
use Rattle.std.specs.BTreeMap.{is_at}
use Rattle.std.specs.Cmp.Lexicographic.{slice_cmp}
use Rattle.std.specs.Map.{lookup}
use Rattle.std.specs.Ordering.{nat_cmp}
use Rattle.vx_group_start.specs.Copying.{missed_regions}
use Rattle.vx_volume.specs.Volume.{IsVolume, volume_seen}
use Rattle.vx_stage_volumes.proofs.Entries.{at_found, of_ok, puts_as}
use Rattle.vx_stage_mirrors.proofs.copying.copy_running.Goals as goal

pub copy_all-requires-after_bounds : goal.copy_all-requires-after_bounds
copy_all-requires-after_bounds g c κs within =
    let found : lookup (is_at (slice_cmp nat_cmp c.args.name.now)) c.args.running.now.entries ≡ Some c.in-Some.one.now = search rules in
    at_found (λ r. IsVolume (volume_seen g.P.Piece.seen r.volume)) (is_at (slice_cmp nat_cmp c.args.name.now)) c.args.running.now.entries c.in-Some.one.now c.requires.volumes found

pub returns : goal.returns
returns g c =
    let before = c.in-Some.one.now in
    let after = record before { volume = c.copy_all.new.volume } in
    let found : lookup (is_at (slice_cmp nat_cmp c.args.name.now)) c.args.running.now.entries ≡ Some before = search rules in
    record {
      before = before;
      after = after;
      was = search rules;
      entries = (c.get_mut.follows.holds after).0;
      puts = puts_as c.args.running.now (c.get_mut.follows.lender after) c.args.name.now after ((c.get_mut.follows.holds after).3 (search rules)).0;
      copied = c.copy_all.ensures.copied;
      count = λ n is. of_ok (λ k. k ≡ missed_regions c.args.mask (volume_seen g.P.Piece.seen before.volume)) c.copy_all.result c.copy_all.ensures.count n is;
      original = at_found (λ r. IsVolume (volume_seen g.P.Piece.seen r.volume)) (is_at (slice_cmp nat_cmp c.args.name.now)) c.args.running.now.entries before c.requires.volumes found;
      whole = c.copy_all.ensures.whole;
      form = refl;
      shape = c.copy_all.ensures.shape;
      follows = c.copy_all.ensures.follows;
    }
