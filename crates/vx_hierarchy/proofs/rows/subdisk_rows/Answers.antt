use Rattle.std.specs.BTreeMap.{get}
use Rattle.std.specs.Cmp.Lexicographic.{slice_cmp}
use Rattle.std.specs.Ordering.{nat_cmp}
use Rattle.vx_hierarchy.proofs.Named.{by_names}
use Rattle.vx_hierarchy.proofs.rows.subdisk_rows.Goals as goal

pub returns : goal.returns
returns c = by_names c.args.config.now.plexes _ (get (slice_cmp nat_cmp) c.in_ok-named.named) c.args.config.now.subdisks _ c.in_ok-found.found.items c.in_ok-named.ensures c.as_slice.ensures c.as_slice-2.ensures c.in_ok-found.ensures
