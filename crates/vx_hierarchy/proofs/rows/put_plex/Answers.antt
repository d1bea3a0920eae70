use Rattle.std.proofs.Common.{rules}
use Rattle.std.specs.BTreeMap.{get}
use Rattle.std.specs.Cmp.Lexicographic.{slice_cmp}
use Rattle.std.specs.Ordering.{nat_cmp}
use Rattle.vx_hierarchy.proofs.Named.{is_put}
use Rattle.vx_hierarchy.proofs.rows.put_plex.Goals as goal

pub returns-in_ok-insert : goal.returns-in_ok-insert
returns-in_ok-insert c = λ name. is_put c.args.plex.now name (get (slice_cmp nat_cmp) c.args.named.now) _ (search rules) (c.in_ok-insert.ensures.updates.0 name)
