use Rattle.std.proofs.Common.{◌≡◌, ◌∙◌, Some, rules}
use Rattle.std.specs.BTreeMap.{get, is_at}
use Rattle.std.specs.Map.{lookup}
use Rattle.std.specs.Cmp.Lexicographic.{slice_cmp}
use Rattle.std.specs.Ordering.{nat_cmp}
use Rattle.std.specs.Map.{set_value}
use Rattle.std.proofs.Common.{ap}
use Rattle.std.proofs.lemmas.Map.Steps.{set_value_same}
use Rattle.std.proofs.lemmas.Result.{on_err_weaker}
use Rattle.vx_run.proofs.Among.{both_ok, puts_as}
use Rattle.vx_run.proofs.grouped.serve_running.Goals as goal

pub returns-clause-runs : goal.returns-clause-runs
returns-clause-runs g c =
    let found : get (slice_cmp nat_cmp) c.args.running.now c.args.name.now ≡ Some c.in-Some.one.now = search rules in
    both_ok c.serve.result _ _ _
    (λ answer serves cause. record {
      before = c.in-Some.one.now;
      after = c.serve.new.running;
      was = found;
      entries = (c.get_mut.follows.holds c.serve.new.running).0;
      puts = puts_as c.args.running.now (c.get_mut.follows.lender c.serve.new.running) c.args.name.now c.serve.new.running ((c.get_mut.follows.holds c.serve.new.running).3 (search rules)).0;
      serves = serves;
      whole = c.serve.ensures.whole;
      form = c.serve.ensures.form;
      shape = c.serve.ensures.shape;
      stays = c.serve.ensures.stays;
      goes = c.serve.ensures.goes;
      follows = c.serve.ensures.follows;
      cause = cause;
      counted = c.serve.ensures.counted;
      dead = c.serve.ensures.dead;
      lies = c.serve.ensures.lies;
    })
    c.serve.ensures.served c.serve.ensures.cause

pub returns-clause-refused : goal.returns-clause-refused
returns-clause-refused g c =
    let found : lookup (is_at (slice_cmp nat_cmp c.args.name.now)) c.args.running.now.entries ≡ Some c.in-Some.one.now = search rules in
    on_err_weaker c.serve.result
    (λ same. (c.get_mut.follows.holds c.serve.new.running).0 ∙ ap (set_value (is_at (slice_cmp nat_cmp c.args.name.now)) c.args.running.now.entries) same ∙ set_value_same _ c.args.running.now.entries c.in-Some.one.now found)
    c.serve.ensures.refused
