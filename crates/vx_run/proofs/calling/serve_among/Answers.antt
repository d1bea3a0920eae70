use Rattle.std.proofs.Common.{◌≡◌, ◌∙◌, ◌+◌, Some, ap, subst, rules, arith}
use Rattle.std.specs.BTreeMap.{get, is_at}
use Rattle.std.specs.Map.{lookup, set_value}
use Rattle.std.specs.Cmp.Lexicographic.{slice_cmp}
use Rattle.std.specs.Ordering.{nat_cmp}
use Rattle.vx_base.specs.Named.{put, SameUnder}
use Rattle.std.proofs.lemmas.Map.Steps.{set_value_same}
use Rattle.std.proofs.lemmas.Result.{on_err_weaker}
use Rattle.vx_stages.specs.Calls.{volume_of, start_of, count_of}
use Rattle.vx_run.proofs.Among.{past_among, served_among, one_ok, puts_as}
use Rattle.vx_run.proofs.calling.serve_among.Goals as goal

pub returns-then-started-end_of-clause-serves : goal.returns-then-started-end_of-clause-serves
returns-then-started-end_of-clause-serves g c =
    let found : get (slice_cmp nat_cmp) c.args.volumes.now (volume_of c.args.call.now) ≡ Some c.in-Some.started.now = search rules in
    past_among g.P.Piece.seen c.args.call.now _ c.in-Some.started.now found c.args.volumes.now (c.get_mut.follows.lender c.in-Some.started.now) (search rules) (search (rules, set_value_same))

pub returns-clause-serves : goal.returns-clause-serves
returns-clause-serves g c =
    let found : get (slice_cmp nat_cmp) c.args.volumes.now (volume_of c.args.call.now) ≡ Some c.in-Some.started.now = search rules in
    let end : c.end_of.result ≡ start_of c.args.call.now + count_of c.args.call.now = c.end_of.ensures in
    one_ok c.serve.result _ _
    (λ answer served. served_among g.P.Piece.seen c.args.call.now _ c.in-Some.started.now found c.args.volumes.now (c.get_mut.follows.lender c.serve.new.started) answer (omega (arith, end, c.if-started-end_of.false)) (record {
      later = c.serve.new.started;
      served = served;
      entries = (c.get_mut.follows.holds c.serve.new.started).0 ∙ ap (λ n. set_value (is_at (slice_cmp nat_cmp n)) c.args.volumes.now.entries c.serve.new.started) c.volume_of-name.ensures;
      puts = subst (λ n. SameUnder (put n (Some c.serve.new.started) (get (slice_cmp nat_cmp) c.args.volumes.now)) (get (slice_cmp nat_cmp) (c.get_mut.follows.lender c.serve.new.started))) c.volume_of-name.ensures
          (puts_as c.args.volumes.now (c.get_mut.follows.lender c.serve.new.started) c.volume_of-name.result c.serve.new.started ((c.get_mut.follows.holds c.serve.new.started).3 (search rules)).0);
    }))
    c.serve.ensures.served

pub returns-clause-refused : goal.returns-clause-refused
returns-clause-refused g c =
    let found : lookup (is_at (slice_cmp nat_cmp c.volume_of-name.result)) c.args.volumes.now.entries ≡ Some c.in-Some.started.now = search rules in
    on_err_weaker c.serve.result
    (λ same. (c.get_mut.follows.holds c.serve.new.started).0 ∙ ap (set_value (is_at (slice_cmp nat_cmp c.volume_of-name.result)) c.args.volumes.now.entries) same ∙ set_value_same _ c.args.volumes.now.entries c.in-Some.started.now found)
    c.serve.ensures.refused
