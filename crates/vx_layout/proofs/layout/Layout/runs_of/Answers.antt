use Rattle.std.proofs.Common.{rules, ◌≡◌, ◌+◌, List, [], ◌∷◌, ◌++◌, refl, sym, subst, arith}
use Rattle.std.proofs.lemmas.Bool.{both_ways}
use Rattle.vx_layout.specs.declared.run.Run.{Run}
use Rattle.vx_layout.proofs.RunLemmas.{IsLastApart, longer_last, pushed_last, joined_run, closed_runs}
use Rattle.vx_layout.proofs.layout.Layout.runs_of.Goals as goal

pub loop-open-preserved-then-continues : goal.loop-open-preserved-then-continues
loop-open-preserved-then-continues c =
    let before = c.loop-open.invariant in
    record {
      runs = before.runs;
      last = longer_last c.loop-open.runs.items c.loop-open.open _ refl refl before.last;
      run = joined_run c.args.self.now.unit c.args.self.now.columns c.loop-open.open c.run_at-next.result _ before.run c.run_at-next.ensures.run
          (c.continues.ensures.0 c.if-continues.true) c.run_at-next.ensures.block refl refl refl refl;
      inside = omega arith;
    }

pub loop-open-preserved : goal.loop-open-preserved
loop-open-preserved c =
    let before = c.loop-open.invariant in
    let items : c.push.new.self.items ≡ c.loop-open.runs.items ++ c.loop-open.open ∷ [] = search rules in
    let Apart : List Run → Type 0 = λ rs. IsLastApart rs c.run_at-next.result in
    record {
      runs = closed_runs c.args.self.now.unit c.args.self.now.columns c.args.span.start c.run_at-next.result.block c.loop-open.runs.items c.push.new.self.items c.loop-open.open
          before.runs before.last before.run items (sym c.run_at-next.ensures.block);
      last = subst Apart (sym items) (pushed_last c.loop-open.runs.items c.loop-open.open c.run_at-next.result
          (λ more. both_ways c.continues.result c.if-continues.false (c.continues.ensures.1 more)));
      run = c.run_at-next.ensures.run;
      inside = omega arith;
    }

pub returns : goal.returns
returns c =
    let before = c.loop-open.invariant in
    let items : c.from_vec-2.result ≡ c.loop-open.runs.items ++ c.loop-open.open ∷ [] = search rules in
    closed_runs c.args.self.now.unit c.args.self.now.columns c.args.span.start (c.args.span.start + c.args.span.count) c.loop-open.runs.items c.from_vec-2.result c.loop-open.open
    before.runs before.last before.run items (omega arith)
