use Rattle.std.proofs.Common.{suc, ◌≡◌, ◌+◌, ◌∷◌, ℕ, drop, ap, subst, sym, add-one, drop-cons, arith}
use Rattle.std.proofs.lemmas.List.{drop_all}
use Rattle.vx_stage_recovery.proofs.Longest.{IsSoFar, done, one_more}
use Rattle.vx_stage_recovery.proofs.texts.longest.Goals as goal

pub loop-name-preserved : goal.loop-name-preserved
loop-name-preserved c =
    let names = c.args.names.now in
    let i : ℕ = c.loop-name.name-index in
    let name = c.name-item.result in
    let left : drop i names ≡ name ∷ drop (i + 1) names = rw (add-one, drop-cons names i name c.loop-name-test.true) (ap (λ x. x ∷ drop (suc i) names) (sym c.name-item.is)) in
    one_more names (drop (i + 1) names) name c.args.config.now c.loop-name.reached c.in_ok-reached.reached (subst (λ xs. IsSoFar names xs c.args.config.now c.loop-name.reached) left c.loop-name.invariant) c.in_ok-reached.ensures

pub returns : goal.returns
returns c =
    let names = c.args.names.now in
    done names c.args.config.now c.loop-name.reached (subst (λ xs. IsSoFar names xs c.args.config.now c.loop-name.reached) (drop_all c.loop-name.name-index names (omega arith)) c.loop-name.invariant)
