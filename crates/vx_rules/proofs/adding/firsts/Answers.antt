use Rattle.std.proofs.Common.{◌≡◌, ◌∙◌, is_some, sym, ap, subst, refl, rules, arith}
use Rattle.vx_config_parts.specs.Objects.{name_of}
use Rattle.vx_config_parts.specs.declared.object.Object.{Object}
use Rattle.vx_rules.specs.References.{has_name}
use Rattle.vx_rules.proofs.Earliest.{pushed_unless, pushed, passed, goes_on, still_differ, finds_more}
use Rattle.vx_rules.proofs.adding.firsts.Goals as goal
use Rattle.vx_rules.proofs.adding.firsts.Goals.{then-is_none+in_ok-push, else-is_none}

pub loop-object-init : goal.loop-object-init
unfolding Rattle.vx_rules.specs.Adding.firsts
loop-object-init c = record {
  goes_on = rw c.new-out.ensures.items refl;
  differ = rw c.new-out.ensures.items refl;
  finds = λ name. rw c.new-out.ensures.items (search rules);
}

pub loop-object-preserved : goal.loop-object-preserved
loop-object-preserved c =
    let o : Object = c.object-item.result in
    let has : has_name (name_of o) c.loop-object.out.items ≡ is_some c.in-Ok.earlier =
    subst (λ n. has_name n c.loop-object.out.items ≡ is_some c.in-Ok.earlier) c.name.ensures
    (sym (c.loop-object.invariant.finds c.name.result.now) ∙ ap is_some (sym c.in-Ok.ensures.old)) in
    let kept : c.if-is_none.out.items ≡ pushed_unless (is_some c.in-Ok.earlier) o c.loop-object.out.items =
    elim c.if-is_none.branch [
      | then-is_none+in_ok-push w ↦ pushed (is_some c.in-Ok.earlier) o _ _ w.if-is_none.ensures (search rules)
      | else-is_none w ↦ passed (is_some c.in-Ok.earlier) o _ _ w.if-is_none.ensures (search rules)
    ] in
    record {
      goes_on = rw kept (goes_on c.args.all.now c.loop-object.out.items c.loop-object.object-index o (is_some c.in-Ok.earlier) (omega arith) c.object-item.is has ∙ c.loop-object.invariant.goes_on);
      differ = rw kept (still_differ c.loop-object.out.items o (is_some c.in-Ok.earlier) c.loop-object.invariant.differ has);
      finds = λ name. rw kept (finds_more c.loop-object.out.items o (is_some c.in-Ok.earlier) c.name.result.now name _ _ _ c.name.ensures (c.in-Ok.ensures.updates.0 name) (c.loop-object.invariant.finds name) has);
    }
