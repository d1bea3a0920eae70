use Rattle.std.proofs.Common.{◌≡◌, Some, take, true, false, sym, ◌∙◌, ap, subst, arith}
use Rattle.std.specs.Option.{option_copied}
use Rattle.vx_config_parts.specs.declared.fault.ObjectFault.TheVariants.{Exists}
use Rattle.vx_rules.specs.References.{has_name}
use Rattle.vx_rules.proofs.FirstNames.{finds_more, has_from_map, none_named, repeats_here, repeats_later}
use Rattle.vx_rules.proofs.index.Index.new.Goals as goal

pub returns-then-is_some : goal.returns-then-is_some
returns-then-is_some c =
    let before = take c.loop-object.object-index c.args.all.now in
    let has : has_name c.name.result.now before ≡ true = has_from_map c.name.result.now before c.in-Ok.earlier true (ap option_copied c.in-Ok.ensures.old ∙ c.loop-object.invariant.finds c.name.result.now) (sym c.if-is_some.ensures) in
    sym c.loop-object.invariant.differ
    ∙ repeats_here c.args.all.now c.loop-object.object-index c.object-item.result (omega arith) c.object-item.is (subst (λ n. has_name n before ≡ true) c.name.ensures has)
    ∙ ap (λ n. Some (Exists n)) (sym c.name-then-is_some.ensures)

pub loop-object-preserved : goal.loop-object-preserved
loop-object-preserved c =
    let before = take c.loop-object.object-index c.args.all.now in
    let has : has_name c.name.result.now before ≡ false = has_from_map c.name.result.now before c.in-Ok.earlier false (ap option_copied c.in-Ok.ensures.old ∙ c.loop-object.invariant.finds c.name.result.now) (sym c.if-is_some.ensures) in
    record {
      differ = repeats_later c.args.all.now c.loop-object.object-index c.object-item.result (omega arith) c.object-item.is (subst (λ n. has_name n before ≡ false) c.name.ensures has) ∙ c.loop-object.invariant.differ;
      finds = λ name. finds_more c.args.all.now c.loop-object.object-index _ c.name.result.now name _ _ (omega arith) c.object-item.is c.name.ensures (c.in-Ok.ensures.updates.0 name) (c.loop-object.invariant.finds name) (none_named c.name.result.now before has);
    }
