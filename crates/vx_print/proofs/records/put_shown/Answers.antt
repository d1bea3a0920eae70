use Rattle.std.specs.Option.{option_copied}
use Rattle.std.proofs.Common.{List, ◌∙◌, map, ap, rules}
use Rattle.std.proofs.lemmas.List.Sorted.{answers_always}
use Rattle.vx_config_parts.specs.declared.object.Object.{Object}
use Rattle.vx_objects.specs.Config.{objects_of}
use Rattle.vx_objects.specs.Laws.{place_of}
use Rattle.vx_objects.specs.Printed.{record_of}
use Rattle.vx_record.specs.Content.{Content}
use Rattle.vx_print.proofs.Order.{printed}
use Rattle.vx_print.proofs.records.put_shown.Goals as goal

pub returns : goal.returns
returns c =
    printed c.print.result (option_copied c.args.only) (objects_of c.args.config.now) c.args.out.now.items c.print.new.out.items c.into_vec-records.result.items c.sort_by_key.new.self.items c.deref-2.result.now
    (c.into_vec-records.ensures ∙ c.in_ok-records_of.ensures ∙ ap (λ (os : List Object). map record_of os) (c.deref.ensures.value ∙ c.in_ok-objects.ensures.shown))
    c.in_ok-sort_by_key.ensures.permutation
    (c.in_ok-sort_by_key.ensures.sorted (λ (e : Content). (place_of e.kind, e.name)) (answers_always _ _ _ (λ f a r q k. search rules)))
    c.deref-2.ensures.value c.print.ensures.text c.print.ensures.form
