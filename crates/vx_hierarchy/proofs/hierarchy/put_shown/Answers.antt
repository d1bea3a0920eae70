use Rattle.std.specs.Option.{option_copied}
use Rattle.std.proofs.Common.{rules}
use Rattle.std.proofs.lemmas.List.Sorted.{answers_always}
use Rattle.vx_hierarchy.specs.Rows.{is_started, row_piece, row_plex, row_volume, stays_held}
use Rattle.vx_hierarchy.specs.declared.row.Row.{Row}
use Rattle.vx_hierarchy.proofs.Order.{printed}
use Rattle.vx_hierarchy.proofs.hierarchy.put_shown.Goals as goal

pub returns : goal.returns
returns c = λ d.
    printed d.put_rows.result d.args.config.now (stays_held d.args.config.now d.args.good d.args.lent.now) (is_started d.args.started.now) (option_copied d.args.only) d.args.out.now.items d.put_rows.new.out.items _ d.in_ok-shown.shown.items d.sort_by_key.new.self.items d.deref-2.result.now
    d.in_ok-all.ensures (search rules)
    d.in_ok-sort_by_key.ensures.permutation
    (d.in_ok-sort_by_key.ensures.sorted (λ (e : Row). (row_volume e, row_plex e, row_piece e)) (answers_always _ _ _ (λ f a r q k. search rules)))
    d.deref-2.ensures.value d.put_rows.ensures
