use Rattle.std.proofs.Common.{◌≡◌, ◌∙◌, is_some, List, map, ap, subst, sym, true, false}
use Rattle.vx_base.specs.Named.{Word}
use Rattle.vx_power.specs.Berths.{Berth, has_berth, is_gone, empty_berth}
use Rattle.vx_power.proofs.BerthLemmas.{none_listed}
use Rattle.vx_power.proofs.ShelfFacts.{listed_berthed, known_before}
use Rattle.vx_power.proofs.powered.Powered.new.Goals as goal

pub invariant_of-result : goal.invariant_of-result
invariant_of-result g c =
    let names = c.in-Ok.names.items in
    let items : c.in-Ok-berths_of.berths.items ≡ map empty_berth names = c.in-Ok-berths_of.ensures ∙ ap (map empty_berth) c.as_slice.ensures.value in
    let none : (name : Word) → is_gone c.in-Ok-berths_of.berths.items name ≡ true → false ≡ true = λ name gone. sym (ap is_some (none_listed names name)) ∙ subst (λ (bs : List Berth). is_gone bs name ≡ true) items gone in
    record {
      berthed = λ name known. subst (λ (bs : List Berth). has_berth bs name ≡ true) (sym items) (listed_berthed names (g.S.Shelf.free c.args.shelf) (g.S.Shelf.held c.args.shelf) c.requires c.in-Ok.ensures.all name (known_before _ _ (g.S.Shelf.held c.args.shelf) (g.S.Shelf.held c.names.new.self) name c.names.ensures.stays (c.names.ensures.same name) known));
      unheld = λ name gone. cc (none name gone);
      flagged = none;
      untold = λ e. cc;
    }
