use Rattle.std.proofs.Common.{◌≡◌, ◌∙◌, sym, ap, length}
use Rattle.std.proofs.lemmas.List.{with_items_is}
use Rattle.vx_confdb.proofs.Preparation.{joined_in}
use Rattle.vx_confdb.proofs.joining.join_all.Goals as goal

pub prepare_all-requires-clause-fresh : goal.prepare_all-requires-clause-fresh
prepare_all-requires-clause-fresh g c κs within = rw c.deref_mut.ensures.value c.requires.fresh

pub returns : goal.returns
returns g c =
    let len : length c.prepare_all.new.disks ≡ c.args.disks.now.len = c.prepare_all.auto.disks ∙ c.deref_mut.ensures.len in
    let whole = with_items_is c.args.disks.now c.prepare_all.new.disks len in
    record {
      joined = joined_in g.P.Piece.seen c.prepare_all.result c.args.group.now c.deref_mut.result.now c.args.disks.now.items c.prepare_all.new.disks _ c.deref_mut.ensures.value (sym whole) (record { prepares = c.prepare_all.ensures.prepares; ends = c.prepare_all.ensures.ends; fronts = c.prepare_all.ensures.fronts; just = c.prepare_all.ensures.just });
      long = ap (λ xs. length xs) whole ∙ c.prepare_all.auto.disks ∙ ap (λ xs. length xs) c.deref_mut.ensures.value;
    }
