use Rattle.std.proofs.Common.{◌∙◌, ◌++◌, [], sym, ap, append_assoc}
use Rattle.std.proofs.lemmas.List.{append-nil}
use Rattle.std.proofs.lemmas.Result.{err_from_is_err_and}
use Rattle.vx_house.specs.View.{at}
use Rattle.vx_stage_recovery.proofs.Sees.{all_seen, seen_ends, seen_on}
use Rattle.vx_stage_recovery.proofs.seeing.+see_all.Goals as goal

pub returns-in_err-see_to-in-len1-up : goal.returns-in_err-see_to-in-len1-up
returns-in_err-see_to-in-len1-up g t c =
    let p = err_from_is_err_and c.from_residual.result c.from_residual.ensures.1 in
    record {
      goes = (
        c.in_err-see_to-in-len1-up.ensures.goes.0,
        c.in_err-see_to-in-len1-up.ensures.goes.1,
        λ shelf held.
            rw (p.1, p.2)
            (seen_ends g.P.Piece.seen c.args.names.now c.first-item.result c.in-len1-up.len_at_least c.first-item.is c.in_err-see_to-in-len1-up.ensures.goes.0 (at shelf c.args.house.now) (at shelf c.see_to.new.house) c.in_err-see_to-in-len1-up.field-0.0
            (c.in_err-see_to-in-len1-up.ensures.goes.2 shelf held)),
      );
    }

pub see_all-requires-clause-keeps : goal.see_all-requires-clause-keeps
see_all-requires-clause-keeps g t c κs within = (c.in_ok-see_to-in-len1-up.ensures.goes.2 c.requires.held.0 c.requires.held.1).keeps.house

pub see_all-requires-clause-held : goal.see_all-requires-clause-held
see_all-requires-clause-held g t c κs within = (c.requires.held.0, (c.in_ok-see_to-in-len1-up.ensures.goes.2 c.requires.held.0 c.requires.held.1).keeps.devices)

pub returns-in-empty : goal.returns-in-empty
returns-in-empty g t c = record {
  goes = ([], sym (append-nil c.args.views.now.items), λ shelf held. all_seen g.P.Piece.seen c.args.names.now c.in-empty.len_below (at shelf c.args.house.now) (record { devices = held; house = c.requires.keeps }));
}

pub returns-in_ok-see_to-in-len1-up : goal.returns-in_ok-see_to-in-len1-up
returns-in_ok-see_to-in-len1-up g t c =
    let first = c.in_ok-see_to-in-len1-up.ensures.goes in
    let rest = c.see_all.ensures.goes in
    record {
      goes = (
        first.0 ++ rest.0,
        rest.1 ∙ ap (λ views. views ++ rest.0) first.1 ∙ append_assoc c.args.views.now.items first.0 rest.0,
        λ shelf held.
            let done = first.2 shelf held in
            seen_on g.P.Piece.seen c.args.names.now c.first-item.result c.in-len1-up.len_at_least c.first-item.is first.0 rest.0 (at shelf c.args.house.now) (at shelf c.see_to.new.house) (at shelf c.see_all.new.house) c.see_all.result
            done (rest.2 shelf done.keeps.devices),
      );
    }
