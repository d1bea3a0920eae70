use Rattle.std.proofs.Common.{[], ◌∷◌, subst}
use Rattle.std.proofs.lemmas.Result.{err_from_is_err_and}
use Rattle.vx_objects.specs.declared.edit.Edit.TheVariants.{Make}
use Rattle.vx_stage_changes.specs.Planning.{IsPlanned, IsUnplanned}
use Rattle.vx_stage_mirrors.specs.Planned.{IsFirst}
use Rattle.vx_stage_mirrors.proofs.Mirrors.{edit_refused, first_is}
use Rattle.vx_stage_mirrors.proofs.planning.planned_mirror.Goals as goal

pub returns-in_err-next-clause-unplanned : goal.returns-in_err-next-clause-unplanned
returns-in_err-next-clause-unplanned c =
    let p = err_from_is_err_and c.from_residual-in_err-next.result c.from_residual-in_err-next.ensures.1 in
    rw (p.1, p.2)
    (edit_refused c.args.config.now c.args.good c.args.vol.now c.args.disks.now c.in_ok-laid.laid.map c.in_ok-laid.laid.records.items c.in_ok-laid.ensures.laid c.in_err-next.field-0.0
    (subst (λ os. IsUnplanned (Make os ∷ []) c.args.config.now c.in_err-next.field-0.0) c.from_vec.ensures c.in_err-next.ensures.unplanned))

pub returns-clause-planned : goal.returns-clause-planned
returns-clause-planned c =
    let added = c.in_ok-laid.laid.records.items in
    let new = first_is c.args.config.now c.args.good c.args.vol.now c.args.disks.now c.in_ok-laid.laid.map added c.in_ok-laid.ensures.laid c.each_laid_mirror_is_new.ensures c.first_plex-plex.result
    (subst (λ os. IsFirst c.first_plex-plex.result os) c.deref.ensures.value c.first_plex-plex.ensures.first) in
    record {
      added = added;
      laid = c.in_ok-laid.ensures.laid;
      at = new.0;
      free = new.1;
      next = subst (λ os. IsPlanned (Make os ∷ []) c.args.config.now c.in_ok-next.next) c.from_vec.ensures c.in_ok-next.ensures.planned;
    }
