use Rattle.std.proofs.Common.{Err, refl, subst}
use Rattle.std.proofs.lemmas.Result.{err_from_is_err_and}
use Rattle.vx_stage_changes.specs.Committing.{CommitEnds}
use Rattle.vx_stage_changes.specs.Planning.{IsUnplannedBy}
use Rattle.vx_stage_changes.proofs.EditStage.{grown_refused, unplanned_ends, stopped_ends}
use Rattle.vx_stage_changes.proofs.changing.commit_growing.Goals as goal

pub returns-in_err-config-clause-ends : goal.returns-in_err-config-clause-ends
returns-in_err-config-clause-ends g c =
    let p = err_from_is_err_and c.from_residual.result c.from_residual.ensures.1 in
    rw (p.1, p.2) (unplanned_ends g.P.Piece.seen (IsUnplannedBy c.args.more c.args.edits.now c.args.group.now.config) c.args.edits.now (grown_refused c.args.more c.args.edits.now c.args.group.now.config) c.args.group.now c.in_err-config.field-0.0 c.in_err-config.ensures.unplanned)

pub returns-in_err-commit-clause-ends : goal.returns-in_err-commit-clause-ends
returns-in_err-commit-clause-ends g c =
    let p = err_from_is_err_and c.from_residual-in_err-commit.result c.from_residual-in_err-commit.ensures.1 in
    rw (p.1, p.2) (stopped_ends g.P.Piece.seen (IsUnplannedBy c.args.more c.args.edits.now c.args.group.now.config) c.args.edits.now c.args.group.now _ c.in_ok-config.field-0.config c.in_ok-config.field-0.text.items c.in_err-commit.field-0.0 refl refl
    (record { edited = c.in_ok-config.ensures.planned.0; printed = c.in_ok-config.ensures.planned.1 }) (subst (λ t. CommitEnds g.P.Piece.seen (Err c.in_err-commit.field-0.0) t c.args.group.now.base c.commit.new.base) c.deref.ensures.value c.in_err-commit.ensures.ends))
