use Rattle.std.proofs.Common.{◌≡◌, ◌∙◌, Err, Some, None, List, [], ◌∷◌, refl, inl, inr, ap, sym, subst}
use Rattle.std.proofs.lemmas.Result.{err_from_is_err_and}
use Rattle.vx_config_parts.specs.declared.object.Object.{Object}
use Rattle.vx_objects.specs.Config.{objects_of}
use Rattle.vx_stages.specs.Making.{adding_refusal}
use Rattle.vx_stages.specs.Sources.{growth}
use Rattle.vx_house.specs.declared.stop.Stop.TheVariants as stops
use Rattle.vx_answers.specs.declared.answer.End.TheVariants as ends
use Rattle.vx_objects.specs.declared.edit.Edit.TheVariants.{Make}
use Rattle.vx_stage_changes.specs.Changing.{ChangeEndsBy}
use Rattle.vx_stage_changes.specs.Planning.{IsUnplannedBy}
use Rattle.vx_added_records.specs.Started.{is_either}
use Rattle.vx_stage_changes.specs.Judging.{group_now}
use Rattle.vx_stage_changes.proofs.MakeStage.{denied_is_unready}
use Rattle.vx_stage_changes.proofs.making.make_in.Goals as goal

pub returns-in_err-added : goal.returns-in_err-added
returns-in_err-added g c =
    let p = err_from_is_err_and c.from_residual.result c.from_residual.ensures.1 in
    record {
      ends = inr (
        refl,
        c.in_err-added.field-0.0,
        p.1 ∙ ap (λ e. Err e) p.2,
        denied_is_unready (is_either c.args.volumes.now c.args.group.now.public.running) c.args.source.now (group_now g.P.Piece.seen c.args.group.now) c.in_err-added.field-0.0 c.in_err-added.ensures.denied,
      );
    }

pub returns-in-Ok-None : goal.returns-in-Ok-None
returns-in-Ok-None g c =
    let see = g.P.Piece.seen in
    let added : List Object = c.in_ok-added.added.items in
    let tested = subst (λ l. adding_refusal (is_either c.args.volumes.now c.args.group.now.public.running) (objects_of c.args.group.now.config) l ≡ None) c.deref.ensures.value (sym c.in-Ok-None.ensures ∙ c.in-Ok-None.field-0-is) in
    let committed = subst (λ l. ChangeEndsBy see (IsUnplannedBy c.growth-more.result (Make l ∷ []) c.args.group.now.config) (Make l ∷ []) c.commit_growing.result c.args.group.now c.commit_growing.new.group) c.from_vec.ensures c.commit_growing.ensures.ends in
    let more : c.growth-more.result ≡ growth c.args.source.now added = c.growth-more.ensures.bytes ∙ ap (growth c.args.source.now) c.deref-in-Ok-None.ensures.value in
    let grown = subst (λ m. ChangeEndsBy see (IsUnplannedBy m (Make added ∷ []) c.args.group.now.config) (Make added ∷ []) c.commit_growing.result c.args.group.now c.commit_growing.new.group) more committed in
    record { ends = inl (added, record { adds = c.in_ok-added.ensures.adds; fine = tested }, grown) }

pub returns-in-Ok-Some : goal.returns-in-Ok-Some
returns-in-Ok-Some g c =
    let tested = subst (λ l. adding_refusal (is_either c.args.volumes.now c.args.group.now.public.running) (objects_of c.args.group.now.config) l ≡ Some c.in-Ok-Some.refusal) c.deref.ensures.value (sym c.in-Ok-Some.ensures ∙ c.in-Ok-Some.field-0-is) in
    record { ends = inr (refl, stops.Ended (ends.Refused c.in-Ok-Some.refusal), c.refused.ensures, (c.in-Ok-Some.refusal, refl, inr (c.in_ok-added.added.items, c.in_ok-added.ensures.adds, tested))) }
