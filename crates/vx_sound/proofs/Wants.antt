-- What want of memory leaves of a command is sound: the world as it was, or a volume whose own sectors alone have changed.
use Rattle.std.proofs.Common.{◌≡◌, ◌&&◌, ℕ, Bool, true, List, [], ◌∷◌, Option, Some, None, refl, sym, subst, inl, inr}
use Rattle.std.proofs.lemmas.Bool.{and_parts}
use Rattle.vx_base.specs.Named.{Word}
use Rattle.vx_script_words.specs.declared.value.DiskAt.{DiskAt}
use Rattle.vx_script_forms.specs.declared.act.Act.TheVariants as act
use Rattle.vx_script_forms.specs.declared.form.Form.{Form}
use Rattle.vx_script_forms.specs.declared.form.Form.TheVariants as form
use Rattle.vx_script_forms.specs.declared.form.WordPolicy.TheVariants as words
use Rattle.vx_script.specs.declared.command.Command.{Command}
use Rattle.vx_answers.specs.declared.answer.Answer.{Answer}
use Rattle.vx_moments.specs.Leaving.{PowerGoes}
use Rattle.vx_moments.specs.Moment.{Moment}
use Rattle.vx_moments.specs.World.{World}
use Rattle.vx_plans.specs.Plans.{disks_of, plan_of}
use Rattle.vx_stages.specs.Stages.{IsDone, Wants}
use Rattle.vx_plans.specs.Steps.{IsTranscript, LeavesOff, RunsShort, WantsForm, WantsPlan}
use Rattle.vx_stages.specs.declared.stage.Stage.{Stage}
use Rattle.vx_stages.specs.declared.stage.Stage.TheVariants as stage
use Rattle.vx_plans.specs.declared.stages.Plan.{Plan}
use Rattle.vx_plans.proofs.Complete.{keeps_world, kept_world}
use Rattle.vx_sound.specs.Laws.{IsIdle, WriteNoHeader}
use Rattle.vx_sound.specs.Sound.{AreSound}
use Rattle.vx_sound.specs.Standing.{IsStanding}
use Rattle.vx_sound.proofs.Logs.{prepare_wants}
use Rattle.vx_sound.proofs.Leaving.{leaving_wants}
use Rattle.vx_sound.proofs.Plexes.{detach_wants}
use Rattle.vx_sound.proofs.Recoveries.{recover_left}
use Rattle.vx_sound.proofs.Running.{rested, standing_touched}
use Rattle.vx_sound.proofs.Settlement.{settled, standing_left}
use Rattle.vx_sound.proofs.Steps.{make_stands, run_stands, sound_stands}

same_stands : (w v : World) → v ≡ w → IsStanding w → IsStanding v
same_stands w v same s = subst IsStanding (sym same) s

wants_stand : (s : Stage) (old new : Moment) → IsStanding old.world → Wants s old new → IsStanding new.world
wants_stand (stage.Start vol) old new s (inl same) = same_stands old.world new.world same s
wants_stand (stage.Start vol) old new s (inr (g, v, here, found, may, touched, near)) = standing_touched g vol old new touched s
wants_stand (stage.Mirror mirror) old new s (inl same) = same_stands old.world new.world same s
wants_stand (stage.Mirror mirror) old new s (inr rest) = rested mirror.vol old s new rest
wants_stand (stage.Prepare logs) old new s wants = prepare_wants old s logs new wants
wants_stand (stage.Detach plex) old new s wants = detach_wants old s plex new wants
wants_stand (stage.Dissociate plex remove) old new s wants = leaving_wants old s remove plex new wants
wants_stand (stage.Stop vol) old new s (inl same) = same_stands old.world new.world same s
wants_stand (stage.Stop vol) old new s (inr rest) = rested vol old s new rest
wants_stand other old new s same = same_stands old.world new.world same s

-- the stage keeps the world, or adds records
abbrev pub keeps_or_adds : Stage → Bool
keeps_or_adds (stage.Make from) = true
keeps_or_adds other = keeps_world other

-- such a stage that is done
done_stands : (s : Stage) (disks : List DiskAt) (old mid : Moment) → keeps_or_adds s ≡ true → IsStanding old.world → IsDone s disks old mid → IsStanding mid.world
done_stands (stage.Make from) disks old mid keeps s is = make_stands from disks old mid s is
done_stands other disks old mid keeps s is = same_stands old.world mid.world (kept_world other disks old mid keeps is) s

-- all stages but the last keep the world, or add records
abbrev pub all_keep_but_last : List Stage → Bool
all_keep_but_last [] = true
all_keep_but_last (s ∷ []) = true
all_keep_but_last (s ∷ t ∷ ss) = keeps_or_adds s && all_keep_but_last (t ∷ ss)

abbrev pub is_shaped : Option Plan → Bool
is_shaped None = true
is_shaped (Some plan) = all_keep_but_last plan.stages

pub plan_shaped : (dg : Option Word) (f : Form) → is_shaped (plan_of dg f) ≡ true
unfolding plan_of
plan_shaped dg (form.PrintM None) = refl
plan_shaped dg (form.PrintM (Some vol)) = refl
plan_shaped dg (form.PrintHt None) = refl
plan_shaped dg (form.PrintHt (Some vol)) = refl
plan_shaped dg (form.Rdpol vol words.Round) = refl
plan_shaped dg (form.Rdpol vol words.Select) = refl
plan_shaped dg (form.Rdpol vol (words.Prefer plex)) = refl
plan_shaped dg (form.Acting (act.PlexDet plex)) = refl
plan_shaped dg (form.Acting (act.PlexAtt vol plex)) = refl
plan_shaped dg other = refl

short_stands : (disks : List DiskAt) (stages : List Stage) (old new : Moment) → all_keep_but_last stages ≡ true → IsStanding old.world → RunsShort disks stages old new → IsStanding new.world
short_stands disks [] old new shaped s short = absurd short
short_stands disks (one ∷ []) old new shaped s (inl (mid, later, is, short)) = absurd short
short_stands disks (one ∷ []) old new shaped s (inr wants) = wants_stand one old new s wants
short_stands disks (one ∷ t ∷ ss) old new shaped s (inl (mid, later, is, short)) =
    let shapes = and_parts (keeps_or_adds one) (all_keep_but_last (t ∷ ss)) shaped in
    short_stands disks (t ∷ ss) mid new shapes.1 (done_stands one disks old mid shapes.0 s is) short
short_stands disks (one ∷ t ∷ ss) old new shaped s (inr wants) = wants_stand one old new s wants

plan_stands : (disks : List DiskAt) (plan : Option Plan) (old new : Moment) → is_shaped plan ≡ true → IsStanding old.world → WantsPlan disks plan old new → IsStanding new.world
plan_stands disks None old new shaped s same = same_stands old.world new.world same s
plan_stands disks (Some plan) old new shaped s (inl same) = same_stands old.world new.world same s
plan_stands disks (Some plan) old new shaped s (inr short) = short_stands disks plan.stages old new shaped s short

form_stands : (dg : Option Word) (f : Form) (old new : Moment) → IsStanding old.world → WantsForm dg f old new → IsStanding new.world
form_stands dg (form.Calling call) old new s same = same_stands old.world new.world same s
form_stands dg (form.Recover vol) old new s wants = recover_left vol old new s wants
form_stands dg other old new s wants = plan_stands (disks_of other) (plan_of dg other) old new (plan_shaped dg other) s wants

pub each_want_keeps_the_world_sound : (c : Command) (old new : Moment) → IsStanding old.world → LeavesOff c old new → IsStanding new.world
each_want_keeps_the_world_sound c old new s off = form_stands c.group c.form old new s off

pub each_run_left_off_keeps_devices_sound : (place : ℕ) (old : Moment) (commands : List Command) (answers : List Answer) (last : Moment) (c : Command) (off : Moment) (left : World)
    → WriteNoHeader commands → IsIdle old.world → AreSound old.world → IsTranscript place old commands answers last → LeavesOff c last off → PowerGoes off.world left → AreSound left
each_run_left_off_keeps_devices_sound place old commands answers last c off left none idle sound is wants goes =
    (standing_left off.world left goes (settled off.world (each_want_keeps_the_world_sound c last off (run_stands place old commands answers last none (sound_stands old.world idle sound) is) wants))).copies
