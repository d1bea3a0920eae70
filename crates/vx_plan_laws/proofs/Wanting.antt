-- Want of memory leaves the world as the command found it, but for the volume of a start, a mirror, a stop or a plex that goes out of use, the
-- records of a new volume, and the volumes of a recovery.
use Rattle.std.proofs.Common.{◌≡◌, ◌∙◌, ◌⊎◌, Bool, List, [], ◌∷◌, Option, Some, None, false, refl, subst, inl, inr}
use Rattle.vx_base.specs.Named.{Word}
use Rattle.vx_script_words.specs.declared.value.DiskAt.{DiskAt}
use Rattle.vx_new_volumes.specs.declared.logs.NewLogs.{NewLogs}
use Rattle.vx_new_volumes.specs.declared.mirror.NewPlex.{NewPlex}
use Rattle.vx_new_volumes.specs.declared.volume.NewVolume.{NewVolume}
use Rattle.vx_script_forms.specs.declared.act.Act.TheVariants as act
use Rattle.vx_script_forms.specs.declared.form.Form.{Form}
use Rattle.vx_script_forms.specs.declared.form.Form.TheVariants as form
use Rattle.vx_script.specs.declared.command.Command.{Command}
use Rattle.vx_moments.specs.Moment.{Moment}
use Rattle.vx_plans.specs.Plans.{disks_of, new_logs, new_volume, plan_of}
use Rattle.vx_stages.specs.Stages.{Wants}
use Rattle.vx_stages.specs.Starting.{StartWants}
use Rattle.vx_stages.specs.Detached.{DetachWants}
use Rattle.vx_stages.specs.Left.{LeavingWants}
use Rattle.vx_stages.specs.Logged.{PrepareWants}
use Rattle.vx_stages.specs.Mirrored.{MirrorWants}
use Rattle.vx_stages.specs.Stopping.{StopWants}
use Rattle.vx_plans.specs.Steps.{LeavesOff, RunsShort, WantsForm, WantsPlan}
use Rattle.vx_stages.specs.declared.stage.Source.TheVariants as source
use Rattle.vx_stages.specs.declared.stage.Stage.{Stage}
use Rattle.vx_stages.specs.declared.stage.Stage.TheVariants as stage
use Rattle.vx_plans.specs.declared.stages.Plan.{Plan}
use Rattle.vx_stages.specs.declared.test.Test.{Test}
use Rattle.vx_stages.specs.declared.test.Test.TheVariants as tests
use Rattle.vx_plans.proofs.Complete.{kept_world}
use Rattle.vx_plan_laws.specs.Keeping.{AddedWants, WantLeaves}
use Rattle.vx_plan_laws.proofs.Kept.{AreStill, IsPlain, behind, calls_volume, mirror_gates, plan_plain, start_gates, stop_gates}

wanting_kept : (s : Stage) (old new : Moment) → calls_volume s ≡ false → Wants s old new → new.world ≡ old.world
wanting_kept (stage.Start vol) old new e wants = cc
wanting_kept (stage.Mirror mirror) old new e wants = cc
wanting_kept (stage.Prepare logs) old new e wants = cc
wanting_kept (stage.Detach plex) old new e wants = cc
wanting_kept (stage.Dissociate plex remove) old new e wants = cc
wanting_kept (stage.Stop vol) old new e wants = cc
wanting_kept other old new e wants = wants

short_kept : (disks : List DiskAt) (stages : List Stage) (old new : Moment) → AreStill calls_volume stages → RunsShort disks stages old new → new.world ≡ old.world
short_kept disks [] old new still short = absurd short
short_kept disks (s ∷ []) old new still (inl (mid, later, is, short)) = absurd short
short_kept disks (s ∷ []) old new still (inr wants) = wanting_kept s old new still wants
short_kept disks (s ∷ t ∷ ss) old new still (inl (mid, later, is, short)) = short_kept disks (t ∷ ss) mid new still.2 short ∙ kept_world s disks old mid still.1 is
short_kept disks (s ∷ t ∷ ss) old new still (inr wants) = wanting_kept s old new still.0 wants

plan_kept : (disks : List DiskAt) (plan : Option Plan) (old new : Moment) → IsPlain plan → WantsPlan disks plan old new → new.world ≡ old.world
plan_kept disks None old new plain wants = wants
plan_kept disks (Some plan) old new plain (inl same) = same
plan_kept disks (Some plan) old new plain (inr short) = short_kept disks plan.stages old new plain short

-- memory is wanting in a gate, or in the stage behind the gates
short_behind : (gates : List Test) (s : Stage) (old new : Moment) → RunsShort [] (behind gates s) old new → (new.world ≡ old.world) ⊎ Wants s old new
short_behind [] s old new (inl (mid, later, is, short)) = absurd short
short_behind [] s old new (inr wants) = inr wants
short_behind (test ∷ gates) s old new (inl (mid, later, (passed, same), short)) = subst (λ (m : Moment). (new.world ≡ m.world) ⊎ Wants s m new) same (short_behind gates s mid new short)
short_behind (test ∷ gates) s old new (inr same) = inl same

start_left : (gates : List Test) (vol : Word) (old new : Moment) → (new.world ≡ old.world) ⊎ RunsShort [] (behind gates (stage.Start vol)) old new → StartWants vol old new
start_left gates vol old new (inl same) = inl same
start_left gates vol old new (inr short) = elim (short_behind gates (stage.Start vol) old new short) [ inl same ↦ inl same | inr wants ↦ wants ]

mirror_left : (gates : List Test) (mirror : NewPlex) (old new : Moment) → (new.world ≡ old.world) ⊎ RunsShort [] (behind gates (stage.Mirror mirror)) old new → MirrorWants mirror.vol old new
mirror_left gates mirror old new (inl same) = inl same
mirror_left gates mirror old new (inr short) = elim (short_behind gates (stage.Mirror mirror) old new short) [ inl same ↦ inl same | inr wants ↦ wants ]

prepare_left : (gates : List Test) (logs : NewLogs) (old new : Moment) → (new.world ≡ old.world) ⊎ RunsShort [] (behind gates (stage.Prepare logs)) old new → PrepareWants logs old new
prepare_left gates logs old new (inl same) = inl same
prepare_left gates logs old new (inr short) = elim (short_behind gates (stage.Prepare logs) old new short) [ inl same ↦ inl same | inr wants ↦ wants ]

stop_left : (gates : List Test) (vol : Word) (old new : Moment) → (new.world ≡ old.world) ⊎ RunsShort [] (behind gates (stage.Stop vol)) old new → StopWants vol old new
stop_left gates vol old new (inl same) = inl same
stop_left gates vol old new (inr short) = elim (short_behind gates (stage.Stop vol) old new short) [ inl same ↦ inl same | inr wants ↦ wants ]

detach_left : (gates : List Test) (plex : Word) (old new : Moment) → (new.world ≡ old.world) ⊎ RunsShort [] (behind gates (stage.Detach plex)) old new → DetachWants plex old new
detach_left gates plex old new (inl same) = inl same
detach_left gates plex old new (inr short) = elim (short_behind gates (stage.Detach plex) old new short) [ inl same ↦ inl same | inr wants ↦ wants ]

leaving_left : (gates : List Test) (remove : Bool) (plex : Word) (old new : Moment) → (new.world ≡ old.world) ⊎ RunsShort [] (behind gates (stage.Dissociate plex remove)) old new → LeavingWants remove plex old new
leaving_left gates remove plex old new (inl same) = inl same
leaving_left gates remove plex old new (inr short) = elim (short_behind gates (stage.Dissociate plex remove) old new short) [ inl same ↦ inl same | inr wants ↦ wants ]

attach_left : (gates : List Test) (vol plex : Word) (old new : Moment) → (new.world ≡ old.world) ⊎ RunsShort [] (behind gates (stage.Attach vol plex)) old new → new.world ≡ old.world
attach_left gates vol plex old new (inl same) = same
attach_left gates vol plex old new (inr short) = elim (short_behind gates (stage.Attach vol plex) old new short) [ inl same ↦ same | inr same ↦ same ]

-- a new volume: memory is wanting before its records are added, or behind that
adding_left : (n : NewVolume) (old new : Moment) → RunsShort [] (stage.Make (source.Volume n) ∷ stage.Gate (tests.Stopped n.vol) ∷ stage.Start n.vol ∷ []) old new → (new.world ≡ old.world) ⊎ AddedWants n old new
adding_left n old new (inl (mid, later, is, short)) = inr (mid, is, start_left (tests.Stopped n.vol ∷ []) n.vol mid new (inr short))
adding_left n old new (inr wants) = inl wants

new_left : (dg : Option Word) (n : NewVolume) (old new : Moment) → (new.world ≡ old.world) ⊎ RunsShort [] (stage.Gate (tests.GroupIs dg) ∷ stage.Make (source.Volume n) ∷ stage.Gate (tests.Stopped n.vol) ∷ stage.Start n.vol ∷ []) old new
    → (new.world ≡ old.world) ⊎ AddedWants n old new
new_left dg n old new (inl same) = inl same
new_left dg n old new (inr (inl (mid, later, (passed, same), short))) = subst (λ (m : Moment). (new.world ≡ m.world) ⊎ AddedWants n m new) same (adding_left n mid new short)
new_left dg n old new (inr (inr wants)) = inl wants

form_left : (dg : Option Word) (f : Form) (old new : Moment) → WantsForm dg f old new → WantLeaves f old new
unfolding plan_of
form_left dg (form.Calling call) old new wants = wants
form_left dg (form.Start vol) old new wants = start_left (start_gates dg vol) vol old new wants
form_left dg (form.Mirror vol disks) old new wants = mirror_left (mirror_gates dg) (record { vol = vol; disks = disks }) old new wants
form_left dg (form.Prepare vol ndcomirs region) old new wants = prepare_left (mirror_gates dg) (new_logs vol ndcomirs region) old new wants
form_left dg (form.Stop vol) old new wants = stop_left (stop_gates dg vol) vol old new wants
form_left dg (form.AssistMake vol length attrs disks) old new wants = new_left dg (new_volume vol length attrs disks) old new wants
form_left dg (form.Recover vol) old new wants = wants
form_left dg (form.PlexDis plex rm) old new wants = leaving_left (mirror_gates dg) rm plex old new wants
form_left dg (form.Acting (act.PlexDet plex)) old new wants = detach_left (mirror_gates dg) plex old new wants
form_left dg (form.Acting (act.PlexAtt vol plex)) old new wants = attach_left (mirror_gates dg) vol plex old new wants
form_left dg other old new wants = plan_kept (disks_of other) (plan_of dg other) old new (plan_plain dg other refl) wants

pub each_want_keeps_the_world : (c : Command) (old new : Moment) → LeavesOff c old new → WantLeaves c.form old new
each_want_keeps_the_world c old new wants = form_left c.group c.form old new wants
