-- A recovery of volumes leaves the world sound: what it records are states, what it heals are sectors of its volumes, which are public, and a
-- clean volume is started.
use Rattle.std.proofs.Common.{◌≡◌, ◌∙◌, ℕ, true, false, List, Option, Some, None, sym, ap, subst, inl, inr}
use Rattle.vx_base.specs.Named.{Word}
use Rattle.vx_config_parts.specs.declared.plex.Plex.{Plex}
use Rattle.vx_config_parts.specs.declared.state.PlexState.{PlexState}
use Rattle.vx_config_parts.specs.declared.state.VolState.{VolState}
use Rattle.vx_config_parts.specs.declared.state.VolState.TheVariants as vol
use Rattle.vx_config_parts.specs.declared.vol.Vol.{Vol}
use Rattle.vx_objects.specs.Applied.{IsEdited}
use Rattle.vx_state_edits.specs.Edits.{recovered, state_edits}
use Rattle.vx_answers.specs.declared.answer.End.{End}
use Rattle.vx_answers.specs.declared.answer.View.{View}
use Rattle.vx_moments.specs.Commit.{Writing}
use Rattle.vx_moments.specs.Group.{image_on}
use Rattle.vx_moments.specs.Leaving.{lone}
use Rattle.vx_moments.specs.Moment.{Moment}
use Rattle.vx_moments.specs.World.{Group, Volume, World}
use Rattle.vx_stages.specs.Ends.{IsChange}
use Rattle.vx_stages.specs.Starting.{StartWants, plexes_started, volume_started}
use Rattle.vx_recovery.specs.Going.{Recovers, RecoversShort, is_done}
use Rattle.vx_recovery.specs.Recovering.{EndWants, HealingWants, IsRecovered, IsRecoveryBegun, IsRecoveryEnded, IsRefusedBegun, IsReopened, RecoveryStops, RecoveryWants, StopsAtEnd, StopsBegun, StopsHealed, StopsHealing}
use Rattle.vx_recovery.specs.Healing.{IsHealing}
use Rattle.vx_plans.proofs.Recoveries.{AreCarried, IsEndedBy, recovers_on, recovers_short_on}
use Rattle.vx_sound.specs.Standing.{IsStanding}
use Rattle.vx_sound.proofs.Commits.{Ends, commit_done, commit_stopped, group_apart, imported_led}
use Rattle.vx_sound.proofs.Headers.{some_same}
use Rattle.vx_sound.proofs.Names.{IsApart}
use Rattle.vx_sound.proofs.Private.{front_itself}
use Rattle.vx_sound.proofs.Ready.{IsReady}
use Rattle.vx_sound.proofs.ReadyToWrite.{ready_alone}
use Rattle.vx_sound.proofs.Running.{standing_touched, start_ends, started_lies}
use Rattle.vx_sound.proofs.States.{states_apart, states_grown}
use Rattle.vx_sound.proofs.Volumes.{lone_plexes, standing_goes}

-- ---- what is recorded

module _ (w : World) (x : Writing) (s : IsStanding w) (g : Group) (here : w.group ≡ Some g) (next : VolState) (after : Plex → PlexState) (v : Vol) (is : IsChange (state_edits next after g.config v) w x) where
  own : g ≡ x.group
  own = some_same g x.group (sym here ∙ is.group)

  edited : IsEdited (state_edits next after x.group.config v) x.group.config x.config
  edited = subst (λ (h : Group). IsEdited (state_edits next after h.config v) x.group.config x.config) own is.edited

  pub states_ready : IsReady x w
  states_ready = ready_alone x w (imported_led w x.group s is.group) (states_grown next after v x.group.config x.config edited) is.joiners is.carriers

  pub states_unnamed : IsApart x.config w
  states_unnamed = states_apart next after w v x.group.config x.config edited (group_apart w x.group s is.group)

-- ---- one volume

-- its recovery is recorded as begun
pub begun_stands : (name : Word) (old : Moment) (g : Group) (v : Vol) (new : Moment) → IsStanding old.world → IsRecoveryBegun name old g v new → IsStanding new.world
begun_stands name old g v new s b =
    commit_done b.writing old new s (states_ready old.world b.writing s b.group b.was.group vol.Sync (λ p. p.state) b.of b.change)
    (states_unnamed old.world b.writing s b.group b.was.group vol.Sync (λ p. p.state) b.of b.change) b.committed

-- calls of its devices leave the group
pub group_still : (g : Group) (v : Vol) (old new : Moment) → IsHealing g v old new → old.world.group ≡ Some g → new.world.group ≡ Some g
group_still g v old new h here = ap (λ (w : World). w.group) h.touched.world ∙ here

pub opened_still : (g : Group) (v : Vol) (old new : Moment) → IsReopened g v old new → old.world.group ≡ Some g → new.world.group ≡ Some g
opened_still g v old new o here = ap (λ (w : World). w.group) o.touched.world ∙ here

module _ (g : Group) (v : Vol) (marks : ℕ) (old : Moment) (s : IsStanding old.world) (here : old.world.group ≡ Some g) where
  pub opened_stands : (m : Moment) → IsReopened g v old m → IsStanding m.world
  opened_stands m o = standing_touched g v.name old m o.touched s

  -- its end is recorded
  pub ended_recorded : (new : Moment) (e : IsRecoveryEnded g v marks old new) → IsStanding e.recorded.world
  ended_recorded new e =
      let opened = opened_stands e.opened e.opens in
      let at = opened_still g v old e.opened e.opens here in
      commit_done e.writing e.opened e.recorded opened (states_ready e.opened.world e.writing opened g at vol.Active (recovered marks) v e.change)
      (states_unnamed e.opened.world e.writing opened g at vol.Active (recovered marks) v e.change) e.committed

  -- and it runs
  pub ended_stands : (new : Moment) → IsRecoveryEnded g v marks old new → IsStanding new.world
  ended_stands new e =
      let run = volume_started g v (image_on old.world.devices g v) e.runs.sound in
      let none : lone (e.recorded.world.volumes v.name) ≡ None =
      ap lone (ap (λ (f : Word → Option Volume). f v.name) (e.committed.committing.volumes ∙ ap (λ (w : World). w.volumes) e.opens.touched.world) ∙ e.free) in
      subst IsStanding (sym e.runs.world)
      (standing_goes v.name e.recorded.world.devices (Some run) e.recorded.world none (lone_plexes run (plexes_started g v) (started_lies g v (image_on old.world.devices g v) e.runs.sound)) (λ other. front_itself (e.recorded.world.devices other)) (ended_recorded new e))

  pub unended : (end : End) (new : Moment) → StopsAtEnd g v marks old end new → Ends end new.world
  unended end new e =
      let opened = opened_stands e.opened e.opens in
      commit_stopped e.stops.0 e.opened end new opened (states_ready e.opened.world e.stops.0 opened g (opened_still g v old e.opened e.opens here) vol.Active (recovered marks) v e.stops.1) e.stops.2

pub recovered_stands : (name : Word) (dirty copied : ℕ) (old mid : Moment) → IsStanding old.world → IsRecovered name dirty copied old mid → IsStanding mid.world
recovered_stands name dirty copied old mid s r =
    let begun = begun_stands name old r.group r.of r.begun s r.begins in
    ended_stands r.group r.of r.marks r.healed (standing_touched r.group r.of.name r.begun r.healed r.heals.healing.touched begun) (group_still r.group r.of r.begun r.healed r.heals.healing r.begins.is.group) mid r.ends

module _ (name : Word) (old : Moment) (end : End) (new : Moment) (s : IsStanding old.world) where
  -- what is recorded as begun ends so
  stops_begun : (How : Group → Vol → Moment → End → Moment → Type 0) → ((g : Group) (v : Vol) (m : Moment) → IsStanding m.world → m.world.group ≡ Some g → How g v m end new → Ends end new.world) → StopsBegun name How old end new → Ends end new.world
  stops_begun How goes b = goes b.group b.of b.begun (begun_stands name old b.group b.of b.begun s b.begins) b.begins.is.group b.ends

  healed_ends : (g : Group) (v : Vol) (m : Moment) → IsStanding m.world → m.world.group ≡ Some g → StopsHealed g v m end new → Ends end new.world
  healed_ends g v m t here h =
      let healed = standing_touched g v.name m h.healed h.heals.healing.touched t in
      elim h.ends [
        | inl u ↦ inl (standing_touched g v.name h.healed new u.touched healed)
        | inr e ↦ unended g v h.marks h.healed healed (group_still g v m h.healed h.heals.healing here) end new e
      ]

  pub recovery_ends : RecoveryStops name old end new → Ends end new.world
  recovery_ends (inl b) = commit_stopped b.stops.0 old end new s (states_ready old.world b.stops.0 s b.group b.was.group vol.Sync (λ p. p.state) b.of b.stops.1) b.stops.2
  recovery_ends (inr (inl b)) = stops_begun IsRefusedBegun (λ g v m t here h. inl (subst IsStanding (sym h.2.1.stays.world) t)) b
  recovery_ends (inr (inr (inl b))) = stops_begun _ (λ g v m t here h. inl (standing_touched g v.name m new h.touched t)) b
  recovery_ends (inr (inr (inr (inl b)))) = stops_begun StopsHealing (λ g v m t here h. inl (standing_touched g v.name m new h.0.touched t)) b
  recovery_ends (inr (inr (inr (inr b)))) = stops_begun StopsHealed healed_ends b

-- ---- want of memory

module _ (g : Group) (v : Vol) (old new : Moment) (s : IsStanding old.world) where
  healing_left : HealingWants g v old new → IsStanding new.world
  healing_left (inl same) = subst IsStanding (sym same) s
  healing_left (inr (inl opened)) = standing_touched g v.name old new opened.0 s
  healing_left (inr (inr h)) = standing_touched g v.name old new h.touched s

  end_left : EndWants g v old new → IsStanding new.world
  end_left (inl same) = subst IsStanding (sym same) s
  end_left (inr opened) = standing_touched g v.name old new opened.0 s

recovery_left : (name : Word) (old new : Moment) → IsStanding old.world → RecoveryWants name old new → IsStanding new.world
recovery_left name old new s (inl same) = subst IsStanding (sym same) s
recovery_left name old new s (inr (g, v, begun, b, inl wants)) = healing_left g v begun new (begun_stands name old g v begun s b) wants
recovery_left name old new s (inr (g, v, begun, b, inr (healed, h, wants))) = end_left g v healed new (standing_touched g v.name begun healed h.touched (begun_stands name old g v begun s b)) wants

start_left : (name : Word) (old new : Moment) → IsStanding old.world → StartWants name old new → IsStanding new.world
start_left name old new s (inl same) = subst IsStanding (sym same) s
start_left name old new s (inr (g, v, here, found, may, touched, narrows)) = standing_touched g name old new touched s

-- ---- the volumes

-- a start that is done has lost no group
pub done_stands : (end : End) (w : World) → is_done end ≡ true → Ends end w → IsStanding w
done_stands end w done (inl s) = s
done_stands end w done (inr (is, inl lost)) = absurd (let no : false ≡ true = subst (λ (e : End). is_done e ≡ true) lost done in cc)
done_stands end w done (inr (is, inr lost)) = absurd (let no : false ≡ true = subst (λ (e : End). is_done e ≡ true) lost done in cc)

carried : AreCarried (λ m. IsStanding m.world)
carried = record {
  clean = λ name old began mid s need later starts over. done_stands began mid.world over (start_ends old began mid s name starts);
  healed = λ name dirty copied old mid s need later r. recovered_stands name dirty copied old mid s r;
}

ended : IsEndedBy (λ m. IsStanding m.world) (λ end m. Ends end m.world)
ended = record {
  over = λ m s. inl s;
  refused = λ r old end new s is. inl (subst IsStanding (sym is.1.stays.world) s);
  clean = λ name old end new s need later stops over. start_ends old end new s name stops;
  healed = λ name old end new s need later stops. recovery_ends name old end new s stops;
}

pub recover_ends : (dg vol : Option Word) (old : Moment) (views : List View) (end : End) (new : Moment) → IsStanding old.world → Recovers dg vol old views end new → Ends end new.world
recover_ends dg vol old views end new s does = recovers_on (λ m. IsStanding m.world) (λ e m. Ends e m.world) carried ended dg vol old views end new s does

pub recover_left : (vol : Option Word) (old new : Moment) → IsStanding old.world → RecoversShort vol old new → IsStanding new.world
recover_left vol old new s short =
    recovers_short_on (λ m. IsStanding m.world) (λ m. IsStanding m.world) carried
    (record { clean = λ name old new s need wants. start_left name old new s wants; healed = λ name old new s need wants. recovery_left name old new s wants })
    vol old new s (λ same. subst IsStanding (sym same) s) short
