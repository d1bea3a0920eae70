-- The state of a plex of a running volume is committed and the plex goes on or off, in the moments of a house.
use Rattle.std.proofs.Common.{◌≡◌, ◌≢◌, ◌∙◌, ◌+◌, Bool, true, false, cond, List, map, Option, Some, None, refl, sym, ap, subst, inl, inr}
use Rattle.std.specs.Option.{option_map}
use Rattle.std.specs.Str.{bytes_eq}
use Rattle.std.proofs.lemmas.Bool.{false_from_ne_true, false≢true}
use Rattle.vx_base.specs.Named.{Word, put}
use Rattle.vx_base.proofs.NamedLemmas.{bytes_eq_same, bytes_eq_self}
use Rattle.vx_mask.proofs.Tests.{true_or_false}
use Rattle.vx_piece.specs.Seen.{Seen}
use Rattle.vx_pages.specs.declared.local_piece.LocalPiece.{Ghosts}
use Rattle.vx_config_parts.specs.declared.plex.Plex.{Plex}
use Rattle.vx_config_parts.specs.declared.state.PlexState.{PlexState}
use Rattle.vx_config_parts.specs.declared.vol.Vol.{Vol}
use Rattle.vx_copies.specs.Disks.{DiskSeen, good_mask}
use Rattle.vx_confdb.specs.Groups.{members}
use Rattle.vx_moments.specs.Owners.{device_at}
use Rattle.vx_moments.specs.Commit.{IsCommitted}
use Rattle.vx_moments.specs.Leaving.{grouped, lone}
use Rattle.vx_moments.specs.Moment.{Moment}
use Rattle.vx_moments.specs.World.{Group, Volume}
use Rattle.vx_stages.specs.Ends.{IsChange}
use Rattle.vx_stages.specs.Attached.{GoesOn}
use Rattle.vx_stages.specs.Plexes.{state_edits}
use Rattle.vx_lending.specs.Public.{running_at}
use Rattle.vx_lending.specs.declared.public.Running.{Running}
use Rattle.vx_change_laws.specs.Switching.{EachPlexOffRunsOn, EachPlexOnRunsOn}
use Rattle.vx_group_edits.proofs.OfVolume.{own_edit_keeps_others}
use Rattle.vx_group_volumes.specs.Opened.{opened_plexes}
use Rattle.vx_house.specs.Holders.{held_as, holders, volume_at}
use Rattle.vx_house.specs.Runs.{AreRuns, IsAtRun, IsRunOf}
use Rattle.vx_house.specs.Scene.{Shelved}
use Rattle.vx_house.specs.View.{IsAtVolume, IsMoment, IsMomentButGroup, IsMomentIn, at, group_of, member_of}
use Rattle.vx_house.specs.declared.house.House.{House}
use Rattle.vx_house.specs.declared.house.Imported.{Imported}
use Rattle.vx_house.proofs.Ends.{moment_but_group}
use Rattle.vx_house_calls.specs.Passes.{with_group}
use Rattle.vx_house_calls.proofs.Moments.{IsRunThere, grouped_lies, lone_lies, run_there}
use Rattle.vx_stage_changes.proofs.Alone.{IsWrittenIn, alone, committed_alone, low_by, x_alone}
use Rattle.vx_stage_changes.proofs.CommitJoins.{but_group_on, later_on, moment_on}
use Rattle.vx_stage_changes.proofs.Holders.{group_before, same_members}
use Rattle.vx_stage_changes.proofs.Owns.{run_kept}
use Rattle.vx_stage_changes.proofs.Runners.{runs_lost, seen_members}
use Rattle.vx_stage_changes.specs.declared.planning.NextConfig.{NextConfig}
use Rattle.vx_stage_volumes.proofs.Absent.{one_vol}
use Rattle.vx_stage_mirrors.specs.Joins.{AreNumbersIn, GoesOn as GroupGoesOn}
use Rattle.vx_stage_mirrors.proofs.JoiningMoments.{named_once}
use Rattle.vx_stage_mirrors.proofs.Numbers.{numbers_in}
use Rattle.vx_stage_mirrors.specs.SwitchMoments.{EachSwitchGoes, IsReadyToSwitch, IsSwitchedAt, IsSwitchedFrom}
use Rattle.vx_stage_mirrors.proofs.SwitchGroup.{faults_switched, fewer, group_same, house_is, keeps_switched, own, scene_switched, slots, still_disks, switched_by, wd}
use Rattle.vx_stage_mirrors.proofs.SwitchPlaces.{IsSwitchedBy}
use Rattle.vx_stage_mirrors.proofs.SwitchRunOf.{run_switched, volume_then}
use Rattle.vx_stage_mirrors.proofs.SwitchWhole.{IsSwitch, kept}

module _ {P : Type 0} {ghosts : Ghosts P} (offs : EachPlexOffRunsOn) (ons : EachPlexOnRunsOn) {shelf : Shelved} {h : House P ghosts} {g new : Imported P ghosts} {name : Word} {v : Vol} {p : Plex} {state : PlexState} {on : Bool} {next : NextConfig}
    (it : IsSwitch shelf h g new name v p state on next) where
  abbrev see : P → Seen
  see = ghosts.seen

  abbrev r : Running P ghosts
  r = it.switches.runs.before

  abbrev r' : Running P ghosts
  r' = it.switches.runs.after

  abbrev hs : List DiskSeen
  hs = members ghosts.seen g.base

  abbrev ns : List DiskSeen
  ns = members ghosts.seen new.base

  -- the group as the world has it, before and afterwards
  abbrev gw : Group
  gw = record { config = g.config; good = good_mask (members ghosts.seen g.base); members = map member_of g.base.disks.items; sequence = g.base.sequence }

  abbrev gn : Group
  gn = record { config = next.config; good = good_mask (members ghosts.seen new.base); members = map member_of new.base.disks.items; sequence = new.base.sequence }

  -- the house whose group is committed, and the house then
  abbrev h2 : House P ghosts
  h2 = with_group h (record { config = next.config; base = new.base; public = g.public })

  abbrev h3 : House P ghosts
  h3 = with_group h (record { config = next.config; base = new.base; public = new.public })

  same_named : map member_of new.base.disks.items ≡ map member_of g.base.disks.items
  same_named = sym (seen_members see new.base.disks.items) ∙ same_members (g.base.sequence + 1) new.base.sequence next.text.items hs ns it.switches.finished.tried.committed.goes ∙ seen_members see g.base.disks.items

  goes_on : GroupGoesOn gw gn
  goes_on = record { fewer = fewer it; devices = λ slot device e. ap (λ ms. device_at ms slot) same_named ∙ e }

  numbers_there : AreNumbersIn (slots it).numbers hs gw
  numbers_there = numbers_in see g.base.disks.items (low_by hs (kept it).carries.alive.ready) (slots it).top (slots it).numbers (slots it).are (λ n. option_map (λ (s : Seen). s.device) (held_as (holders see h) n)) (named_once see shelf h g it.has_group it.keeps) gw refl refl

  module _ (mm : Moment) (is : IsMoment ghosts.seen (at shelf h) mm) where
    -- ---- before

    here : mm.world.group ≡ Some gw
    here = is.group_is ∙ ap (group_of see) it.has_group

    at_run : (x : Word) → IsAtRun see hs (Some gw) x (running_at g.public x) (grouped (mm.world.volumes x))
    at_run = subst (λ o. AreRuns see (Some g) o mm.world.volumes) here (subst (λ o. AreRuns see o mm.world.group mm.world.volumes) it.has_group is.runs_are)

    there : IsRunThere see hs gw name r (mm.world.volumes name)
    there = run_there see hs gw name r (mm.world.volumes name) (subst (λ o. IsAtRun see hs (Some gw) name o (grouped (mm.world.volumes name))) it.switches.runs.was (at_run name))

    abbrev w : Volume
    w = there.volume

    run : IsRunOf see hs gw name r w
    run = there.run

    -- ---- the volume that has the plex on or off

    abbrev later : Volume
    later = volume_then on p.name w

    one : IsSwitchedBy see gw.config run.of p state on gn.config r r'
    one = switched_by it run.of (one_vol g.config v run.of it.plan.of run.placed.runs.recorded (it.plan.named ∙ sym run.named))

    run_later : IsRunOf see ns gn name r' later
    run_later = run_switched see r r' offs ons hs ns (still_disks it) gw gn goes_on name w run (slots it).numbers numbers_there p state on one

    -- ---- the commit

    abbrev written : IsWrittenIn see shelf h g (record { config = next.config; base = new.base; public = g.public }) next.text.items
    written = wd it

    on_m : IsMomentButGroup see (at shelf h) mm
    on_m = moment_but_group see (at shelf h) mm is

    -- but for the group
    beside : IsMomentButGroup see (at shelf h2) (moment_on (alone written) mm mm.world.group)
    beside = but_group_on (alone written) mm on_m mm.world.group (runs_lost written mm is)

    abbrev recorded : Moment
    recorded = moment_on (alone written) mm (Some gn)

    committed : IsCommitted (x_alone written next.config) mm recorded
    committed = committed_alone written mm on_m it.switches.finished it.plan.printed.0 it.plan.printed.1 (group_same it ∙ sym (kept it).named)

    change : IsChange (state_edits v.name p state) mm.world (x_alone written next.config)
    change = record { group = group_before see shelf h g it.has_group mm is; edited = it.plan.sets.edited; joiners = refl; carriers = refl }

    -- ---- a moment of which the volume runs so

    other_run : (x : Word) → x ≢ name → (o : Option (Running P ghosts)) (w : Option Volume) → IsAtRun see hs (Some gw) x o w → IsAtRun see ns (Some gn) x o w
    other_run x other None None at_x = tt
    other_run x other None (Some w) at_x = absurd at_x
    other_run x other (Some s) None at_x = absurd at_x
    other_run x other (Some s) (Some w) at_x =
        run_kept see hs ns (still_disks it) gw x s w at_x gn
        (own_edit_keeps_others g.config next.config v.name (state_edits v.name p state) (own it) it.plan.sets.edited at_x.of at_x.placed.runs.recorded (λ same. other (sym at_x.named ∙ same ∙ it.plan.named)) gw.good gn.good (λ slot e. inl (goes_on.fewer slot e)))
        goes_on.devices

    -- the volumes are those that were, but for the one
    record AreVolumesThen (volumes : Word → Option Volume) : Type 0 where
      own_is : volumes name ≡ Some later
      others : (x : Word) → x ≢ name → volumes x ≡ mm.world.volumes x

    module _ (volumes : Word → Option Volume) (are : AreVolumesThen volumes) where
      abbrev moment_then : Moment
      moment_then = record { world = record recorded.world { volumes = volumes }; counts = recorded.counts }

      apart : (x : Word) → bytes_eq name x ≡ false → x ≢ name
      apart x e same = false≢true (sym e ∙ ap (bytes_eq name) same ∙ bytes_eq_self name)

      alone_still : (x : Word) → lone (volumes x) ≡ lone (mm.world.volumes x)
      alone_still x = by (bytes_eq name x) refl
        where
          by : (b : Bool) → bytes_eq name x ≡ b → lone (volumes x) ≡ lone (mm.world.volumes x)
          by false e = ap lone (are.others x (apart x e))
          by true e =
              ap (λ n. lone (volumes n)) (sym (bytes_eq_same name x e)) ∙ ap lone are.own_is ∙ lone_lies later (opened_plexes run.placed.runs.opening) run.lies
              ∙ sym (lone_lies w (opened_plexes run.placed.runs.opening) run.lies) ∙ ap lone (sym there.there) ∙ ap (λ n. lone (mm.world.volumes n)) (bytes_eq_same name x e)

      runs_now : (x : Word) → IsAtRun see ns (Some gn) x (running_at new.public x) (grouped (volumes x))
      runs_now x = subst (λ o. IsAtRun see ns (Some gn) x o (grouped (volumes x))) (sym (it.switches.runs.puts x)) (by (bytes_eq name x) refl)
        where
          by : (b : Bool) → bytes_eq name x ≡ b → IsAtRun see ns (Some gn) x (cond b (Some r') (running_at g.public x)) (grouped (volumes x))
          by false e =
              subst (λ o. IsAtRun see ns (Some gn) x (running_at g.public x) (grouped o)) (sym (are.others x (apart x e)))
              (other_run x (apart x e) (running_at g.public x) (grouped (mm.world.volumes x)) (at_run x))
          by true e =
              subst (λ n. IsAtRun see ns (Some gn) n (Some r') (grouped (volumes n))) (bytes_eq_same name x e)
              (subst (λ o. IsAtRun see ns (Some gn) name (Some r') (grouped o)) (sym are.own_is)
              (subst (IsAtRun see ns (Some gn) name (Some r')) (sym (grouped_lies later (opened_plexes run.placed.runs.opening) run.lies)) run_later))

      is_then : IsMoment see (at shelf (with_group h new)) moment_then
      is_then = subst (λ x. IsMoment see (at shelf x) moment_then) (sym (house_is it))
          (subst (λ s. IsMomentIn see s h3 moment_then) (sym (scene_switched it)) (record {
            told = beside.told;
            devices_are = beside.devices_are;
            volumes_are = λ vol. subst (IsAtVolume see (volume_at h vol)) (sym (alone_still vol)) (beside.volumes_are vol);
            runs_are = runs_now;
            group_is = refl;
            counts = beside.counts;
          }))

    -- ---- the moment

    -- it is one of these
    switched_with : (volumes : Word → Option Volume) → AreVolumesThen volumes → IsSwitchedFrom on v.name p.name recorded (record { world = record recorded.world { volumes = volumes }; counts = recorded.counts }) →
        IsSwitchedAt see shelf (with_group h new) v p state on next.config mm
    switched_with volumes are goes = record {
      recorded = recorded;
      writing = x_alone written next.config;
      config_is = refl;
      change = change;
      committed = committed;
      rest = later_on (alone written) mm on_m (Some gn);
      then = record { world = record recorded.world { volumes = volumes }; counts = recorded.counts };
      is = is_then volumes are;
      goes = goes;
    }

    -- the plex goes off: the volume stays
    pub switched_off : on ≡ false → IsSwitchedAt ghosts.seen shelf (with_group h new) v p state on next.config mm
    switched_off e =
        let off : later ≡ w = ap (λ (b : Bool). volume_then b p.name w) e in
        switched_with mm.world.volumes (record { own_is = there.there ∙ ap (λ (x : Volume). Some x) (sym off); others = λ x other. refl }) (subst (λ (b : Bool). IsSwitchedFrom b v.name p.name recorded recorded) (sym e) refl)

    apart_by : (x : Word) → x ≢ name → bytes_eq name x ≡ false
    apart_by x other = false_from_ne_true (bytes_eq name x) (λ e. other (sym (bytes_eq_same name x e)))

    -- it goes on: nothing is sure of it
    pub switched_on : on ≡ true → IsSwitchedAt ghosts.seen shelf (with_group h new) v p state on next.config mm
    switched_on e =
        let sure : Volume = volume_then true p.name w in
        let is_later : later ≡ sure = ap (λ (b : Bool). volume_then b p.name w) e in
        let volumes : Word → Option Volume = put name (Some sure) mm.world.volumes in
        let then : Moment = record { world = record recorded.world { volumes = volumes }; counts = recorded.counts } in
        let goes : GoesOn name p.name recorded then =
        record { volume = w; was = there.there; plexes = opened_plexes run.placed.runs.opening; lies = run.lies; world = refl; counts = refl } in
        switched_with volumes
        (record {
          own_is = ap (λ b. cond b (Some sure) (mm.world.volumes name)) (bytes_eq_self name) ∙ ap (λ (x : Volume). Some x) (sym is_later);
          others = λ x other. ap (λ b. cond b (Some sure) (mm.world.volumes x)) (apart_by x other);
        })
        (subst (λ (b : Bool). IsSwitchedFrom b v.name p.name recorded then) (sym e) (subst (λ (n : Word). GoesOn n p.name recorded then) (sym it.plan.named) goes))

    pub switched_at : IsSwitchedAt ghosts.seen shelf (with_group h new) v p state on next.config mm
    switched_at = elim (true_or_false on) [ inl e ↦ switched_on e | inr e ↦ switched_off e ]

some_one : {X : Type 0} (x y : X) → Some x ≡ Some y → x ≡ y
some_one x y e = cc

pub switch_goes : {P : Type 0} {ghosts : Ghosts P} → EachPlexOffRunsOn → EachPlexOnRunsOn → (h : House P ghosts) (old new : Imported P ghosts) → EachSwitchGoes ghosts.seen h old new
switch_goes {P = P} {ghosts = ghosts} offs ons h old new shelf name v p state on next alike has_group keeps plan before was ready switches =
    let same : before ≡ switches.runs.before = some_one before switches.runs.before (sym was ∙ switches.runs.was) in
    let it : IsSwitch shelf h old new name v p state on next =
    record { alike = alike; has_group = has_group; keeps = keeps; plan = plan; switches = switches; ready = subst (IsReadyToSwitch ghosts.seen p on) same ready } in
    record { keeps = keeps_switched it; faults = faults_switched it; moments = λ mm is. switched_at offs ons it mm is }
