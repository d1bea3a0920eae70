-- The records of a running volume are committed and it gets another log, or loses the one that it had, in the moments of a house.
use Rattle.std.proofs.Common.{◌≡◌, ◌≢◌, ◌∙◌, ◌+◌, ◌++◌, ℕ, Bool, true, false, cond, List, ◌∷◌, map, Option, Some, None, refl, sym, ap, subst, inl}
use Rattle.std.specs.Option.{option_map}
use Rattle.std.specs.Str.{bytes_eq}
use Rattle.std.proofs.lemmas.Bool.{false≢true}
use Rattle.vx_base.specs.Named.{Word, put}
use Rattle.vx_base.proofs.NamedLemmas.{bytes_eq_same, bytes_eq_self}
use Rattle.vx_piece.specs.Seen.{AreCounts, EndsThere, Seen}
use Rattle.vx_pages.specs.declared.local_piece.LocalPiece.{Ghosts}
use Rattle.vx_layout.specs.declared.layout.Layout.{Layout}
use Rattle.vx_maps.specs.Wholes.{store_copies}
use Rattle.vx_config_parts.specs.declared.plex.Plex.{Plex}
use Rattle.vx_config_parts.specs.declared.vol.Vol.{Vol}
use Rattle.vx_objects.specs.declared.config.Config.{Config}
use Rattle.vx_objects.specs.declared.edit.Edit.{Edit}
use Rattle.vx_image.specs.UsedPlexes.{used_logs}
use Rattle.vx_copies.specs.Disks.{DiskSeen, good_mask}
use Rattle.vx_confdb.specs.Groups.{members}
use Rattle.vx_fronts.specs.Parted.{fronts_of}
use Rattle.vx_fronts.specs.Rests.{AllTell, IsTelling}
use Rattle.vx_fronts.proofs.Parted.{all_parts}
use Rattle.vx_moments.specs.Owners.{device_at}
use Rattle.vx_moments.specs.Commit.{IsCommitted}
use Rattle.vx_moments.specs.Leaving.{grouped, lone}
use Rattle.vx_moments.specs.Moment.{Moment}
use Rattle.vx_moments.specs.World.{Group, Volume}
use Rattle.vx_stages.specs.Ends.{IsChange}
use Rattle.vx_stages.specs.Logged.{volume_relogged}
use Rattle.vx_volume.specs.declared.log.VolumeLog.{VolumeLog}
use Rattle.vx_volume.specs.declared.log.VolumeLog.TheVariants.{Absent, Maps}
use Rattle.vx_volume.specs.Log.{log_seen}
use Rattle.vx_volume.specs.Logging.{IsNewLogFor, ShowsNothing}
use Rattle.vx_volume.specs.Volume.{log_of, volume_seen}
use Rattle.vx_lending.specs.Logs.{log_pieces}
use Rattle.vx_lending.specs.Public.{lent_pieces, running_at, still_pieces}
use Rattle.vx_lending.specs.Taken.{log_sectors}
use Rattle.vx_lending.specs.declared.public.Running.{Running}
use Rattle.vx_group_edits.proofs.OfVolume.{own_edit_keeps_others}
use Rattle.vx_group_volumes.specs.Opened.{opened_plexes}
use Rattle.vx_group_volumes.specs.Runs.{RunsIn}
use Rattle.vx_joined_volumes.specs.Joined.{opening_joined}
use Rattle.vx_house.specs.Holders.{held_as, holders, volume_at}
use Rattle.vx_house.specs.Runs.{AreRuns, IsAtRun, IsRunOf}
use Rattle.vx_house.specs.Scene.{Shelved}
use Rattle.vx_house.specs.View.{IsAtVolume, IsMoment, IsMomentButGroup, IsMomentIn, at, group_of, member_of}
use Rattle.vx_house.specs.declared.house.House.{House}
use Rattle.vx_house.specs.declared.house.Imported.{Imported}
use Rattle.vx_house.proofs.Ends.{keeps_but_group, moment_but_group}
use Rattle.vx_house_calls.specs.Passes.{with_group}
use Rattle.vx_house_calls.proofs.Moments.{IsRunThere, grouped_lies, lone_lies, run_there}
use Rattle.vx_stage_changes.proofs.Alone.{IsWrittenIn, alone, committed_alone, low_by, x_alone}
use Rattle.vx_stage_changes.proofs.CommitJoins.{but_group_on, later_on, moment_on}
use Rattle.vx_stage_changes.proofs.Holders.{group_before, same_members}
use Rattle.vx_stage_changes.proofs.Owns.{run_kept}
use Rattle.vx_stage_changes.proofs.Runners.{runs_lost, seen_members}
use Rattle.vx_stage_changes.specs.declared.planning.NextConfig.{NextConfig}
use Rattle.vx_stage_volumes.proofs.Absent.{one_vol}
use Rattle.vx_stage_volumes.proofs.Held.{tells}
use Rattle.vx_stage_mirrors.specs.Joins.{AreNumbersIn, GoesOn}
use Rattle.vx_stage_mirrors.proofs.JoiningMoments.{named_once}
use Rattle.vx_stage_mirrors.proofs.Numbers.{numbers_in}
use Rattle.vx_stage_mirrors.specs.LogMoments.{EachRelogGoes, IsRelogAt, LiesThen}
use Rattle.vx_stage_mirrors.specs.Relogging.{IsNewLog, IsPowered, RelogsIn}
use Rattle.vx_stage_mirrors.proofs.FreshLogs.{absent_may, absent_shows_nothing, fresh_may, fresh_shows_nothing}
use Rattle.vx_stage_mirrors.proofs.RelogGroup.{faults_relogged, fewer, group_same, house_is, keeps_relogged, relogged_by, scene_relogged, still_disks, wd}
use Rattle.vx_stage_mirrors.proofs.RelogPlaces.{IsReloggedBy}
use Rattle.vx_stage_mirrors.proofs.RelogRunOf.{names_alone, names_relogged, run_relogged}
use Rattle.vx_stage_mirrors.proofs.RelogWhole.{IsRelog, committed_by, copies_told_then, kept, log_told}

-- a new log, or none, can be the log of the running volume and shows nothing of it, where it tells what it holds
log_is_new : {P : Type 0} {ghosts : Ghosts P} (see : P → Seen) (c : Config) (good : ℕ) (numbers : List ℕ) (v : Vol) (r : Running P ghosts) → RunsIn see c good numbers v r →
    (own : List ℕ) (layouts : List Layout) (log : VolumeLog P ghosts) → IsNewLog see own r.form.shape.geometry layouts log → AllTell (log_pieces see log) →
    IsNewLogFor (log_seen see log) (volume_seen see r.volume) × ShowsNothing (log_seen see log) (volume_seen see r.volume)
log_is_new see c good numbers v r runs own layouts Absent none told = (absent_may (volume_seen see r.volume), absent_shows_nothing (volume_seen see r.volume))
log_is_new see c good numbers v r runs own layouts (Maps store) new told =
    let geometry = r.form.shape.geometry in
    let long : geometry.length ≡ v.len = runs.form.shape_is.length_is ∙ sym runs.keeps.length_is in
    let region : geometry.region ≡ v.region = runs.form.shape_is.region_is ∙ sym runs.keeps.region_is in (
      fresh_may see c good numbers v r runs new.copies geometry long region store new.fresh,
      fresh_shows_nothing see c good numbers v r runs new.copies geometry long region store new.fresh (copies_told_then own layouts (log_sectors geometry) new.copies (store_copies see store) new.taken new.cut told),
    )

module _ {P : Type 0} {ghosts : Ghosts P} (ends : (p : P) → EndsThere (ghosts.seen p)) (counts : (p : P) → AreCounts (ghosts.seen p)) {shelf : Shelved} {h : House P ghosts} {g new : Imported P ghosts} {name : Word} {edits : List Edit} {next : NextConfig} {layouts : List Layout} {log : VolumeLog P ghosts}
    (it : IsRelog shelf h g new name edits next layouts log) where
  abbrev see : P → Seen
  see = ghosts.seen

  abbrev r : Running P ghosts
  r = it.relogs.runs.before

  abbrev r' : Running P ghosts
  r' = it.relogs.runs.after

  abbrev hs : List DiskSeen
  hs = members ghosts.seen g.base

  abbrev ns : List DiskSeen
  ns = members ghosts.seen it.base

  -- the group as the world has it, before and afterwards
  abbrev gw : Group
  gw = record { config = g.config; good = good_mask (members ghosts.seen g.base); members = map member_of g.base.disks.items; sequence = g.base.sequence }

  abbrev gn : Group
  gn = record { config = next.config; good = good_mask (members ghosts.seen it.base); members = map member_of it.base.disks.items; sequence = it.base.sequence }

  -- the house whose group is committed, and the house then
  abbrev h2 : House P ghosts
  h2 = with_group h (committed_by g next it.base)

  abbrev h3 : House P ghosts
  h3 = with_group h (record { config = next.config; base = it.base; public = new.public })

  same_named : map member_of it.base.disks.items ≡ map member_of g.base.disks.items
  same_named = sym (seen_members see it.base.disks.items) ∙ same_members (g.base.sequence + 1) it.base.sequence next.text.items hs ns it.finished.tried.committed.goes ∙ seen_members see g.base.disks.items

  goes_on : GoesOn gw gn
  goes_on = record { fewer = fewer it; devices = λ slot device e. ap (λ ms. device_at ms slot) same_named ∙ e }

  numbers_there : AreNumbersIn it.plan.numbers hs gw
  numbers_there = numbers_in see g.base.disks.items (low_by hs (kept it).carries.alive.ready) it.plan.slots.0 it.plan.numbers it.plan.slots.1 (λ n. option_map (λ (s : Seen). s.device) (held_as (holders see h) n)) (named_once see shelf h g it.has_group it.keeps) gw refl refl

  module _ (mm : Moment) (is : IsMoment ghosts.seen (at shelf h) mm) where
    -- ---- before

    here : mm.world.group ≡ Some gw
    here = is.group_is ∙ ap (group_of see) it.has_group

    at_run : (x : Word) → IsAtRun see hs (Some gw) x (running_at g.public x) (grouped (mm.world.volumes x))
    at_run = subst (λ o. AreRuns see (Some g) o mm.world.volumes) here (subst (λ o. AreRuns see o mm.world.group mm.world.volumes) it.has_group is.runs_are)

    there : IsRunThere see hs gw name r (mm.world.volumes name)
    there = run_there see hs gw name r (mm.world.volumes name) (subst (λ o. IsAtRun see hs (Some gw) name o (grouped (mm.world.volumes name))) it.relogs.runs.was (at_run name))

    abbrev w : Volume
    w = there.volume

    run : IsRunOf see hs gw name r w
    run = there.run

    -- all pieces tell what they hold
    told : AllTell (still_pieces see g.public ++ lent_pieces see g.public)
    told =
        (all_parts IsTelling (fronts_of hs) (still_pieces see g.public ++ lent_pieces see g.public)
        (tells see ends counts (at shelf h) (keeps_but_group see (at shelf h) it.keeps) mm (moment_but_group see (at shelf h) mm is) g it.has_group)).1

    -- ---- the volume that has the log

    one : IsReloggedBy see gw.config gw.good run.of it.plan.numbers gn.config it.plan.later it.plan.plex it.plan.plex_then layouts r r'
    one = relogged_by it run.of (one_vol g.config it.plan.volume run.of it.plan.of run.placed.runs.recorded (it.plan.named ∙ sym run.named))

    is_new : IsNewLogFor (log_seen see (log_of r'.volume)) (volume_seen see r.volume) × ShowsNothing (log_seen see (log_of r'.volume)) (volume_seen see r.volume)
    is_new =
        subst (λ (l : VolumeLog P ghosts). IsNewLogFor (log_seen see l) (volume_seen see r.volume) × ShowsNothing (log_seen see l) (volume_seen see r.volume)) (sym it.relogs.runs.has.log_is)
        (log_is_new see gw.config gw.good run.numbers run.of r run.placed.runs it.plan.numbers layouts log it.fresh (log_told it told))

    abbrev logs_then : List Plex
    logs_then = used_logs it.plan.later.dco next.config (good_mask (members ghosts.seen g.base)) false name

    abbrev lies : List Word
    lies = it.plan.plex.name ∷ map (λ (p : Plex). p.name) logs_then

    abbrev later : Volume
    later = volume_relogged lies w

    lies_are : opened_plexes (opening_joined run.placed.runs.opening gn.config gw.good it.plan.later) ≡ lies
    lies_are =
        names_relogged see r r' hs ns (still_disks it) gw gn goes_on name w run it.plan.numbers numbers_there it.plan.later it.plan.plex it.plan.plex_then layouts one is_new.0 is_new.1
        ∙ ap (λ (n : Word). it.plan.plex.name ∷ map (λ (p : Plex). p.name) (used_logs it.plan.later.dco next.config gw.good false n)) run.named

    run_later : IsRunOf see ns gn name r' later
    run_later = subst (λ (ps : List Word). IsRunOf see ns gn name r' (volume_relogged ps w)) lies_are
        (run_relogged see r r' hs ns (still_disks it) gw gn goes_on name w run it.plan.numbers numbers_there it.plan.later it.plan.plex it.plan.plex_then layouts one is_new.0 is_new.1)

    -- it lay on its plex alone, where it had no log
    goes_so : LiesThen it.plan.volume.dco it.plan.plex logs_then (opened_plexes run.placed.runs.opening) lies
    goes_so = record {
      later_is = refl;
      alone = λ none.
          let same : it.plan.volume ≡ run.of = one_vol g.config it.plan.volume run.of it.plan.of run.placed.runs.recorded (it.plan.named ∙ sym run.named) in
          names_alone see r r' hs ns (still_disks it) gw gn goes_on name w run it.plan.numbers numbers_there it.plan.later it.plan.plex it.plan.plex_then layouts one is_new.0 is_new.1 (ap (λ (v : Vol). v.dco) (sym same) ∙ none);
    }

    -- ---- the commit

    abbrev written : IsWrittenIn see shelf h g (committed_by g next it.base) next.text.items
    written = wd it

    on_m : IsMomentButGroup see (at shelf h) mm
    on_m = moment_but_group see (at shelf h) mm is

    -- but for the group
    beside : IsMomentButGroup see (at shelf h2) (moment_on (alone written) mm mm.world.group)
    beside = but_group_on (alone written) mm on_m mm.world.group (runs_lost written mm is)

    abbrev recorded : Moment
    recorded = moment_on (alone written) mm (Some gn)

    committed : IsCommitted (x_alone written next.config) mm recorded
    committed = committed_alone written mm on_m it.finished it.plan.record_of.printed.0 it.plan.record_of.printed.1 (group_same it ∙ sym (kept it).named)

    change : IsChange edits mm.world (x_alone written next.config)
    change = record { group = group_before see shelf h g it.has_group mm is; edited = it.plan.record_of.edited; joiners = refl; carriers = refl }

    -- ---- the moment

    abbrev volumes_now : Word → Option Volume
    volumes_now = put name (Some later) mm.world.volumes

    abbrev then : Moment
    then = record { world = record recorded.world { volumes = volumes_now }; counts = recorded.counts }

    alone_still : (x : Word) → lone (volumes_now x) ≡ lone (mm.world.volumes x)
    alone_still x = by (bytes_eq name x) refl
      where
        by : (b : Bool) → bytes_eq name x ≡ b → lone (cond b (Some later) (mm.world.volumes x)) ≡ lone (mm.world.volumes x)
        by false e = refl
        by true e = lone_lies later lies refl ∙ sym (lone_lies w (opened_plexes run.placed.runs.opening) run.lies) ∙ ap lone (sym there.there) ∙ ap (λ n. lone (mm.world.volumes n)) (bytes_eq_same name x e)

    other_run : (x : Word) → x ≢ name → (o : Option (Running P ghosts)) (v : Option Volume) → IsAtRun see hs (Some gw) x o v → IsAtRun see ns (Some gn) x o v
    other_run x other None None at_x = tt
    other_run x other None (Some v) at_x = absurd at_x
    other_run x other (Some s) None at_x = absurd at_x
    other_run x other (Some s) (Some v) at_x =
        run_kept see hs ns (still_disks it) gw x s v at_x gn
        (own_edit_keeps_others g.config next.config name edits it.plan.record_of.own it.plan.record_of.edited at_x.of at_x.placed.runs.recorded (λ same. other (sym at_x.named ∙ same)) gw.good gn.good (λ slot e. inl (goes_on.fewer slot e)))
        goes_on.devices

    runs_now : (x : Word) → IsAtRun see ns (Some gn) x (running_at new.public x) (grouped (volumes_now x))
    runs_now x = subst (λ o. IsAtRun see ns (Some gn) x o (grouped (volumes_now x))) (sym (it.relogs.runs.puts x)) (by (bytes_eq name x) refl)
      where
        by : (b : Bool) → bytes_eq name x ≡ b → IsAtRun see ns (Some gn) x (cond b (Some r') (running_at g.public x)) (grouped (cond b (Some later) (mm.world.volumes x)))
        by false e = other_run x (λ same. false≢true (sym e ∙ ap (bytes_eq name) same ∙ bytes_eq_self name)) (running_at g.public x) (grouped (mm.world.volumes x)) (at_run x)
        by true e = subst (IsAtRun see ns (Some gn) x (Some r')) (sym (grouped_lies later lies refl)) (subst (λ n. IsRunOf see ns gn n r' later) (bytes_eq_same name x e) run_later)

    is_then : IsMoment see (at shelf h3) then
    is_then = subst (λ s. IsMomentIn see s h3 then) (sym (scene_relogged it)) (record {
      told = beside.told;
      devices_are = beside.devices_are;
      volumes_are = λ vol. subst (IsAtVolume see (volume_at h vol)) (sym (alone_still vol)) (beside.volumes_are vol);
      runs_are = runs_now;
      group_is = refl;
      counts = beside.counts;
    })

    pub relogged_at : IsRelogAt ghosts.seen shelf (with_group h new) name edits next.config (LiesThen it.plan.volume.dco it.plan.plex (used_logs it.plan.later.dco next.config (good_mask (members ghosts.seen g.base)) false name)) mm
    relogged_at = record {
      recorded = recorded;
      writing = x_alone written next.config;
      config_is = refl;
      change = change;
      committed = committed;
      before = w;
      was = there.there;
      plexes = opened_plexes run.placed.runs.opening;
      lay = run.lies;
      plexes_then = lies;
      goes = goes_so;
      then = then;
      is = subst (λ x. IsMoment see (at shelf x) then) (sym (house_is it)) is_then;
      after = later_on (alone written) mm on_m (Some gn);
      world = refl;
      counts = refl;
    }

some_one : {X : Type 0} (x y : X) → Some x ≡ Some y → x ≡ y
some_one x y e = cc

pub relog_goes : {P : Type 0} {ghosts : Ghosts P} → ((p : P) → EndsThere (ghosts.seen p)) → ((p : P) → AreCounts (ghosts.seen p)) → (h : House P ghosts) (old new : Imported P ghosts) → EachRelogGoes ghosts.seen h old new
relog_goes {P = P} {ghosts = ghosts} ends counts h old new shelf name edits next layouts log alike has_group keeps plan before was powered fresh recorded commits relogs =
    let see = ghosts.seen in
    let by : RelogsIn see name log layouts (committed_by old next recorded.base) new =
    subst (λ (x : Imported P ghosts). RelogsIn see name log layouts x new) (λ i. record { config = commits.config i; base = recorded.base; public = commits.public i }) relogs in
    let same : before ≡ by.runs.before = some_one before by.runs.before (sym was ∙ by.runs.was) in
    let it : IsRelog shelf h old new name edits next layouts log =
    record {
      alike = alike;
      has_group = has_group;
      keeps = keeps;
      plan = plan;
      base = recorded.base;
      finished = commits.finished;
      relogs = by;
      powered = subst (IsPowered see) same powered;
      fresh = subst (λ (x : Running P ghosts). IsNewLog see plan.numbers x.form.shape.geometry layouts log) same fresh;
    } in
    record { keeps = keeps_relogged it; faults = faults_relogged it; moments = λ mm is. relogged_at ends counts it mm is }
