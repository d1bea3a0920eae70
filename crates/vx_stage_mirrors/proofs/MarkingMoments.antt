-- The moments of a house of whose group a pass was made on a running volume: the volume has come to rest, so far as its devices let it.
use Rattle.std.proofs.Common.{◌≡◌, ◌∙◌, ℕ, Bool, true, cond, nat_le, List, [], ◌∷◌, map, Option, Some, Err, refl, sym, ap, subst, inl, inr}
use Rattle.std.specs.Prelude.{IfSome}
use Rattle.std.specs.List.{All}
use Rattle.std.proofs.lemmas.Bool.{leb-true, le-leb}
use Rattle.vx_pages.specs.declared.local_piece.LocalPiece.{Ghosts}
use Rattle.vx_base.specs.Counts.{Rose, later_count}
use Rattle.vx_base.specs.Named.{Word}
use Rattle.vx_base.proofs.NamedLemmas.{bytes_eq_self}
use Rattle.vx_piece.specs.Seen.{Seen}
use Rattle.vx_mask.proofs.Tests.{or_from_left, or_from_right}
use Rattle.vx_carve.specs.Together.{HasSome, faults_on}
use Rattle.vx_cell.specs.declared.fault.Place.{Place}
use Rattle.vx_copies.specs.Disks.{DiskSeen, disk_seen}
use Rattle.vx_copies.specs.Lists.{AnyOf}
use Rattle.vx_copies.specs.declared.disk.Disk.{Disk}
use Rattle.vx_confdb.specs.Groups.{members}
use Rattle.vx_config_parts.specs.declared.plex.Plex.{Plex}
use Rattle.vx_image.proofs.PlexMembers.{in_any}
use Rattle.vx_image.proofs.Members.{is_in}
use Rattle.vx_answers.specs.declared.answer.End.{End}
use Rattle.vx_answers.specs.declared.answer.End.TheVariants as ends
use Rattle.vx_moments.specs.Leaving.{grouped}
use Rattle.vx_moments.specs.Moment.{Counts, Moment}
use Rattle.vx_moments.specs.Moment.{HasFailed as FailsAt}
use Rattle.vx_moments.specs.World.{Group, Volume, World}
use Rattle.vx_moments.specs.Owners.{IsDeviceOfVolume, owner_of, owners_of, devices_on}
use Rattle.vx_moments.specs.Tracks.{TrackOwner, has_failed, volume_failed}
use Rattle.vx_volume.specs.declared.fault.IoFault.{IoFault}
use Rattle.vx_volume.specs.declared.fault.IoFault.TheVariants.{Fault, PowerLost, Range}
use Rattle.vx_volume.specs.Volume.{log_of, volume_seen}
use Rattle.vx_volume_laws.specs.Exact.{IsExactVolume, LogIsWell}
use Rattle.vx_volume_laws.specs.RunLaws.{FailuresAreTold, OwnersFit}
use Rattle.vx_volume_laws.specs.Running.{RunsAsVolume}
use Rattle.vx_lending.specs.Left.{held_pieces}
use Rattle.vx_lending.specs.declared.public.Running.{Running}
use Rattle.vx_lending.specs.Public.{running_at}
use Rattle.vx_group_calls.specs.Ending.{device_of}
use Rattle.vx_group_volumes.specs.Devices.{DataHasFailed, HasFailedOn}
use Rattle.vx_group_volumes.specs.Opened.{opened_plexes}
use Rattle.vx_group_volumes.specs.Places.{disks_at}
use Rattle.vx_group_volumes.specs.Laws.{GoesOn}
use Rattle.vx_group_volumes.specs.RestLaws.{RestHasReason}
use Rattle.vx_volume.specs.Log.{LogGoes}
use Rattle.vx_change_laws.specs.Laws.{RunsStill}
use Rattle.vx_image.specs.Image.{PlexImage}
use Rattle.vx_group_volumes.proofs.Failures.{data_failures}
use Rattle.vx_group_volumes.proofs.HeldDevices.{plexes_fit}
use Rattle.vx_group_volumes.proofs.Plexes.{owner_is}
use Rattle.vx_stages.specs.GroupCalls.{PlexHasFailed}
use Rattle.vx_stages.specs.Logs.{LogIsSpared}
use Rattle.vx_stages.specs.Stopping.{ComesToRest, RestStops}
use Rattle.vx_stages.specs.Touching.{PassHasCause}
use Rattle.vx_house.specs.Runs.{IsAtRun, IsRunOf}
use Rattle.vx_house.specs.Scene.{Shelved, IsBlamed, counts_of}
use Rattle.vx_house.specs.Scene.{HasFailed as SceneFailed}
use Rattle.vx_house.specs.View.{IsGroupKept, IsMoment, Keeps, at, member_in, scene}
use Rattle.vx_house.specs.declared.house.House.{House}
use Rattle.vx_house.specs.declared.house.Imported.{Imported}
use Rattle.vx_house.specs.declared.stop.Stop.TheVariants as stops
use Rattle.vx_house_calls.specs.Passes.{GoesOnWith, IsCalledIn, IsNext, IsOneOf, RunsOn, with_group}
use Rattle.vx_house_calls.proofs.Logs.{exact_still, log_well}
use Rattle.vx_house_calls.proofs.Groups.{some}
use Rattle.vx_house_calls.proofs.Moments.{each_call_on, run_there}
use Rattle.vx_stage_volumes.specs.Resting.{IsDiskOn, IsFaultTold}
use Rattle.vx_stage_mirrors.specs.MarkingLaws.{IsMarkedAt}

some_one : {X : Type 0} (x y : X) → Some x ≡ Some y → x ≡ y
some_one x y e = cc

-- the disk of a number is a member of the group
named_disk : {P : Type 0} (see : P → Seen) (number : ℕ) (told device : Word) (ds : List (Disk P)) → AnyOf (IsDiskOn see number told device) ds → (d : Disk P) × IsOneOf (map (disk_seen see) ds) (disk_seen see d) × IsDiskOn see number told device d
named_disk see number told device [] any = absurd any
named_disk see number told device (d ∷ ds) (inl is) = (d, inl refl, is)
named_disk see number told device (d ∷ ds) (inr more) = let rest = named_disk see number told device ds more in (rest.0, inr rest.1, rest.2)

-- What is known of a pass on one running volume of the group: how it leaves the group, and how the volume runs on.
pub record PassFacts {P : Type 0} {ghosts : Ghosts P} (see : P → Seen) (name : Word) (g now : Imported P ghosts) : Type 0 where
  pub called : IsCalledIn see name g now
  pub goes : GoesOn see called.before.volume called.after.volume
  pub follows : LogGoes see (log_of called.before.volume) (log_of called.after.volume)
  pub runs : (plexes : List PlexImage) (w : Volume) → RunsAsVolume plexes (volume_seen see called.before.volume) w → (owners : Word → TrackOwner) (failed : Word → Bool) →
      OwnersFit plexes (volume_seen see called.before.volume) owners → FailuresAreTold plexes owners failed (volume_seen see called.before.volume) (volume_seen see called.after.volume) →
      RunsStill plexes plexes (volume_seen see called.before.volume) (volume_seen see called.after.volume) w (volume_failed owners failed w)
  pub exact : (plexes : List PlexImage) (w : Volume) → RunsAsVolume plexes (volume_seen see called.before.volume) w → LogIsWell (volume_seen see called.before.volume) (volume_seen see called.after.volume) →
      IsExactVolume (volume_seen see called.before.volume) → IsExactVolume (volume_seen see called.after.volume)

module _ {P : Type 0} {ghosts : Ghosts P} (shelf : Shelved) (h : House P ghosts) (g now : Imported P ghosts) (has_group : h.group ≡ Some g) (name : Word) (facts : PassFacts ghosts.seen name g now) (keeps : Keeps ghosts.seen (at shelf h)) where
  abbrev see : P → Seen
  see = ghosts.seen

  abbrev r : Running P ghosts
  r = facts.called.before

  abbrev after : Running P ghosts
  after = facts.called.after

  abbrev held : List Seen
  held = held_pieces see r.volume

  abbrev held' : List Seen
  held' = held_pieces see after.volume

  abbrev mid : House P ghosts
  mid = with_group h now

  abbrev hs : List DiskSeen
  hs = members see g.base

  pub pass_house : GoesOnWith see shelf h g now name r after
  pass_house = each_call_on see h g now shelf name has_group facts.called keeps

  -- no piece of it is empty
  some_pieces : All HasSome held
  some_pieces =
      let kept = subst (λ o. IfSome o (IsGroupKept see)) has_group keeps.house.group in
      subst (λ x. (is : IsCalledIn see name g x) → All HasSome (held_pieces see is.before.volume)) (sym facts.called.same) (λ is. some see name g now.public.running is kept.whole) facts.called

  module _ (m : Moment) (at_m : IsMoment see (at shelf h) m) where
    abbrev on : RunsOn see (at shelf h) (at shelf mid) hs name r after m
    on = pass_house.moments m at_m

    abbrev gm : Group
    gm = on.group

    abbrev w : Volume
    w = on.volume

    abbrev run : IsRunOf see hs gm name r w
    run = on.run

    abbrev names : List Word
    names = opened_plexes run.placed.runs.opening

    abbrev counts : Counts
    counts = counts_of (scene see (at shelf mid))

    abbrev owners : Word → TrackOwner
    owners = owners_of gm name names

    fit : OwnersFit run.plexes (volume_seen see r.volume) owners
    fit = subst (λ n. OwnersFit run.plexes (volume_seen see r.volume) (owners_of gm n names)) run.named (plexes_fit r gm run.numbers run.of run.placed run.plexes run.plexes_then)

    -- the devices that have failed
    failed : Word → Bool
    failed device = nat_le (later_count (m.counts.faults device) 1) (counts.faults device)

    have_failed : (device : Word) → failed device ≡ true → FailsAt m.counts counts device
    unfolding failed
    have_failed device is = leb-true (later_count (m.counts.faults device) 1) (counts.faults device) is

    is_failed : (device : Word) → FailsAt m.counts counts device → failed device ≡ true
    unfolding failed
    is_failed device up = le-leb (later_count (m.counts.faults device) 1) (counts.faults device) up

    plex_fails : (q : Plex) → HasFailedOn gm.config (disks_at run.placed.runs.opening) run.numbers held held' q → PlexHasFailed gm m.counts counts q
    plex_fails q f = on.plex_failed q f.lies.slot f.device (f.lies.strip, f.lies.there, f.lies.disk_is) f.lies.on f.lies.number_is f.rose

    are_told : FailuresAreTold run.plexes owners failed (volume_seen see r.volume) (volume_seen see after.volume)
    are_told p there region inside rose =
        let f = subst (λ n. DataHasFailed gm.config n (disks_at run.placed.runs.opening) run.numbers held held' p.name) run.named
        (data_failures r after.volume gm.config gm.good run.numbers run.of run.placed facts.goes.together.counted run.plexes run.plexes_then p there region inside rose) in
        let up = plex_fails f.plex f.failed in
        let owner : owners p.name ≡ owner_of gm names f.plex = ap owners (sym f.name_is) ∙ owner_is gm name names f.plex (is_in gm.config.plexes f.plex f.there) f.data_is in
        ap (has_failed failed) owner ∙ in_any failed (devices_on gm f.plex) up.0 (is_in (devices_on gm f.plex) up.0 up.1) (is_failed up.0 up.2)

    abbrev later : Volume
    later = volume_failed owners failed w

    runs_on : w.sound ≡ true → RunsStill run.plexes run.plexes (volume_seen see r.volume) (volume_seen see after.volume) w later
    runs_on sound = facts.runs run.plexes w (run.runs_as sound) owners failed fit are_told

    -- ---- its log

    told_later : (device : Word) → FailsAt m.counts counts device → later.failed device ≡ true
    told_later device up = or_from_left (failed device) (w.failed device) (is_failed device up)

    well : LogIsSpared gm name later.failed → LogIsWell (volume_seen see r.volume) (volume_seen see after.volume)
    well spared = log_well (at shelf h) (at shelf mid) hs name r after m on facts.goes.together.stays facts.follows some_pieces later.failed told_later spared

    exact : w.sound ≡ true → LogIsSpared gm name later.failed → IsExactVolume (volume_seen see after.volume)
    exact sound spared =
        exact_still (at shelf h) (at shelf mid) hs name r after m on facts.goes.together.stays facts.follows some_pieces later.failed told_later spared
        sound (λ device was. or_from_right (failed device) (w.failed device) was)
        (facts.exact run.plexes w (run.runs_as sound))

    -- ---- the moment

    next_there : (n : Moment) × IsNext see (at shelf mid) gm name later m n
    next_there = on.next later (record { lies = refl; length_is = refl; region_is = refl }) (λ sound. (runs_on sound).runs) (λ sound. (runs_on sound).sure (run.sure sound)) exact

    abbrev n : Moment
    n = next_there.0

    abbrev next : IsNext see (at shelf mid) gm name later m n
    next = next_there.1

    abbrev comes : ComesToRest name m n
    comes = record {
      group = gm;
      here = on.here;
      plexes = names;
      volume = w;
      there = on.there;
      lies = run.lies;
      failed = failed;
      have_failed = λ device is. subst (λ c. FailsAt m.counts c device) (sym next.counts) (have_failed device is);
      later = next.later;
      goes = record { world = next.world; changes = next.changes; calls = next.calls };
    }

    volume_now : n.world.volumes name ≡ Some later
    volume_now = ap (λ (v : Word → Option Volume). v name) (ap (λ (x : World). x.volumes) next.world) ∙ ap (λ b. cond b (Some later) (m.world.volumes name)) (bytes_eq_self name)

    group_now : n.world.group ≡ Some gm
    group_now = ap (λ (x : World). x.group) next.world ∙ on.here

    run_now : IsRunOf see hs gm name after later
    run_now =
        let by_group = subst (λ o. IsAtRun see (members see now.base) o name (running_at now.public name) (grouped (n.world.volumes name))) group_now (next.is.runs_are name) in
        let after_there : running_at now.public name ≡ Some after = facts.called.puts name ∙ ap (λ b. cond b (Some after) (running_at g.public name)) (bytes_eq_self name) in
        let by_run = subst (λ o. IsAtRun see (members see now.base) (Some gm) name o (grouped (n.world.volumes name))) after_there by_group in
        let same_base : now.base ≡ g.base = ap (λ (x : Imported P ghosts). x.base) facts.called.same in
        let there = run_there see hs gm name after (n.world.volumes name) (subst (λ b. IsAtRun see (members see b) (Some gm) name (Some after) (grouped (n.world.volumes name))) same_base by_run) in
        subst (IsRunOf see hs gm name after) (some_one there.volume later (sym there.there ∙ volume_now)) there.run

    abbrev at_rest : IsMarkedAt see shelf mid hs name r after m
    at_rest = record { then = n; is = next.is; later = next.later; rest = comes; group = group_now; there = volume_now; run = run_now; well = well }

    pub rested_at : IsMarkedAt see shelf mid hs name r after m
    rested_at = at_rest

    -- ---- why it was not brought to rest

    module _ (fault : IoFault) (reason : RestHasReason see (Err fault) r.volume after.volume) (end : End) (told : IsFaultTold see g.base.disks.items fault (stops.Ended end)) where
      fault_cause : (place : Place) → Rose (faults_on (device_of place) held) (faults_on (device_of place) held') → IsFaultTold see g.base.disks.items (Fault place) (stops.Ended end) → PassHasCause gm name m.counts counts end
      fault_cause place rose (told_name, device, same, any) =
          let d = named_disk see (device_of place) told_name device g.base.disks.items any in
          let fails = on.failed (disk_seen see d.0) d.1 (subst (λ n. Rose (faults_on n held) (faults_on n held')) (sym d.2.number_is) rose) in
          subst (PassHasCause gm name m.counts counts) (sym (ended_one end (ends.Fault told_name device []) same)) (
            refl,
            record {
              member = member_in (disk_seen see d.0);
              there = on.members (disk_seen see d.0) d.1;
              device_is = d.2.device_is;
              disk_is = d.2.told_is;
              own = subst (IsDeviceOfVolume gm name) d.2.device_is fails.1;
              failed = subst (FailsAt m.counts counts) d.2.device_is fails.0;
            },
          )
        where
          ended_one : (a b : End) → stops.Ended a ≡ stops.Ended b → a ≡ b
          ended_one a b e = cc

      cause_by : (f : IoFault) → RestHasReason see (Err f) r.volume after.volume → IsFaultTold see g.base.disks.items f (stops.Ended end) → PassHasCause gm name m.counts counts end
      cause_by (Fault place) why told = fault_cause place why told
      cause_by PowerLost why told =
          subst (PassHasCause gm name m.counts counts) (sym (ended_one end (ends.Lost []) told)) (refl, on.lost (why run.placed.runs.cut))
        where
          ended_one : (a b : End) → stops.Ended a ≡ stops.Ended b → a ≡ b
          ended_one a b e = cc
      cause_by Range why told = absurd why

      pub pass_stops : (n : Moment) × IsMoment see (at shelf mid) n × RestStops name m end n
      pass_stops = (n, next.is, record { rest = comes; cause = subst (λ c. PassHasCause gm name m.counts c end) (sym next.counts) (cause_by fault reason told) })

  -- a fault is told of a device that has failed
  pub pass_blamed : (fault : IoFault) → RestHasReason see (Err fault) r.volume after.volume → (end : End) → IsFaultTold see g.base.disks.items fault (stops.Ended end) → IsBlamed end (scene see (at shelf h)) (scene see (at shelf mid))
  pass_blamed fault reason end told = by fault reason told
    where
      ended_one : (a b : End) → stops.Ended a ≡ stops.Ended b → a ≡ b
      ended_one a b e = cc

      by : (f : IoFault) → RestHasReason see (Err f) r.volume after.volume → IsFaultTold see g.base.disks.items f (stops.Ended end) → IsBlamed end (scene see (at shelf h)) (scene see (at shelf mid))
      by (Fault place) why (told_name, device, same, any) =
          let d = named_disk see (device_of place) told_name device g.base.disks.items any in
          subst (λ e. IsBlamed e (scene see (at shelf h)) (scene see (at shelf mid))) (sym (ended_one end (ends.Fault told_name device []) same))
          (subst (λ x. SceneFailed x (scene see (at shelf h)) (scene see (at shelf mid))) d.2.device_is
          (pass_house.failed (disk_seen see d.0) d.1 (subst (λ n. Rose (faults_on n held) (faults_on n held')) (sym d.2.number_is) why)))
      by PowerLost why told = subst (λ e. IsBlamed e (scene see (at shelf h)) (scene see (at shelf mid))) (sym (ended_one end (ends.Lost []) told)) tt
      by Range why told = absurd why
