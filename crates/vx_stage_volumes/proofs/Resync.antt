-- The moments of a house of whose group a running volume was copied to, so far as its devices let it.
use Rattle.std.proofs.Common.{◌≡◌, ◌∙◌, ◌⊎◌, ℕ, ◌-◌, ◌<◌, ◌==◌, ◌&&◌, ◌||◌, Bool, true, false, not, cond, nat_le, List, [], ◌∷◌, map, Some, Result, Ok, Err, refl, sym, ap, subst, inl, inr}
use Rattle.std.specs.Prelude.{IfSome, is_some, if◌then◌else◌}
use Rattle.std.specs.List.{All, list_any}
use Rattle.std.specs.Str.{bytes_eq}
use Rattle.std.proofs.lemmas.Bool.{and_from, and_parts, eq-eqb, eqb-true, leb-true, le-leb}
use Rattle.vx_pages.specs.declared.local_piece.LocalPiece.{Ghosts}
use Rattle.vx_base.specs.Counts.{Rose, later_count}
use Rattle.vx_base.specs.Named.{Word}
use Rattle.vx_mask.specs.Mask.{has}
use Rattle.vx_mask.proofs.Tests.{or_from_left, or_from_right}
use Rattle.vx_piece.specs.Seen.{Seen}
use Rattle.vx_carve.specs.Together.{HasSome, faults_on}
use Rattle.vx_copies.specs.Disks.{DiskSeen, disk_seen}
use Rattle.vx_copies.specs.Lists.{AnyOf}
use Rattle.vx_copies.specs.declared.disk.Disk.{Disk}
use Rattle.vx_confdb.specs.Groups.{members}
use Rattle.vx_config_parts.specs.declared.plex.Plex.{Plex}
use Rattle.vx_config_parts.specs.declared.vol.Vol.{Vol}
use Rattle.vx_config_parts.specs.Objects.{is_data_plex_of, is_log_plex_of}
use Rattle.vx_image.proofs.PlexMembers.{IsIn, in_any}
use Rattle.vx_state_edits.specs.Edits.{is_new}
use Rattle.vx_image.specs.UsedPlexes.{is_on}
use Rattle.vx_image.specs.Bytes.{map_or_zero}
use Rattle.vx_image.proofs.Members.{is_in, one_from_any}
use Rattle.vx_answers.specs.declared.answer.End.{End}
use Rattle.vx_answers.specs.declared.answer.End.TheVariants as ends
use Rattle.vx_moments.specs.Moment.{Counts, Moment, AreLater}
use Rattle.vx_moments.specs.Moment.{HasFailed as FailsAt}
use Rattle.vx_moments.specs.World.{Group, OnPlexes, Track, Volume}
use Rattle.vx_moments.specs.Lives.{no_track, volume_copied}
use Rattle.vx_moments.specs.Owners.{IsDeviceOfVolume, devices_on, owner_of, owners_of}
use Rattle.vx_moments.specs.Tracks.{TrackOwner, has_failed, volume_failed, was_unsettled}
use Rattle.vx_volume.specs.declared.fault.IoFault.{IoFault}
use Rattle.vx_volume.specs.declared.fault.IoFault.TheVariants.{Fault, PowerLost, Range}
use Rattle.vx_volume.specs.Volume.{VolumeSeen, volume_seen}
use Rattle.vx_volume_laws.specs.Lying.{LiesIn}
use Rattle.vx_volume_laws.specs.RunLaws.{EachCopyRunsOn, FailuresAreTold, OwnersFit}
use Rattle.vx_volume_laws.specs.Running.{IsSureOfOthers, RunsAsVolume}
use Rattle.vx_lending.specs.Left.{held_pieces}
use Rattle.vx_lending.specs.declared.public.Running.{Running}
use Rattle.vx_group_calls.specs.Ending.{device_of}
use Rattle.vx_group_calls.proofs.Sources.{tell_still}
use Rattle.vx_group_start.specs.Copying.{AreCopied}
use Rattle.vx_volume_laws.specs.Exact.{IsExactVolume, LogIsWell}
use Rattle.vx_group_volumes.specs.Copies.{AreOnIn, AreTight}
use Rattle.vx_group_volumes.specs.Devices.{DataHasFailed, HasFailedOn}
use Rattle.vx_group_volumes.specs.Devices.{LogHasFailed as LogFailedOn}
use Rattle.vx_group_volumes.specs.Laws.{GoesOn}
use Rattle.vx_group_volumes.specs.Opened.{opened_plexes}
use Rattle.vx_group_volumes.specs.Places.{disks_at}
use Rattle.vx_group_volumes.specs.RestLaws.{RestHasReason}
use Rattle.vx_group_volumes.proofs.Copied.{copy_misses_nothing}
use Rattle.vx_group_volumes.proofs.CopiesRun.{RunsAfter, copies_run_on}
use Rattle.vx_group_volumes.proofs.ExactPasses.{copying_exact}
use Rattle.vx_group_volumes.proofs.Failures.{data_failures, log_failures}
use Rattle.vx_group_volumes.proofs.HeldDevices.{plexes_fit}
use Rattle.vx_group_volumes.proofs.Passes.{copies_go_on}
use Rattle.vx_group_volumes.proofs.Plexes.{opened_plex, owner_is, plex_now}
use Rattle.vx_group_volumes.proofs.Reasons.{copy_reason}
use Rattle.vx_stages.specs.GroupCalls.{LogHasFailed, PlexHasFailed}
use Rattle.vx_stages.specs.Logs.{LogIsSpared}
use Rattle.vx_stages.specs.Starting.{BecomesBy, CopiesTo, CopyEnds, IsCopied, is_copied, is_copied_plex, is_lowest, plexes_started, regions_copied}
use Rattle.vx_stages.specs.Touching.{IsCutOff, VolumeGoes}
use Rattle.vx_house.specs.Runs.{IsRunOf}
use Rattle.vx_house.specs.Scene.{IsBlamed, Shelved, counts_of}
use Rattle.vx_house.specs.View.{IsGroupKept, IsGroupWhole, IsMoment, Keeps, at, member_in, scene}
use Rattle.vx_house.specs.declared.house.House.{House}
use Rattle.vx_house.specs.declared.house.Imported.{Imported}
use Rattle.vx_house.specs.declared.stop.Stop.{Stop}
use Rattle.vx_house.specs.declared.stop.Stop.TheVariants as stops
use Rattle.vx_house_calls.specs.Passes.{GoesOnWith, IsCalledIn, IsNext, IsOneOf, RunsOn, with_group}
use Rattle.vx_house_calls.proofs.Groups.{some}
use Rattle.vx_house_calls.proofs.Logs.{exact_still, log_rises}
use Rattle.vx_house_calls.proofs.Moments.{each_call_on}
use Rattle.vx_stage_volumes.specs.Naming.{copied, fault_of, names_at}
use Rattle.vx_stage_volumes.specs.Recording.{IsResynchronised, maps_copied}

-- ---- the disk of a number

-- the names that are told of a number are those of a disk on its device
pub record IsToldOf {P : Type 0} (see : P → Seen) (ds : List (Disk P)) (number : ℕ) : Type 0 where
  pub disk : DiskSeen
  pub there : IsOneOf (map (disk_seen see) ds) disk
  pub number_is : disk.seen.device ≡ number
  pub told : names_at see ds number ≡ Some (disk.name, disk.device)

told_of : {P : Type 0} (see : P → Seen) (ds : List (Disk P)) (number : ℕ) (d : DiskSeen) → IsOneOf (map (disk_seen see) ds) d → d.seen.device ≡ number → IsToldOf see ds number
told_of see [] number d there is = absurd there
told_of see (x ∷ xs) number d there is = by ((see x.piece).device == number) refl there (λ more. told_of see xs number d more is)
  where
    by : (b : Bool) → ((see x.piece).device == number) ≡ b → AnyOf (λ y. y ≡ d) (map (disk_seen see) (x ∷ xs)) → (AnyOf (λ y. y ≡ d) (map (disk_seen see) xs) → IsToldOf see xs number) → IsToldOf see (x ∷ xs) number
    by true e any rest = record { disk = disk_seen see x; there = inl refl; number_is = eqb-true (see x.piece).device number e; told = ap (λ c. cond c (Some (x.name, x.device)) (names_at see xs number)) e }
    by false e (inl same) rest =
        let here : (see x.piece).device ≡ number = ap (λ (y : DiskSeen). y.seen.device) same ∙ is in
        absurd (let no : true ≡ false = sym (eq-eqb (see x.piece).device number here) ∙ e in cc)
    by false e (inr more) rest =
        let r = rest more in
        record { disk = r.disk; there = inr r.there; number_is = r.number_is; told = ap (λ c. cond c (Some (x.name, x.device)) (names_at see xs number)) e ∙ r.told }

some_one : {X : Type 0} (x y : X) → Some x ≡ Some y → x ≡ y
some_one x y e = cc

names_of : (xs ys : List Word) → OnPlexes xs ≡ OnPlexes ys → xs ≡ ys
names_of xs ys e = cc

-- The plex is one to copy to: its map is in the mask, and on.
pub record IsToCopy {P : Type 0} {ghosts : Ghosts P} (mask : ℕ) (r : Running P ghosts) (q : Plex) : Type 0 where
  pub low : map_or_zero q.map < 64
  pub in_mask : has mask (map_or_zero q.map) ≡ true
  pub on : has r.form.shape.on (map_or_zero q.map) ≡ true

-- no element passes
none_pass : {X : Type 0} (test : X → Bool) → ((x : X) → test x ≡ false) → (xs : List X) → list_any test xs ≡ false
none_pass test none [] = refl
none_pass test none (x ∷ xs) = ap (λ b. b || list_any test xs) (none x) ∙ none_pass test none xs

and_none : (a b : Bool) → b ≡ false → (a && b) ≡ false
and_none true b e = e
and_none false b e = refl

-- of a volume that was started before no plex is copied to
none_copied : (g : Group) (v : Vol) → is_new v.state ≡ false → (n : Word) → is_copied g v n ≡ false
none_copied g v old n = none_pass (λ (p : Plex). bytes_eq p.name n && is_copied_plex g v p)
    (λ p. and_none (bytes_eq p.name n) (is_copied_plex g v p) (ap (λ b. b && (is_on g.config g.good p && (is_data_plex_of v.name p && not (is_lowest g.config v.name p)))) old)) g.config.plexes

-- nothing was copied to
no_track_more : (b : Bool) → b ≡ false → (t : Track) → (if b then no_track else t) ≡ t
no_track_more true is t = absurd (let e : true ≡ false = is in cc)
no_track_more false is t = refl

no_more : (to : Word → Bool) → ((n : Word) → to n ≡ false) → (w : Volume) → volume_copied to w ≡ w
no_more to none w = λ i. record w { tracks = λ n. no_track_more (to n) (none n) (w.tracks n) i }

-- nothing has failed
none_among : (devices : List Word) → list_any (λ (d : Word). false) devices ≡ false
none_among [] = refl
none_among (d ∷ ds) = none_among ds

no_failure : (b : Bool) (o : TrackOwner) (t : Track) (unsettled : ℕ → Bool) → (if b && has_failed (λ d. false) o then record t { possible = λ r. unsettled r || t.possible r } else t) ≡ t
no_failure b o t unsettled = by b (has_failed (λ d. false) o) (none_among o.devices)
  where
    by : (a f : Bool) → f ≡ false → (if a && f then record t { possible = λ r. unsettled r || t.possible r } else t) ≡ t
    by true true is = absurd (let e : true ≡ false = is in cc)
    by true false is = refl
    by false f is = refl

none_failed : (owners : Word → TrackOwner) (w : Volume) → volume_failed owners (λ d. false) w ≡ w
none_failed owners w = λ i. record w { tracks = λ n. no_failure (owners n).available (owners n) (w.tracks n) (was_unsettled w) i }

module _ {P : Type 0} {ghosts : Ghosts P} (alike : (p q : P) → is_some (ghosts.seen p).told ≡ is_some (ghosts.seen q).told) (law : EachCopyRunsOn) (shelf : Shelved) (h : House P ghosts) (g now : Imported P ghosts) (has_group : h.group ≡ Some g) (name : Word) (fresh : Bool) (stop : Stop)
    (is : IsResynchronised ghosts.seen name fresh stop g now) (keeps : Keeps ghosts.seen (at shelf h)) where
  abbrev see : P → Seen
  see = ghosts.seen

  abbrev pub r : Running P ghosts
  r = is.among.before

  abbrev pub after : Running P ghosts
  after = is.among.after

  abbrev mask : ℕ
  mask = maps_copied fresh r

  abbrev held : List Seen
  held = held_pieces see r.volume

  abbrev held' : List Seen
  held' = held_pieces see after.volume

  abbrev pub mid : House P ghosts
  mid = with_group h now

  abbrev hs : List DiskSeen
  hs = members see g.base

  abbrev was : VolumeSeen
  was = volume_seen see r.volume

  abbrev becomes : VolumeSeen
  becomes = volume_seen see after.volume

  goes : GoesOn see r.volume after.volume
  goes = copies_go_on r.volume after.volume mask is.result is.among.copied is.among.follows

  abbrev called : IsCalledIn see name g now
  called = record {
    before = r;
    after = after;
    was = is.among.was;
    entries = is.among.entries;
    puts = is.among.puts;
    same = is.same;
    called = record { each = goes.together.stays; goes = goes.together.goes };
    tells = tell_still r.volume after.volume alike goes.together.stays;
    whole = is.among.whole;
    form = is.among.form;
    shape = is.among.shape;
    lies = λ numbers was. subst (λ f. LiesIn see numbers f after.volume) (sym is.among.form) (goes.lies numbers r.form was);
    dead = goes.cut;
  }

  pub house : GoesOnWith see shelf h g now name r after
  house = each_call_on see h g now shelf name has_group called keeps

  reason : RestHasReason see is.result r.volume after.volume
  reason = copy_reason r.volume after.volume mask is.result is.among.copied is.among.follows

  -- no piece of it is empty
  some_pieces : All HasSome held
  some_pieces = subst (λ x. (c : IsCalledIn see name g x) → All HasSome (held_pieces see c.before.volume)) (sym is.same) (λ c. some see name g now.public.running c (kept_whole keeps)) called
    where
      kept_whole : Keeps see (at shelf h) → IsGroupWhole see g
      kept_whole keeps = (subst (λ o. IfSome o (IsGroupKept see)) has_group keeps.house.group).whole

  -- ---- how it ends

  -- the start is ended so, by the answer
  abbrev pub IsToldAs : Result ℕ IoFault → End → Type 0
  IsToldAs (Ok n) end = end ≡ ends.Done (Some n) [] []
  IsToldAs (Err (Fault place)) end = (d : IsToldOf see g.base.disks.items (device_of place)) × (end ≡ ends.Fault d.disk.name d.disk.device [])
  IsToldAs (Err PowerLost) end = end ≡ ends.Lost []
  IsToldAs (Err Range) end = ⊥

  ended_by : (result : Result ℕ IoFault) → RestHasReason see result r.volume after.volume → (end : End) × (copied see g.base.disks.items result ≡ stops.Ended end) × IsToldAs result end
  ended_by (Ok n) why = (ends.Done (Some n) [] [], refl, refl)
  ended_by (Err (Fault place)) rose =
      let on = house.disks (device_of place) rose in
      let d = told_of see g.base.disks.items (device_of place) on.disk on.there on.number_is in
      (ends.Fault d.disk.name d.disk.device [], ap fault_of d.told, (d, refl))
  ended_by (Err PowerLost) why = (ends.Lost [], refl, refl)
  ended_by (Err Range) why = absurd why

  pub ended : (end : End) × (stop ≡ stops.Ended end) × IsToldAs is.result end
  ended = let e = ended_by is.result reason in (e.0, is.stop_is ∙ e.1, e.2)

  blamed_by : (result : Result ℕ IoFault) → RestHasReason see result r.volume after.volume → (end : End) → IsToldAs result end → IsBlamed end (scene see (at shelf h)) (scene see (at shelf mid))
  blamed_by (Ok n) why end is = subst (λ e. IsBlamed e (scene see (at shelf h)) (scene see (at shelf mid))) (sym is) tt
  blamed_by (Err (Fault place)) rose end (d, is) =
      subst (λ e. IsBlamed e (scene see (at shelf h)) (scene see (at shelf mid))) (sym is)
      (house.failed d.disk d.there (subst (λ n. Rose (faults_on n held) (faults_on n held')) (sym d.number_is) rose))
  blamed_by (Err PowerLost) why end is = subst (λ e. IsBlamed e (scene see (at shelf h)) (scene see (at shelf mid))) (sym is) tt
  blamed_by (Err Range) why end is = absurd is

  pub blamed : IsBlamed ended.0 (scene see (at shelf h)) (scene see (at shelf mid))
  blamed = blamed_by is.result reason ended.0 ended.2

  -- ---- the moment

  -- v is the volume of the group before it was started, and names are the plexes that it lies on since then
  module _ (before : Group) (v : Vol) (named : v.name ≡ name) (fresh_is : fresh ≡ is_new v.state) (gn : Group) (m : Moment) (at_m : IsMoment see (at shelf h) m) (group_is : m.world.group ≡ Some gn) (w : Volume) (there : m.world.volumes v.name ≡ Some w) (lies : w.lies ≡ OnPlexes (plexes_started before v))
      (tight : is_new v.state ≡ true → AreTight was) (count : (n : ℕ) → is.result ≡ Ok n → n ≡ regions_copied before v)
      (on_copied : (q : Plex) → IsIn gn.config.plexes q → is_data_plex_of v.name q ≡ true → is_copied before v q.name ≡ true → IsToCopy mask r q) where
    abbrev on : RunsOn see (at shelf h) (at shelf mid) hs name r after m
    on = house.moments m at_m

    abbrev counts : Counts
    counts = counts_of (scene see (at shelf mid))

    -- the volume of the world, and its group, are these
    group_same : on.group ≡ gn
    group_same = some_one on.group gn (sym on.here ∙ group_is)

    volume_same : on.volume ≡ w
    volume_same = some_one on.volume w (sym on.there ∙ ap m.world.volumes (sym named) ∙ there)

    abbrev run : IsRunOf see hs on.group name r on.volume
    run = on.run

    abbrev names : List Word
    names = plexes_started before v

    same_names : opened_plexes run.placed.runs.opening ≡ names
    same_names = names_of _ _ (sym run.lies ∙ ap (λ (x : Volume). x.lies) volume_same ∙ lies)

    abbrev owners : Word → TrackOwner
    owners = owners_of on.group v.name names

    of_named : run.of.name ≡ v.name
    of_named = run.named ∙ sym named

    fit : OwnersFit run.plexes was owners
    fit = subst (λ ns. OwnersFit run.plexes was (owners_of on.group v.name ns)) same_names
        (subst (λ n. OwnersFit run.plexes was (owners_of on.group n (opened_plexes run.placed.runs.opening))) of_named (plexes_fit r on.group run.numbers run.of run.placed run.plexes run.plexes_then))

    -- the devices that have failed
    failed : Word → Bool
    failed device = nat_le (later_count (m.counts.faults device) 1) (counts.faults device)

    have_failed : (device : Word) → failed device ≡ true → FailsAt m.counts counts device
    unfolding failed
    have_failed device e = leb-true (later_count (m.counts.faults device) 1) (counts.faults device) e

    is_failed : (device : Word) → FailsAt m.counts counts device → failed device ≡ true
    unfolding failed
    is_failed device up = le-leb (later_count (m.counts.faults device) 1) (counts.faults device) up

    plex_fails : (q : Plex) → HasFailedOn on.group.config (disks_at run.placed.runs.opening) run.numbers held held' q → PlexHasFailed on.group m.counts counts q
    plex_fails q f = on.plex_failed q f.lies.slot f.device (f.lies.strip, f.lies.there, f.lies.disk_is) f.lies.on f.lies.number_is f.rose

    are_told : FailuresAreTold run.plexes owners failed was becomes
    are_told p one region inside rose =
        let f = subst (λ n. DataHasFailed on.group.config n (disks_at run.placed.runs.opening) run.numbers held held' p.name) of_named
        (data_failures r after.volume on.group.config on.group.good run.numbers run.of run.placed goes.together.counted run.plexes run.plexes_then p one region inside rose) in
        let up = plex_fails f.plex f.failed in
        let owner : owners p.name ≡ owner_of on.group names f.plex = ap owners (sym f.name_is) ∙ owner_is on.group v.name names f.plex (is_in on.group.config.plexes f.plex f.there) f.data_is in
        ap (has_failed failed) owner ∙ in_any failed (devices_on on.group f.plex) up.0 (is_in (devices_on on.group f.plex) up.0 up.1) (is_failed up.0 up.2)

    -- ---- whether the log has failed

    log_plex_failed : Plex → Bool
    log_plex_failed p = is_log_plex_of v.name p && list_any failed (devices_on on.group p)

    log_failed : list_any log_plex_failed on.group.config.plexes ≡ true → LogHasFailed on.group v.name m.counts counts
    unfolding log_plex_failed
    log_failed e =
        let p = one_from_any log_plex_failed on.group.config.plexes e in
        let two = and_parts (is_log_plex_of v.name p.0) (list_any failed (devices_on on.group p.0)) p.2 in
        let d = one_from_any failed (devices_on on.group p.0) two.1 in
        (p.0, p.1, two.0, (d.0, d.1, have_failed d.0 d.2))

    log_is_well : list_any log_plex_failed on.group.config.plexes ≡ false → LogIsWell was becomes
    unfolding log_plex_failed
    log_is_well e rose =
        let f = subst (λ n. LogFailedOn on.group.config n (disks_at run.placed.runs.opening) run.numbers held held') of_named
        (log_failures r after.volume on.group.config on.group.good run.numbers run.of run.placed some_pieces is.among.follows (log_rises r.volume after.volume goes.together.stays is.among.follows rose)) in
        let up = plex_fails f.plex f.failed in
        let one = in_any failed (devices_on on.group f.plex) up.0 (is_in (devices_on on.group f.plex) up.0 up.1) (is_failed up.0 up.2) in
        let yes = in_any log_plex_failed on.group.config.plexes f.plex (is_in on.group.config.plexes f.plex f.there) (and_from _ _ f.log_is one) in
        (let no : true ≡ false = sym yes ∙ e in cc)

    -- ---- the volume that it becomes

    -- as devices that have failed leave it
    record IsBase : Type 0 where
      which : Word → Bool
      true_of : (device : Word) → which device ≡ true → FailsAt m.counts counts device
      runs : RunsAfter run.plexes was on.volume becomes (volume_failed owners which on.volume)
      exact : LogIsSpared on.group name (volume_failed owners which on.volume).failed → IsExactVolume becomes

    -- where no device of the log has failed, the log stays exact
    exact_copied : on.volume.sound ≡ true → LogIsSpared on.group name (volume_failed owners failed on.volume).failed → IsExactVolume becomes
    exact_copied sound spared =
        exact_still (at shelf h) (at shelf mid) hs name r after m on goes.together.stays is.among.follows some_pieces (volume_failed owners failed on.volume).failed
        (λ device up. or_from_left (failed device) (on.volume.failed device) (is_failed device up)) spared
        sound (λ device was_failed. or_from_right (failed device) (on.volume.failed device) was_failed)
        (copying_exact mask was becomes is.result is.among.copied run.placed.runs.whole is.among.whole run.plexes on.volume (run.runs_as sound))

    base : on.volume.sound ≡ true → IsBase
    base sound = by (copies_run_on law mask was becomes run.placed.runs.whole run.plexes on.volume (run.runs_as sound) owners failed fit are_told is.result is.among.copied)
      where
        by : (becomes ≡ was) ⊎ RunsAfter run.plexes was on.volume becomes (volume_failed owners failed on.volume) → IsBase
        by (inl same) = record {
          which = λ d. false;
          true_of = λ d e. absurd (let none : false ≡ true = e in cc);
          runs = subst (RunsAfter run.plexes was on.volume becomes) (sym (none_failed owners on.volume))
              (subst (λ (y : VolumeSeen). RunsAsVolume run.plexes y on.volume) (sym same) (run.runs_as sound), λ sure. subst (λ (y : VolumeSeen). IsSureOfOthers run.plexes y on.volume) (sym same) sure);
          exact = λ spared. subst IsExactVolume (sym same) (run.exact sound spared);
        }
        by (inr runs) = record { which = failed; true_of = have_failed; runs = runs; exact = exact_copied sound }

    -- the plexes that were copied to have maps of the mask, and are on
    on_in : AreOnIn mask becomes run.plexes (is_copied before v)
    on_in p one to =
        let o = run.placed.runs.opening in
        let was_plex = opened_plex o run.plexes run.plexes_then p one in
        let q = plex_now o.config o.good o.vol o.fresh on.group.config on.group.good run.of run.placed.runs.keeps was_plex.plex was_plex.there was_plex.data_is in
        let name_is : q.plex.name ≡ p.name = q.keeps.name ∙ was_plex.name_is in
        let map_is : map_or_zero q.plex.map ≡ p.map = q.keeps.map ∙ was_plex.map_is in
        let here = subst (λ (x : Group). IsIn x.config.plexes q.plex) group_same q.there in
        let data_is = subst (λ n. is_data_plex_of n q.plex ≡ true) of_named q.data_is in
        let c = on_copied q.plex here data_is (subst (λ n. is_copied before v n ≡ true) (sym name_is) to) in
        record {
          low = subst (λ k. k < 64) map_is c.low;
          in_mask = subst (λ k. has mask k ≡ true) map_is c.in_mask;
          on = λ i lt. ap (λ n. has n p.map) ((goes.lies run.numbers r.form run.placed.runs.lies).lies.masks i lt).on ∙ subst (λ k. has r.form.shape.on k ≡ true) map_is c.on;
        }

    -- the volume that it becomes, by how the start ends, and the moment in which it is
    record Comes (end : End) : Type 0 where
      later : Volume
      which : Word → Bool
      true_of : (device : Word) → which device ≡ true → FailsAt m.counts counts device
      makes : BecomesBy on.volume.sound before on.group v which m.counts counts end on.volume later
      next : (n : Moment) × IsNext see (at shelf mid) on.group name later m n

    unknown_comes : on.volume.sound ≡ false → (end : End) → Comes end
    unknown_comes unknown end = record {
      later = on.volume;
      which = λ d. false;
      true_of = λ d e. absurd (let none : false ≡ true = e in cc);
      makes = subst (λ b. BecomesBy b before on.group v (λ d. false) m.counts counts end on.volume on.volume) (sym unknown) refl;
      next = on.next on.volume (record { lies = refl; length_is = refl; region_is = refl }) (λ sound. absurd (let none : true ≡ false = sym sound ∙ unknown in cc)) (λ sound. absurd (let none : true ≡ false = sym sound ∙ unknown in cc))
          (λ sound. absurd (let none : true ≡ false = sym sound ∙ unknown in cc));
    }

    module _ (sound : on.volume.sound ≡ true) where
      b : IsBase
      b = base sound

      -- as devices have left it
      left_comes : (end : End) → CopiesTo before on.group v b.which m.counts counts end on.volume (volume_failed owners b.which on.volume) → Comes end
      left_comes end makes = record {
        later = volume_failed owners b.which on.volume;
        which = b.which;
        true_of = b.true_of;
        makes = subst (λ x. BecomesBy x before on.group v b.which m.counts counts end on.volume (volume_failed owners b.which on.volume)) (sym sound) makes;
        next = on.next (volume_failed owners b.which on.volume) (record { lies = refl; length_is = refl; region_is = refl }) (λ s. b.runs.0) (λ s. b.runs.1 (run.sure sound)) (λ s. b.exact);
      }

      done_comes : (n : ℕ) → is.result ≡ Ok n → Comes (ends.Done (Some n) [] [])
      done_comes n done = by (is_new v.state) refl (list_any log_plex_failed on.group.config.plexes) refl
        where
          left : Volume
          left = volume_failed owners b.which on.volume

          by : (new : Bool) → is_new v.state ≡ new → (log : Bool) → list_any log_plex_failed on.group.config.plexes ≡ log → Comes (ends.Done (Some n) [] [])
          by false old log e = left_comes (ends.Done (Some n) [] []) (inl (sym (no_more (is_copied before v) (none_copied before v old) (volume_failed owners b.which on.volume))))
          by true new true e = left_comes (ends.Done (Some n) [] []) (inr (log_failed e, refl))
          by true new false e =
              let like = copy_misses_nothing mask n was becomes (subst (AreCopied {T = ℕ} mask was becomes) done is.among.copied) run.placed.runs.whole is.among.whole (run.runs_as sound).told (log_is_well e) (tight new)
              run.plexes (volume_failed owners b.which on.volume) b.runs.0 (is_copied before v) on_in in
              record {
                later = volume_copied (is_copied before v) (volume_failed owners b.which on.volume);
                which = b.which;
                true_of = b.true_of;
                makes = subst (λ x. BecomesBy x before on.group v b.which m.counts counts (ends.Done (Some n) [] []) on.volume (volume_copied (is_copied before v) (volume_failed owners b.which on.volume))) (sym sound) (inl refl);
                next = on.next (volume_copied (is_copied before v) (volume_failed owners b.which on.volume)) (record { lies = refl; length_is = refl; region_is = refl }) (λ s. like.runs) (λ s. like.sure (b.runs.1 (run.sure sound))) (λ s. b.exact);
              }

      known_comes : (result : Result ℕ IoFault) → is.result ≡ result → (end : End) → IsToldAs result end → Comes end
      known_comes (Ok n) done end told = subst Comes (sym told) (done_comes n done)
      known_comes (Err (Fault place)) done end (d, told) = subst Comes (sym told) (left_comes (ends.Fault d.disk.name d.disk.device []) refl)
      known_comes (Err PowerLost) done end told = subst Comes (sym told) (left_comes (ends.Lost []) refl)
      known_comes (Err Range) done end told = absurd told

    comes : Comes ended.0
    comes = by on.volume.sound refl
      where
        by : (x : Bool) → on.volume.sound ≡ x → Comes ended.0
        by true e = known_comes e is.result refl ended.0 ended.2
        by false e = unknown_comes e ended.0

    -- ---- why it ends so

    ends_by : (result : Result ℕ IoFault) → is.result ≡ result → RestHasReason see result r.volume after.volume → (end : End) → IsToldAs result end → CopyEnds before on.group v m.counts counts end
    ends_by (Ok n) done why end told = subst (CopyEnds before on.group v m.counts counts) (sym told) (ap (λ (x : ℕ). Some x) (count n done), refl, refl)
    ends_by (Err (Fault place)) done rose end (d, told) =
        let fails = on.failed d.disk d.there (subst (λ n. Rose (faults_on n held) (faults_on n held')) (sym d.number_is) rose) in
        subst (CopyEnds before on.group v m.counts counts) (sym told) (
          refl,
          record {
            member = member_in d.disk;
            there = on.members d.disk d.there;
            device_is = refl;
            disk_is = refl;
            own = subst (λ n. IsDeviceOfVolume on.group n d.disk.device) (sym named) fails.1;
            failed = fails.0;
          },
        )
    ends_by (Err PowerLost) done why end told =
        subst (CopyEnds before on.group v m.counts counts) (sym told) (refl, subst (λ n. IsCutOff on.group n counts) (sym named) (on.lost (why run.placed.runs.cut)))
    ends_by (Err Range) done why end told = absurd told

    -- the moment in which it was copied to
    pub copied_at : (n : Moment) × IsMoment see (at shelf mid) n × AreLater m.counts n.counts × IsCopied before v m ended.0 n
    copied_at =
        let c = comes in
        let next = c.next.1 in (
          c.next.0,
          next.is,
          next.later,
          record {
            group = on.group;
            here = on.here;
            volume = on.volume;
            was = ap m.world.volumes named ∙ on.there;
            later = c.later;
            failed = c.which;
            have_failed = λ d e. subst (λ x. FailsAt m.counts x d) (sym next.counts) (c.true_of d e);
            becomes = subst (λ x. BecomesBy on.volume.sound before on.group v c.which m.counts x ended.0 on.volume c.later) (sym next.counts) c.makes;
            goes = subst (λ x. VolumeGoes on.group x c.later m c.next.0) (sym named) (record { world = next.world; changes = next.changes; calls = next.calls });
            ends = subst (λ x. CopyEnds before on.group v m.counts x ended.0) (sym next.counts) (ends_by is.result refl reason ended.0 ended.2);
          },
        )
