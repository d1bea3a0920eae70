-- A plex joins a running volume in the moments of a house: the commit, and then the volume that the plex has joined.
use Rattle.std.proofs.Common.{◌≡◌, ◌≢◌, ◌∙◌, ◌+◌, ℕ, Bool, true, false, cond, List, [], ◌∷◌, ◌++◌, map, Option, Some, None, refl, sym, ap, subst, inl}
use Rattle.std.specs.Prelude.{is_some}
use Rattle.std.specs.Option.{option_map}
use Rattle.std.specs.Str.{bytes_eq}
use Rattle.std.proofs.lemmas.Bool.{false≢true}
use Rattle.vx_base.specs.Named.{Word, put}
use Rattle.vx_base.proofs.NamedLemmas.{bytes_eq_same, bytes_eq_self}
use Rattle.vx_piece.specs.Seen.{AreCounts, EndsThere, Seen}
use Rattle.vx_pages.specs.declared.local_piece.LocalPiece.{Ghosts}
use Rattle.vx_layout.specs.declared.layout.Layout.{Layout}
use Rattle.vx_config_parts.specs.declared.plex.Plex.{Plex}
use Rattle.vx_objects.specs.declared.edit.Edit.TheVariants.{Make}
use Rattle.vx_image.specs.UsedPlexes.{held_plexes, used_logs}
use Rattle.vx_copies.specs.Disks.{DiskSeen, good_mask}
use Rattle.vx_copies.specs.Lists.{AllOf}
use Rattle.vx_confdb.specs.Groups.{members}
use Rattle.vx_fronts.specs.Fronts.{Rest, with_device}
use Rattle.vx_fronts.specs.Laws.{whole_disks}
use Rattle.vx_fronts.specs.Parted.{fronts_of}
use Rattle.vx_fronts.specs.Rests.{AllTell, IsTelling}
use Rattle.vx_fronts.proofs.Parted.{all_parts}
use Rattle.vx_moments.specs.Owners.{device_at}
use Rattle.vx_moments.specs.Commit.{IsCommitted}
use Rattle.vx_moments.specs.Leaving.{grouped, lone}
use Rattle.vx_moments.specs.Moment.{Moment}
use Rattle.vx_moments.specs.World.{Group, Volume}
use Rattle.vx_stages.specs.Ends.{IsChange}
use Rattle.vx_volume.specs.Opening.{regions_seen}
use Rattle.vx_lending.specs.Public.{lent_pieces, running_at, still_pieces}
use Rattle.vx_lending.specs.declared.public.Running.{Running}
use Rattle.vx_change_laws.specs.Joining.{volume_joined}
use Rattle.vx_change_laws.specs.Laws.{EachJoiningRunsOn}
use Rattle.vx_group_edits.proofs.OfVolume.{plex_keeps_others}
use Rattle.vx_group_volumes.specs.Opened.{opened_plexes}
use Rattle.vx_joined_volumes.specs.Joined.{opening_joined}
use Rattle.vx_joined_volumes.proofs.Named.{each_volume_named}
use Rattle.vx_house.specs.Holders.{group_holders, group_rests, held_as, hand_holder, holder_in, holders, volume_at, volume_holder, whole_members}
use Rattle.vx_house.specs.Runs.{AreRuns, IsAtRun, IsRunOf}
use Rattle.vx_house.specs.Scene.{Shelved}
use Rattle.vx_house.specs.View.{IsAtVolume, IsGroupKept, IsMoment, IsMomentButGroup, IsMomentIn, Keeps, at, group_of, member_of}
use Rattle.vx_house.specs.declared.house.House.{House}
use Rattle.vx_house.specs.declared.house.Imported.{Imported}
use Rattle.vx_house.proofs.AllLaws.{all_back, all_front, all_unmapped, held_each}
use Rattle.vx_house.proofs.Ends.{keeps_but_group, moment_but_group}
use Rattle.vx_house_calls.specs.Passes.{with_group}
use Rattle.vx_house_calls.proofs.Moments.{IsRunThere, grouped_lies, lone_lies, run_there}
use Rattle.vx_stage_changes.proofs.Alone.{IsWrittenIn, alone, committed_alone, low_by, x_alone}
use Rattle.vx_stage_changes.proofs.Holders.{group_before, same_members}
use Rattle.vx_stage_changes.proofs.CommitJoins.{but_group_on, later_on, moment_on}
use Rattle.vx_stage_changes.proofs.Owns.{run_kept}
use Rattle.vx_stage_changes.proofs.Runners.{runs_lost, seen_members}
use Rattle.vx_stage_changes.specs.declared.planning.NextConfig.{NextConfig}
use Rattle.vx_stage_volumes.proofs.Absent.{one_vol}
use Rattle.vx_stage_volumes.proofs.Held.{tells}
use Rattle.vx_stage_mirrors.specs.Joins.{AreNewIn, AreNumbersIn, GoesOn}
use Rattle.vx_stage_mirrors.specs.Joining.{IsJoinedIn, MayJoin, runs_left}
use Rattle.vx_stage_mirrors.specs.Moments.{EachJoinGoesOn, IsJoinedAt, IsPlannedFor}
use Rattle.vx_stage_mirrors.proofs.JoinedGroup.{faults_joined, fewer, g2, group_same, h2, h3, house_is, joined_by, keeps_joined, kept, put_free, scene_joined, still_disks, wd}
use Rattle.vx_stage_mirrors.proofs.Numbers.{AreNamedOnce, numbers_in}
use Rattle.vx_stage_mirrors.proofs.Parked.{last_told, runs_told}
use Rattle.vx_stage_mirrors.proofs.Runs.{run_joined}

some_one : {X : Type 0} (x y : X) → Some x ≡ Some y → x ≡ y
some_one x y e = cc

-- a disk with its whole device has the number of its device
number_whole : (o : Option Rest) (h : DiskSeen) → (with_device o h).seen.device ≡ h.seen.device
number_whole None h = refl
number_whole (Some r) h = refl

name_whole : (o : Option Rest) (h : DiskSeen) → (with_device o h).device ≡ h.device
name_whole None h = refl
name_whole (Some r) h = refl

-- the number of a device that is held under a name
abbrev number_of : Option Seen → Option ℕ
number_of o = option_map (λ (s : Seen). s.device) o

module _ {P : Type 0} {ghosts : Ghosts P} (see : P → Seen) (shelf : Shelved) (h : House P ghosts) (g : Imported P ghosts) (has_group : h.group ≡ Some g) (keeps : Keeps see (at shelf h)) where
  -- each device of the group is held under its own name
  held_once : AllOf (λ (x : DiskSeen). held_as (holders see h) x.device ≡ Some x.seen) (whole_members see g)
  held_once =
      let vs = map (volume_holder see) h.volumes.entries in
      let ts = map (hand_holder see) h.hand.items in
      let all = holders see h in
      let each = all_front (λ o. held_as all o.name ≡ Some o.seen) (group_holders see h.group) ts (all_back (λ o. held_as all o.name ≡ Some o.seen) vs _ (held_each all keeps.devices.apart)) in
      all_unmapped (λ o. held_as all o.name ≡ Some o.seen) holder_in (whole_members see g) (subst (λ o. AllOf (λ x. held_as all x.name ≡ Some x.seen) (group_holders see o)) has_group each)

  -- so their names have numbers
  pub named_once : AreNamedOnce (λ name. number_of (held_as (holders see h) name)) (members see g.base)
  named_once = each (members see g.base) held_once
    where
      each : (hs : List DiskSeen) → AllOf (λ (x : DiskSeen). held_as (holders see h) x.device ≡ Some x.seen) (whole_disks (group_rests see g) hs) → AreNamedOnce (λ name. number_of (held_as (holders see h) name)) hs
      each [] all = tt
      each (x ∷ hs) all = (
        ap (λ n. number_of (held_as (holders see h) n)) (sym (name_whole (group_rests see g x.seen.device) x)) ∙ ap number_of all.0 ∙ ap (λ (n : ℕ). Some n) (number_whole (group_rests see g x.seen.device) x),
        each hs all.1,
      )

  -- what lies still tells what it holds, at each moment
  pub still_told : ((p : P) → EndsThere (see p)) → ((p : P) → AreCounts (see p)) → (m : Moment) → IsMoment see (at shelf h) m → AllTell (still_pieces see g.public)
  still_told ends counts m is =
      (all_parts IsTelling (still_pieces see g.public) (lent_pieces see g.public)
      (all_parts IsTelling (fronts_of (members see g.base)) (still_pieces see g.public ++ lent_pieces see g.public) (tells see ends counts (at shelf h) (keeps_but_group see (at shelf h) keeps) m (moment_but_group see (at shelf h) m is) g has_group)).1).0

module _ {P : Type 0} {ghosts : Ghosts P} (see : P → Seen) (ends : (p : P) → EndsThere (see p)) (counts : (p : P) → AreCounts (see p)) (on : EachJoiningRunsOn) (alike : (p q : P) → is_some (see p).told ≡ is_some (see q).told)
    (shelf : Shelved) (h : House P ghosts) (g new : Imported P ghosts) (has_group : h.group ≡ Some g) (keeps : Keeps see (at shelf h))
    (name : Word) (m : ℕ) (l : Layout) (next : NextConfig) (room : ℕ) (may : MayJoin see m room g.public.left.items (running_at g.public name)) (plan : IsPlannedFor see g name m l next may.last) (joined : IsJoinedIn see name m l next g new) where
  abbrev r : Running P ghosts
  r = joined.runs.before

  abbrev r' : Running P ghosts
  r' = joined.runs.after

  abbrev hs : List DiskSeen
  hs = members see g.base

  abbrev ns : List DiskSeen
  ns = members see new.base

  -- the group as the world has it, before and afterwards
  abbrev gw : Group
  gw = record { config = g.config; good = good_mask (members see g.base); members = map member_of g.base.disks.items; sequence = g.base.sequence }

  abbrev gn : Group
  gn = record { config = next.config; good = good_mask (members see new.base); members = map member_of new.base.disks.items; sequence = new.base.sequence }

  kept_here : IsGroupKept see g
  kept_here = kept see alike shelf h g new has_group keeps name m l next room may plan joined

  same_named : map member_of new.base.disks.items ≡ map member_of g.base.disks.items
  same_named = sym (seen_members see new.base.disks.items) ∙ same_members (g.base.sequence + 1) new.base.sequence next.text.items hs ns joined.finished.tried.committed.goes ∙ seen_members see g.base.disks.items

  goes_on : GoesOn gw gn
  goes_on = record {
    fewer = fewer see alike shelf h g new has_group keeps name m l next room may plan joined;
    devices = λ slot device e. ap (λ ms. device_at ms slot) same_named ∙ e;
  }

  numbers_there : AreNumbersIn plan.numbers hs gw
  numbers_there = numbers_in see g.base.disks.items (low_by hs kept_here.carries.alive.ready) _ plan.numbers plan.slots (λ n. number_of (held_as (holders see h) n)) (named_once see shelf h g has_group keeps) gw refl refl

  module _ (mm : Moment) (is : IsMoment see (at shelf h) mm) where
    -- ---- before

    here : mm.world.group ≡ Some gw
    here = is.group_is ∙ ap (group_of see) has_group

    at_run : (x : Word) → IsAtRun see hs (Some gw) x (running_at g.public x) (grouped (mm.world.volumes x))
    at_run = subst (λ o. AreRuns see (Some g) o mm.world.volumes) here (subst (λ o. AreRuns see o mm.world.group mm.world.volumes) has_group is.runs_are)

    there : IsRunThere see hs gw name r (mm.world.volumes name)
    there = run_there see hs gw name r (mm.world.volumes name) (subst (λ o. IsAtRun see hs (Some gw) name o (grouped (mm.world.volumes name))) joined.runs.was (at_run name))

    abbrev w : Volume
    w = there.volume

    run : IsRunOf see hs gw name r w
    run = there.run

    same_vol : plan.vol ≡ run.of
    same_vol = one_vol g.config plan.vol run.of plan.of run.placed.runs.recorded (plan.named ∙ sym run.named)

    new_in : AreNewIn see m (runs_left see joined.last) r
    new_in = record {
      free = (put_free see alike shelf h g new has_group keeps name m l next room may plan joined).free;
      told = λ k lt. runs_told (regions_seen see joined.last.regions.items) (last_told see g.public new.public.left.items joined.last joined.left (still_told see shelf h g has_group keeps ends counts mm is)) k;
    }

    -- ---- the volume that the plex has joined

    abbrev data_names : List Word
    data_names = map (λ (q : Plex). q.name) (held_plexes run.placed.runs.opening.config run.placed.runs.opening.good run.placed.runs.opening.vol.name)

    abbrev log_names : List Word
    log_names = map (λ (q : Plex). q.name) (used_logs run.placed.runs.opening.vol.dco run.placed.runs.opening.config run.placed.runs.opening.good run.placed.runs.opening.fresh run.placed.runs.opening.vol.name)

    abbrev lies : List Word
    lies = data_names ++ plan.plex.name ∷ log_names

    abbrev later : Volume
    later = volume_joined lies plan.plex.name w

    lies_are : opened_plexes (opening_joined run.placed.runs.opening next.config gw.good run.of) ≡ lies
    lies_are = (each_volume_named see r g.config gw.good run.numbers run.of run.placed plan.added next.config plan.plex m (joined_by see alike shelf h g new has_group keeps name m l next room may plan joined run.of same_vol).joins).0

    run_later : IsRunOf see ns gn name r' later
    run_later = subst (λ ps. IsRunOf see ns gn name r' (volume_joined ps plan.plex.name w)) lies_are
        (run_joined see r r' on hs ns (still_disks see alike shelf h g new has_group keeps name m l next room may plan joined) gw gn goes_on name w run plan.numbers numbers_there plan.added plan.plex m l (runs_left see joined.last)
        (joined_by see alike shelf h g new has_group keeps name m l next room may plan joined run.of same_vol) new_in)

    -- ---- the commit

    abbrev written : IsWrittenIn see shelf h g (g2 see alike shelf h g new has_group keeps name m l next room may plan joined) next.text.items
    written = wd see alike shelf h g new has_group keeps name m l next room may plan joined

    on_m : IsMomentButGroup see (at shelf h) mm
    on_m = moment_but_group see (at shelf h) mm is

    -- but for the group
    beside : IsMomentButGroup see (at shelf (h2 see alike shelf h g new has_group keeps name m l next room may plan joined)) (moment_on (alone written) mm mm.world.group)
    beside = but_group_on (alone written) mm on_m mm.world.group (runs_lost written mm is)

    abbrev recorded : Moment
    recorded = moment_on (alone written) mm (Some gn)

    committed : IsCommitted (x_alone written next.config) mm recorded
    committed = committed_alone written mm on_m joined.finished plan.printed.0 plan.printed.1 (group_same see alike shelf h g new has_group keeps name m l next room may plan joined ∙ sym kept_here.named)

    change : IsChange (Make plan.added ∷ []) mm.world (x_alone written next.config)
    change = record { group = group_before see shelf h g has_group mm is; edited = plan.joins.edited; joiners = refl; carriers = refl }

    -- ---- the moment

    abbrev volumes_now : Word → Option Volume
    volumes_now = put name (Some later) mm.world.volumes

    abbrev then : Moment
    then = record { world = record recorded.world { volumes = volumes_now }; counts = recorded.counts }

    alone_still : (x : Word) → lone (volumes_now x) ≡ lone (mm.world.volumes x)
    alone_still x = by (bytes_eq name x) refl
      where
        by : (b : Bool) → bytes_eq name x ≡ b → lone (cond b (Some later) (mm.world.volumes x)) ≡ lone (mm.world.volumes x)
        by false e = refl
        by true e = lone_lies later lies refl ∙ sym (lone_lies w (opened_plexes run.placed.runs.opening) run.lies) ∙ ap lone (sym there.there) ∙ ap (λ n. lone (mm.world.volumes n)) (bytes_eq_same name x e)

    other_run : (x : Word) → x ≢ name → (o : Option (Running P ghosts)) (v : Option Volume) → IsAtRun see hs (Some gw) x o v → IsAtRun see ns (Some gn) x o v
    other_run x other None None at_x = tt
    other_run x other None (Some v) at_x = absurd at_x
    other_run x other (Some s) None at_x = absurd at_x
    other_run x other (Some s) (Some v) at_x =
        run_kept see hs ns (still_disks see alike shelf h g new has_group keeps name m l next room may plan joined) gw x s v at_x gn
        (plex_keeps_others g.config next.config plan.vol.name plan.added plan.joins.of plan.joins.edited at_x.of at_x.placed.runs.recorded (λ same. other (sym at_x.named ∙ same ∙ plan.named)) gw.good gn.good (λ slot e. inl (goes_on.fewer slot e)))
        goes_on.devices

    runs_now : (x : Word) → IsAtRun see ns (Some gn) x (running_at new.public x) (grouped (volumes_now x))
    runs_now x = subst (λ o. IsAtRun see ns (Some gn) x o (grouped (volumes_now x))) (sym (joined.runs.puts x)) (by (bytes_eq name x) refl)
      where
        by : (b : Bool) → bytes_eq name x ≡ b → IsAtRun see ns (Some gn) x (cond b (Some r') (running_at g.public x)) (grouped (cond b (Some later) (mm.world.volumes x)))
        by false e = other_run x (λ same. false≢true (sym e ∙ ap (bytes_eq name) same ∙ bytes_eq_self name)) (running_at g.public x) (grouped (mm.world.volumes x)) (at_run x)
        by true e = subst (IsAtRun see ns (Some gn) x (Some r')) (sym (grouped_lies later lies refl)) (subst (λ n. IsRunOf see ns gn n r' later) (bytes_eq_same name x e) run_later)

    is_then : IsMoment see (at shelf (h3 see alike shelf h g new has_group keeps name m l next room may plan joined)) then
    is_then = subst (λ s. IsMomentIn see s (h3 see alike shelf h g new has_group keeps name m l next room may plan joined) then) (sym (scene_joined see alike shelf h g new has_group keeps name m l next room may plan joined)) (record {
      told = beside.told;
      devices_are = beside.devices_are;
      volumes_are = λ vol. subst (IsAtVolume see (volume_at h vol)) (sym (alone_still vol)) (beside.volumes_are vol);
      runs_are = runs_now;
      group_is = refl;
      counts = beside.counts;
    })

    pub joined_at : IsJoinedAt see shelf (with_group h new) ns name plan.added next.config plan.plex.name r' mm
    joined_at = record {
      recorded = recorded;
      writing = x_alone written next.config;
      config_is = refl;
      change = change;
      committed = committed;
      before = w;
      was = there.there;
      data_plexes = data_names;
      logs = log_names;
      lay = run.lies;
      then = then;
      is = subst (λ x. IsMoment see (at shelf x) then) (sym (house_is see alike shelf h g new has_group keeps name m l next room may plan joined)) is_then;
      later = later_on (alone written) mm on_m (Some gn);
      world = refl;
      counts = refl;
      group = gn;
      there = refl;
      run = run_later;
    }

pub join_goes : {P : Type 0} {ghosts : Ghosts P} (see : P → Seen) → ((p : P) → EndsThere (see p)) → ((p : P) → AreCounts (see p)) → EachJoiningRunsOn → (h : House P ghosts) (old new : Imported P ghosts) → EachJoinGoesOn see h old new
join_goes see ends counts on h old new shelf name m l next alike has_group keeps room may plan joined = record {
  keeps = keeps_joined see alike shelf h old new has_group keeps name m l next room may plan joined;
  faults = faults_joined see alike shelf h old new has_group keeps name m l next room may plan joined;
  moments = λ mm is. joined_at see ends counts on alike shelf h old new has_group keeps name m l next room may plan joined mm is;
}
