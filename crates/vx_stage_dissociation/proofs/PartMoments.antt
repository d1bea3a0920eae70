-- The configuration without a plex of a running volume is committed and the plex leaves it, in the moments of a house.
use Rattle.std.proofs.Common.{◌≡◌, ◌≢◌, ◌∙◌, ◌+◌, Bool, true, false, cond, List, [], ◌∷◌, map, Option, Some, None, refl, sym, ap, subst, inl}
use Rattle.std.specs.Prelude.{◌&&◌, ◌||◌, not}
use Rattle.std.specs.List.{list_any}
use Rattle.std.specs.Option.{option_map}
use Rattle.std.specs.Str.{bytes_eq}
use Rattle.std.proofs.lemmas.Bool.{and_parts, false_from_ne_true, false≢true}
use Rattle.vx_base.specs.Named.{Word, put}
use Rattle.vx_base.proofs.NamedLemmas.{bytes_eq_same, bytes_eq_self}
use Rattle.vx_piece.specs.Seen.{Seen}
use Rattle.vx_pages.specs.declared.local_piece.LocalPiece.{Ghosts}
use Rattle.vx_config_parts.specs.declared.plex.Plex.{Plex}
use Rattle.vx_config_parts.specs.declared.plex.PlexKind.{PlexKind}
use Rattle.vx_config_parts.specs.declared.plex.PlexKind.TheVariants.{Data, Log}
use Rattle.vx_config_parts.specs.declared.vol.Vol.{Vol}
use Rattle.vx_config_parts.specs.Objects.{is_data as is_data_kind, refers}
use Rattle.vx_objects.specs.declared.edit.Edit.{Edit}
use Rattle.vx_objects.specs.Applied.{IsEdited}
use Rattle.vx_copies.specs.Disks.{DiskSeen, good_mask}
use Rattle.vx_confdb.specs.Groups.{members}
use Rattle.vx_moments.specs.Owners.{device_at, devices_on}
use Rattle.vx_moments.specs.Commit.{IsCommitted}
use Rattle.vx_moments.specs.Leaving.{grouped, lone}
use Rattle.vx_moments.specs.Moment.{Moment}
use Rattle.vx_moments.specs.World.{Group, OnPlexes, Volume}
use Rattle.vx_stages.specs.Ends.{IsChange}
use Rattle.vx_stages.specs.Tests.{is_data}
use Rattle.vx_lending.specs.Public.{running_at}
use Rattle.vx_lending.specs.declared.public.Running.{Running}
use Rattle.vx_change_laws.specs.Parting.{EachPartingRunsOn, volume_parted}
use Rattle.vx_group_edits.proofs.OfVolume.{own_edit_keeps_others}
use Rattle.vx_group_volumes.specs.Opened.{opened_plexes}
use Rattle.vx_joined_volumes.specs.Parted.{leaving_edit}
use Rattle.vx_joined_volumes.specs.PartLaws.{names_without}
use Rattle.vx_house.specs.Holders.{held_as, holders, volume_at}
use Rattle.vx_house.specs.Runs.{AreRuns, IsAtRun, IsRunOf}
use Rattle.vx_house.specs.Scene.{Shelved}
use Rattle.vx_house.specs.View.{IsAtVolume, IsMoment, IsMomentButGroup, IsMomentIn, at, group_of, member_of}
use Rattle.vx_house.specs.declared.house.House.{House}
use Rattle.vx_house.specs.declared.house.Imported.{Imported}
use Rattle.vx_house.proofs.Ends.{moment_but_group}
use Rattle.vx_house_calls.specs.Passes.{with_group}
use Rattle.vx_house_calls.proofs.Moments.{IsRunThere, grouped_lies, lone_lies, run_there}
use Rattle.vx_stage_changes.proofs.Alone.{IsWrittenIn, alone, committed_alone, low_by, x_alone}
use Rattle.vx_stage_changes.proofs.CommitJoins.{but_group_on, later_on, moment_on}
use Rattle.vx_stage_changes.proofs.Holders.{group_before, same_members}
use Rattle.vx_stage_changes.proofs.Owns.{run_kept}
use Rattle.vx_stage_changes.proofs.Runners.{runs_lost, seen_members}
use Rattle.vx_stage_changes.specs.declared.planning.NextConfig.{NextConfig}
use Rattle.vx_stage_volumes.proofs.Absent.{one_vol}
use Rattle.vx_stage_mirrors.specs.Ending.{seen_group}
use Rattle.vx_stage_mirrors.specs.Joins.{AreNumbersIn, GoesOn as GroupGoesOn}
use Rattle.vx_stage_mirrors.proofs.JoiningMoments.{named_once}
use Rattle.vx_stage_mirrors.proofs.Numbers.{numbers_in}
use Rattle.vx_stage_mirrors.proofs.RelogWhole.{committed_by}
use Rattle.vx_stages.specs.Leaving.{leaving_edits}
use Rattle.vx_stages.specs.Left.{besides, is_log_device, volume_left}
use Rattle.vx_stage_dissociation.specs.PartMoments.{IsPartedAt}
use Rattle.vx_stage_dissociation.proofs.LeaveFacts.{edits_same}
use Rattle.vx_stage_dissociation.proofs.PartGroup.{fewer, group_same, house_is, own, parted_by, scene_parted, slots, still_disks, wd}
use Rattle.vx_stage_dissociation.proofs.PartPlaces.{IsPartedBy}
use Rattle.vx_stage_dissociation.proofs.PartRunOf.{run_parted}
use Rattle.vx_stage_dissociation.proofs.PartWhole.{IsParting, kept}

-- a data plex
data_kind : (k : PlexKind) → is_data_kind k ≡ true → is_data k ≡ true
data_kind Data e = refl
data_kind Log e = absurd (false≢true e)

-- no device more counts as failed once a data plex has left
none_more : (f rest kind : Bool) → kind ≡ true → f ≡ (f || (not kind && rest))
none_more true rest kind e = refl
none_more false rest true e = refl
none_more false rest false e = absurd (false≢true e)

module _ {P : Type 0} {ghosts : Ghosts P} (parting : EachPartingRunsOn) {shelf : Shelved} {h : House P ghosts} {g new : Imported P ghosts} {v : Vol} {p : Plex} {remove : Bool} {next : NextConfig}
    (it : IsParting shelf h g new v p remove next) where
  abbrev see : P → Seen
  see = ghosts.seen

  abbrev r : Running P ghosts
  r = it.leaves.runs.before

  abbrev r' : Running P ghosts
  r' = it.leaves.runs.after

  abbrev hs : List DiskSeen
  hs = members ghosts.seen g.base

  abbrev ns : List DiskSeen
  ns = members ghosts.seen it.base

  -- the group as the world has it, before and afterwards
  abbrev gw : Group
  gw = record { config = g.config; good = good_mask (members ghosts.seen g.base); members = map member_of g.base.disks.items; sequence = g.base.sequence }

  abbrev gn : Group
  gn = record { config = next.config; good = good_mask (members ghosts.seen it.base); members = map member_of it.base.disks.items; sequence = it.base.sequence }

  -- the house whose group is committed, and the house then
  abbrev h2 : House P ghosts
  h2 = with_group h (committed_by g next it.base)

  abbrev h3 : House P ghosts
  h3 = with_group h (record { config = next.config; base = it.base; public = new.public })

  data_is : is_data p.kind ≡ true
  data_is = data_kind p.kind (and_parts (refers p.vol v.name) (is_data_kind p.kind) it.plan.takes.data_is).1

  same_named : map member_of it.base.disks.items ≡ map member_of g.base.disks.items
  same_named = sym (seen_members see it.base.disks.items) ∙ same_members (g.base.sequence + 1) it.base.sequence next.text.items hs ns it.finished.tried.committed.goes ∙ seen_members see g.base.disks.items

  goes_on : GroupGoesOn gw gn
  goes_on = record { fewer = fewer it; devices = λ slot device e. ap (λ ms. device_at ms slot) same_named ∙ e }

  numbers_there : AreNumbersIn (slots it).numbers hs gw
  numbers_there = numbers_in see g.base.disks.items (low_by hs (kept it).carries.alive.ready) (slots it).top (slots it).numbers (slots it).are (λ n. option_map (λ (s : Seen). s.device) (held_as (holders see h) n)) (named_once see shelf h g it.has_group it.keeps) gw refl refl

  module _ (mm : Moment) (is : IsMoment ghosts.seen (at shelf h) mm) where
    -- ---- before

    here : mm.world.group ≡ Some gw
    here = is.group_is ∙ ap (group_of see) it.has_group

    at_run : (x : Word) → IsAtRun see hs (Some gw) x (running_at g.public x) (grouped (mm.world.volumes x))
    at_run = subst (λ o. AreRuns see (Some g) o mm.world.volumes) here (subst (λ o. AreRuns see o mm.world.group mm.world.volumes) it.has_group is.runs_are)

    there : IsRunThere see hs gw v.name r (mm.world.volumes v.name)
    there = run_there see hs gw v.name r (mm.world.volumes v.name) (subst (λ o. IsAtRun see hs (Some gw) v.name o (grouped (mm.world.volumes v.name))) it.leaves.runs.was (at_run v.name))

    abbrev w : Volume
    w = there.volume

    run : IsRunOf see hs gw v.name r w
    run = there.run

    -- ---- the volume that the plex has left

    abbrev names : List Word
    names = opened_plexes run.placed.runs.opening

    abbrev later : Volume
    later = volume_parted (names_without p.name (opened_plexes run.placed.runs.opening)) w

    -- as the world has it
    abbrev left : Volume
    left = volume_left gw v.name p names w

    left_is : later ≡ left
    left_is = λ i. record w { lies = OnPlexes (besides p.name names); failed = λ device. none_more (w.failed device) (list_any w.failed (devices_on gw p) && is_log_device gw v.name device) (is_data p.kind) data_is i }

    one : IsPartedBy see gw.config run.of p remove gn.config r r'
    one = parted_by it run.of (one_vol g.config v run.of it.plan.of run.placed.runs.recorded (sym run.named))

    run_later : IsRunOf see ns gn v.name r' later
    run_later = run_parted see r r' parting hs ns (still_disks it) gw gn goes_on v.name w run (slots it).numbers numbers_there p remove one

    -- ---- the commit

    abbrev written : IsWrittenIn see shelf h g (committed_by g next it.base) next.text.items
    written = wd it

    on_m : IsMomentButGroup see (at shelf h) mm
    on_m = moment_but_group see (at shelf h) mm is

    -- but for the group
    beside : IsMomentButGroup see (at shelf h2) (moment_on (alone written) mm mm.world.group)
    beside = but_group_on (alone written) mm on_m mm.world.group (runs_lost written mm is)

    abbrev recorded : Moment
    recorded = moment_on (alone written) mm (Some gn)

    committed : IsCommitted (x_alone written next.config) mm recorded
    committed = committed_alone written mm on_m it.finished it.plan.printed.0 it.plan.printed.1 (group_same it ∙ sym (kept it).named)

    change : IsChange (leaving_edits remove p) mm.world (x_alone written next.config)
    change = record {
      group = group_before see shelf h g it.has_group mm is;
      edited = subst (λ (es : List Edit). IsEdited es g.config next.config) (sym (edits_same p remove)) it.plan.takes.edited;
      joiners = refl;
      carriers = refl;
    }

    -- ---- a moment of which the volume runs so

    other_run : (x : Word) → x ≢ v.name → (o : Option (Running P ghosts)) (w : Option Volume) → IsAtRun see hs (Some gw) x o w → IsAtRun see ns (Some gn) x o w
    other_run x other None None at_x = tt
    other_run x other None (Some w) at_x = absurd at_x
    other_run x other (Some s) None at_x = absurd at_x
    other_run x other (Some s) (Some w) at_x =
        run_kept see hs ns (still_disks it) gw x s w at_x gn
        (own_edit_keeps_others g.config next.config v.name (leaving_edit remove p ∷ []) (own it) it.plan.takes.edited at_x.of at_x.placed.runs.recorded (λ same. other (sym at_x.named ∙ same)) gw.good gn.good (λ slot e. inl (goes_on.fewer slot e)))
        goes_on.devices

    -- the volumes are those that were, but for the one
    record AreVolumesThen (volumes : Word → Option Volume) : Type 0 where
      own_is : volumes v.name ≡ Some later
      others : (x : Word) → x ≢ v.name → volumes x ≡ mm.world.volumes x

    module _ (volumes : Word → Option Volume) (are : AreVolumesThen volumes) where
      abbrev moment_then : Moment
      moment_then = record { world = record recorded.world { volumes = volumes }; counts = recorded.counts }

      apart : (x : Word) → bytes_eq v.name x ≡ false → x ≢ v.name
      apart x e same = false≢true (sym e ∙ ap (bytes_eq v.name) same ∙ bytes_eq_self v.name)

      alone_still : (x : Word) → lone (volumes x) ≡ lone (mm.world.volumes x)
      alone_still x = by (bytes_eq v.name x) refl
        where
          by : (b : Bool) → bytes_eq v.name x ≡ b → lone (volumes x) ≡ lone (mm.world.volumes x)
          by false e = ap lone (are.others x (apart x e))
          by true e =
              ap (λ n. lone (volumes n)) (sym (bytes_eq_same v.name x e)) ∙ ap lone are.own_is ∙ lone_lies later (names_without p.name names) refl
              ∙ sym (lone_lies w (opened_plexes run.placed.runs.opening) run.lies) ∙ ap lone (sym there.there) ∙ ap (λ n. lone (mm.world.volumes n)) (bytes_eq_same v.name x e)

      runs_now : (x : Word) → IsAtRun see ns (Some gn) x (running_at new.public x) (grouped (volumes x))
      runs_now x = subst (λ o. IsAtRun see ns (Some gn) x o (grouped (volumes x))) (sym (it.leaves.runs.puts x)) (by (bytes_eq v.name x) refl)
        where
          by : (b : Bool) → bytes_eq v.name x ≡ b → IsAtRun see ns (Some gn) x (cond b (Some r') (running_at g.public x)) (grouped (volumes x))
          by false e =
              subst (λ o. IsAtRun see ns (Some gn) x (running_at g.public x) (grouped o)) (sym (are.others x (apart x e)))
              (other_run x (apart x e) (running_at g.public x) (grouped (mm.world.volumes x)) (at_run x))
          by true e =
              subst (λ n. IsAtRun see ns (Some gn) n (Some r') (grouped (volumes n))) (bytes_eq_same v.name x e)
              (subst (λ o. IsAtRun see ns (Some gn) v.name (Some r') (grouped o)) (sym are.own_is)
              (subst (IsAtRun see ns (Some gn) v.name (Some r')) (sym (grouped_lies later (names_without p.name names) refl)) run_later))

      is_then : IsMoment see (at shelf (with_group h new)) moment_then
      is_then = subst (λ x. IsMoment see (at shelf x) moment_then) (sym (house_is it))
          (subst (λ s. IsMomentIn see s h3 moment_then) (sym (scene_parted it)) (record {
            told = beside.told;
            devices_are = beside.devices_are;
            volumes_are = λ vol. subst (IsAtVolume see (volume_at h vol)) (sym (alone_still vol)) (beside.volumes_are vol);
            runs_are = runs_now;
            group_is = refl;
            counts = beside.counts;
          }))

    -- ---- the moment

    apart_by : (x : Word) → x ≢ v.name → bytes_eq v.name x ≡ false
    apart_by x other = false_from_ne_true (bytes_eq v.name x) (λ e. other (sym (bytes_eq_same v.name x e)))

    volumes_then : Word → Option Volume
    volumes_then = put v.name (Some left) mm.world.volumes

    are_then : AreVolumesThen volumes_then
    unfolding volumes_then
    are_then = record {
      own_is = ap (λ b. cond b (Some left) (mm.world.volumes v.name)) (bytes_eq_self v.name) ∙ ap (λ (x : Volume). Some x) (sym left_is);
      others = λ x other. ap (λ b. cond b (Some left) (mm.world.volumes x)) (apart_by x other);
    }

    pub parted_at : IsPartedAt ghosts.seen shelf (with_group h new) (seen_group ghosts.seen g) v p remove next.config mm
    unfolding volumes_then
    parted_at = record {
      recorded = recorded;
      writing = x_alone written next.config;
      config_is = refl;
      change = change;
      committed = committed;
      rest = later_on (alone written) mm on_m (Some gn);
      then = record { world = record recorded.world { volumes = volumes_then }; counts = recorded.counts };
      is = is_then volumes_then are_then;
      later = later_on (alone written) mm on_m (Some gn);
      goes = record { volume = w; was = there.there; plexes = names; lies = run.lies; world = refl; counts = refl };
    }
