-- A start whose volume runs, and is copied to.
use Rattle.std.proofs.Common.{◌≡◌, ◌∙◌, inr, ℕ, true, cond, List, map, Option, Some, None, Ok, Err, refl, sym, ap, subst, arith}
use Rattle.std.specs.Prelude.{IfSome, is_some, if◌then◌else◌}
use Rattle.vx_pages.specs.declared.local_piece.LocalPiece.{Ghosts}
use Rattle.vx_base.specs.Named.{Word}
use Rattle.vx_base.proofs.NamedLemmas.{bytes_eq_self}
use Rattle.vx_mask.specs.Mask.{has as has_map}
use Rattle.vx_piece.specs.Seen.{Seen}
use Rattle.vx_copies.specs.Disks.{good_mask}
use Rattle.vx_confdb.specs.Groups.{members}
use Rattle.vx_config_parts.specs.declared.plex.Plex.{Plex}
use Rattle.vx_config_parts.specs.declared.vol.Vol.{Vol}
use Rattle.vx_config_parts.specs.Objects.{is_data_plex_of}
use Rattle.vx_image.proofs.PlexMembers.{IsIn}
use Rattle.vx_objects.specs.declared.config.Config.{Config}
use Rattle.vx_state_edits.specs.Edits.{is_new, start_edits}
use Rattle.vx_image.specs.Bytes.{map_or_zero}
use Rattle.vx_answers.specs.declared.answer.End.{End}
use Rattle.vx_answers.specs.declared.refusal.Refusal.TheVariants as refusal
use Rattle.vx_script_words.specs.declared.value.DiskAt.{DiskAt}
use Rattle.vx_moments.specs.Leaving.{grouped, grouped_by, lone, lone_by}
use Rattle.vx_moments.specs.Moment.{Moment}
use Rattle.vx_moments.specs.World.{Group, Lies, OnDevice, OnPlexes, Volume}
use Rattle.vx_started.specs.declared.started.Started.{Started}
use Rattle.vx_stages.specs.Ends.{IsChange}
use Rattle.vx_stages.specs.Starting.{IsStartedBy, StopsOf, is_copied, regions_copied}
use Rattle.vx_stages.specs.Tests.{fails, state_of, recorded as recorded_in}
use Rattle.vx_stages.specs.declared.stage.Stage.TheVariants as stage
use Rattle.vx_volume.specs.Volume.{volume_seen}
use Rattle.vx_volume_laws.specs.RunLaws.{EachCopyRunsOn}
use Rattle.vx_lending.specs.declared.public.Running.{Running}
use Rattle.vx_lending.specs.Public.{running_at}
use Rattle.vx_group_start.specs.Copying.{missed_regions}
use Rattle.vx_group_start.specs.Fresh.{is_fresh, maps_to_copy}
use Rattle.vx_group_start.specs.Laws.{EachFreshRegionIsMissed}
use Rattle.vx_group_volumes.specs.Copies.{AreTight}
use Rattle.vx_house.specs.Goes.{IsReady, StageGoes}
use Rattle.vx_house.specs.Holders.{volume_at}
use Rattle.vx_house.specs.Plain.{told_volume}
use Rattle.vx_house.specs.Runs.{IsAtRun, fronts_in, run_in}
use Rattle.vx_house.specs.Scene.{FaultsGoOn, Shelved}
use Rattle.vx_house.specs.View.{IsAtVolume, IsGroupKept, IsMoment, Keeps, at, group_of, member_of, scene}
use Rattle.vx_house.specs.declared.house.House.{House}
use Rattle.vx_house.specs.declared.house.Imported.{Imported}
use Rattle.vx_house.specs.declared.stop.Stop.{Stop}
use Rattle.vx_house.specs.declared.stop.Stop.TheVariants as stops
use Rattle.vx_house.proofs.Moments.{faults_trans, later_trans}
use Rattle.vx_house.proofs.Takes.{blamed_later}
use Rattle.vx_house_calls.specs.Passes.{with_group}
use Rattle.vx_stage_volumes.specs.Recording.{IsResynchronised, maps_copied}
use Rattle.vx_stage_volumes.specs.Starting.{EndsRunning}
use Rattle.vx_stage_volumes.proofs.AtOnce.{new_is_fresh}
use Rattle.vx_stage_volumes.proofs.Begun.{HaveBegunLaws, IsBegunAt, begun_at, faults3, g3, h3, keeps3, none_loose, to_copy}
use Rattle.vx_stage_volumes.proofs.FreshCount.{copied_by, count_is}
use Rattle.vx_stage_volumes.proofs.HeldStart.{world_of}
use Rattle.vx_stage_volumes.proofs.Prepared.{IsOpenable, mid_world, of_v, untested, v_name}
use Rattle.vx_stage_volumes.proofs.Resync.{IsToCopy, blamed, copied_at, ended, house}
use Rattle.vx_stage_volumes.proofs.StartPrepared.{HaveEditLaws, start_openable}
use Rattle.vx_stage_volumes.proofs.StartStages.{has_ended, stops_of}

-- ---- nothing of the name is started

no_lone : (o : Option Volume) → lone o ≡ None → grouped o ≡ None → o ≡ None
no_lone None a b = refl
no_lone (Some w) a b = by w.lies refl a b
  where
    by : (l : Lies) → w.lies ≡ l → lone (Some w) ≡ None → grouped (Some w) ≡ None → Some w ≡ None
    by (OnDevice device) e a b = absurd (let both : Some w ≡ None = sym (ap (λ l. lone_by l w) e) ∙ a in cc)
    by (OnPlexes plexes) e a b = absurd (let both : Some w ≡ None = sym (ap (λ l. grouped_by l w) e) ∙ b in cc)

some_one : {X : Type 0} (x y : X) → Some x ≡ Some y → x ≡ y
some_one x y e = cc

module _ {P : Type 0} {ghosts : Ghosts P} (alike : (p q : P) → is_some (ghosts.seen p).told ≡ is_some (ghosts.seen q).told) (edits : HaveEditLaws) (laws : HaveBegunLaws ghosts.seen) (copy_law : EachCopyRunsOn) (fresh_law : EachFreshRegionIsMissed) (name : Word) (disks : List DiskAt) (shelf : Shelved) (h : House P ghosts)
    (keeps : Keeps ghosts.seen (at shelf h)) (g : Imported P ghosts) (has : h.group ≡ Some g) (ready : IsReady ghosts.seen (stage.Start name) disks h) where
  abbrev see : P → Seen
  see = ghosts.seen

  -- the test has let it through: nothing of the name is started in the house, ..
  untold : (v : Vol) → recorded_in name (group_of see h.group) ≡ Some v → told_volume (volume_at h name) (run_in h.group name) ≡ None
  unfolding fails
  untold v found = by (told_volume (volume_at h name) (run_in h.group name)) refl
    where
      by : (o : Option Volume) → told_volume (volume_at h name) (run_in h.group name) ≡ o → o ≡ None
      by None e = refl
      by (Some w) e =
          let passed : (if is_some (told_volume (volume_at h name) (run_in h.group name)) then state_of (recorded_in name (group_of see h.group)) else None) ≡ None = ready.wants.0 in
          let here : state_of (recorded_in name (group_of see h.group)) ≡ None = ap (λ o. if is_some o then state_of (recorded_in name (group_of see h.group)) else None) (sym e) ∙ passed in
          let state : Some (refusal.VolState v.state) ≡ None = ap state_of (sym found) ∙ here in
          absurd (let no : Some (refusal.VolState v.state) ≡ None = state in cc)

  both_none : (o : Option (Started P)) (r : Option (Running P ghosts)) → told_volume o r ≡ None → (o ≡ None) × (r ≡ None)
  both_none None None e = (refl, refl)
  both_none None (Some r) e = absurd (let no : Some _ ≡ None = e in cc)
  both_none (Some b) r e = absurd (let no : Some _ ≡ None = e in cc)

  -- .. and so in the world
  none_in : (v : Vol) → recorded_in name (group_of see h.group) ≡ Some v → (m : Moment) → IsMoment see (at shelf h) m → m.world.volumes name ≡ None
  none_in v found m is =
      let two = both_none (volume_at h name) (run_in h.group name) (untold v found) in
      no_lone (m.world.volumes name)
      (not_lone (lone (m.world.volumes name)) (subst (λ o. IsAtVolume see o (lone (m.world.volumes name))) two.0 (is.volumes_are name)))
      (not_run (grouped (m.world.volumes name)) (subst (λ o. IsAtRun see (fronts_in see h.group) m.world.group name o (grouped (m.world.volumes name))) two.1 (is.runs_are name)))
    where
      not_lone : (o : Option Volume) → IsAtVolume see None o → o ≡ None
      not_lone None there = refl
      not_lone (Some w) there = absurd there

      not_run : (o : Option Volume) → IsAtRun {P = P} {ghosts = ghosts} see (fronts_in see h.group) m.world.group name None o → o ≡ None
      not_run None there = refl
      not_run (Some w) there = absurd there

  module _ (g' : Imported P ghosts) (stop : Stop) (e : EndsRunning see name stop g g') where
    openable : IsOpenable see (start_edits g.config e.volume) name e.volume e.next g e.mid
    openable = start_openable edits (subst (λ o. IfSome o (IsGroupKept see)) has keeps.house.group) e.prepared

    abbrev begun_group : Imported P ghosts
    begun_group = g3 alike laws shelf h keeps has openable e.opens e.records

    abbrev begun_house : House P ghosts
    begun_house = h3 alike laws shelf h keeps has openable e.opens e.records

    keeps_begun : Keeps see (at shelf begun_house)
    keeps_begun = keeps3 alike laws shelf h keeps has openable e.opens e.records

    same_group : e.recorded ≡ begun_group
    same_group =
        ap (λ c. (let x : Imported P ghosts = record { config = c; base = e.recorded.base; public = e.recorded.public } in x)) e.records.config
        ∙ ap (λ p. (let x : Imported P ghosts = record { config = e.next.config; base = e.recorded.base; public = p } in x)) e.records.same

    copying : IsResynchronised see name (is_fresh e.volume.state) stop begun_group g'
    copying = subst (λ x. IsResynchronised see name (is_fresh e.volume.state) stop x g') same_group e.copied

    -- what was copied to is the volume that was opened
    same_run : copying.among.before ≡ e.running
    same_run = some_one copying.among.before e.running (sym copying.among.was ∙ (e.records.puts name ∙ ap (λ b. cond b (Some e.running) (running_at e.opened.public name)) (bytes_eq_self name)))

    abbrev gm : Group
    gm = world_of see e.mid

    abbrev gn : Group
    gn = record { config = e.next.config; good = good_mask (members see e.recorded.base); members = map member_of e.recorded.base.disks.items; sequence = e.recorded.base.sequence }

    named : e.volume.name ≡ name
    named = v_name openable

    found : recorded_in name (group_of see h.group) ≡ Some e.volume
    found = ap (λ o. recorded_in name (group_of see o)) has ∙ e.prepared.found

    counted : (n : ℕ) → copying.result ≡ Ok n → n ≡ regions_copied gm e.volume
    counted n done =
        copying.among.count n done
        ∙ ap (λ (r : Running P ghosts). missed_regions (maps_copied (is_fresh e.volume.state) r) (volume_seen see r.volume)) same_run
        ∙ count_is fresh_law gm e.volume (of_v openable) e.opens.numbers e.mid.public e.opened.public e.running e.opens.form e.opens.started

    chosen : (q : Plex) → IsIn gn.config.plexes q → is_data_plex_of e.volume.name q ≡ true → is_copied gm e.volume q.name ≡ true → IsToCopy (maps_copied (is_fresh e.volume.state) copying.among.before) copying.among.before q
    chosen q there data_is is =
        let p = to_copy alike laws shelf h keeps has openable e.opens e.records q there is in
        let c = copied_by fresh_law gm e.volume (of_v openable) e.opens.numbers e.mid.public e.opened.public e.running e.opens.form e.opens.started p.0 p.1 p.2 in
        let small = c.low in
        let same = p.3 in
        let fresh : is_fresh e.volume.state ≡ true = sym (new_is_fresh e.volume.state) ∙ c.never in
        subst (λ (r : Running P ghosts). IsToCopy (maps_copied (is_fresh e.volume.state) r) r q) (sym same_run) (record {
          low = omega (arith, small, same);
          in_mask = ap (λ b. has_map (if b then maps_to_copy e.running.form.shape else 0) (map_or_zero q.map)) fresh ∙ ap (has_map (maps_to_copy e.running.form.shape)) same ∙ c.in_mask;
          on = ap (has_map e.running.form.shape.on) same ∙ c.on;
        })

    abbrev last_house : House P ghosts
    last_house = with_group begun_house g'

    keeps_last : Keeps see (at shelf last_house)
    keeps_last = (house alike copy_law shelf begun_house begun_group g' refl name (is_fresh e.volume.state) stop copying keeps_begun).keeps

    faults_begun : FaultsGoOn (scene see (at shelf h)) (scene see (at shelf begun_house))
    faults_begun = faults3 alike laws shelf h keeps has openable e.opens e.records

    faults_last : FaultsGoOn (scene see (at shelf begun_house)) (scene see (at shelf last_house))
    faults_last = (house alike copy_law shelf begun_house begun_group g' refl name (is_fresh e.volume.state) stop copying keeps_begun).faults

    abbrev end : End
    end = (ended alike copy_law shelf begun_house begun_group g' refl name (is_fresh e.volume.state) stop copying keeps_begun).0

    stop_is : stop ≡ stops.Ended end
    stop_is = (ended alike copy_law shelf begun_house begun_group g' refl name (is_fresh e.volume.state) stop copying keeps_begun).1

    -- a start has recorded it
    started_by : (m : Moment) → (b : IsBegunAt see shelf begun_house (start_edits g.config e.volume) gm gn e.volume m) → IsStartedBy gm e.volume m b.then
    started_by m b = record {
      untested = untested openable;
      free = b.free;
      opened = b.opened;
      touched = b.touched;
      first = b.first;
      writing = b.writing;
      change = subst (λ (c : Config). IsChange (start_edits c e.volume) b.opened.world b.writing) (sym e.prepared.parts.config) b.change;
      recorded = b.recorded;
      committed = b.committed;
      rest = b.rest;
      begins = b.begins;
    }

    goes : StageGoes {T = Unit {0}} see (stage.Start name) disks (Err (stops.Ended end)) (at shelf h) (at shelf last_house)
    goes = has_ended see name disks end (at shelf h) (at shelf last_house) keeps_last
        (λ m is.
        let none = none_in e.volume found m is in
        let b : IsBegunAt see shelf begun_house (start_edits g.config e.volume) gm gn e.volume m =
        begun_at alike laws shelf h keeps has openable e.opens e.records m is none in
        let loose : is_new e.volume.state ≡ true → AreTight (volume_seen see copying.among.before.volume) =
        λ never. subst (λ (r : Running P ghosts). AreTight (volume_seen see r.volume)) (sym same_run)
        (none_loose alike laws shelf h keeps has openable e.opens e.records m is none never) in
        let c = copied_at alike copy_law shelf begun_house begun_group g' refl name (is_fresh e.volume.state) stop copying keeps_begun gm e.volume named (sym (new_is_fresh e.volume.state)) gn b.then b.is b.group b.volume b.there b.lies loose counted chosen in (
          c.0,
          c.1,
          later_trans m.counts b.then.counts c.0.counts b.later c.2,
          stops_of see name disks shelf h keeps g has e.volume e.prepared.found e.prepared.planned.may m c.0 end is
              (subst (λ (w : Group). StopsOf w e.volume m end c.0) (mid_world openable)
              (inr (inr (inr (record { begun = b.then; started = started_by m b; rest = c.2; copied = c.3 }))))),
        ))
        (faults_trans (scene see (at shelf h)) (scene see (at shelf begun_house)) (scene see (at shelf last_house)) faults_begun faults_last)
        (blamed_later end (scene see (at shelf h)) (scene see (at shelf begun_house)) (scene see (at shelf last_house)) faults_begun
        (blamed alike copy_law shelf begun_house begun_group g' refl name (is_fresh e.volume.state) stop copying keeps_begun))

    pub running_goes : StageGoes {T = Unit {0}} see (stage.Start name) disks (Err stop) (at shelf h) (at shelf (record h { group = Some g' }))
    running_goes = subst (λ s. StageGoes {T = Unit {0}} see (stage.Start name) disks (Err s) (at shelf h) (at shelf last_house)) (sym stop_is) goes
