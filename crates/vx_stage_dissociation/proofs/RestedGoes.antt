-- A data plex that leaves a running volume, which comes to rest before: however that ended on the group, it goes so in the house.
use Rattle.std.proofs.Common.{◌≡◌, ◌∙◌, Bool, true, false, List, Option, Some, Result, Ok, Err, refl, sym, ap, subst, inl, inr}
use Rattle.std.specs.Prelude.{◌⊎◌, IfSome, MatchOption, is_some}
use Rattle.vx_piece.specs.Seen.{AreCounts, EndsThere, Seen}
use Rattle.vx_pages.specs.declared.local_piece.LocalPiece.{Ghosts}
use Rattle.vx_copies.specs.Disks.{DiskSeen}
use Rattle.vx_copies.specs.declared.disk.Disk.{Disk}
use Rattle.vx_confdb.specs.Groups.{members}
use Rattle.vx_config_parts.specs.declared.plex.Plex.{Plex}
use Rattle.vx_config_parts.specs.declared.vol.Vol.{Vol}
use Rattle.vx_objects.specs.declared.config.Config.{Config}
use Rattle.vx_objects.specs.declared.edit.Edit.{Edit}
use Rattle.vx_answers.specs.declared.answer.End.{End}
use Rattle.vx_answers.specs.declared.answer.End.TheVariants as ends
use Rattle.vx_answers.specs.declared.refusal.Refusal.TheVariants as refusal
use Rattle.vx_state_edits.specs.Edits.{is_new}
use Rattle.vx_image.specs.Bytes.{map_or_zero}
use Rattle.vx_image.specs.UsedPlexes.{IsVolOf}
use Rattle.vx_group_edits.specs.OfVolume.{AreEditsOf}
use Rattle.vx_moments.specs.Leaving.{grouped}
use Rattle.vx_moments.specs.Moment.{AreLater, Moment}
use Rattle.vx_moments.specs.World.{Group, Volume}
use Rattle.vx_lending.specs.Public.{running_at}
use Rattle.vx_lending.specs.declared.public.Running.{Running}
use Rattle.vx_volume.specs.declared.fault.IoFault.{IoFault}
use Rattle.vx_volume.specs.declared.fault.IoFault.TheVariants.{Fault, PowerLost, Range}
use Rattle.vx_volume.specs.Switching.{CanSpare, Needs}
use Rattle.vx_volume.specs.Volume.{volume_seen}
use Rattle.vx_volume_laws.specs.Leaving.{EachLeavingStands, EachStopStands}
use Rattle.vx_change_laws.specs.Parting.{EachPartingRunsOn}
use Rattle.vx_joined_volumes.specs.Parted.{TakesOut}
use Rattle.vx_joined_volumes.proofs.PartEdits.{each_leaving_own}
use Rattle.vx_stages.specs.Attached.{IsReadWithin}
use Rattle.vx_stages.specs.Detached.{CanBeSpared}
use Rattle.vx_stages.specs.Ends.{refused}
use Rattle.vx_stages.specs.Recorded.{IsSoundAs}
use Rattle.vx_stages.specs.Stopping.{rested_volume, runs_on_plexes}
use Rattle.vx_stages.specs.Tests.{is_data}
use Rattle.vx_house.specs.Scene.{FaultsGoOn, Shelved}
use Rattle.vx_house.specs.View.{IsGroupKept, IsMoment, IsMomentButGroup, Keeps, at, scene}
use Rattle.vx_house.specs.declared.house.House.{House}
use Rattle.vx_house.specs.declared.house.Imported.{Imported}
use Rattle.vx_house.specs.declared.stop.Stop.{Stop}
use Rattle.vx_house.specs.declared.stop.Stop.TheVariants as stops
use Rattle.vx_house.proofs.Ends.{keeps_but_group, moment_but_group}
use Rattle.vx_house.proofs.Moments.{faults_trans, later_trans}
use Rattle.vx_house_calls.specs.Passes.{with_group}
use Rattle.vx_house_calls.proofs.Moments.{grouped_lies}
use Rattle.vx_stage_changes.specs.declared.planning.NextConfig.{NextConfig}
use Rattle.vx_stage_volumes.specs.Resting.{IsFaultTold, MayRest}
use Rattle.vx_stage_volumes.proofs.Held.{HoldsAlike, holds_alike}
use Rattle.vx_stage_volumes.proofs.Steps.{may_rest}
use Rattle.vx_stage_mirrors.specs.Detaching.{EndsNeeded, EndsUnrested}
use Rattle.vx_stage_mirrors.specs.Ending.{seen_group}
use Rattle.vx_stage_mirrors.specs.LogMoments.{EachFailedRecordStops, IsRecordOf, RecordStops}
use Rattle.vx_stage_mirrors.specs.MarkingLaws.{IsMarkedAt}
use Rattle.vx_stage_mirrors.specs.Relogging.{RecordEnds}
use Rattle.vx_stage_mirrors.specs.Settling.{SettlesIn}
use Rattle.vx_stage_mirrors.proofs.LogGoing.{here, runs_same, some_one}
use Rattle.vx_stage_mirrors.proofs.MarkingMoments.{PassFacts, pass_blamed, pass_house, pass_stops, rested_at}
use Rattle.vx_stage_mirrors.proofs.RelogWhole.{committed_by}
use Rattle.vx_stage_mirrors.proofs.SettlingFacts.{is_settled, is_tight, settle_facts, settle_reason, settled_there, was_whole}
use Rattle.vx_stage_mirrors.proofs.Settlings.{FirmLaws}
use Rattle.vx_stage_mirrors.proofs.SparedPlexes.{is_needed, is_spared}
use Rattle.vx_stage_dissociation.specs.Going.{GoesAs, WayWants}
use Rattle.vx_stages.specs.Leaving.{FromRest, leaving_edits, way_of}
use Rattle.vx_stages.specs.Left.{GoesOnWithout, LeavesVolume, StaysKnown, StaysSound, VolumeStops}
use Rattle.vx_stage_dissociation.specs.Planned.{IsLeavingPlanned}
use Rattle.vx_stage_dissociation.specs.Rested.{EndsRested, EndsSpared, LeaveEnds, LeavesIn, RestedEnds}
use Rattle.vx_stage_dissociation.specs.Taking.{TakesIn}
use Rattle.vx_stage_dissociation.proofs.ByWays.{leaves_so, stops_so}
use Rattle.vx_stage_dissociation.proofs.Going.{has_done, has_ended, has_wanted}
use Rattle.vx_stage_dissociation.proofs.LeaveFacts.{edits_same, takes_out, vol_runs, vol_there}
use Rattle.vx_stage_dissociation.proofs.PartGroup.{faults_parted, keeps_parted}
use Rattle.vx_stage_dissociation.proofs.PartMoments.{parted_at}
use Rattle.vx_stage_dissociation.proofs.PartSound.{sound_without}
use Rattle.vx_stage_dissociation.proofs.PartWhole.{IsLossOf, IsParting, IsReadyToLeave}

-- What the laws of the steps promise.
pub record RestLaws {P : Type 0} (ghosts : Ghosts P) : Type 0 where
  pub firm : FirmLaws
  pub stops : (h : House P ghosts) (old new : Imported P ghosts) → EachFailedRecordStops ghosts.seen h old new
  pub parting : EachPartingRunsOn
  pub leaving : EachLeavingStands
  pub stop : EachStopStands
  pub ends : (p : P) → EndsThere (ghosts.seen p)
  pub counts : (p : P) → AreCounts (ghosts.seen p)

untold : {P : Type 0} (see : P → Seen) (ds : List (Disk P)) (fault : IoFault) → IsFaultTold see ds fault stops.OutOfMemory → ⊥
untold see ds (Fault place) (told, device, same, any) = cc
untold see ds PowerLost same = cc
untold see ds Range never = never

module _ {P : Type 0} {ghosts : Ghosts P} (alike : (p q : P) → is_some (ghosts.seen p).told ≡ is_some (ghosts.seen q).told) (laws : RestLaws ghosts) (shelf : Shelved) (h : House P ghosts) (keeps : Keeps ghosts.seen (at shelf h))
    (g : Imported P ghosts) (has_group : h.group ≡ Some g) (v : Vol) (p : Plex) (next : NextConfig) (planned : IsLeavingPlanned ghosts.seen FromRest v p next g) where
  abbrev see : P → Seen
  see = ghosts.seen

  abbrev remove : Bool
  remove = planned.remove

  abbrev gm : Group
  gm = seen_group ghosts.seen g

  abbrev Done : Moment → Moment → Type 0
  Done = LeavesVolume planned.remove (seen_group ghosts.seen g) v p

  abbrev Stops : Moment → End → Moment → Type 0
  Stops = VolumeStops planned.remove (seen_group ghosts.seen g) v p

  abbrev Wants : Moment → Moment → Type 0
  Wants = WayWants FromRest (seen_group ghosts.seen g) v

  abbrev GoesTo : Result (Unit {0}) Stop → House P ghosts → Type 0
  GoesTo result h' = GoesAs ghosts.seen (LeavesVolume planned.remove (seen_group ghosts.seen g) v p) (VolumeStops planned.remove (seen_group ghosts.seen g) v p) (WayWants FromRest (seen_group ghosts.seen g) v) result (at shelf h) (at shelf h')

  kept : IsGroupKept see g
  kept = subst (λ o. IfSome o (IsGroupKept see)) has_group keeps.house.group

  here_is : (m : Moment) → IsMoment see (at shelf h) m → m.world.group ≡ Some gm
  here_is m is = here see shelf h g has_group m is

  way_at : (m : Moment) → IsMoment see (at shelf h) m → way_of (is_data p.kind) (runs_on_plexes m.world v.name) v ≡ FromRest
  way_at m is = ap (λ b. way_of (is_data p.kind) b v) (runs_same see shelf h g has_group v.name m is) ∙ planned.way_is

  of : IsVolOf g.config v
  of = vol_there see FromRest g v p next planned

  takes : TakesOut g.config v p remove next.config
  takes = takes_out see FromRest g v p next planned refl

  may : MayRest see (running_at g.public v.name)
  may = may_rest see g.public v.name kept.whole.volumes (vol_runs see FromRest g v p next planned refl)

  abbrev edits : List Edit
  edits = leaving_edits planned.remove p

  edits_own : AreEditsOf g.config v.name edits
  edits_own = subst (AreEditsOf g.config v.name) (sym (edits_same p remove)) (each_leaving_own g.config v p remove next.config takes)

  -- ---- it could not be brought to rest

  module _ (g1 : Imported P ghosts) (result : Result (Unit {0}) IoFault) (settles : SettlesIn see v.name result g g1) where
    abbrev facts : PassFacts see v.name g g1
    facts = settle_facts alike g g1 v.name result may settles laws.firm

    abbrev h1 : House P ghosts
    h1 = with_group h g1

    keeps1 : Keeps see (at shelf h1)
    keeps1 = (pass_house shelf h g g1 has_group v.name facts keeps).keeps

    faults1 : FaultsGoOn (scene see (at shelf h)) (scene see (at shelf h1))
    faults1 = (pass_house shelf h g g1 has_group v.name facts keeps).faults

    module _ (fault : IoFault) (is_fault : result ≡ Err fault) where
      unsettled_by : (stop : Stop) → IsFaultTold see g.base.disks.items fault stop → GoesTo (Err stop) h1
      unsettled_by stops.OutOfMemory told = absurd (untold see g.base.disks.items fault told)
      unsettled_by (stops.Ended end) told =
          let reason = settle_reason alike g g1 v.name result may settles fault is_fault in
          has_ended see Done Stops Wants (at shelf h) (at shelf h1) end keeps1
          (λ m is. let s = pass_stops shelf h g g1 has_group v.name facts keeps m is fault reason end told in (
            s.0,
            s.1,
            s.2.rest.later,
            stops_so FromRest remove gm v p m (way_at m is) end s.0 (inl s.2),
          ))
          faults1
          (pass_blamed shelf h g g1 has_group v.name facts keeps fault reason end told)

  -- ---- it has come to rest

  module _ (g1 : Imported P ghosts) (settles : SettlesIn see v.name (Ok tt) g g1) where
    abbrev facts2 : PassFacts see v.name g g1
    facts2 = settle_facts alike g g1 v.name (Ok tt) may settles laws.firm

    abbrev hm : House P ghosts
    hm = with_group h g1

    abbrev hs : List DiskSeen
    hs = members see g.base

    abbrev before : Running P ghosts
    before = settles.runs.before

    abbrev after : Running P ghosts
    after = settles.runs.after

    keeps2 : Keeps see (at shelf hm)
    keeps2 = keeps1 g1 (Ok tt) settles

    faults2 : FaultsGoOn (scene see (at shelf h)) (scene see (at shelf hm))
    faults2 = faults1 g1 (Ok tt) settles

    abbrev Rested : Moment → Type 0
    Rested m = IsMarkedAt see shelf hm hs v.name before after m

    at_rest : (m : Moment) → IsMoment see (at shelf h) m → Rested m
    at_rest m is = rested_at shelf h g g1 has_group v.name facts2 keeps m is

    config1 : g1.config ≡ g.config
    config1 = ap (λ (x : Imported P ghosts). x.config) settles.same

    base1 : g1.base ≡ g.base
    base1 = ap (λ (x : Imported P ghosts). x.base) settles.same

    seen1 : seen_group see g1 ≡ gm
    seen1 = ap (λ (x : Imported P ghosts). seen_group see x) settles.same

    there1 : running_at g1.public v.name ≡ Some after
    there1 = settled_there alike g g1 v.name (Ok tt) may settles

    group_same : (m : Moment) (is : IsMoment see (at shelf h) m) (r : Rested m) → gm ≡ r.rest.group
    group_same m is r = some_one gm r.rest.group (sym (here_is m is) ∙ r.rest.here)

    wants_goes : GoesTo (Err stops.OutOfMemory) hm
    wants_goes = has_wanted see Done Stops Wants (at shelf h) (at shelf hm) keeps2 (λ m is. let r = at_rest m is in (r.then, r.is, r.later, inr r.rest)) faults2

    takes_then : (m : Moment) (is : IsMoment see (at shelf h) m) (r : Rested m) → TakesOut r.rest.group.config v p remove next.config
    takes_then m is r = subst (λ (x : Group). TakesOut x.config v p remove next.config) (group_same m is r) takes

    -- ---- some region needs the plex

    needed_goes : Needs (map_or_zero p.map) (volume_seen see after.volume) → GoesTo (Err (stops.Ended (refused (refusal.OnlyPlex p.name)))) hm
    unfolding at_rest
    needed_goes needs = has_ended see Done Stops Wants (at shelf h) (at shelf hm) (refused (refusal.OnlyPlex p.name)) keeps2
        (λ m is.
        let r = at_rest m is in
        let t = takes_then m is r in (
          r.then,
          r.is,
          r.later,
          stops_so FromRest remove gm v p m (way_at m is) (refused (refusal.OnlyPlex p.name)) r.then (inr (inl (record {
            readied = r.rest;
            stays = λ known. is_needed hs r.rest.group v.name after (rested_volume r.rest) r.run known p t.there t.data_is r.rest.plexes r.rest.lies needs;
            end_is = refl;
          }))),
        ))
        faults2 tt

    -- ---- each can spare it

    module _ (spare : CanSpare (map_or_zero p.map) (volume_seen see after.volume)) where
      ready : IsReadyToLeave (map_or_zero p.map) (volume_seen see after.volume)
      ready = record {
        settled = is_settled see g g1 v.name settles laws.firm (was_whole alike g g1 v.name (Ok tt) may settles);
        tight = is_tight see g g1 v.name settles;
        spare = spare;
      }

      record_of : IsRecordOf g1 v.name edits next
      record_of = subst (λ c. IsRecordOf (let x : Imported P ghosts = record { config = c; base = g1.base; public = g1.public } in x) v.name edits next) (sym config1) (record {
        own = edits_own;
        edited = planned.plan.next_is.0;
        printed = planned.plan.next_is.1;
      })

      plan1 : IsLossOf g1 v p remove next
      plan1 = subst (λ c. IsLossOf (let x : Imported P ghosts = record { config = c; base = g1.base; public = g1.public } in x) v p remove next) (sym config1) (record {
        of = of;
        takes = takes;
        printed = planned.plan.next_is.1;
      })

      module _ (m : Moment) (is : IsMoment see (at shelf h) m) (r : Rested m) where
        spared_in : r.rest.volume.sound ≡ true → CanBeSpared r.rest.group v.name r.rest.plexes p (rested_volume r.rest)
        spared_in known = let t = takes_then m is r in is_spared hs r.rest.group v.name after (rested_volume r.rest) r.run known p t.there t.data_is r.rest.plexes r.rest.lies spare

        holds : HoldsAlike see hs r.then.world.devices after
        holds = subst (λ b. HoldsAlike see (members see b) r.then.world.devices after) base1
            (holds_alike see laws.ends laws.counts (at shelf hm) (keeps_but_group see (at shelf hm) keeps2) r.then (moment_but_group see (at shelf hm) r.then r.is) g1 refl v.name after there1)

        both_then : r.rest.volume.sound ≡ true → IsSoundAs r.rest.group next.config v.name r.then.world × IsReadWithin r.rest.group next.config v.name r.then.world r.rest.volume.life.candidates
        both_then known =
            sound_without see laws.leaving laws.stop hs r.rest.group v.name after (rested_volume r.rest) r.run known r.then.world holds.held (record { hold = holds.hold; public = holds.public })
            v (subst (λ (x : Group). IsVolOf x.config v) (group_same m is r) of) refl p remove next.config (takes_then m is r) ready

        known_then : r.rest.volume.sound ≡ true → StaysKnown gm v.name next.config r.then.world r.rest.volume
        known_then known =
            let b = both_then known in
            subst (λ (x : Group). StaysKnown x v.name next.config r.then.world r.rest.volume) (sym (group_same m is r)) (record { sound = b.0; within = b.1 })

        runs_there : grouped (m.world.volumes v.name) ≡ Some r.rest.volume
        runs_there = ap grouped r.rest.there ∙ grouped_lies r.rest.volume r.rest.plexes r.rest.lies

        stays_sound : (config : Config) → config ≡ next.config → StaysSound m.world gm v config r.then.world
        stays_sound config same =
            subst (λ c. StaysSound m.world gm v c r.then.world) (sym same)
            (subst (λ (o : Option Volume). MatchOption o (is_new v.state ≡ false → IsSoundAs gm gm.config v.name m.world → IsSoundAs gm next.config v.name r.then.world) (λ run. run.sound ≡ true → StaysKnown gm v.name next.config r.then.world run)) (sym runs_there) known_then)

      -- it is recorded no more, and the volume runs on without it

      parting : (new : Imported P ghosts) → LeavesIn see v.name (map_or_zero p.map) next g1 new → IsParting shelf hm g1 new v p remove next
      parting new l =
          let is : l.recorded ≡ committed_by g1 next l.recorded.base = λ i. record { config = l.records.config i; base = l.recorded.base; public = l.records.public i } in
          let t : TakesIn see v.name (map_or_zero p.map) (committed_by g1 next l.recorded.base) new = subst (λ (x : Imported P ghosts). TakesIn see v.name (map_or_zero p.map) x new) is l.takes in
          let same : after ≡ t.runs.before = some_one after t.runs.before (sym there1 ∙ t.runs.was) in
          record {
            alike = alike;
            has_group = refl;
            keeps = keeps2;
            plan = plan1;
            base = l.recorded.base;
            finished = l.records.finished;
            leaves = t;
            ready = subst (λ (r : Running P ghosts). IsReadyToLeave (map_or_zero p.map) (volume_seen see r.volume)) same ready;
          }

      left_goes : (new : Imported P ghosts) → LeavesIn see v.name (map_or_zero p.map) next g1 new → GoesTo (Ok tt) (with_group h new)
      unfolding at_rest
      left_goes new l =
          let it = parting new l in
          has_done see Done Stops Wants (at shelf h) (at shelf (with_group h new)) (keeps_parted it)
          (λ m is.
          let r = at_rest m is in
          let x = parted_at laws.parting it r.then r.is in (
            x.then,
            x.is,
            later_trans m.counts r.then.counts x.then.counts r.later x.later,
            leaves_so FromRest remove gm v p m (way_at m is) x.then (record {
              mid = r.then;
              readied = r.rest;
              spared = spared_in m is r;
              writing = x.writing;
              change = x.change;
              sound = stays_sound m is r x.writing.config x.config_is;
              recorded = x.recorded;
              committed = x.committed;
              rest = x.rest;
              goes = subst (λ (w : Group). GoesOnWithout w v.name p x.recorded x.then) seen1 x.goes;
            }),
          ))
          (faults_trans (scene see (at shelf h)) (scene see (at shelf hm)) (scene see (at shelf (with_group h new))) faults2 (faults_parted it))

      -- ---- the commit is not done

      unleft_at : (end : End) (new : Imported P ghosts) (s : RecordStops see shelf hm edits next.config new end) (m : Moment) → IsMoment see (at shelf h) m →
          (k : Moment) × IsMomentButGroup see (at shelf (with_group h new)) k × AreLater m.counts k.counts × VolumeStops planned.remove (seen_group ghosts.seen g) v p m end k
      unfolding at_rest
      unleft_at end new s m is =
          let r = at_rest m is in
          let x = s.moments r.then r.is in (
            x.then,
            x.is,
            later_trans m.counts r.then.counts x.then.counts r.later x.after,
            stops_so FromRest remove gm v p m (way_at m is) end x.then (inr (inr (record {
              mid = r.then;
              readied = r.rest;
              rest = x.after;
              stops = (x.writing, x.change, x.stopped);
              sound = stays_sound m is r x.writing.config x.config_is;
            }))),
          )

      faults_then : (new : Imported P ghosts) → FaultsGoOn (scene see (at shelf hm)) (scene see (at shelf (with_group h new))) → FaultsGoOn (scene see (at shelf h)) (scene see (at shelf (with_group h new)))
      faults_then new f = faults_trans (scene see (at shelf h)) (scene see (at shelf hm)) (scene see (at shelf (with_group h new))) faults2 f

      record_stops : (end : End) (new : Imported P ghosts) → RecordEnds see next (Err (stops.Ended end)) g1 new → RecordStops see shelf hm edits next.config new end
      record_stops end new e = laws.stops hm g1 new shelf v.name edits next refl keeps2 record_of end e

      unrecorded_by : (stop : Stop) (new : Imported P ghosts) → RecordEnds see next (Err stop) g1 new → GoesTo (Err stop) (with_group h new)
      unrecorded_by stops.OutOfMemory new (same, rest) =
          subst (λ (x : Imported P ghosts). GoesTo (Err stops.OutOfMemory) (with_group h x)) (sym (rest ∙ ap (λ b. (let x : Imported P ghosts = record { config = g1.config; base = b; public = g1.public } in x)) same)) wants_goes
      unrecorded_by (stops.Ended ends.GroupLost) new e =
          let s = record_stops ends.GroupLost new e in record { keeps = s.keeps; goes = unleft_at ends.GroupLost new s; faults = faults_then new s.faults; blamed = tt }
      unrecorded_by (stops.Ended (ends.Lost parts)) new e =
          let s = record_stops (ends.Lost parts) new e in record { keeps = s.keeps; goes = unleft_at (ends.Lost parts) new s; faults = faults_then new s.faults; blamed = tt }
      unrecorded_by (stops.Ended (ends.Done copied parts blocks)) new e = absurd e.0
      unrecorded_by (stops.Ended (ends.Refused why)) new e = absurd e.0
      unrecorded_by (stops.Ended (ends.Fault told device parts)) new e = absurd e.0
      unrecorded_by (stops.Ended ends.ShelfFailed) new e = absurd e.0

      spared_by : (result : Result (Unit {0}) Stop) (new : Imported P ghosts) → LeaveEnds see v.name (map_or_zero p.map) next result g1 new → GoesTo result (with_group h new)
      spared_by (Ok u) new e = left_goes new e
      spared_by (Err stop) new e = unrecorded_by stop new e

  -- ---- however it ended

  rested_by : (result : Result (Unit {0}) Stop) (new : Imported P ghosts) → EndsRested see v.name p next result g new → GoesTo result (with_group h new)
  rested_by result new e = by e.ends
    where
      by : EndsNeeded see p.name (map_or_zero p.map) result e.settles.runs.after e.mid new ⊎ EndsSpared see v.name (map_or_zero p.map) next result e.settles.runs.after e.mid new → GoesTo result (with_group h new)
      by (inl n) =
          subst (λ x. GoesTo x (with_group h new)) (sym n.result_is)
          (subst (λ (x : Imported P ghosts). GoesTo (Err (stops.Ended (refused (refusal.OnlyPlex p.name)))) (with_group h x)) (sym n.same) (needed_goes e.mid e.settles n.needs))
      by (inr s) = spared_by e.mid e.settles s.spare result new s.ends

  unrested_by : (result : Result (Unit {0}) Stop) (new : Imported P ghosts) → EndsUnrested see v.name result g new → GoesTo result (with_group h new)
  unrested_by result new e = subst (λ x. GoesTo x (with_group h new)) (sym e.result_is) (unsettled_by new (Err e.ends.fault) e.ends.settles e.ends.fault refl e.stop e.ends.told)

  pub rested_goes : (result : Result (Unit {0}) Stop) (new : Imported P ghosts) → RestedEnds ghosts.seen v.name p next result g new →
      GoesAs ghosts.seen (LeavesVolume planned.remove (seen_group ghosts.seen g) v p) (VolumeStops planned.remove (seen_group ghosts.seen g) v p) (WayWants FromRest (seen_group ghosts.seen g) v) result (at shelf h) (at shelf (with_group h new))
  rested_goes result new (inl e) = unrested_by result new e
  rested_goes result new (inr e) = rested_by result new e
