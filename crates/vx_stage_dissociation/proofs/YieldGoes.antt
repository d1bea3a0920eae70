-- A log plex that leaves a running volume: however that ended on the group, it goes so in the house.
use Rattle.std.proofs.Common.{◌≡◌, ◌≢◌, ◌∙◌, ℕ, ◌<◌, Bool, true, false, List, [], ◌∷◌, length, Option, Some, Result, Ok, Err, refl, sym, ap, subst, inl, inr, arith}
use Rattle.std.specs.BTreeMap.{IsOrdered}
use Rattle.std.specs.Cmp.Lexicographic.{slice_cmp}
use Rattle.std.specs.Ordering.{nat_cmp}
use Rattle.std.specs.Prelude.{◌⊎◌, Contains, MatchOption, is_some}
use Rattle.vx_base.specs.Named.{Word}
use Rattle.vx_piece.specs.Seen.{AreCounts, EndsThere, Seen}
use Rattle.vx_pages.specs.declared.local_piece.LocalPiece.{Ghosts}
use Rattle.vx_layout.specs.declared.layout.Layout.{Layout}
use Rattle.vx_copies.specs.Disks.{DiskSeen}
use Rattle.vx_confdb.specs.Groups.{members}
use Rattle.vx_config_parts.specs.declared.plex.Plex.{Plex}
use Rattle.vx_config_parts.specs.declared.vol.Vol.{Vol}
use Rattle.vx_config_parts.specs.Objects.{is_log_plex_of}
use Rattle.vx_objects.specs.declared.config.Config.{Config}
use Rattle.vx_objects.specs.declared.edit.Edit.{Edit}
use Rattle.vx_answers.specs.declared.answer.End.{End}
use Rattle.vx_answers.specs.declared.answer.End.TheVariants as ends
use Rattle.vx_answers.specs.declared.refusal.Refusal.TheVariants as refusal
use Rattle.vx_state_edits.specs.Edits.{is_new}
use Rattle.vx_image.specs.UsedPlexes.{IsVolOf}
use Rattle.vx_group_edits.specs.OfVolume.{AreEditsOf}
use Rattle.vx_moments.specs.Holding.{is_among}
use Rattle.vx_moments.specs.Leaving.{grouped}
use Rattle.vx_moments.specs.Moment.{AreLater, Moment}
use Rattle.vx_moments.specs.World.{Group, Volume}
use Rattle.vx_lending.specs.Form.{IsLayoutOf}
use Rattle.vx_lending.specs.Public.{running_at}
use Rattle.vx_lending.specs.declared.public.Running.{Running}
use Rattle.vx_volume_laws.specs.Leaving.{EachLeavingStands, EachStopStands}
use Rattle.vx_change_laws.specs.Yielding.{EachCopyGivenUpRunsOn}
use Rattle.vx_group_volumes.specs.Opened.{opened_plexes}
use Rattle.vx_yielded_volumes.specs.Yielded.{IsCopyOn, TakesLogOut}
use Rattle.vx_yielded_volumes.proofs.Copies.{each_alone, each_found}
use Rattle.vx_yielded_volumes.proofs.Edits.{each_log_leaving_own}
use Rattle.vx_stages.specs.Ends.{refused}
use Rattle.vx_stages.specs.Recorded.{IsSoundAs}
use Rattle.vx_stages.specs.Stopping.{runs_on_plexes}
use Rattle.vx_stages.specs.Tests.{is_data}
use Rattle.vx_house.specs.Runs.{AreRuns, IsAtRun, IsRunOf}
use Rattle.vx_house.specs.Scene.{FaultsGoOn, Shelved}
use Rattle.vx_house.specs.View.{IsMoment, IsMomentButGroup, Keeps, at, scene}
use Rattle.vx_house.specs.declared.house.House.{House}
use Rattle.vx_house.specs.declared.house.Imported.{Imported}
use Rattle.vx_house.specs.declared.stop.Stop.{Stop}
use Rattle.vx_house.specs.declared.stop.Stop.TheVariants as stops
use Rattle.vx_house.proofs.Ends.{keeps_but_group, moment_but_group}
use Rattle.vx_house.proofs.Moments.{faults_refl, later_refl}
use Rattle.vx_house_calls.specs.Passes.{with_group}
use Rattle.vx_house_calls.proofs.Moments.{IsRunThere, grouped_lies, run_there}
use Rattle.vx_stage_changes.specs.declared.planning.NextConfig.{NextConfig}
use Rattle.vx_stage_volumes.proofs.Absent.{one_vol}
use Rattle.vx_stage_volumes.proofs.Held.{HoldsAlike, holds_alike}
use Rattle.vx_stage_mirrors.specs.Ending.{seen_group}
use Rattle.vx_stage_mirrors.specs.LogMoments.{IsRecordOf, RecordStops}
use Rattle.vx_stage_mirrors.specs.Relogging.{RecordEnds}
use Rattle.vx_stage_mirrors.proofs.LogGoing.{here, runs_same, same_house}
use Rattle.vx_stage_mirrors.proofs.Unrecorded.{record_stops}
use Rattle.vx_stage_dissociation.specs.Going.{EachHouseLeaves, GoesAs, WayWants}
use Rattle.vx_stage_dissociation.specs.Planned.{IsLeavingPlanned}
use Rattle.vx_stage_dissociation.specs.Yielding.{EndsLooked, EndsOnly, EndsUnlogged, EndsYielded, LogEnds, YieldEnds}
use Rattle.vx_stages.specs.Leaving.{FromLog, leaving_edits, way_of}
use Rattle.vx_stages.specs.Left.{IsOnlyLog, LeavesVolume, StaysKnown, StaysSound, VolumeStops}
use Rattle.vx_stage_dissociation.proofs.ByWays.{leaves_so, stops_so}
use Rattle.vx_stage_dissociation.proofs.Going.{has_done, has_ended, has_wanted}
use Rattle.vx_stage_dissociation.proofs.LeaveFacts.{edits_same, vol_there}
use Rattle.vx_stage_dissociation.proofs.YieldCopies.{run_few, unlogging, yielding}
use Rattle.vx_stage_dissociation.proofs.YieldFacts.{takes_log}
use Rattle.vx_stage_dissociation.proofs.YieldGroup.{faults_yielded, keeps_yielded}
use Rattle.vx_stage_dissociation.proofs.YieldMoments.{yielded_at}
use Rattle.vx_stage_dissociation.proofs.YieldSound.{sound_unlogged}
use Rattle.vx_stage_dissociation.proofs.YieldWhole.{IsLogLoss, IsYielding}

-- What the laws of the steps promise.
pub record YieldLaws {P : Type 0} (ghosts : Ghosts P) : Type 0 where
  pub gives : EachCopyGivenUpRunsOn
  pub leaving : EachLeavingStands
  pub stop : EachStopStands
  pub ends : (p : P) → EndsThere (ghosts.seen p)
  pub counts : (p : P) → AreCounts (ghosts.seen p)

module _ {P : Type 0} {ghosts : Ghosts P} (alike : (p q : P) → is_some (ghosts.seen p).told ≡ is_some (ghosts.seen q).told) (laws : YieldLaws ghosts) (shelf : Shelved) (h : House P ghosts) (keeps : Keeps ghosts.seen (at shelf h))
    (g : Imported P ghosts) (has_group : h.group ≡ Some g) (v : Vol) (p : Plex) (next : NextConfig) (planned : IsLeavingPlanned ghosts.seen FromLog v p next g) where
  abbrev see : P → Seen
  see = ghosts.seen

  abbrev remove : Bool
  remove = planned.remove

  abbrev gm : Group
  gm = seen_group ghosts.seen g

  abbrev Done : Moment → Moment → Type 0
  Done = LeavesVolume planned.remove (seen_group ghosts.seen g) v p

  abbrev Stops : Moment → End → Moment → Type 0
  Stops = VolumeStops planned.remove (seen_group ghosts.seen g) v p

  abbrev Wants : Moment → Moment → Type 0
  Wants = WayWants FromLog (seen_group ghosts.seen g) v

  abbrev GoesTo : Result (Unit {0}) Stop → House P ghosts → Type 0
  GoesTo result h' = GoesAs ghosts.seen (LeavesVolume planned.remove (seen_group ghosts.seen g) v p) (VolumeStops planned.remove (seen_group ghosts.seen g) v p) (WayWants FromLog (seen_group ghosts.seen g) v) result (at shelf h) (at shelf h')

  way_at : (m : Moment) → IsMoment see (at shelf h) m → way_of (is_data p.kind) (runs_on_plexes m.world v.name) v ≡ FromLog
  way_at m is = ap (λ b. way_of (is_data p.kind) b v) (runs_same see shelf h g has_group v.name m is) ∙ planned.way_is

  of : IsVolOf g.config v
  of = vol_there see FromLog g v p next planned

  takes : TakesLogOut g.config v p remove next.config
  takes = takes_log see g v p next planned

  abbrev edits : List Edit
  edits = leaving_edits planned.remove p

  edits_own : AreEditsOf g.config v.name edits
  edits_own = subst (AreEditsOf g.config v.name) (sym (edits_same p remove)) (each_log_leaving_own g.config v p remove next.config takes)

  record_of : IsRecordOf g v.name edits next
  record_of = record { own = edits_own; edited = planned.plan.next_is.0; printed = planned.plan.next_is.1 }

  -- memory was wanting, and nothing has changed
  wants_goes : (new : Imported P ghosts) → new ≡ g → GoesTo (Err stops.OutOfMemory) (with_group h new)
  wants_goes new is =
      subst (GoesTo (Err stops.OutOfMemory)) (same_house see shelf h g has_group new is)
      (has_wanted see Done Stops Wants (at shelf h) (at shelf h) keeps (λ m is. (m, is, later_refl m.counts, inl refl)) (faults_refl (scene see (at shelf h))))

  -- ---- the volume runs

  module _ (r : Running P ghosts) (there : running_at g.public v.name ≡ Some r) where
    run_at : (m : Moment) → IsMoment see (at shelf h) m → IsRunThere see (members see g.base) gm v.name r (m.world.volumes v.name)
    run_at m is =
        run_there see (members see g.base) gm v.name r (m.world.volumes v.name)
        (subst (λ o. IsAtRun see (members see g.base) (Some gm) v.name o (grouped (m.world.volumes v.name))) there
        (subst (λ o. AreRuns see (Some g) o m.world.volumes) (here see shelf h g has_group m is) (subst (λ o. AreRuns see o m.world.group m.world.volumes) has_group is.runs_are) v.name))

    -- ---- it is as sound

    module _ (m : Moment) (is : IsMoment see (at shelf h) m) where
      abbrev run : IsRunThere see (members see g.base) gm v.name r (m.world.volumes v.name)
      run = run_at m is

      holds : HoldsAlike see (members see g.base) m.world.devices r
      holds = holds_alike see laws.ends laws.counts (at shelf h) (keeps_but_group see (at shelf h) keeps) m (moment_but_group see (at shelf h) m is) g has_group v.name r there

      known_now : run.volume.sound ≡ true → StaysKnown gm v.name next.config m.world run.volume
      known_now known =
          let b = sound_unlogged see laws.leaving laws.stop (members see g.base) gm v.name r run.volume run.run known m.world holds.held (record { hold = holds.hold; public = holds.public }) v of refl p remove next.config takes in
          record { sound = b.0; within = b.1 }

      runs_there : grouped (m.world.volumes v.name) ≡ Some run.volume
      runs_there = ap grouped run.there ∙ grouped_lies run.volume (opened_plexes run.run.placed.runs.opening) run.run.lies

      stays_sound : (config : Config) → config ≡ next.config → StaysSound m.world gm v config m.world
      stays_sound config same =
          subst (λ c. StaysSound m.world gm v c m.world) (sym same)
          (subst (λ (o : Option Volume). MatchOption o (is_new v.state ≡ false → IsSoundAs gm gm.config v.name m.world → IsSoundAs gm next.config v.name m.world) (λ run. run.sound ≡ true → StaysKnown gm v.name next.config m.world run)) (sym runs_there) known_now)

    -- ---- the commit is done

    left_goes : (new : Imported P ghosts) → IsYielding shelf h g new v p remove next → GoesTo (Ok tt) (with_group h new)
    left_goes new it =
        has_done see Done Stops Wants (at shelf h) (at shelf (with_group h new)) (keeps_yielded it)
        (λ m is. let x = yielded_at laws.gives it m is in (
          x.then,
          x.is,
          x.later,
          leaves_so FromLog remove gm v p m (way_at m is) x.then (record {
            mid = m;
            readied = refl;
            spared = tt;
            writing = x.writing;
            change = x.change;
            sound = stays_sound m is x.writing.config x.config_is;
            recorded = x.recorded;
            committed = x.committed;
            rest = x.rest;
            goes = x.goes;
          }),
        ))
        (faults_yielded it)

    -- ---- it is not done

    stopped_at : (end : End) (new : Imported P ghosts) (s : RecordStops see shelf h edits next.config new end) (m : Moment) → IsMoment see (at shelf h) m →
        (k : Moment) × IsMomentButGroup see (at shelf (with_group h new)) k × AreLater m.counts k.counts × VolumeStops planned.remove (seen_group ghosts.seen g) v p m end k
    stopped_at end new s m is = let x = s.moments m is in (
      x.then,
      x.is,
      x.after,
      stops_so FromLog remove gm v p m (way_at m is) end x.then (inr (inr (record { mid = m; readied = refl; rest = x.after; stops = (x.writing, x.change, x.stopped); sound = stays_sound m is x.writing.config x.config_is }))),
    )

    stops_by : (end : End) (new : Imported P ghosts) → RecordEnds see next (Err (stops.Ended end)) g new → RecordStops see shelf h edits next.config new end
    stops_by end new e = record_stops see h g new shelf v.name edits next has_group keeps record_of end e

    unrecorded_by : (stop : Stop) (new : Imported P ghosts) → RecordEnds see next (Err stop) g new → GoesTo (Err stop) (with_group h new)
    unrecorded_by stops.OutOfMemory new (same, rest) = wants_goes new (rest ∙ ap (λ b. (let x : Imported P ghosts = record { config = g.config; base = b; public = g.public } in x)) same)
    unrecorded_by (stops.Ended ends.GroupLost) new e = let s = stops_by ends.GroupLost new e in record { keeps = s.keeps; goes = stopped_at ends.GroupLost new s; faults = s.faults; blamed = tt }
    unrecorded_by (stops.Ended (ends.Lost parts)) new e = let s = stops_by (ends.Lost parts) new e in record { keeps = s.keeps; goes = stopped_at (ends.Lost parts) new s; faults = s.faults; blamed = tt }
    unrecorded_by (stops.Ended (ends.Done copied parts blocks)) new e = absurd e.0
    unrecorded_by (stops.Ended (ends.Refused why)) new e = absurd e.0
    unrecorded_by (stops.Ended (ends.Fault told device parts)) new e = absurd e.0
    unrecorded_by (stops.Ended ends.ShelfFailed) new e = absurd e.0

    -- ---- where the copies are

    module _ (l : Layout) (lay : IsLayoutOf g.config p l) (ordered : IsOrdered (slice_cmp nat_cmp) g.public.running) where
      plan : IsLogLoss g v p remove next
      plan = record { of = of; takes = takes; printed = planned.plan.next_is.1; layout = l; lies = lay }

      -- it is the only copy
      only_at : (copy : ℕ) → IsCopyOn r.form.logs.items copy l → length r.form.logs.items ≢ 2 → (m : Moment) (is : IsMoment see (at shelf h) m) → IsOnlyLog gm v.name p m
      only_at copy on not_two m is =
          let t = run_at m is in
          let run = t.run in
          let own : is_log_plex_of run.of.name p ≡ true = subst (λ n. is_log_plex_of n p ≡ true) (sym run.named) takes.log_is in
          let one : length r.form.logs.items ≡ 1 = let inside = on.inside in let few = run_few alike keeps has_group plan r there in omega (arith, inside, few, not_two) in
          record {
            volume = t.volume;
            was = t.there;
            plexes = opened_plexes run.placed.runs.opening;
            lies = run.lies;
            on = (each_found see r gm.config gm.good run.numbers run.of run.placed p takes.there own l lay copy on).among;
            only = λ q here log among. each_alone see r gm.config gm.good run.numbers run.of run.placed p takes.there own l lay copy on one q here (subst (λ n. is_log_plex_of n q ≡ true) (sym run.named) log) among;
          }

      only_goes : (result : Result (Unit {0}) Stop) (new : Imported P ghosts) → EndsOnly p.name result r l g new → GoesTo result (with_group h new)
      only_goes result new e =
          subst (λ x. GoesTo x (with_group h new)) (sym e.result_is)
          (subst (GoesTo (Err (stops.Ended (refused (refusal.OnlyPlex p.name))))) (same_house see shelf h g has_group new e.same)
          (has_ended see Done Stops Wants (at shelf h) (at shelf h) (refused (refusal.OnlyPlex p.name)) keeps
          (λ m is. (
            m,
            is,
            later_refl m.counts,
            stops_so FromLog remove gm v p m (way_at m is) (refused (refusal.OnlyPlex p.name)) m (inr (inl (record { readied = refl; stays = only_at e.copy e.on e.not_two m is; end_is = refl }))),
          ))
          (faults_refl (scene see (at shelf h))) tt))

      unlogged_goes : (result : Result (Unit {0}) Stop) (new : Imported P ghosts) → EndsUnlogged see next result r l g new → GoesTo result (with_group h new)
      unfolding plan
      unlogged_goes (Ok u) new e = left_goes new (unlogging alike keeps has_group plan r there e.none ordered new e.ends)
      unlogged_goes (Err stop) new e = unrecorded_by stop new e.ends

      yielded_by : (result : Result (Unit {0}) Stop) (new : Imported P ghosts) (e : EndsYielded see v.name next result r l g new) → YieldEnds see v.name e.copy next result g new → GoesTo result (with_group h new)
      unfolding plan
      yielded_by (Ok u) new e y = left_goes new (yielding alike keeps has_group plan r there e.copy e.on e.powered new y)
      yielded_by (Err stop) new e y = unrecorded_by stop new y

  looked_goes : (result : Result (Unit {0}) Stop) (new : Imported P ghosts) → EndsLooked see v.name p next result g new → GoesTo result (with_group h new)
  looked_goes result new e = by e.ends
    where
      by : EndsUnlogged see next result e.running e.layout g new ⊎ (EndsOnly p.name result e.running e.layout g new ⊎ EndsYielded see v.name next result e.running e.layout g new) → GoesTo result (with_group h new)
      by (inl u) = unlogged_goes e.running e.there e.layout e.of e.ordered result new u
      by (inr (inl o)) = only_goes e.running e.there e.layout e.of e.ordered result new o
      by (inr (inr y)) = yielded_by e.running e.there e.layout e.of e.ordered result new y y.ends

  pub yielding_goes : (result : Result (Unit {0}) Stop) (new : Imported P ghosts) → LogEnds ghosts.seen v.name p next result g new →
      GoesAs ghosts.seen (LeavesVolume planned.remove (seen_group ghosts.seen g) v p) (VolumeStops planned.remove (seen_group ghosts.seen g) v p) (WayWants FromLog (seen_group ghosts.seen g) v) result (at shelf h) (at shelf (with_group h new))
  yielding_goes result new (inl (result_is, same)) = subst (λ x. GoesTo x (with_group h new)) (sym result_is) (wants_goes new same)
  yielding_goes result new (inr e) = looked_goes result new e

-- so it is in each house
pub log_goes : {P : Type 0} {ghosts : Ghosts P} → ((p q : P) → is_some (ghosts.seen p).told ≡ is_some (ghosts.seen q).told) → YieldLaws ghosts → (v : Vol) (p : Plex) (next : NextConfig) (result : Result (Unit {0}) Stop) (old new : Imported P ghosts) →
    LogEnds ghosts.seen v.name p next result old new → EachHouseLeaves ghosts.seen FromLog v p next result old new
log_goes alike laws v p next result old new e planned shelf h has keeps = yielding_goes alike laws shelf h keeps old has v p next planned result new e
