-- A mirror of a running volume as a stage: however it ended on the group, it goes so in the house.
use Rattle.std.proofs.Common.{◌≡◌, ◌∙◌, true, cond, List, [], ◌∷◌, Some, None, Result, Ok, Err, refl, sym, ap, subst, inl, inr}
use Rattle.std.specs.Prelude.{IfSome, IsErrAnd, is_some}
use Rattle.vx_pages.specs.declared.local_piece.LocalPiece.{Ghosts}
use Rattle.vx_base.specs.Named.{Word}
use Rattle.vx_mask.specs.Mask.{only}
use Rattle.vx_piece.specs.Seen.{AreCounts, EndsThere, Seen}
use Rattle.vx_copies.specs.Disks.{DiskSeen}
use Rattle.vx_confdb.specs.Groups.{members}
use Rattle.vx_config_parts.specs.declared.object.Object.{Object}
use Rattle.vx_objects.specs.declared.edit.Edit.TheVariants.{Make}
use Rattle.vx_objects.specs.Applied.{IsEdited}
use Rattle.vx_answers.specs.declared.answer.End.{End}
use Rattle.vx_answers.specs.declared.answer.End.TheVariants as ends
use Rattle.vx_moments.specs.Commit.{Writing}
use Rattle.vx_moments.specs.Leaving.{grouped}
use Rattle.vx_moments.specs.Moment.{Moment}
use Rattle.vx_moments.specs.World.{Group, Volume}
use Rattle.vx_lending.specs.declared.public.Running.{Running}
use Rattle.vx_lending.specs.Public.{running_at}
use Rattle.vx_volume.specs.Laws.{AreTold}
use Rattle.vx_volume.specs.Volume.{volume_seen}
use Rattle.vx_group_start.specs.Copying.{missed_regions}
use Rattle.vx_stages.specs.Ends.{IsChange}
use Rattle.vx_stages.specs.Recorded.{IsMarkedEverywhere, IsSoundAs}
use Rattle.vx_stages.specs.Stopping.{rested_volume}
use Rattle.vx_house.specs.Runs.{IsAtRun}
use Rattle.vx_house.specs.Scene.{Shelved}
use Rattle.vx_house.specs.View.{IsGroupKept, IsMoment, Keeps, at}
use Rattle.vx_house.specs.declared.house.House.{House}
use Rattle.vx_house.specs.declared.house.Imported.{Imported}
use Rattle.vx_house.specs.declared.stop.Stop.{Stop}
use Rattle.vx_house.specs.declared.stop.Stop.TheVariants as stops
use Rattle.vx_house.proofs.Ends.{keeps_but_group, moment_but_group}
use Rattle.vx_house_calls.specs.Passes.{with_group}
use Rattle.vx_house_calls.proofs.Moments.{IsRunThere, run_there}
use Rattle.vx_stage_volumes.specs.Opening.{good_of}
use Rattle.vx_stage_volumes.specs.Parting.{PartsGroup}
use Rattle.vx_stage_volumes.proofs.Held.{HoldsAlike, holds_alike}
use Rattle.vx_stage_mirrors.specs.MarkedLaws.{EachMarkedVolumeIsSound}
use Rattle.std.specs.Str.{bytes_eq}
use Rattle.std.specs.Prelude.{vec_capacity}
use Rattle.vx_base.proofs.NamedLemmas.{bytes_eq_self}
use Rattle.vx_config_parts.specs.declared.plex.Plex.{Plex}
use Rattle.vx_config_parts.specs.Objects.{is_data_plex_of}
use Rattle.vx_group_edits.specs.OfVolume.{AreOf}
use Rattle.vx_stages.specs.Tests.{volume_in}
use Rattle.vx_stages.specs.Mirroring.{mirror_refusal}
use Rattle.vx_stage_mirrors.specs.Planned.{IsMirrorPlanned}
use Rattle.vx_stage_volumes.proofs.Named.{found_name}
use Rattle.vx_stage_volumes.proofs.PartedGroup.{parts_self}
use Rattle.vx_stage_mirrors.specs.declared.planning.PlannedMirror.{PlannedMirror}
use Rattle.vx_stage_mirrors.specs.MarkingLaws.{IsMarkedAt, RestsMarked}
use Rattle.vx_stage_mirrors.specs.Marking.{MarkEnds, MarksIn, MayMark}
use Rattle.vx_stage_mirrors.specs.declared.marking.Unmarked.TheVariants as unmarked
use Rattle.vx_stage_mirrors.specs.Copying.{CopiesIn}
use Rattle.vx_stage_mirrors.specs.CopyingLaws.{AreToCopy, HasPlexToCopy}
use Rattle.vx_stage_mirrors.specs.Joining.{IsJoinedIn, JoinEnds}
use Rattle.vx_stage_mirrors.specs.Moments.{JoinGoes, JoinStops}
use Rattle.vx_stage_mirrors.specs.Ending.{IsPlannedMirror, IsParkedIn, IsRefusedHere, JoinStopsIn, MirrorEnds}
use Rattle.vx_stage_mirrors.specs.Going.{MirrorGoes}
use Rattle.vx_stage_mirrors.proofs.Facts.{GroupLaws, IsReadyToJoin, all_copied, are_to_copy, may_mark, ready, some_to_copy}
use Rattle.vx_stage_mirrors.proofs.Goes.{HaveLaws, cut_goes, lost_goes, marked3, marked_wants, mirrored_goes, moment2, parted_wants, refused_goes, rests, same_house, unmarked_goes, unparked_wants}

-- What the laws below promise.
pub record StageLaws {P : Type 0} (ghosts : Ghosts P) : Type 0 where
  pub have : HaveLaws ghosts
  pub groups : GroupLaws ghosts
  pub sound : (before after : Running P ghosts) → EachMarkedVolumeIsSound ghosts.seen before after
  pub ends : (p : P) → EndsThere (ghosts.seen p)
  pub counts : (p : P) → AreCounts (ghosts.seen p)

some_one : {X : Type 0} (x y : X) → Some x ≡ Some y → x ≡ y
some_one x y e = cc

module _ {P : Type 0} {ghosts : Ghosts P} (alike : (p q : P) → is_some (ghosts.seen p).told ≡ is_some (ghosts.seen q).told) (laws : StageLaws ghosts) (name : Word) (disks : List Word) (shelf : Shelved) (h : House P ghosts) (keeps : Keeps ghosts.seen (at shelf h)) (g : Imported P ghosts) (has_group : h.group ≡ Some g) where
  abbrev see : P → Seen
  see = ghosts.seen

  abbrev MirrorsTo : Stop → Imported P ghosts → Type 0
  MirrorsTo stop g' = MirrorGoes see name disks (Err stop) (at shelf h) (at shelf (with_group h g'))

  kept : IsGroupKept see g
  kept = subst (λ o. IfSome o (IsGroupKept see)) has_group keeps.house.group

  -- ---- what is planned for the group is planned for it once it is ready

  module _ (p : PlannedMirror) (planned : IsPlannedMirror see name disks p g) (g1 : Imported P ghosts) (parts : PartsGroup see g g1) where
    abbrev added : List Object
    added = planned.planned.added

    good1 : good_of see g1 ≡ good_of see g
    good1 = ap (λ (w : Group). w.good) (some_one _ _ parts.group)

    planned_both : (x : IsMirrorPlanned g1.config (good_of see g1) planned.volume disks p) × (x.added ≡ added)
    planned_both =
        subst (λ c. (x : IsMirrorPlanned c (good_of see g1) planned.volume disks p) × (x.added ≡ added)) (sym parts.config)
        (subst (λ n. (x : IsMirrorPlanned g.config n planned.volume disks p) × (x.added ≡ added)) (sym good1) (planned.planned, refl))

    abbrev planned1 : IsPlannedMirror see name disks p g1
    planned1 = record {
      volume = planned.volume;
      found = subst (λ c. volume_in name c.volumes ≡ Some planned.volume) (sym parts.config) planned.found;
      fits = subst (λ c. mirror_refusal true c name disks ≡ None) (sym parts.config) planned.fits;
      planned = planned_both.0;
    }

    module _ (mid : Imported P ghosts) (parks : IsParkedIn see name p g1 mid) where
      kept_mid : IsGroupKept see mid
      kept_mid = (laws.have.parks g1 mid alike parts.kept parks.lies).kept

      may : MayMark see p.map (running_at mid.public name)
      may = may_mark laws.groups alike name disks p g1 parts.kept planned1 parks.for_it.running parks.for_it.there mid parks.parked parks.for_it parks.lies kept_mid

      -- ---- not marked

      fault_goes : (end : End) (new : Imported P ghosts) → MarkEnds see name p.map (Err (stops.Ended end)) mid new → MirrorsTo (stops.Ended end) new
      fault_goes end new (fault, marks, told) = unmarked_goes alike laws.have name disks shelf h keeps g has_group p planned g1 parts mid parks.lies may (Err (unmarked.Fault fault)) new marks fault refl end told

      unmarked_by : (stop : Stop) (new : Imported P ghosts) → MarkEnds see name p.map (Err stop) mid new → MirrorsTo stop new
      unmarked_by (stops.Ended end) new ends = fault_goes end new ends
      unmarked_by stops.OutOfMemory new marks = marked_wants alike laws.have name disks shelf h keeps g has_group p planned g1 parts mid parks.lies may (Err unmarked.OutOfMemory) new marks

      -- ---- marked

      module _ (g3 : Imported P ghosts) (marks : MarksIn see name p.map (Ok tt) mid g3) where
        abbrev h2 : House P ghosts
        h2 = with_group (with_group h g1) mid

        abbrev h3 : House P ghosts
        h3 = with_group h2 g3

        abbrev hs : List DiskSeen
        hs = members see mid.base

        abbrev before : Running P ghosts
        before = marks.runs.before

        abbrev after : Running P ghosts
        after = marks.runs.after

        rest3 : RestsMarked see shelf h2 name p.map (Ok tt) mid g3 marks
        rest3 = rests alike laws.have name disks shelf h keeps g has_group p planned g1 parts mid parks.lies may (Ok tt) g3 marks

        abbrev Marked : Moment → Type 0
        Marked m = IsMarkedAt see shelf h3 hs name before after m

        abbrev at_rest : (m : Moment) → IsMoment see (at shelf h) m → Marked m
        at_rest m is = marked3 alike laws.have name disks shelf h keeps g has_group p planned g1 parts mid parks.lies may (Ok tt) g3 marks m is

        is_ready : IsReadyToJoin see name p parks.parked planned1.planned.added g3
        is_ready = ready laws.groups alike name disks p g1 parts.kept planned1 parks.for_it.running parks.for_it.there mid parks.parked parks.for_it parks.lies kept_mid g3 marks

        base3 : g3.base ≡ mid.base
        base3 = ap (λ (x : Imported P ghosts). x.base) marks.same

        there3 : running_at g3.public name ≡ Some after
        there3 = marks.runs.puts name ∙ ap (λ b. cond b (Some after) (running_at mid.public name)) (bytes_eq_self name)

        -- ---- not committed: the volume is sound with the plex too

        module _ (m : Moment) (is : IsMoment see (at shelf h) m) (known : (at_rest m is).rest.volume.sound ≡ true) (x : Writing) (change : IsChange (Make added ∷ []) (at_rest m is).then.world x) where
          abbrev r : Marked m
          r = at_rest m is

          was_run : IsRunThere see hs r.rest.group name before (m.world.volumes name)
          was_run = run_there see hs r.rest.group name before (m.world.volumes name)
              (subst (λ o. IsAtRun see hs o name (Some before) (grouped (m.world.volumes name))) r.rest.here
              (subst (λ o. IsAtRun see hs m.world.group name o (grouped (m.world.volumes name))) marks.runs.was
              ((moment2 alike laws.have name disks shelf h keeps g has_group p planned g1 parts mid parks.lies m is).runs_are name)))

          told : AreTold (volume_seen see before.volume)
          told = (was_run.run.runs_as (ap (λ (w : Volume). w.sound) (some_one was_run.volume r.rest.volume (sym was_run.there ∙ r.rest.there)) ∙ known)).told

          holds : HoldsAlike see hs r.then.world.devices after
          holds = subst (λ b. HoldsAlike see (members see b) r.then.world.devices after) base3
              (holds_alike see laws.ends laws.counts (at shelf h3) (keeps_but_group see (at shelf h3) rest3.keeps) r.then (moment_but_group see (at shelf h3) r.then r.is) g3 refl name after there3)

          group_same : x.group ≡ r.rest.group
          group_same = some_one x.group r.rest.group (sym change.group ∙ r.group)

          both_then : IsSoundAs r.rest.group x.config name r.then.world × IsMarkedEverywhere r.rest.group name p.map r.then.world
          both_then = laws.sound before after hs r.rest.group name (rested_volume r.rest) r.run known p.map marks.runs.marks told r.then.world holds.held (record { hold = holds.hold; public = holds.public }) added x.config
              (record {
                edited = subst (λ (w : Group). IsEdited (Make added ∷ []) w.config x.config) group_same change.edited;
                of = subst (λ n. AreOf n added) (found_name g.config name planned.volume planned.found) planned.planned.at.of;
                plex = p.plex;
                one = planned.planned.at.plexes;
                data_is = subst (λ n. is_data_plex_of n p.plex ≡ true) (found_name g.config name planned.volume planned.found) planned.planned.at.own;
                has_map = planned.planned.at.map;
              })

          sound_then : IsSoundAs r.rest.group x.config name r.then.world
          sound_then = both_then.0

          shown_then : IsMarkedEverywhere r.rest.group name p.map r.then.world
          shown_then = both_then.1

        stops_as : (end : End) (new : Imported P ghosts) → JoinEnds see name p.map parks.parked.layout p.next (Err (stops.Ended end)) g3 new → JoinStops see shelf h3 added new end
        stops_as end new ends =
            let config3 : g3.config ≡ g.config = ap (λ (x : Imported P ghosts). x.config) marks.same ∙ ap (λ (x : Imported P ghosts). x.config) parks.lies.group ∙ parts.config in
            laws.have.stops h3 g3 new shelf name p.map parks.parked.layout p.next added refl rest3.keeps (subst (λ c. IsEdited (Make added ∷ []) c p.next.config) (sym config3) planned.planned.next.0) planned.planned.next.1 end ends

        unjoined_by : (stop : Stop) (new : Imported P ghosts) → JoinEnds see name p.map parks.parked.layout p.next (Err stop) g3 new → MirrorsTo stop new
        unjoined_by stops.OutOfMemory new (same, rest) =
            subst (MirrorsTo stops.OutOfMemory) (sym (rest ∙ ap (λ b. (let x : Imported P ghosts = record { config = g3.config; base = b; public = g3.public } in x)) same))
            (marked_wants alike laws.have name disks shelf h keeps g has_group p planned g1 parts mid parks.lies may (Ok tt) g3 marks)
        unjoined_by (stops.Ended ends.GroupLost) new e = lost_goes alike laws.have name disks shelf h keeps g has_group p planned g1 parts mid parks.lies may (Ok tt) g3 marks new sound_then shown_then (stops_as ends.GroupLost new e)
        unjoined_by (stops.Ended (ends.Lost parts')) new e = cut_goes alike laws.have name disks shelf h keeps g has_group p planned g1 parts mid parks.lies may (Ok tt) g3 marks new sound_then shown_then parts' (stops_as (ends.Lost parts') new e)
        unjoined_by (stops.Ended (ends.Done copied parts' blocks)) new e = absurd e.0
        unjoined_by (stops.Ended (ends.Refused why)) new e = absurd e.0
        unjoined_by (stops.Ended (ends.Fault told_name device parts')) new e = absurd e.0
        unjoined_by (stops.Ended ends.ShelfFailed) new e = absurd e.0

        -- ---- joined, and copied to

        module _ (g4 : Imported P ghosts) (joins : IsJoinedIn see name p.map parks.parked.layout p.next g3 g4) where
          joined_goes : JoinGoes see shelf h3 name added p.next.config p.plex.name g4 joins.runs.after
          joined_goes =
              subst (λ os. JoinGoes see shelf h3 name os p.next.config p.plex.name g4 joins.runs.after) (is_ready.added_is ∙ planned_both.1)
              (subst (λ (x : Plex). JoinGoes see shelf h3 name is_ready.plan.added p.next.config x.name g4 joins.runs.after) is_ready.plex_is
              (laws.have.joins h3 g3 g4 shelf name p.map parks.parked.layout p.next alike refl rest3.keeps (vec_capacity parks.parked.room) is_ready.may is_ready.plan joins))

          module _ (stop : Stop) (g5 : Imported P ghosts) (copies : CopiesIn see name (only p.map) stop g4 g5) where
            same_run : joins.runs.after ≡ copies.one.before
            same_run = some_one joins.runs.after copies.one.before (sym (joins.runs.puts name ∙ ap (λ b. cond b (Some joins.runs.after) (running_at g3.public name)) (bytes_eq_self name)) ∙ copies.one.was)

            copied_goes : MirrorsTo stop g5
            copied_goes =
                let at_run = λ (Q : Running P ghosts → Type 0) (q : Q joins.runs.after). subst Q same_run q in
                mirrored_goes alike laws.have name disks shelf h keeps g has_group p planned g1 parts mid parks.lies may (Ok tt) g3 marks parks.parked.layout g4 joins joined_goes stop g5 copies
                (at_run (HasPlexToCopy (only p.map)) (some_to_copy laws.groups alike name disks p g1 parts.kept planned1 parks.for_it.running parks.for_it.there mid parks.parked parks.for_it parks.lies kept_mid g3 marks g4 joins))
                (at_run (λ j. AreToCopy g4.config name (only p.map) j (bytes_eq p.plex.name)) (are_to_copy laws.groups alike name disks p g1 parts.kept planned1 parks.for_it.running parks.for_it.there mid parks.parked parks.for_it parks.lies kept_mid g3 marks g4 joins))
                (λ n is. all_copied laws.groups alike name disks p g1 parts.kept planned1 parks.for_it.running parks.for_it.there mid parks.parked parks.for_it parks.lies kept_mid g3 marks g4 joins n
                (copies.one.count n is ∙ ap (λ (j : Running P ghosts). missed_regions (only p.map) (volume_seen see j.volume)) (sym same_run)))

    -- ---- on a group that is ready

    planned_by : (stop : Stop) (new : Imported P ghosts) → JoinStopsIn see name p stop g1 new → MirrorsTo stop new
    planned_by stop new (inl (wants, lies)) = subst (λ s. MirrorsTo s new) (sym wants) (unparked_wants alike laws.have name disks shelf h keeps g has_group p planned g1 parts new lies)
    planned_by stop new (inr (inl e)) = unmarked_by e.mid e.parks stop new e.marks
    planned_by stop new (inr (inr (inl e))) = unjoined_by e.mid e.parks e.marked e.marks stop new e.ends
    planned_by stop new (inr (inr (inr e))) = copied_goes e.mid e.parks e.marked e.marks e.joined e.joins stop new e.copies

  -- ---- however it ended

  refused_by : (stop : Stop) (new : Imported P ghosts) → new ≡ g → IsRefusedHere see name disks g stop → MirrorsTo stop new
  refused_by (stops.Ended end) new same is = subst (λ x. MirrorGoes see name disks (Err (stops.Ended end)) (at shelf h) (at shelf x)) (same_house alike laws.have name disks shelf h keeps g has_group new same) (refused_goes alike laws.have name disks shelf h keeps g has_group end is)
  refused_by stops.OutOfMemory new same is = subst (MirrorsTo stops.OutOfMemory) (sym same) (parted_wants alike laws.have name disks shelf h keeps g has_group g (parts_self see alike g kept))

  pub mirror_goes : (result : Result (Unit {0}) Stop) (new : Imported P ghosts) → IsErrAnd result (λ stop. MirrorEnds see name disks stop g new) → MirrorGoes see name disks result (at shelf h) (at shelf (with_group h new))
  mirror_goes (Ok u) new is = absurd is
  mirror_goes (Err stop) new (inl (same, is)) = refused_by stop new same is
  mirror_goes (Err stop) new (inr (inl (wants, parts))) = subst (λ s. MirrorsTo s new) (sym wants) (parted_wants alike laws.have name disks shelf h keeps g has_group new parts)
  mirror_goes (Err stop) new (inr (inr e)) = planned_by e.plan e.planned e.ready e.parts stop new e.ends
