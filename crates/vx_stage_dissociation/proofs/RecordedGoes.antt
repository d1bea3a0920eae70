-- A plex that leaves a volume by its record alone, where that does not run and is as sound as it was by the next configuration, in a house.
use Rattle.std.proofs.Common.{◌≡◌, ◌∙◌, Bool, true, false, List, Option, Some, None, Result, Ok, Err, refl, sym, ap, subst, inl, inr}
use Rattle.std.specs.Prelude.{MatchOption, is_some}
use Rattle.std.proofs.lemmas.Bool.{false≢true}
use Rattle.vx_base.specs.Named.{Word}
use Rattle.vx_base.proofs.NamedLemmas.{bytes_eq_self}
use Rattle.vx_piece.specs.Seen.{Seen}
use Rattle.vx_pages.specs.declared.local_piece.LocalPiece.{Ghosts}
use Rattle.vx_config_parts.specs.declared.plex.Plex.{Plex}
use Rattle.vx_config_parts.specs.declared.vol.Vol.{Vol}
use Rattle.vx_config_parts.specs.Objects.{refers}
use Rattle.vx_objects.specs.declared.config.Config.{Config}
use Rattle.vx_objects.specs.declared.edit.Edit.{Edit}
use Rattle.vx_answers.specs.declared.answer.End.{End}
use Rattle.vx_answers.specs.declared.answer.End.TheVariants as ends
use Rattle.vx_state_edits.specs.Edits.{is_new}
use Rattle.vx_group_edits.specs.OfVolume.{AreEditsOf, IsPlexNameOf}
use Rattle.vx_group_edits.proofs.DcoEdits.{own_name}
use Rattle.vx_moments.specs.Leaving.{grouped}
use Rattle.vx_moments.specs.Moment.{AreLater, Moment}
use Rattle.vx_moments.specs.World.{Group, Volume, World}
use Rattle.vx_lending.specs.Public.{running_at}
use Rattle.vx_stages.specs.Recorded.{IsSoundAs}
use Rattle.vx_stages.specs.Stopping.{runs_on_plexes}
use Rattle.vx_stages.specs.Tests.{is_data}
use Rattle.vx_house.specs.Scene.{Shelved}
use Rattle.vx_house.specs.View.{IsMoment, IsMomentButGroup, Keeps, at, scene}
use Rattle.vx_house.specs.declared.house.House.{House}
use Rattle.vx_house.specs.declared.house.Imported.{Imported}
use Rattle.vx_house.specs.declared.stop.Stop.{Stop}
use Rattle.vx_house.specs.declared.stop.Stop.TheVariants as stops
use Rattle.vx_house.proofs.Moments.{faults_refl, later_refl}
use Rattle.vx_house_calls.specs.Passes.{with_group}
use Rattle.vx_stage_changes.specs.declared.planning.NextConfig.{NextConfig}
use Rattle.vx_stage_mirrors.specs.Ending.{seen_group}
use Rattle.vx_stage_mirrors.specs.LogMoments.{IsRecordOf, RecordStops}
use Rattle.vx_stage_mirrors.specs.Relogging.{IsRecordedIn, RecordEnds}
use Rattle.vx_stage_mirrors.proofs.DetachFacts.{found_plex}
use Rattle.vx_stage_mirrors.proofs.LogGoing.{runs_same, same_house}
use Rattle.vx_stage_mirrors.proofs.Recorded.{record_goes}
use Rattle.vx_stage_mirrors.proofs.Unrecorded.{record_stops}
use Rattle.vx_stage_dissociation.specs.Going.{GoesAs, WayWants}
use Rattle.vx_stages.specs.Leaving.{ByRecord, leaving_edits, way_of}
use Rattle.vx_stages.specs.Left.{LeavesVolume, StaysKnown, StaysSound, VolumeStops}
use Rattle.vx_stage_dissociation.specs.Planned.{IsLeavingPlanned}
use Rattle.vx_stage_dissociation.proofs.ByWays.{leaves_so, stops_so}
use Rattle.vx_stage_dissociation.proofs.Going.{has_done, has_wanted}

none_by : {X : Type 0} (o : Option X) → is_some o ≡ false → o ≡ None
none_by None e = refl
none_by (Some x) e = absurd (false≢true (sym e))

-- the edits are of the volume alone
of_volume : (c : Config) (vol : Word) (p : Plex) (remove : Bool) → IsPlexNameOf c vol p.name → AreEditsOf c vol (leaving_edits remove p)
of_volume c vol p true named = (named, tt)
of_volume c vol p false named = ((tt, named), tt)

module _ {P : Type 0} {ghosts : Ghosts P} (see : P → Seen) (shelf : Shelved) (h : House P ghosts) (keeps : Keeps see (at shelf h)) (g : Imported P ghosts) (has_group : h.group ≡ Some g) (v : Vol) (p : Plex) (next : NextConfig)
    (planned : IsLeavingPlanned see ByRecord v p next g) (absent : running_at g.public v.name ≡ None) (sound : (w : World) → is_new v.state ≡ false → IsSoundAs (seen_group see g) g.config v.name w → IsSoundAs (seen_group see g) next.config v.name w) where
  abbrev remove : Bool
  remove = planned.remove

  abbrev gm : Group
  gm = seen_group see g

  abbrev edits : List Edit
  edits = leaving_edits planned.remove p

  abbrev Done : Moment → Moment → Type 0
  Done = LeavesVolume planned.remove (seen_group see g) v p

  abbrev Stops : Moment → End → Moment → Type 0
  Stops = VolumeStops planned.remove (seen_group see g) v p

  abbrev Wants : Moment → Moment → Type 0
  Wants = WayWants ByRecord (seen_group see g) v

  abbrev GoesTo : Result (Unit {0}) Stop → House P ghosts → Type 0
  GoesTo result h' = GoesAs see (LeavesVolume planned.remove (seen_group see g) v p) (VolumeStops planned.remove (seen_group see g) v p) (WayWants ByRecord (seen_group see g) v) result (at shelf h) (at shelf h')

  way_at : (m : Moment) → IsMoment see (at shelf h) m → way_of (is_data p.kind) (runs_on_plexes m.world v.name) v ≡ ByRecord
  way_at m is = ap (λ b. way_of (is_data p.kind) b v) (runs_same see shelf h g has_group v.name m is) ∙ planned.way_is

  record_of : IsRecordOf g v.name edits next
  record_of = record {
    own = of_volume g.config v.name p remove (own_name g.config v.name p (found_plex p.name g.config.plexes p planned.plan.found).0 (ap (λ o. refers o v.name) planned.own ∙ bytes_eq_self v.name));
    edited = planned.plan.next_is.0;
    printed = planned.plan.next_is.1;
  }

  -- it does not run in the world either
  rests_there : (m : Moment) → IsMoment see (at shelf h) m → grouped (m.world.volumes v.name) ≡ None
  rests_there m is = none_by (grouped (m.world.volumes v.name)) (runs_same see shelf h g has_group v.name m is ∙ ap is_some absent)

  stays_sound : (m : Moment) → IsMoment see (at shelf h) m → (config : Config) → config ≡ next.config → StaysSound m.world gm v config m.world
  stays_sound m is config same =
      subst (λ c. StaysSound m.world gm v c m.world) (sym same)
      (subst (λ (o : Option Volume). MatchOption o (is_new v.state ≡ false → IsSoundAs gm gm.config v.name m.world → IsSoundAs gm next.config v.name m.world) (λ run. run.sound ≡ true → StaysKnown gm v.name next.config m.world run)) (sym (rests_there m is)) (sound m.world))

  done : (new : Imported P ghosts) → IsRecordedIn see next g new → GoesTo (Ok tt) (with_group h new)
  done new recorded =
      let r = record_goes see h g new shelf v.name edits next has_group keeps record_of absent recorded in
      has_done see Done Stops Wants (at shelf h) (at shelf (with_group h new)) r.keeps
      (λ m is. let x = r.moments m is in (
        x.then,
        x.is,
        x.after,
        leaves_so ByRecord remove gm v p m (way_at m is) x.then (record {
          mid = m;
          readied = refl;
          spared = tt;
          writing = x.writing;
          change = x.change;
          sound = stays_sound m is x.writing.config x.config_is;
          recorded = x.then;
          committed = x.committed;
          rest = x.after;
          goes = refl;
        }),
      ))
      r.faults

  stopped_at : (end : End) (new : Imported P ghosts) (s : RecordStops see shelf h edits next.config new end) (m : Moment) → IsMoment see (at shelf h) m →
      (k : Moment) × IsMomentButGroup see (at shelf (with_group h new)) k × AreLater m.counts k.counts × VolumeStops planned.remove (seen_group see g) v p m end k
  stopped_at end new s m is = let x = s.moments m is in (
    x.then,
    x.is,
    x.after,
    stops_so ByRecord remove gm v p m (way_at m is) end x.then (inr (inr (record { mid = m; readied = refl; rest = x.after; stops = (x.writing, x.change, x.stopped); sound = stays_sound m is x.writing.config x.config_is }))),
  )

  stops_by : (end : End) (new : Imported P ghosts) → RecordEnds see next (Err (stops.Ended end)) g new → RecordStops see shelf h edits next.config new end
  stops_by end new e = record_stops see h g new shelf v.name edits next has_group keeps record_of end e

  unrecorded_by : (stop : Stop) (new : Imported P ghosts) → RecordEnds see next (Err stop) g new → GoesTo (Err stop) (with_group h new)
  unrecorded_by stops.OutOfMemory new (same, rest) =
      let is : new ≡ g = rest ∙ ap (λ b. (let x : Imported P ghosts = record { config = g.config; base = b; public = g.public } in x)) same in
      subst (GoesTo (Err stops.OutOfMemory)) (same_house see shelf h g has_group new is)
      (has_wanted see Done Stops Wants (at shelf h) (at shelf h) keeps (λ m is. (m, is, later_refl m.counts, inl refl)) (faults_refl (scene see (at shelf h))))
  unrecorded_by (stops.Ended ends.GroupLost) new e = let s = stops_by ends.GroupLost new e in record { keeps = s.keeps; goes = stopped_at ends.GroupLost new s; faults = s.faults; blamed = tt }
  unrecorded_by (stops.Ended (ends.Lost parts)) new e = let s = stops_by (ends.Lost parts) new e in record { keeps = s.keeps; goes = stopped_at (ends.Lost parts) new s; faults = s.faults; blamed = tt }
  unrecorded_by (stops.Ended (ends.Done copied parts blocks)) new e = absurd e.0
  unrecorded_by (stops.Ended (ends.Refused why)) new e = absurd e.0
  unrecorded_by (stops.Ended (ends.Fault told device parts)) new e = absurd e.0
  unrecorded_by (stops.Ended ends.ShelfFailed) new e = absurd e.0

  pub recorded_goes : (result : Result (Unit {0}) Stop) (new : Imported P ghosts) → RecordEnds see next result g new →
      GoesAs see (LeavesVolume planned.remove (seen_group see g) v p) (VolumeStops planned.remove (seen_group see g) v p) (WayWants ByRecord (seen_group see g) v) result (at shelf h) (at shelf (with_group h new))
  recorded_goes (Ok u) new e = done new e
  recorded_goes (Err stop) new e = unrecorded_by stop new e
