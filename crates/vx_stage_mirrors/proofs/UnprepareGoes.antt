-- A volume that loses its logs, as a stage: however it ended on the group, it goes so in the house.
use Rattle.std.proofs.Common.{◌≡◌, ◌∙◌, Bool, true, false, List, [], ◌∷◌, Option, Some, None, Result, Ok, Err, refl, sym, ap, subst, inl, inr}
use Rattle.std.specs.Prelude.{MatchBool, MatchOption, is_some}
use Rattle.std.proofs.lemmas.Bool.{false≢true}
use Rattle.vx_base.specs.Named.{Word}
use Rattle.vx_pages.specs.declared.local_piece.LocalPiece.{Ghosts}
use Rattle.vx_piece.specs.Seen.{Seen}
use Rattle.vx_config_parts.specs.declared.vol.Vol.{Vol}
use Rattle.vx_objects.specs.declared.config.Config.{Config}
use Rattle.vx_objects.specs.declared.edit.Edit.{Edit}
use Rattle.vx_objects.specs.Applied.{IsEdited}
use Rattle.vx_answers.specs.declared.answer.End.{End}
use Rattle.vx_answers.specs.declared.answer.End.TheVariants as ends
use Rattle.vx_answers.specs.declared.refusal.Refusal.{Refusal}
use Rattle.vx_answers.specs.declared.refusal.Refusal.TheVariants as refusal
use Rattle.vx_moments.specs.Commit.{IsCommitted, Writing}
use Rattle.vx_moments.specs.Moment.{AreLater, Moment}
use Rattle.vx_moments.specs.World.{Group, World}
use Rattle.vx_lending.specs.Public.{running_at}
use Rattle.vx_volume.specs.declared.log.VolumeLog.TheVariants.{Absent}
use Rattle.vx_stages.specs.Ends.{EndsIn, IsChange, refused}
use Rattle.vx_stages.specs.Logged.{IsRelogged, IsUnprepared, RelogsIfRunning, UnprepareStops, UnprepareStopsIn}
use Rattle.vx_stages.specs.Logging.{AreEditsRefused, IsUnprepareRefused, MayLoseLog, unprepare_edits}
use Rattle.vx_stages.specs.Recorded.{IsSoundAs}
use Rattle.vx_stages.specs.Stopping.{runs_on_plexes}
use Rattle.vx_group_edits.specs.OfVolume.{AreEditsOf}
use Rattle.vx_group_edits.proofs.DcoEdits.{unpreparing_own}
use Rattle.vx_house.specs.Scene.{IsBlamed, Shelved}
use Rattle.vx_house.specs.View.{IsMoment, IsMomentButGroup, Keeps, at, group_of, scene}
use Rattle.vx_house.specs.declared.house.House.{House}
use Rattle.vx_house.specs.declared.house.Imported.{Imported}
use Rattle.vx_house.specs.declared.stop.Stop.{Stop}
use Rattle.vx_house.specs.declared.stop.Stop.TheVariants as stops
use Rattle.vx_house.proofs.Moments.{faults_refl, later_refl}
use Rattle.vx_house.proofs.Takes.{rests_self}
use Rattle.vx_house_calls.specs.Passes.{with_group}
use Rattle.vx_stage_changes.specs.declared.planning.NextConfig.{NextConfig}
use Rattle.vx_stage_volumes.proofs.Named.{found_name}
use Rattle.vx_stage_mirrors.specs.Ending.{seen_group}
use Rattle.vx_stage_mirrors.specs.LogEnding.{IsPlannedLoss, IsPoweredIn, IsUnprepareStopped, LossEnds, UnprepareEnds, is_running}
use Rattle.vx_stage_mirrors.specs.LogMoments.{EachFailedRecordStops, EachRecordGoes, IsRecordOf, IsRelogAt, RecordGoes, RecordStops}
use Rattle.vx_stage_mirrors.specs.Planned.{EndsAs}
use Rattle.vx_stage_mirrors.specs.Relogging.{IsRecordedIn, RecordEnds, RelogsIn}
use Rattle.vx_stage_mirrors.proofs.LogGoing.{GoesAs, has_done, has_ended, has_wanted, here, runs_same, same_house}

-- What the laws of the steps promise.
pub record LossLaws {P : Type 0} (ghosts : Ghosts P) : Type 0 where
  pub records : (h : House P ghosts) (old new : Imported P ghosts) → EachRecordGoes ghosts.seen h old new
  pub stops : (h : House P ghosts) (old new : Imported P ghosts) → EachFailedRecordStops ghosts.seen h old new

-- What is known of logs that are to go.
pub record LossFacts {P : Type 0} {ghosts : Ghosts P} (see : P → Seen) (g : Imported P ghosts) (name : Word) (v : Vol) (next : NextConfig) (planned : IsPlannedLoss see name v next g) : Type 0 where
  pub edits : List Edit
  pub edits_are : edits ≡ unprepare_edits g.config v planned.dco planned.planned.plex
  pub loses : MayLoseLog g.config name v planned.planned.plex edits
  -- without a log it is sound by its bytes
  pub sound : (w : World) → IsSoundAs (seen_group see g) next.config name w
  -- where it runs it goes on without its log, on its plex alone
  pub parts : is_running g name ≡ true → IsPoweredIn see name g → (shelf : Shelved) (h : House P ghosts) → h.group ≡ Some g → Keeps see (at shelf h) →
      (recorded new : Imported P ghosts) → IsRecordedIn see next g recorded → RelogsIn see name Absent [] recorded new →
      RecordGoes see shelf h new (IsRelogAt see shelf (with_group h new) name edits next.config (λ plexes later. later ≡ planned.planned.plex.name ∷ []))

none_of : {X : Type 0} (o : Option X) → is_some o ≡ false → o ≡ None
none_of None e = refl
none_of (Some y) e = absurd (false≢true (sym e))

module _ {P : Type 0} {ghosts : Ghosts P} (laws : LossLaws ghosts) (name : Word) (shelf : Shelved) (h : House P ghosts) where
  abbrev see : P → Seen
  see = ghosts.seen

  abbrev Left : Moment → Moment → Type 0
  Left m k = k.world ≡ m.world

  abbrev GoesTo : Result (Unit {0}) Stop → House P ghosts → Type 0
  GoesTo result h' = GoesAs see (IsUnprepared name) (UnprepareStops name) Left result (at shelf h) (at shelf h')

  module _ (keeps : Keeps see (at shelf h)) where
    -- no group is imported
    pub no_group : h.group ≡ None → GoesTo (Err (stops.Ended (ends.Refused (refusal.NoGroup None)))) h
    no_group none = has_ended see (IsUnprepared name) (UnprepareStops name) Left (at shelf h) (at shelf h) (ends.Refused (refusal.NoGroup None)) keeps (λ m is. (
      m,
      is,
      later_refl m.counts,
      subst (λ o. MatchOption o (EndsIn (refusal.NoGroup None) m (ends.Refused (refusal.NoGroup None)) m) (λ g. UnprepareStopsIn g name m (ends.Refused (refusal.NoGroup None)) m))
          (sym (is.group_is ∙ ap (group_of see) none)) (refl, rests_self m),
    ))
        (faults_refl (scene see (at shelf h))) tt

    module _ (g : Imported P ghosts) (has_group : h.group ≡ Some g) where
      abbrev gm : Group
      gm = seen_group see g

      abbrev runs : Bool
      runs = is_running g name

      here_is : (m : Moment) → IsMoment see (at shelf h) m → m.world.group ≡ Some gm
      here_is m is = here see shelf h g has_group m is

      stops_in : (m k : Moment) (end : End) → IsMoment see (at shelf h) m → UnprepareStopsIn gm name m end k → UnprepareStops name m end k
      stops_in m k end is s = subst (λ o. MatchOption o (EndsIn (refusal.NoGroup None) m end k) (λ w. UnprepareStopsIn w name m end k)) (sym (here_is m is)) s

      runs_is : (m : Moment) → IsMoment see (at shelf h) m → runs_on_plexes m.world name ≡ runs
      runs_is m is = runs_same see shelf h g has_group name m is

      -- ---- refused before anything is touched

      refuses_edits : (c : Config) (edits : List Edit) (end : End) → AreEditsRefused c edits end → (r : Refusal) × (end ≡ refused r)
      refuses_edits c edits end (inl (r, is, e)) = (r, e)
      refuses_edits c edits end (inr (next, edited, (text, is, long, e))) = (_, e)

      refuses : (end : End) → IsUnprepareRefused gm name end → (r : Refusal) × (end ≡ refused r)
      refuses end (inl (r, is, e)) = (r, e)
      refuses end (inr (v, plex, edits, loses, is)) = refuses_edits g.config edits end is

      refused_goes : (end : End) → IsUnprepareRefused gm name end → GoesTo (Err (stops.Ended end)) h
      refused_goes end is = has_ended see (IsUnprepared name) (UnprepareStops name) Left (at shelf h) (at shelf h) end keeps
          (λ m at_m. (m, at_m, later_refl m.counts, stops_in m m end at_m (inl (is, rests_self m))))
          (faults_refl (scene see (at shelf h)))
          (let why = refuses end is in subst (λ e. IsBlamed e (scene see (at shelf h)) (scene see (at shelf h))) (sym why.1) tt)

      refused_by : (stop : Stop) (new : Imported P ghosts) → new ≡ g → EndsAs (IsUnprepareRefused gm name) stop → GoesTo (Err stop) (with_group h new)
      refused_by (stops.Ended end) new same is = subst (GoesTo (Err (stops.Ended end))) (same_house see shelf h g has_group new same) (refused_goes end is)
      refused_by stops.OutOfMemory new same is =
          subst (GoesTo (Err stops.OutOfMemory)) (same_house see shelf h g has_group new same)
          (has_wanted see (IsUnprepared name) (UnprepareStops name) Left (at shelf h) (at shelf h) keeps (λ m is. (m, is, later_refl m.counts, refl)) (faults_refl (scene see (at shelf h))))

      -- ---- planned

      module _ (v : Vol) (next : NextConfig) (planned : IsPlannedLoss see name v next g) (facts : LossFacts see g name v next planned) where
        abbrev record_of : IsRecordOf g name facts.edits next
        record_of = record {
          own = subst (λ x. AreEditsOf g.config x facts.edits) (found_name g.config name v planned.found) (unpreparing_own g.config name v planned.planned.plex facts.edits facts.loses);
          edited = subst (λ es. IsEdited es g.config next.config) (sym facts.edits_are) planned.planned.next.0;
          printed = planned.planned.next.1;
        }

        sound_at : (m : Moment) (x : Writing) → x.config ≡ next.config → IsSoundAs gm x.config name m.world
        sound_at m x same = subst (λ c. IsSoundAs gm c name m.world) (sym same) (facts.sound m.world)

        unprepared : (m : Moment) (is : IsMoment see (at shelf h) m) (x : Writing) → x.config ≡ next.config → IsChange facts.edits m.world x → (recorded : Moment) → IsCommitted x m recorded → AreLater m.counts recorded.counts → (then : Moment) →
            RelogsIfRunning m.world name (λ plexes later. later ≡ planned.planned.plex.name ∷ []) recorded then → IsUnprepared name m then
        unprepared m is x same change recorded committed rest then goes = record {
          group = gm;
          here = here_is m is;
          volume = v;
          plex = planned.planned.plex;
          edits = facts.edits;
          loses = facts.loses;
          writing = x;
          change = change;
          sound = sound_at m x same;
          recorded = recorded;
          committed = committed;
          rest = rest;
          runs = goes;
        }

        module _ (end : End) (new : Imported P ghosts) (s : RecordStops see shelf h facts.edits next.config new end) where
          stopped_at : (m : Moment) → IsMoment see (at shelf h) m → (k : Moment) × IsMomentButGroup see (at shelf (with_group h new)) k × AreLater m.counts k.counts × UnprepareStops name m end k
          stopped_at m is = let x = s.moments m is in (
            x.then,
            x.is,
            x.after,
            stops_in m x.then end is (inr (record {
              volume = v;
              plex = planned.planned.plex;
              edits = facts.edits;
              loses = facts.loses;
              rest = x.after;
              stops = (x.writing, x.change, x.stopped);
              sound = sound_at m x.writing x.config_is;
            })),
          )

        record_stops : (end : End) (new : Imported P ghosts) → RecordEnds see next (Err (stops.Ended end)) g new → RecordStops see shelf h facts.edits next.config new end
        record_stops end new e = laws.stops h g new shelf name facts.edits next has_group keeps record_of end e

        unrecorded_by : (stop : Stop) (new : Imported P ghosts) → RecordEnds see next (Err stop) g new → GoesTo (Err stop) (with_group h new)
        unrecorded_by stops.OutOfMemory new (same, rest) = refused_by stops.OutOfMemory new (rest ∙ ap (λ b. (let x : Imported P ghosts = record { config = g.config; base = b; public = g.public } in x)) same) tt
        unrecorded_by (stops.Ended ends.GroupLost) new e =
            let s = record_stops ends.GroupLost new e in record { keeps = s.keeps; goes = stopped_at ends.GroupLost new s; faults = s.faults; blamed = tt }
        unrecorded_by (stops.Ended (ends.Lost parts)) new e =
            let s = record_stops (ends.Lost parts) new e in record { keeps = s.keeps; goes = stopped_at (ends.Lost parts) new s; faults = s.faults; blamed = tt }
        unrecorded_by (stops.Ended (ends.Done copied parts blocks)) new e = absurd e.0
        unrecorded_by (stops.Ended (ends.Refused why)) new e = absurd e.0
        unrecorded_by (stops.Ended (ends.Fault told device parts)) new e = absurd e.0
        unrecorded_by (stops.Ended ends.ShelfFailed) new e = absurd e.0

        -- the volume does not run
        still_goes : runs ≡ false → (new : Imported P ghosts) → IsRecordedIn see next g new → GoesTo (Ok tt) (with_group h new)
        still_goes off new recorded =
            let r = laws.records h g new shelf name facts.edits next has_group keeps record_of (none_of (running_at g.public name) off) recorded in
            has_done see (IsUnprepared name) (UnprepareStops name) Left (at shelf h) (at shelf (with_group h new)) r.keeps
            (λ m is. let x = r.moments m is in (
              x.then,
              x.is,
              x.after,
              unprepared m is x.writing x.config_is x.change x.then x.committed x.after x.then (subst (λ b. MatchBool b (IsRelogged name (λ plexes later. later ≡ planned.planned.plex.name ∷ []) x.then x.then) (x.then ≡ x.then)) (sym (runs_is m is ∙ off)) refl),
            ))
            r.faults

        -- it runs, and goes on without its log
        parted_goes : runs ≡ true → (new : Imported P ghosts) → RecordGoes see shelf h new (IsRelogAt see shelf (with_group h new) name facts.edits next.config (λ plexes later. later ≡ planned.planned.plex.name ∷ [])) → GoesTo (Ok tt) (with_group h new)
        parted_goes on new r =
            has_done see (IsUnprepared name) (UnprepareStops name) Left (at shelf h) (at shelf (with_group h new)) r.keeps
            (λ m is. let x = r.moments m is in (
              x.then,
              x.is,
              x.after,
              unprepared m is x.writing x.config_is x.change x.recorded x.committed (subst (AreLater m.counts) x.counts x.after) x.then
                  (subst (λ b. MatchBool b (IsRelogged name (λ plexes later. later ≡ planned.planned.plex.name ∷ []) x.recorded x.then) (x.then ≡ x.recorded)) (sym (runs_is m is ∙ on))
                  (record { volume = x.before; was = x.was; plexes = x.plexes; lies = x.lay; later = x.plexes_then; goes = x.goes; world = x.world; counts = x.counts })),
            ))
            r.faults

        planned_ends : (result : Result (Unit {0}) Stop) (new : Imported P ghosts) → IsPoweredIn see name g → LossEnds see v next result g new → GoesTo result (with_group h new)
        planned_ends (Err stop) new power e = unrecorded_by stop new e
        planned_ends (Ok u) new power e = by runs refl
          where
            named : v.name ≡ name
            named = found_name g.config name v planned.found

            parts_by : (b : Bool) → runs ≡ b → MatchBool b (RelogsIn see name Absent [] e.recorded new) (new ≡ e.recorded)
            parts_by b is =
                subst (λ y. MatchBool b (RelogsIn see y Absent [] e.recorded new) (new ≡ e.recorded)) named
                (subst (λ y. MatchBool y (RelogsIn see v.name Absent [] e.recorded new) (new ≡ e.recorded)) (ap (is_running g) named ∙ is) e.parts)

            by : (b : Bool) → runs ≡ b → GoesTo (Ok tt) (with_group h new)
            by true is = parted_goes is new (facts.parts is power shelf h has_group keeps e.recorded new e.records (parts_by true is))
            by false is = subst (λ (y : Imported P ghosts). GoesTo (Ok tt) (with_group h y)) (sym (parts_by false is)) (still_goes is e.recorded e.records)

      stopped_ends : (result : Result (Unit {0}) Stop) (new : Imported P ghosts) → IsUnprepareStopped see name result g new → GoesTo result (with_group h new)
      stopped_ends (Ok u) new e = absurd e
      stopped_ends (Err stop) new e = refused_by stop new e.0 e.1

      pub unprepare_goes : ((v : Vol) (next : NextConfig) (planned : IsPlannedLoss see name v next g) → LossFacts see g name v next planned) → (result : Result (Unit {0}) Stop) (new : Imported P ghosts) → UnprepareEnds see name result g new → GoesTo result (with_group h new)
      unprepare_goes facts result new (inl e) = stopped_ends result new e
      unprepare_goes facts result new (inr e) = planned_ends e.volume e.next e.planned (facts e.volume e.next e.planned) result new e.power e.ends
