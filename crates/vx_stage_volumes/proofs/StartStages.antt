-- The start of a volume as a stage: one that has ended, one that wants memory, one that a test refuses, and one without a group.
use Rattle.std.proofs.Common.{◌≡◌, ◌∙◌, inl, inr, true, List, map, Some, None, Result, Ok, Err, refl, sym, ap, subst}
use Rattle.std.specs.Prelude.{MatchBool, MatchOption, IsErrAnd}
use Rattle.vx_pages.specs.declared.local_piece.LocalPiece.{Ghosts}
use Rattle.vx_base.specs.Named.{Word}
use Rattle.vx_piece.specs.Seen.{Seen}
use Rattle.vx_copies.specs.Disks.{good_mask}
use Rattle.vx_confdb.specs.Groups.{members}
use Rattle.vx_config_parts.specs.declared.vol.Vol.{Vol}
use Rattle.vx_answers.specs.declared.answer.End.{End}
use Rattle.vx_answers.specs.declared.answer.End.TheVariants as ends
use Rattle.vx_answers.specs.declared.refusal.Refusal.{Refusal}
use Rattle.vx_answers.specs.declared.refusal.Refusal.TheVariants as refusal
use Rattle.vx_moments.specs.Moment.{Moment}
use Rattle.vx_moments.specs.World.{Group}
use Rattle.vx_script_words.specs.declared.value.DiskAt.{DiskAt}
use Rattle.vx_stages.specs.Ends.{EndsIn}
use Rattle.vx_stages.specs.Starting.{StartStops, StartWants, StopsIn, StopsOf, may_start}
use Rattle.vx_stages.specs.Stages.{IsDone, Stops, Wants}
use Rattle.vx_stages.specs.Tests.{volume_in}
use Rattle.vx_stages.specs.declared.stage.Stage.TheVariants as stage
use Rattle.vx_house.specs.Goes.{Goes, StageGoes}
use Rattle.vx_house.specs.Scene.{FaultsGoOn, IsBlamed, Shelved}
use Rattle.vx_house.specs.View.{IsMoment, Keeps, View, at, group_of, member_of, scene}
use Rattle.vx_house.specs.declared.house.House.{House}
use Rattle.vx_house.specs.declared.house.Imported.{Imported}
use Rattle.vx_house.specs.declared.stop.Stop.{Stop}
use Rattle.vx_house.specs.declared.stop.Stop.TheVariants as stops
use Rattle.vx_house.proofs.Ends.{goes_ended, keeps_ended}
use Rattle.vx_house.proofs.Moments.{faults_refl, later_refl}
use Rattle.vx_house.proofs.Takes.{rests_self}
use Rattle.vx_stage_volumes.specs.Opening.{good_of}
use Rattle.vx_stage_volumes.specs.Parting.{PartsGroup}
use Rattle.vx_stage_volumes.specs.Starting.{EndsRunning, EndsUnopened, EndsUnrecorded, IsRefusedNow, IsRefusedStart, StartEnds}
use Rattle.vx_stage_volumes.proofs.PartedHouse.{keeps_now, moment_now, same_scene}

-- the group as the world has it
abbrev pub seen_group : {P : Type 0} {ghosts : Ghosts P} → (P → Seen) → Imported P ghosts → Group
seen_group see g = record { config = g.config; good = good_mask (members see g.base); members = map member_of g.base.disks.items; sequence = g.base.sequence }

module _ {P : Type 0} {ghosts : Ghosts P} (see : P → Seen) (name : Word) (disks : List DiskAt) where
  -- it has ended the command, and all is kept
  pub has_ended : (end : End) (old new : View P ghosts) → Keeps see new → Goes see (λ m n. StartStops name m end n) old new → FaultsGoOn (scene see old) (scene see new) → IsBlamed end (scene see old) (scene see new) →
      StageGoes {T = Unit {0}} see (stage.Start name) disks (Err (stops.Ended end)) old new
  has_ended end old new keeps goes faults blamed = record {
    keeps = keeps_ended see end new keeps;
    goes = goes_ended see (IsDone (stage.Start name) disks) (Stops (stage.Start name) disks) (Wants (stage.Start name)) end old new goes;
    gives = tt;
    still = λ is. tt;
    faults = faults;
    blamed = blamed;
  }

  -- memory was wanting
  pub has_wanted : (old new : View P ghosts) → Keeps see new → Goes see (StartWants name) old new → FaultsGoOn (scene see old) (scene see new) → StageGoes {T = Unit {0}} see (stage.Start name) disks (Err stops.OutOfMemory) old new
  has_wanted old new keeps goes faults = record { keeps = keeps; goes = goes; gives = tt; still = λ is. tt; faults = faults; blamed = tt }

  module _ (shelf : Shelved) (h : House P ghosts) (keeps : Keeps see (at shelf h)) where
    -- no group is imported
    pub no_group : h.group ≡ None → StageGoes {T = Unit {0}} see (stage.Start name) disks (Err (stops.Ended (ends.Refused (refusal.NoGroup None)))) (at shelf h) (at shelf h)
    no_group none = has_ended (ends.Refused (refusal.NoGroup None)) (at shelf h) (at shelf h) keeps (λ m is. (
      m,
      is,
      later_refl m.counts,
      subst (λ o. MatchOption o (EndsIn (refusal.NoGroup None) m (ends.Refused (refusal.NoGroup None)) m) (λ g. StopsIn g name m (ends.Refused (refusal.NoGroup None)) m))
          (sym (is.group_is ∙ ap (group_of see) none)) (refl, rests_self m),
    ))
        (faults_refl (scene see (at shelf h))) tt

    module _ (g : Imported P ghosts) (has : h.group ≡ Some g) where
      abbrev gm : Group
      gm = seen_group see g

      pub here : (m : Moment) → IsMoment see (at shelf h) m → m.world.group ≡ Some gm
      here m is = is.group_is ∙ ap (group_of see) has

      -- how the start of the volume of the group ends is how that of the name does
      pub stops_in : (m n : Moment) (end : End) → IsMoment see (at shelf h) m → StopsIn gm name m end n → StartStops name m end n
      stops_in m n end is stops = subst (λ o. MatchOption o (EndsIn (refusal.NoGroup None) m end n) (λ w. StopsIn w name m end n)) (sym (here m is)) stops

      pub stops_of : (v : Vol) → volume_in name g.config.volumes ≡ Some v → may_start v.state ≡ true → (m n : Moment) (end : End) → IsMoment see (at shelf h) m → StopsOf gm v m end n → StartStops name m end n
      stops_of v found may m n end is stops = stops_in m n end is
          (subst (λ o. MatchOption o (EndsIn (refusal.NoObject name) m end n) (λ v. MatchBool (may_start v.state) (StopsOf gm v m end n) (EndsIn (refusal.VolState v.state) m end n))) (sym found)
          (subst (λ b. MatchBool b (StopsOf gm v m end n) (EndsIn (refusal.VolState v.state) m end n)) (sym may) stops))

      -- a test refuses it, and nothing was called
      refused_in : (m : Moment) (end : End) → IsRefusedNow name g.config (good_of see g) (stops.Ended end) → StopsIn gm name m end m
      refused_in m end (inl (none, is)) =
          subst (λ o. MatchOption o (EndsIn (refusal.NoObject name) m end m) (λ v. MatchBool (may_start v.state) (StopsOf gm v m end m) (EndsIn (refusal.VolState v.state) m end m))) (sym none) ((let e : end ≡ ends.Refused (refusal.NoObject name) = cc in e), rests_self m)
      refused_in m end (inr (v, found, is)) =
          subst (λ o. MatchOption o (EndsIn (refusal.NoObject name) m end m) (λ v. MatchBool (may_start v.state) (StopsOf gm v m end m) (EndsIn (refusal.VolState v.state) m end m))) (sym found) (by is)
        where
          by : IsRefusedStart g.config (good_of see g) v (stops.Ended end) → MatchBool (may_start v.state) (StopsOf gm v m end m) (EndsIn (refusal.VolState v.state) m end m)
          by (inl (not, e)) = subst (λ b. MatchBool b (StopsOf gm v m end m) (EndsIn (refusal.VolState v.state) m end m)) (sym not) (e, rests_self m)
          by (inr (may, inl early)) = subst (λ b. MatchBool b (StopsOf gm v m end m) (EndsIn (refusal.VolState v.state) m end m)) (sym may) (inl (inl early, rests_self m))
          by (inr (may, inr long)) = subst (λ b. MatchBool b (StopsOf gm v m end m) (EndsIn (refusal.VolState v.state) m end m)) (sym may) (inl (inr long, rests_self m))

      -- a refusal blames nothing
      refuses : (end : End) → IsRefusedNow name g.config (good_of see g) (stops.Ended end) → (r : Refusal) × (end ≡ ends.Refused r)
      refuses end (inl (none, is)) = (refusal.NoObject name, (let e : end ≡ ends.Refused (refusal.NoObject name) = cc in e))
      refuses end (inr (v, found, inl (not, e))) = (refusal.VolState v.state, e)
      refuses end (inr (v, found, inr (may, inl (r, early, e)))) = (r, e)
      refuses end (inr (v, found, inr (may, inr (early, next, edited, (text, is, long, e))))) = (_, e)

      module _ (g' : Imported P ghosts) (parts : PartsGroup see g g') where
        abbrev k : House P ghosts
        k = record h { group = Some g' }

        faults_on : FaultsGoOn (scene see (at shelf h)) (scene see (at shelf k))
        faults_on = subst (λ s. FaultsGoOn (scene see (at shelf h)) s) (sym (same_scene see shelf h g g' has parts)) (faults_refl (scene see (at shelf h)))

        -- it is refused
        pub refused_goes : (end : End) → IsRefusedNow name g.config (good_of see g) (stops.Ended end) → StageGoes {T = Unit {0}} see (stage.Start name) disks (Err (stops.Ended end)) (at shelf h) (at shelf k)
        refused_goes end is = has_ended end (at shelf h) (at shelf k) (keeps_now see shelf h g g' has parts keeps)
            (λ m at_m. (m, moment_now see shelf h g g' has parts m at_m, later_refl m.counts, stops_in m m end at_m (refused_in m end is))) faults_on
            (let why = refuses end is in subst (λ e. IsBlamed e (scene see (at shelf h)) (scene see (at shelf k))) (sym why.1) tt)

        -- memory was wanting before anything was touched
        pub wanting_goes : StageGoes {T = Unit {0}} see (stage.Start name) disks (Err stops.OutOfMemory) (at shelf h) (at shelf k)
        wanting_goes = has_wanted (at shelf h) (at shelf k) (keeps_now see shelf h g g' has parts keeps) (λ m at_m. (m, moment_now see shelf h g g' has parts m at_m, later_refl m.counts, inl refl)) faults_on

      -- However it ends, it goes so, if it does where the volume was not opened, not recorded, and where it runs.
      pub start_goes :
          ((g' : Imported P ghosts) (stop : Stop) → EndsUnopened see name stop g g' → StageGoes {T = Unit {0}} see (stage.Start name) disks (Err stop) (at shelf h) (at shelf (record h { group = Some g' }))) →
          ((g' : Imported P ghosts) (stop : Stop) → EndsUnrecorded see name stop g g' → StageGoes {T = Unit {0}} see (stage.Start name) disks (Err stop) (at shelf h) (at shelf (record h { group = Some g' }))) →
          ((g' : Imported P ghosts) (stop : Stop) → EndsRunning see name stop g g' → StageGoes {T = Unit {0}} see (stage.Start name) disks (Err stop) (at shelf h) (at shelf (record h { group = Some g' }))) →
          (g' : Imported P ghosts) (result : Result (Unit {0}) Stop) → IsErrAnd result (λ stop. StartEnds see name stop g g') →
          StageGoes {T = Unit {0}} see (stage.Start name) disks result (at shelf h) (at shelf (record h { group = Some g' }))
      start_goes unopened unrecorded running g' (Ok u) is = absurd is
      start_goes unopened unrecorded running g' (Err (stops.Ended end)) (inl (parts, is)) = refused_goes g' parts end is
      start_goes unopened unrecorded running g' (Err stops.OutOfMemory) (inl (parts, is)) = wanting_goes g' parts
      start_goes unopened unrecorded running g' (Err stop) (inr (inl (wants, parts))) =
          subst (λ s. StageGoes {T = Unit {0}} see (stage.Start name) disks (Err s) (at shelf h) (at shelf (record h { group = Some g' }))) (sym wants) (wanting_goes g' parts)
      start_goes unopened unrecorded running g' (Err stop) (inr (inr (inl is))) = unopened g' stop is
      start_goes unopened unrecorded running g' (Err stop) (inr (inr (inr (inl is)))) = unrecorded g' stop is
      start_goes unopened unrecorded running g' (Err stop) (inr (inr (inr (inr is)))) = running g' stop is
