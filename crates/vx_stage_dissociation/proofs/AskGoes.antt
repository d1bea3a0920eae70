-- A data plex that leaves a volume that does not run, whose log is asked before: however that ended on the group, it goes so in the house.
use Rattle.std.proofs.Common.{◌≡◌, ◌∙◌, ◌⊎◌, ℕ, ◌<◌, Bool, true, false, List, [], Option, Some, None, Result, Ok, Err, refl, sym, ap, subst, inl, inr}
use Rattle.std.specs.Prelude.{MatchBool, MatchOption, is_some}
use Rattle.std.specs.BTreeMap.{BTreeMap, get}
use Rattle.std.specs.Cmp.Lexicographic.{slice_cmp}
use Rattle.std.specs.Ordering.{nat_cmp}
use Rattle.std.proofs.lemmas.Bool.{false≢true}
use Rattle.vx_base.specs.Named.{Word}
use Rattle.vx_piece.specs.Seen.{Seen}
use Rattle.vx_pages.specs.declared.local_piece.LocalPiece.{Ghosts}
use Rattle.vx_config_parts.specs.declared.plex.Plex.{Plex}
use Rattle.vx_config_parts.specs.declared.vol.Vol.{Vol}
use Rattle.vx_objects.specs.declared.config.Config.{Config}
use Rattle.vx_objects.specs.declared.edit.Edit.{Edit}
use Rattle.vx_objects.specs.Applied.{IsEdited}
use Rattle.vx_answers.specs.declared.answer.End.{End}
use Rattle.vx_answers.specs.declared.answer.End.TheVariants as ends
use Rattle.vx_answers.specs.declared.refusal.Refusal.TheVariants as refusal
use Rattle.vx_state_edits.specs.Edits.{is_new}
use Rattle.vx_image.specs.Bytes.{map_or_zero}
use Rattle.vx_image.specs.Soundness.{IsSoundImage}
use Rattle.vx_image.specs.UsedPlexes.{IsVolOf}
use Rattle.vx_image.proofs.Members.{contains, is_in}
use Rattle.vx_image.proofs.Narrowing.{narrowed_sound}
use Rattle.vx_group_edits.proofs.ByKind.{vol_recorded}
use Rattle.vx_group_edits.specs.OfVolume.{AreEditsOf}
use Rattle.vx_moments.specs.Group.{image_on, sectors_of}
use Rattle.vx_moments.specs.Leaving.{grouped}
use Rattle.vx_moments.specs.Moment.{AreLater, Moment}
use Rattle.vx_moments.specs.World.{Group, Volume}
use Rattle.vx_volume.specs.Switching.{CanSpare, Needs}
use Rattle.vx_volume.specs.Volume.{volume_seen}
use Rattle.vx_lending.specs.Public.{running_at}
use Rattle.vx_lending.specs.declared.public.Running.{Running}
use Rattle.vx_group_start.specs.declared.fault.StartFault.{StartFault}
use Rattle.vx_group_start.specs.declared.fault.StartFault.TheVariants as fault
use Rattle.vx_joined_volumes.specs.Parted.{TakesOut}
use Rattle.vx_joined_volumes.proofs.PartEdits.{edits_own, has_lost}
use Rattle.vx_stages.specs.Ends.{lost, refused}
use Rattle.vx_stages.specs.Recorded.{IsSoundAs}
use Rattle.vx_stages.specs.Starting.{IsFirstMissed, UnopenedBy}
use Rattle.vx_stages.specs.Stopping.{runs_on_plexes}
use Rattle.vx_stages.specs.Tests.{is_data}
use Rattle.vx_stages.specs.Leaving.{ByLog, leaving_edits, way_of}
use Rattle.vx_stages.specs.Left.{IsAsked, IsSparedIn, LeavesVolume, StaysKnown, StaysSound, UnaskedBy, VolumeStops}
use Rattle.vx_house.specs.Scene.{FaultsGoOn, IsBlamed, Shelved}
use Rattle.vx_house.specs.View.{IsMoment, IsMomentButGroup, Keeps, at, scene}
use Rattle.vx_house.specs.declared.house.House.{House}
use Rattle.vx_house.specs.declared.house.Imported.{Imported}
use Rattle.vx_house.specs.declared.stop.Stop.{Stop}
use Rattle.vx_house.specs.declared.stop.Stop.TheVariants as stops
use Rattle.vx_house.proofs.Moments.{faults_refl, faults_trans, later_refl, later_trans}
use Rattle.vx_house_calls.specs.Passes.{with_group}
use Rattle.vx_stage_changes.specs.declared.planning.NextConfig.{NextConfig}
use Rattle.vx_stage_volumes.specs.Early.{refusal_here}
use Rattle.vx_stage_volumes.specs.Naming.{fault_of, names_at, unopened}
use Rattle.vx_stage_volumes.specs.Opening.{IsUnopenedIn, good_of}
use Rattle.vx_stage_volumes.specs.Parting.{PartsGroup}
use Rattle.vx_stage_volumes.proofs.HeldStart.{world_of}
use Rattle.vx_stage_volumes.proofs.Narrowed.{HaveNarrowing}
use Rattle.vx_stage_volumes.proofs.PartedHouse.{keeps_now, moment_now, same_scene}
use Rattle.vx_stage_volumes.proofs.UnopenedHouse.{HasCause, IsUnopenedAt, unopened_at, unopened_cause, unopened_faults, unopened_house, unopened_keeps}
use Rattle.vx_stage_mirrors.specs.Ending.{seen_group}
use Rattle.vx_stage_mirrors.specs.LogMoments.{IsRecordOf, RecordStops}
use Rattle.vx_stage_mirrors.specs.Relogging.{IsRecordedIn, RecordEnds}
use Rattle.vx_stage_mirrors.proofs.LogGoing.{runs_same, same_house, some_one}
use Rattle.vx_stage_mirrors.proofs.Meant.{same_vol}
use Rattle.vx_stage_mirrors.proofs.Recorded.{record_goes}
use Rattle.vx_stage_mirrors.proofs.Unrecorded.{record_stops}
use Rattle.vx_stage_dissociation.specs.Asking.{AsksIn, unspared}
use Rattle.vx_stage_dissociation.specs.Going.{GoesAs, WayWants}
use Rattle.vx_stage_dissociation.specs.Planned.{IsLeavingPlanned}
use Rattle.vx_stage_dissociation.proofs.AskFacts.{ask_absent, ask_early, ask_takes, not_fresh, not_new}
use Rattle.vx_stage_dissociation.proofs.AskHouse.{asked_at, asked_is, faults_asked, g_asked, h_asked, keeps_asked}
use Rattle.vx_stage_dissociation.proofs.AskImages.{missed_needed}
use Rattle.vx_stage_dissociation.proofs.AskSound.{needed_before, sound_then, spared_before}
use Rattle.vx_stage_dissociation.proofs.ByWays.{EndsBy, leaves_so, stops_so}
use Rattle.vx_stage_dissociation.proofs.Going.{has_done, has_ended, has_wanted}
use Rattle.vx_stage_dissociation.proofs.LeaveFacts.{edits_same, vol_there}

none_by : {X : Type 0} (o : Option X) → is_some o ≡ false → o ≡ None
none_by None e = refl
none_by (Some x) e = absurd (false≢true (sym e))

-- why a volume is not opened: its log says that a region has no current plex, or one of the causes that a log is not asked for
unasked : (g : Group) (v : Vol) (old : Moment) (end : End) (new : Moment) → UnopenedBy g v old end new → UnaskedBy g v old end new ⊎ ((r : ℕ) × (end ≡ refused (refusal.NoCurrent r)) × IsFirstMissed (image_on old.world.devices g v) r)
unasked g v old end new (inl (is, filled, dco, none)) = inl (inl (is, none))
unasked g v old end new (inr (inl (r, is, filled, first))) = inr (r, is, first)
unasked g v old end new (inr (inr (inl failed))) = inl (inr (inl failed))
unasked g v old end new (inr (inr (inr cut))) = inl (inr (inr cut))

no_log_current : (name : Word) (r : ℕ) → refused (refusal.NoLog name) ≡ refused (refusal.NoCurrent r) → ⊥
no_log_current name r e = cc

fault_current : (told device : Word) (r : ℕ) → ends.Fault told device [] ≡ refused (refusal.NoCurrent r) → ⊥
fault_current told device r e = cc

lost_current : (r : ℕ) → lost ≡ refused (refusal.NoCurrent r) → ⊥
lost_current r e = cc

-- where the end is that of a region without a current plex, there is one
current_missed : (g : Group) (v : Vol) (old : Moment) (q : ℕ) (new : Moment) → UnopenedBy g v old (refused (refusal.NoCurrent q)) new → (r : ℕ) × IsFirstMissed (image_on old.world.devices g v) r
current_missed g v old q new (inl (is, filled, dco, none)) = absurd (no_log_current v.name q (sym is))
current_missed g v old q new (inr (inl (r, is, filled, first))) = (r, first)
current_missed g v old q new (inr (inr (inl (told, device, is, failed)))) = absurd (fault_current told device q (sym is))
current_missed g v old q new (inr (inr (inr (is, cut)))) = absurd (lost_current q (sym is))

module _ {P : Type 0} {ghosts : Ghosts P} (alike : (p q : P) → is_some (ghosts.seen p).told ≡ is_some (ghosts.seen q).told) (laws : HaveNarrowing ghosts.seen) (shelf : Shelved) (h : House P ghosts) (keeps : Keeps ghosts.seen (at shelf h))
    (g : Imported P ghosts) (has_group : h.group ≡ Some g) (v : Vol) (p : Plex) (next : NextConfig) (planned : IsLeavingPlanned ghosts.seen ByLog v p next g) where
  abbrev see : P → Seen
  see = ghosts.seen

  abbrev edits : List Edit
  edits = leaving_edits planned.remove p

  -- so it goes for a group of the world
  abbrev pub GoesFor : Group → Result (Unit {0}) Stop → House P ghosts → Type 0
  GoesFor w result h' = GoesAs ghosts.seen (LeavesVolume planned.remove w v p) (VolumeStops planned.remove w v p) (WayWants ByLog w v) result (at shelf h) (at shelf h')

  way_at : (m : Moment) → IsMoment ghosts.seen (at shelf h) m → way_of (is_data p.kind) (runs_on_plexes m.world v.name) v ≡ ByLog
  way_at m is = ap (λ b. way_of (is_data p.kind) b v) (runs_same ghosts.seen shelf h g has_group v.name m is) ∙ planned.way_is

  -- it does not run in the world either
  rests_there : (m : Moment) → IsMoment ghosts.seen (at shelf h) m → grouped (m.world.volumes v.name) ≡ None
  rests_there m is = none_by (grouped (m.world.volumes v.name)) (runs_same ghosts.seen shelf h g has_group v.name m is ∙ ap is_some (ask_absent ghosts.seen g v p next planned))

  module _ {mid : Imported P ghosts} (parts : PartsGroup ghosts.seen g mid) where
    abbrev w : Group
    w = world_of ghosts.seen mid

    same_group : world_of ghosts.seen mid ≡ seen_group ghosts.seen g
    same_group = some_one (world_of ghosts.seen mid) (seen_group ghosts.seen g) parts.group

    -- as it goes for the group that is parted, it goes for that before
    goes_before : (result : Result (Unit {0}) Stop) (h' : House P ghosts) → GoesFor (world_of ghosts.seen mid) result h' → GoesFor (seen_group ghosts.seen g) result h'
    goes_before result h' goes = subst (λ (x : Group). GoesFor x result h') same_group goes

    of_mid : IsVolOf mid.config v
    of_mid = subst (λ c. IsVolOf c v) (sym parts.config) (vol_there ghosts.seen ByLog g v p next planned)

    takes_mid : TakesOut mid.config v p planned.remove next.config
    takes_mid = subst (λ c. TakesOut c v p planned.remove next.config) (sym parts.config) (ask_takes ghosts.seen g v p next planned)

    early_mid : refusal_here mid.config (good_of ghosts.seen mid) v ≡ None
    early_mid = subst (λ (x : Group). refusal_here x.config x.good v ≡ None) (sym same_group) (ask_early ghosts.seen g v p next planned)

    parted_faults : FaultsGoOn (scene ghosts.seen (at shelf h)) (scene ghosts.seen (at shelf (with_group h mid)))
    parted_faults = subst (λ s. FaultsGoOn (scene ghosts.seen (at shelf h)) s) (sym (same_scene ghosts.seen shelf h g mid has_group parts)) (faults_refl (scene ghosts.seen (at shelf h)))

    -- ---- memory was wanting before anything was called

    pub unprepared_goes : GoesFor (seen_group ghosts.seen g) (Err stops.OutOfMemory) (with_group h mid)
    unprepared_goes =
        goes_before (Err stops.OutOfMemory) (with_group h mid)
        (has_wanted ghosts.seen (LeavesVolume planned.remove w v p) (VolumeStops planned.remove w v p) (WayWants ByLog w v) (at shelf h) (at shelf (with_group h mid)) (keeps_now ghosts.seen shelf h g mid has_group parts keeps)
        (λ m is. (m, moment_now ghosts.seen shelf h g mid has_group parts m is, later_refl m.counts, inl refl)) parted_faults)

    -- what was asked, by how the house went on
    asked_by : (k : House P ghosts) (m : Moment) (a : IsUnopenedAt ghosts.seen shelf k (world_of ghosts.seen mid) v m) → IsAsked (world_of ghosts.seen mid) v m a.then
    asked_by k m a = record { touched = a.touched; narrows = a.narrows; later = a.later }

    -- ---- it was not opened

    module _ (g' : Imported P ghosts) {stop : Stop} (is : IsUnopenedIn ghosts.seen v mid g' stop) where
      abbrev k : House P ghosts
      k = unopened_house ghosts.seen alike laws.ends laws.counts laws.law shelf h keeps has_group parts g' is

      abbrev after : (m : Moment) → IsMoment ghosts.seen (at shelf h) m → IsUnopenedAt ghosts.seen shelf k (world_of ghosts.seen mid) v m
      after m at_m = unopened_at ghosts.seen alike laws.ends laws.counts laws.law shelf h keeps has_group parts g' is m at_m

      abbrev Cause : Stop → Type 0
      Cause = HasCause ghosts.seen alike laws.ends laws.counts laws.law shelf h keeps has_group parts g' is

      keeps_then : Keeps ghosts.seen (at shelf k)
      keeps_then = unopened_keeps ghosts.seen alike laws.ends laws.counts laws.law shelf h keeps has_group parts g' is

      faults_then : FaultsGoOn (scene ghosts.seen (at shelf h)) (scene ghosts.seen (at shelf k))
      faults_then = unopened_faults ghosts.seen alike laws.ends laws.counts laws.law shelf h keeps has_group parts g' is

      -- so it has ended the command
      ended : (end : End) → IsBlamed end (scene ghosts.seen (at shelf h)) (scene ghosts.seen (at shelf k)) → ((m : Moment) (at_m : IsMoment ghosts.seen (at shelf h) m) → EndsBy ByLog planned.remove (world_of ghosts.seen mid) v p m end (after m at_m).then) →
          GoesFor (world_of ghosts.seen mid) (Err (stops.Ended end)) k
      ended end blamed by =
          has_ended ghosts.seen (LeavesVolume planned.remove w v p) (VolumeStops planned.remove w v p) (WayWants ByLog w v) (at shelf h) (at shelf k) end keeps_then
          (λ m at_m. let a = after m at_m in (a.then, a.is, a.later, stops_so ByLog planned.remove w v p m (way_at m at_m) end a.then (by m at_m)))
          faults_then blamed

      wanted : GoesFor (world_of ghosts.seen mid) (Err stops.OutOfMemory) k
      wanted =
          has_wanted ghosts.seen (LeavesVolume planned.remove w v p) (VolumeStops planned.remove w v p) (WayWants ByLog w v) (at shelf h) (at shelf k) keeps_then
          (λ m at_m. let a = after m at_m in (a.then, a.is, a.later, inr (asked_by k m a))) faults_then

      -- its log could not be read, for this cause
      unread : (end : End) → ((r : ℕ) → end ≡ refused (refusal.NoCurrent r) → ⊥) → Cause (stops.Ended end) → GoesFor (world_of ghosts.seen mid) (Err (stops.Ended end)) k
      unread end other (cause, blamed) = ended end blamed (λ m at_m.
          let a = after m at_m in
          inl (a.touched, a.narrows, elim (unasked w v m end a.then (cause m at_m)) [ inl by ↦ by | inr (r, same, first) ↦ absurd (other r same) ]))

      -- some region has no current plex
      missed : (q : ℕ) → Cause (stops.Ended (ends.Refused (refusal.NoCurrent q))) → GoesFor (world_of ghosts.seen mid) (Err (stops.Ended (ends.Refused (refusal.OnlyPlex p.name)))) k
      missed q (cause, blamed) = ended (ends.Refused (refusal.OnlyPlex p.name)) tt (λ m at_m.
          let a = after m at_m in
          let r = current_missed w v m q a.then (cause m at_m) in
          inr (inl (record {
            readied = asked_by k m a;
            stays = missed_needed mid.config (good_of ghosts.seen mid) v of_mid p (is_in mid.config.plexes p takes_mid.there) takes_mid.data_is (sectors_of m.world.devices w.members) r.0 r.1;
            end_is = refl;
          })))

      named_by : (o : Option (Word × Word)) → Cause (fault_of o) → GoesFor (world_of ghosts.seen mid) (Err (unspared p.name (fault_of o))) k
      named_by None c = wanted
      named_by (Some names) c = unread (ends.Fault names.0 names.1 []) (fault_current names.0 names.1) c

      by_fault : (x : StartFault) → Cause (unopened ghosts.seen mid.base.disks.items v.name x) → GoesFor (world_of ghosts.seen mid) (Err (unspared p.name (unopened ghosts.seen mid.base.disks.items v.name x))) k
      by_fault fault.OutOfMemory c = wanted
      by_fault fault.NoLog c = unread (ends.Refused (refusal.NoLog v.name)) (no_log_current v.name) c
      by_fault (fault.NoCurrent q) c = missed q c
      by_fault (fault.Failed number) c = named_by (names_at ghosts.seen mid.base.disks.items number) c
      by_fault fault.PowerLost c = unread (ends.Lost []) lost_current c

      unopened_so : GoesFor (world_of ghosts.seen mid) (Err (unspared p.name stop)) k
      unopened_so =
          let cause : Cause stop = unopened_cause ghosts.seen alike laws.ends laws.counts laws.law shelf h keeps has_group parts g' is of_mid early_mid in
          elim is.cause [
            | inl (wants, same) ↦ subst (λ s. GoesFor (world_of ghosts.seen mid) (Err (unspared p.name s)) k) (sym wants) wanted
            | inr (x, told, r) ↦ subst (λ s. GoesFor (world_of ghosts.seen mid) (Err (unspared p.name s)) k) (sym told) (by_fault x (subst Cause told cause))
          ]

      pub unopened_goes : GoesFor (seen_group ghosts.seen g) (Err (unspared p.name stop)) (with_group h g')
      unopened_goes =
          subst (λ (x : Imported P ghosts). GoesFor (seen_group ghosts.seen g) (Err (unspared p.name stop)) (with_group h x)) (sym is.same.group)
          (goes_before (Err (unspared p.name stop)) k unopened_so)

    -- ---- its log was asked

    module _ (room : mid.public.stuck.len < mid.public.stuck.cap) {needed : Bool} {new : Imported P ghosts} (asks : AsksIn ghosts.seen v (map_or_zero p.map) needed mid new) where
      abbrev hh : House P ghosts
      hh = h_asked alike shelf h keeps has_group parts room asks

      abbrev gg : Imported P ghosts
      gg = g_asked alike shelf h keeps has_group parts room asks

      abbrev then_at : (m : Moment) → IsMoment ghosts.seen (at shelf h) m → IsUnopenedAt ghosts.seen shelf hh (world_of ghosts.seen mid) v m
      then_at m at_m = asked_at alike shelf h keeps has_group parts room asks laws m at_m

      keeps_asked_on : Keeps ghosts.seen (at shelf hh)
      keeps_asked_on = keeps_asked alike shelf h keeps has_group parts room asks

      faults_asked_on : FaultsGoOn (scene ghosts.seen (at shelf h)) (scene ghosts.seen (at shelf hh))
      faults_asked_on = faults_asked alike shelf h keeps has_group parts room asks

      the_same : gg ≡ new
      the_same = asked_is alike shelf h keeps has_group parts room asks

      -- some region needs the plex
      module _ (must : needed ≡ true) where
        needs : Needs (map_or_zero p.map) (volume_seen ghosts.seen asks.running.volume)
        needs = subst (λ b. MatchBool b (Needs (map_or_zero p.map) (volume_seen ghosts.seen asks.running.volume)) (CanSpare (map_or_zero p.map) (volume_seen ghosts.seen asks.running.volume))) must asks.says

        needed_so : GoesFor (world_of ghosts.seen mid) (Err (stops.Ended (ends.Refused (refusal.OnlyPlex p.name)))) hh
        needed_so =
            has_ended ghosts.seen (LeavesVolume planned.remove w v p) (VolumeStops planned.remove w v p) (WayWants ByLog w v) (at shelf h) (at shelf hh) (ends.Refused (refusal.OnlyPlex p.name)) keeps_asked_on
            (λ m at_m.
            let a = then_at m at_m in (
              a.then,
              a.is,
              a.later,
              stops_so ByLog planned.remove w v p m (way_at m at_m) (ends.Refused (refusal.OnlyPlex p.name)) a.then (inr (inl (record {
                readied = asked_by hh m a;
                stays = needed_before alike laws shelf h keeps has_group parts room p asks of_mid (not_fresh ghosts.seen g v p next planned) planned.remove next.config takes_mid m at_m needs;
                end_is = refl;
              }))),
            ))
            faults_asked_on tt

        pub needed_goes : GoesFor (seen_group ghosts.seen g) (Err (stops.Ended (ends.Refused (refusal.OnlyPlex p.name)))) (with_group h new)
        needed_goes =
            subst (λ (x : Imported P ghosts). GoesFor (seen_group ghosts.seen g) (Err (stops.Ended (ends.Refused (refusal.OnlyPlex p.name)))) (with_group h x)) the_same
            (goes_before (Err (stops.Ended (ends.Refused (refusal.OnlyPlex p.name)))) hh needed_so)

      -- it can be spared, and the commit is done or not
      module _ (may : needed ≡ false) where
        spares : CanSpare (map_or_zero p.map) (volume_seen ghosts.seen asks.running.volume)
        spares = subst (λ b. MatchBool b (Needs (map_or_zero p.map) (volume_seen ghosts.seen asks.running.volume)) (CanSpare (map_or_zero p.map) (volume_seen ghosts.seen asks.running.volume))) may asks.says

        spared_at : (m : Moment) (at_m : IsMoment ghosts.seen (at shelf h) m) → IsSparedIn (image_on m.world.devices (world_of ghosts.seen mid) v) p
        spared_at m at_m = spared_before alike laws shelf h keeps has_group parts room p asks of_mid (not_fresh ghosts.seen g v p next planned) planned.remove next.config takes_mid m at_m spares

        record_of : IsRecordOf gg v.name edits next
        record_of = record {
          own = subst (AreEditsOf mid.config v.name) (sym (edits_same p planned.remove)) (edits_own mid.config next.config v p planned.remove takes_mid);
          edited = subst (λ c. IsEdited (leaving_edits planned.remove p) c next.config) (sym parts.config) planned.plan.next_is.0;
          printed = planned.plan.next_is.1;
        }

        absent : running_at new.public v.name ≡ None
        absent =
            ap (λ (r : BTreeMap Word (Running P ghosts)). get (slice_cmp nat_cmp) r v.name) (asks.back.runs ∙ asks.opens.same.running ∙ parts.running)
            ∙ ask_absent ghosts.seen g v p next planned

        -- the volume is as sound as it was
        sound_at : (m : Moment) (at_m : IsMoment ghosts.seen (at shelf h) m) → IsSoundAs w w.config v.name m.world → IsSoundAs w next.config v.name (then_at m at_m).then.world
        sound_at m at_m sound x there same =
            let a = then_at m at_m in
            let was : IsSoundImage (image_on m.world.devices w v) = sound v (contains w.config.volumes v (vol_recorded w.config v of_mid)) refl in
            let nearer : IsSoundImage (image_on a.then.world.devices w v) = narrowed_sound (image_on m.world.devices w v) (image_on a.then.world.devices w v) (a.narrows (not_new ghosts.seen g v p next planned)) was in
            let then : IsSoundImage (image_on a.then.world.devices (record w { config = next.config }) v) =
            sound_then alike laws shelf h keeps has_group parts room p asks of_mid (not_fresh ghosts.seen g v p next planned) planned.remove next.config takes_mid m at_m spares nearer in
            subst (λ (y : Vol). IsSoundImage (image_on a.then.world.devices (record w { config = next.config }) y)) (sym (same_vol next.config v x ((has_lost mid.config next.config v p planned.remove takes_mid).recorded of_mid) there same)) then

        stays_sound : (m : Moment) (at_m : IsMoment ghosts.seen (at shelf h) m) → (config : Config) → config ≡ next.config → StaysSound m.world w v config (then_at m at_m).then.world
        stays_sound m at_m config same =
            subst (λ c. StaysSound m.world w v c (then_at m at_m).then.world) (sym same)
            (subst (λ (o : Option Volume). MatchOption o (is_new v.state ≡ false → IsSoundAs w w.config v.name m.world → IsSoundAs w next.config v.name (then_at m at_m).then.world) (λ run. run.sound ≡ true → StaysKnown w v.name next.config (then_at m at_m).then.world run))
            (sym (rests_there m at_m)) (λ started. sound_at m at_m))

        module _ (later : Imported P ghosts) where
          done_so : IsRecordedIn ghosts.seen next gg later → GoesFor (world_of ghosts.seen mid) (Ok tt) (with_group hh later)
          done_so recorded =
              let r = record_goes ghosts.seen hh gg later shelf v.name edits next refl keeps_asked_on record_of absent recorded in
              has_done ghosts.seen (LeavesVolume planned.remove w v p) (VolumeStops planned.remove w v p) (WayWants ByLog w v) (at shelf h) (at shelf (with_group hh later)) r.keeps
              (λ m at_m.
              let a = then_at m at_m in
              let x = r.moments a.then a.is in (
                x.then,
                x.is,
                later_trans m.counts a.then.counts x.then.counts a.later x.after,
                leaves_so ByLog planned.remove w v p m (way_at m at_m) x.then (record {
                  mid = a.then;
                  readied = asked_by hh m a;
                  spared = spared_at m at_m;
                  writing = x.writing;
                  change = x.change;
                  sound = stays_sound m at_m x.writing.config x.config_is;
                  recorded = x.then;
                  committed = x.committed;
                  rest = x.after;
                  goes = refl;
                }),
              ))
              (faults_trans (scene ghosts.seen (at shelf h)) (scene ghosts.seen (at shelf hh)) (scene ghosts.seen (at shelf (with_group hh later))) faults_asked_on r.faults)

          stopped_at : (end : End) (s : RecordStops ghosts.seen shelf hh edits next.config later end) (m : Moment) → IsMoment ghosts.seen (at shelf h) m →
              (k : Moment) × IsMomentButGroup ghosts.seen (at shelf (with_group hh later)) k × AreLater m.counts k.counts × VolumeStops planned.remove (world_of ghosts.seen mid) v p m end k
          stopped_at end s m at_m =
              let a = then_at m at_m in
              let x = s.moments a.then a.is in (
                x.then,
                x.is,
                later_trans m.counts a.then.counts x.then.counts a.later x.after,
                stops_so ByLog planned.remove w v p m (way_at m at_m) end x.then
                    (inr (inr (record { mid = a.then; readied = asked_by hh m a; rest = x.after; stops = (x.writing, x.change, x.stopped); sound = stays_sound m at_m x.writing.config x.config_is }))),
              )

          stops_by : (end : End) → RecordEnds ghosts.seen next (Err (stops.Ended end)) gg later → RecordStops ghosts.seen shelf hh edits next.config later end
          stops_by end e = record_stops ghosts.seen hh gg later shelf v.name edits next refl keeps_asked_on record_of end e

          since : {end : End} → RecordStops ghosts.seen shelf hh edits next.config later end → FaultsGoOn (scene ghosts.seen (at shelf h)) (scene ghosts.seen (at shelf (with_group hh later)))
          since s = faults_trans (scene ghosts.seen (at shelf h)) (scene ghosts.seen (at shelf hh)) (scene ghosts.seen (at shelf (with_group hh later))) faults_asked_on s.faults

          unrecorded_so : (stop : Stop) → RecordEnds ghosts.seen next (Err stop) gg later → GoesFor (world_of ghosts.seen mid) (Err stop) (with_group hh later)
          unrecorded_so stops.OutOfMemory (same, rest) =
              let is : later ≡ gg = rest ∙ ap (λ b. (let x : Imported P ghosts = record { config = gg.config; base = b; public = gg.public } in x)) same in
              subst (GoesFor (world_of ghosts.seen mid) (Err stops.OutOfMemory)) (same_house ghosts.seen shelf hh gg refl later is)
              (has_wanted ghosts.seen (LeavesVolume planned.remove w v p) (VolumeStops planned.remove w v p) (WayWants ByLog w v) (at shelf h) (at shelf hh) keeps_asked_on
              (λ m at_m. let a = then_at m at_m in (a.then, a.is, a.later, inr (asked_by hh m a))) faults_asked_on)
          unrecorded_so (stops.Ended ends.GroupLost) e = let s = stops_by ends.GroupLost e in record { keeps = s.keeps; goes = stopped_at ends.GroupLost s; faults = since s; blamed = tt }
          unrecorded_so (stops.Ended (ends.Lost lines)) e = let s = stops_by (ends.Lost lines) e in record { keeps = s.keeps; goes = stopped_at (ends.Lost lines) s; faults = since s; blamed = tt }
          unrecorded_so (stops.Ended (ends.Done copied lines blocks)) e = absurd e.0
          unrecorded_so (stops.Ended (ends.Refused why)) e = absurd e.0
          unrecorded_so (stops.Ended (ends.Fault told device lines)) e = absurd e.0
          unrecorded_so (stops.Ended ends.ShelfFailed) e = absurd e.0

          recorded_so : (result : Result (Unit {0}) Stop) → RecordEnds ghosts.seen next result gg later → GoesFor (world_of ghosts.seen mid) result (with_group hh later)
          recorded_so (Ok u) e = done_so e
          recorded_so (Err stop) e = unrecorded_so stop e

          pub spared_goes : (result : Result (Unit {0}) Stop) → RecordEnds ghosts.seen next result new later → GoesFor (seen_group ghosts.seen g) result (with_group h later)
          spared_goes result e = goes_before result (with_group hh later) (recorded_so result (subst (λ (x : Imported P ghosts). RecordEnds ghosts.seen next result x later) (sym the_same) e))
