-- The end of a recovery that is not recorded: its volume was healed, and the commit is stopped, or memory was wanting.
use Rattle.std.proofs.Common.{◌≡◌, ◌∙◌, inr, inl, List, [], Some, Ok, Err, refl, sym, ap, subst}
use Rattle.std.specs.Prelude.{Contains, is_some}
use Rattle.vx_pages.specs.declared.local_piece.LocalPiece.{Ghosts}
use Rattle.vx_base.specs.Named.{Word}
use Rattle.vx_piece.specs.Seen.{Seen}
use Rattle.vx_config_parts.specs.declared.object.Object.TheVariants.{VolRecord}
use Rattle.vx_config_parts.specs.declared.state.VolState.TheVariants as vol
use Rattle.vx_config_parts.specs.declared.vol.Vol.{Vol}
use Rattle.vx_rules.proofs.InOrder.{names_differ}
use Rattle.vx_objects.specs.declared.config.Config.{Config}
use Rattle.vx_objects.specs.declared.edit.Edit.{Edit}
use Rattle.vx_objects.specs.Applied.{IsEdited}
use Rattle.vx_objects.specs.Config.{objects_of}
use Rattle.vx_image.proofs.Members.{is_in}
use Rattle.vx_image.proofs.PlexMembers.{one_in, one_named}
use Rattle.vx_image.proofs.Plexes.{config_valid}
use Rattle.vx_image.specs.Bytes.{Sectors, image_of}
use Rattle.vx_image.specs.Soundness.{IsSoundImage}
use Rattle.vx_image.specs.UsedPlexes.{IsVolOf}
use Rattle.vx_group_edits.proofs.ByKind.{records_vol}
use Rattle.vx_state_edits.specs.Edits.{recovered_edits}
use Rattle.vx_answers.specs.declared.answer.End.{End}
use Rattle.vx_answers.specs.declared.answer.End.TheVariants as ends
use Rattle.vx_moments.specs.Commit.{Writing}
use Rattle.vx_moments.specs.Group.{image_on, sectors_of}
use Rattle.vx_moments.specs.Moment.{AreLater, Moment}
use Rattle.vx_moments.specs.World.{Group, World}
use Rattle.vx_volume_laws.specs.Keeping.{ChangesStates}
use Rattle.vx_volume_laws.specs.Leaving.{AreNamedIn}
use Rattle.vx_volume_laws.proofs.Configurations.{kept_named}
use Rattle.vx_volume_laws.proofs.Restated.{restated_kept}
use Rattle.vx_lending.specs.declared.public.Running.{Running}
use Rattle.vx_group_recover.specs.declared.healing.Healed.{Healed}
use Rattle.vx_group_start.specs.Fresh.{is_fresh}
use Rattle.vx_group_volumes.specs.Runs.{RunsIn}
use Rattle.vx_group_volumes.proofs.Leavings.{leaving_stands, recorded_runs}
use Rattle.vx_healed_volumes.specs.Healed.{AreSectorsAround, IsHealedBy}
use Rattle.vx_stages.specs.Ends.{IsChange}
use Rattle.vx_stages.specs.Recorded.{IsSoundAs}
use Rattle.vx_house.specs.Scene.{FaultsGoOn, Shelved}
use Rattle.vx_house.specs.View.{IsGroupKept, IsMoment, IsMomentButGroup, Keeps, at, scene}
use Rattle.vx_house.specs.declared.house.House.{House}
use Rattle.vx_house.specs.declared.house.Imported.{Imported}
use Rattle.vx_house.specs.declared.stop.Stop.{Stop}
use Rattle.vx_house.specs.declared.stop.Stop.TheVariants as stops
use Rattle.vx_house.proofs.Moments.{faults_trans, later_refl, later_trans}
use Rattle.vx_house_calls.specs.Passes.{with_group}
use Rattle.vx_stage_changes.specs.Committing.{CommitEnds, IsTried}
use Rattle.vx_stage_changes.specs.declared.planning.NextConfig.{NextConfig}
use Rattle.vx_stage_volumes.specs.Opening.{good_of}
use Rattle.vx_stage_volumes.specs.Recording.{IsHeldIn}
use Rattle.vx_stage_volumes.proofs.Commit.{IsStoppedAt, group_is_lost, power_is_lost, written_but_group, written_faults}
use Rattle.vx_stage_volumes.proofs.HeldStart.{world_of}
use Rattle.vx_stage_volumes.proofs.Prepared.{IsOpenable, changes_states, meant, named}
use Rattle.vx_stage_volumes.proofs.StartRun.{BeginsAs}
use Rattle.vx_stage_recovery.specs.Ending.{EndsOut}
use Rattle.vx_stage_recovery.specs.Steps.{FinishStops}
use Rattle.vx_stage_recovery.proofs.EndHealed.{IsStuckIn, at_v, faults_v, gv, has_healed, healed, hv, is_then, keeps_v, kept_v, later_v, of_mid, openable, then as then_v}
use Rattle.vx_stage_recovery.proofs.EndPrepared.{HaveEndLaws}
use Rattle.vx_stage_recovery.proofs.EndRuns.{HaveRunLaws, Runs, begins, runs0}
use Rattle.vx_stage_recovery.proofs.EndSteps.{FinishGoes, still_open}
use Rattle.vx_stage_recovery.proofs.HealBytes.{around, heals_by}
use Rattle.vx_stage_recovery.proofs.HealLaws.{HaveHealLaws, HavePieceLaws}
use Rattle.vx_stage_recovery.proofs.HealRuns.{sync_old}

-- ---- the volume of the name

-- one that is recorded under the name of another is that one
same_vol : (c : Config) (u v : Vol) → IsVolOf c u → Contains c.volumes v → v.name ≡ u.name → v ≡ u
same_vol c u v of there named = same v u (one_named [] (objects_of c) (VolRecord v) (VolRecord u) (names_differ (objects_of c) (config_valid c)) (records_vol c v (is_in c.volumes v there)) (one_in (objects_of c) (VolRecord u) of) named)
  where
    same : (x y : Vol) → VolRecord x ≡ VolRecord y → x ≡ y
    same x y e = cc

sound_as : (g : Group) (c : Config) (w : World) (u : Vol) → IsVolOf c u → IsSoundImage (image_on w.devices (record g { config = c }) u) → IsSoundAs g c u.name w
sound_as g c w u of sound v there named = subst (λ (x : Vol). IsSoundImage (image_on w.devices (record g { config = c }) x)) (sym (same_vol c u v of there named)) sound

module _ {P : Type 0} {ghosts : Ghosts P} (alike : (p q : P) → is_some (ghosts.seen p).told ≡ is_some (ghosts.seen q).told) (laws : HaveHealLaws ghosts) (pieces : HavePieceLaws ghosts) (runs : HaveRunLaws) (edits : HaveEndLaws) (name : Word)
    (shelf : Shelved) (h : House P ghosts) (keeps : Keeps ghosts.seen (at shelf h)) {g g' : Imported P ghosts} (has : h.group ≡ Some g) {done : Healed} {stop : Stop} (e : EndsOut ghosts.seen name done (Err stop) g g') where
  abbrev see : P → Seen
  see = ghosts.seen

  abbrev v : Vol
  v = e.volume

  abbrev mid : Imported P ghosts
  mid = e.opens.mid

  abbrev after : Running P ghosts
  after = e.ends.after

  abbrev next : NextConfig
  next = e.ends.recorded.next

  abbrev gm : Group
  gm = world_of see mid

  abbrev edits_of : List Edit
  edits_of = recovered_edits g.config v done.marks

  abbrev last_house : House P ghosts
  last_house = record h { group = Some g' }

  may : IsOpenable see edits_of name v next g mid
  may = openable edits e

  held : IsHeldIn see after next stop e.opened g'
  held = e.ends.recorded.records

  stuck : IsStuckIn e.opened.public after g'.public
  stuck = record { pool = held.pool; left = held.left; entries = held.entries; stuck = held.held }

  -- ---- it is held among those that could not be put back

  abbrev g_held : Imported P ghosts
  g_held = gv alike laws pieces name shelf h keeps has e g'.public stuck

  abbrev h_held : House P ghosts
  h_held = hv alike laws pieces name shelf h keeps has e g'.public stuck

  keeps_held : Keeps see (at shelf h_held)
  keeps_held = keeps_v alike laws pieces name shelf h keeps has e g'.public stuck

  kept_held : IsGroupKept see g_held
  kept_held = kept_v alike laws pieces name shelf h keeps has e g'.public stuck

  faults_held : FaultsGoOn (scene see (at shelf h)) (scene see (at shelf h_held))
  faults_held = faults_v alike laws pieces name shelf h keeps has e g'.public stuck

  abbrev volume_of_mid : IsVolOf mid.config v
  volume_of_mid = of_mid alike laws pieces name shelf h keeps has e g'.public stuck

  is_healed : IsHealedBy see mid.config (good_of see mid) v e.opens.opens.numbers mid.public e.opened.public e.running after (Ok done)
  is_healed = heals_by alike laws pieces shelf h keeps has e.opens.ready.parts e.opens.ready.ready.room volume_of_mid e.begun.state e.opens.opens (healed alike laws pieces name shelf h keeps has e g'.public stuck)

  module _ (m : Moment) (at_m : IsMoment see (at shelf h) m) where
    -- the moment in which it is healed
    abbrev then : Moment
    then = then_v alike laws pieces name shelf h keeps has e g'.public stuck m at_m

    at_then : IsMoment see (at shelf h_held) then
    at_then = at_v alike laws pieces name shelf h keeps has e g'.public stuck m at_m

    later_then : AreLater m.counts then.counts
    later_then = later_v alike laws pieces name shelf h keeps has e g'.public stuck m at_m

    -- ---- as its end is recorded it is sound

    abbrev before : Sectors
    before = sectors_of m.world.devices gm.members

    abbrev bytes : Sectors
    bytes = sectors_of then.world.devices gm.members

    was_around : AreSectorsAround see (good_of see mid) e.opens.opens.numbers mid.public after before bytes
    was_around = around alike laws pieces shelf h keeps has e.opens.ready.parts e.opens.ready.ready.room volume_of_mid e.begun.state e.opens.opens (healed alike laws pieces name shelf h keeps has e g'.public stuck) m at_m

    begun : BeginsAs gm v (image_on then.world.devices gm v)
        (Runs gm v volume_of_mid e.begun.state e.opens.opens.numbers mid.public e.opened.public e.running after e.opens.opens.form e.opens.opens.started e.opens.opens.numbered done is_healed runs before bytes was_around)
    begun = begins gm v volume_of_mid e.begun.state e.opens.opens.numbers mid.public e.opened.public e.running after e.opens.opens.form e.opens.opens.started e.opens.opens.numbered done is_healed runs before bytes was_around

    abbrev active : Vol
    active = record v { state = vol.Active }

    -- a configuration that records it as active
    module _ (c : Config) (of : IsVolOf c active) (changes : ChangesStates gm.config gm.good v (is_fresh v.state) c gm.good active) where
      runs_then : RunsIn see c gm.good e.opens.opens.numbers active after
      runs_then =
          recorded_runs see after gm.config gm.good e.opens.opens.numbers v
          (runs0 gm v volume_of_mid e.begun.state e.opens.opens.numbers mid.public e.opened.public e.running after e.opens.opens.form e.opens.opens.started e.opens.opens.numbered done is_healed)
          c gm.good active of tt (subst (λ b. ChangesStates gm.config gm.good v b c gm.good active) (sync_old v.state e.begun.state) changes)

      names_left : AreNamedIn (image_of c gm.good bytes active).plexes (image_of gm.config gm.good bytes v).plexes
      names_left = kept_named gm.config gm.good v (is_fresh v.state) c gm.good active (restated_kept gm.config gm.good v (is_fresh v.state) c gm.good active changes) bytes bytes

      sound_then : IsSoundImage (image_on then.world.devices gm v) → IsSoundAs gm c v.name then.world
      sound_then was =
          let as_begun = begun.runs (begun.if_sound was) in
          sound_as gm c then.world active of
          (leaving_stands see after c gm.good e.opens.opens.numbers active runs_then runs.leaving tt (image_on then.world.devices gm v).plexes _ as_begun.0 as_begun.1 was_around.contents' was_around.held' bytes was_around.are names_left).sound

    some_group : (a b : Group) → Some a ≡ Some b → a ≡ b
    some_group a b e = cc

    sound_by : (x : Writing) → IsChange edits_of then.world x → IsSoundImage (image_on then.world.devices gm v) → IsSoundAs gm x.config v.name then.world
    sound_by x change was =
        let same : x.group ≡ gm = some_group x.group gm (sym change.group ∙ at_then.group_is) in
        let two = changes_states may x.config (subst (λ (w : Group). IsEdited edits_of w.config x.config) same change.edited) (good_of see mid) in
        sound_then x.config two.0 two.1 was

    -- ---- the commit is stopped

    stops_so : (end : End) → IsStoppedAt see shelf last_house edits_of end then → (n : Moment) × IsMomentButGroup see (at shelf last_house) n × AreLater m.counts n.counts × FinishStops name m end n
    stops_so end s = (
      s.then,
      s.is,
      later_trans m.counts then.counts s.then.counts later_then s.later,
      inr (
        done.dirty,
        done.copied,
        done.marks,
        (
          then,
          later_then,
          has_healed alike laws pieces name shelf h keeps has e g'.public stuck m at_m,
          s.later,
          (
            gm,
            v,
            is_then alike laws pieces name shelf h keeps has e g'.public stuck m at_m,
            e.begun.state,
            inr (inr (record {
              opened = then;
              opens = still_open gm v then;
              rest = s.later;
              stops = (s.writing, subst (λ (c : Config). IsChange (recovered_edits c v done.marks) then.world s.writing) (sym e.opens.ready.parts.config) s.change, s.stopped);
              sound = sound_by s.writing s.change;
            })),
          ),
        ),
      ),
    )

  -- ---- in each case

  abbrev Goes_ : Stop → Type 0
  Goes_ s = FinishGoes see name (Err s) (at shelf h) (at shelf last_house)

  -- memory was wanting: it is healed, and no more
  wanting : FinishGoes see name (Err stops.OutOfMemory) (at shelf h) (at shelf h_held)
  wanting = record {
    keeps = keeps_held;
    goes = λ m at_m. (
      then m at_m,
      at_then m at_m,
      later_then m at_m,
      inr (
        done.dirty,
        done.copied,
        done.marks,
        (then m at_m, later_then m at_m, has_healed alike laws pieces name shelf h keeps has e g'.public stuck m at_m, later_refl (then m at_m).counts, inl refl),
      ),
    );
    faults = faults_held;
    blamed = tt;
  }

  faults_tried : IsTried see next.text.items mid.base g'.base → FaultsGoOn (scene see (at shelf h)) (scene see (at shelf last_house))
  faults_tried tried =
      faults_trans (scene see (at shelf h)) (scene see (at shelf h_held)) (scene see (at shelf last_house)) faults_held
      (written_faults see shelf h_held g_held g' refl keeps_held kept_held next.text.items refl tried)

  by : (s : Stop) → CommitEnds see (Err s) next.text.items mid.base g'.base → Goes_ s
  by stops.OutOfMemory same = subst (λ (x : Imported P ghosts). FinishGoes see name (Err stops.OutOfMemory) (at shelf h) (at shelf (with_group h x))) (sym all_same) wanting
    where
      all_same : g' ≡ g_held
      all_same =
          ap (λ c. (let x : Imported P ghosts = record { config = c; base = g'.base; public = g'.public } in x)) (held.config ∙ ap (λ (x : Imported P ghosts). x.config) e.opens.opens.same.group)
          ∙ ap (λ b. (let x : Imported P ghosts = record { config = mid.config; base = b; public = g'.public } in x)) same
  by (stops.Ended (ends.Done copied parts blocks)) ends = absurd ends
  by (stops.Ended (ends.Refused r)) ends = absurd ends
  by (stops.Ended (ends.Fault told device parts)) ends = absurd ends
  by (stops.Ended ends.ShelfFailed) ends = absurd ends
  by (stops.Ended ends.GroupLost) (tried, risen) = record {
    keeps = written_but_group see shelf h_held g_held g' refl keeps_held kept_held next.text.items refl tried;
    goes = λ m at_m. stops_so m at_m ends.GroupLost (group_is_lost see shelf h_held g_held g' refl keeps_held kept_held next.text.items refl tried edits_of next.config (meant may) (named may) (then m at_m) (at_then m at_m) risen);
    faults = faults_tried tried;
    blamed = tt;
  }
  by (stops.Ended (ends.Lost parts)) (none, tried, cut) = subst (λ p. Goes_ (stops.Ended (ends.Lost p))) (sym none) (record {
    keeps = written_but_group see shelf h_held g_held g' refl keeps_held kept_held next.text.items refl tried;
    goes = λ m at_m. stops_so m at_m (ends.Lost []) (power_is_lost see shelf h_held g_held g' refl keeps_held kept_held next.text.items refl tried edits_of next.config (meant may) (named may) (then m at_m) (at_then m at_m) cut);
    faults = faults_tried tried;
    blamed = tt;
  })

  pub unrecorded_goes : Goes_ stop
  unrecorded_goes = by stop (subst (λ b. CommitEnds see (Err stop) next.text.items b g'.base) (ap (λ (x : Imported P ghosts). x.base) e.opens.opens.same.group) held.ends)
