-- What a volume's bytes stand for stays, as other volumes are started and recovered.
use Rattle.std.proofs.Common.{◌≡◌, ◌≢◌, ◌∙◌, ℕ, Bool, true, false, [], ◌++◌, length, Option, Some, None, MatchBool, MatchOption, append-nil, refl, sym, ap, subst, inl, inr}
use Rattle.std.specs.Str.{bytes_eq}
use Rattle.vx_life.specs.Candidates.{Candidates}
use Rattle.vx_base.specs.Named.{Word, put}
use Rattle.vx_base.proofs.NamedLemmas.{name_cases, put_other}
use Rattle.vx_mask.specs.Mask.{has}
use Rattle.vx_mask.proofs.Tests.{not_both, or_cases}
use Rattle.vx_config_parts.specs.declared.object.Object.TheVariants.{VolRecord}
use Rattle.vx_config_parts.specs.declared.plex.Plex.{Plex}
use Rattle.vx_config_parts.specs.declared.state.PlexState.{PlexState}
use Rattle.vx_config_parts.specs.declared.state.VolState.{VolState}
use Rattle.vx_config_parts.specs.declared.state.VolState.TheVariants as vols
use Rattle.vx_config_parts.specs.declared.vol.Vol.{Vol}
use Rattle.vx_objects.specs.Applied.{IsEdited}
use Rattle.vx_objects.specs.Config.{objects_of}
use Rattle.vx_image.specs.Bytes.{Sectors, image_of}
use Rattle.vx_image.specs.Image.{Image}
use Rattle.vx_image.proofs.PlexMembers.{IsIn}
use Rattle.vx_answers.specs.declared.answer.End.{End}
use Rattle.vx_answers.specs.declared.answer.End.TheVariants as ends
use Rattle.vx_answers.specs.declared.refusal.Refusal.TheVariants as refusal
use Rattle.vx_state_edits.specs.Edits.{is_new, recovered, recovered_edits, start_edits, started}
use Rattle.vx_state_edits.specs.Laws.{Restates}
use Rattle.vx_moments.specs.Commit.{IsCommitted, IsStopped, Writing, is_slot_of, parties}
use Rattle.vx_moments.specs.Group.{ChangesOnly, HaveOwnDevices, image_on, sectors_of}
use Rattle.vx_moments.specs.Moment.{Counts, Moment}
use Rattle.vx_moments.specs.World.{Device, Group, Volume, World}
use Rattle.vx_moments.proofs.OtherVolumes.{other_image}
use Rattle.vx_stages.specs.Ends.{EndsIn}
use Rattle.vx_stages.specs.Starting.{IsStartedBy, StartStops, StopsAfter, StopsIn, StopsOf, UnopenedBy, may_start, volume_started}
use Rattle.vx_stages.specs.Tests.{volume_in}
use Rattle.vx_stages.specs.Touching.{IsTouched, PassHasCause, VolumeGoes}
use Rattle.vx_recovery.specs.Going.{is_done}
use Rattle.vx_recovery.specs.Recovering.{IsOf, IsRecovered, IsRecoveryBegun, IsRecoveryEnded, RecoveryStops}
use Rattle.vx_group_edits.specs.Stays.{EachStays}
use Rattle.vx_group_edits.proofs.ByKind.{records_vol}
use Rattle.vx_group_edits.proofs.Lists.{among}
use Rattle.vx_group_edits.proofs.Restated.{restated_untouched}
use Rattle.vx_group_edits.proofs.Untouched.{stays as kept}
use Rattle.vx_sound_volumes.proofs.Commits.{member_public}
use Rattle.vx_sound_volumes.proofs.Named.{restated_back}
use Rattle.vx_sound_volumes.proofs.Parts.{Every, Keeps, sectors_same, some_same}
use Rattle.vx_sound_volumes.proofs.Recoveries.{begin_restates, begun_kept, healing_kept, healing_of, starts}
use Rattle.vx_sound_volumes.proofs.Running.{found_there}
use Rattle.vx_sound_volumes.proofs.Stages.{StateLaws}
use Rattle.vx_sound_imports.specs.Left.{LiesWithin}
use Rattle.vx_sound_imports.proofs.Kept.{stayed_within}

-- ---- a start that is done

pub record IsDoneStart (vol : Word) (old : Moment) (end : End) (new : Moment) : Type 0 where
  pub group : Group
  pub here : old.world.group ≡ Some group
  pub of : Vol
  pub found : volume_in vol group.config.volumes ≡ Some of
  pub after : StopsAfter group of old end new

-- what ends a command so has not done it
stopped_undone : (x : Writing) (old : Moment) (end : End) (new : Moment) → IsStopped x old end new → is_done end ≡ false
stopped_undone x old end new s = elim s.ends [ inl gone ↦ ap is_done gone.0 | inr cut ↦ ap is_done cut.0 ]

unopened_undone : (g : Group) (v : Vol) (old : Moment) (end : End) (new : Moment) → UnopenedBy g v old end new → is_done end ≡ false
unopened_undone g v old end new (inl e) = ap is_done e.0
unopened_undone g v old end new (inr (inl r)) = ap is_done r.1
unopened_undone g v old end new (inr (inr (inl (told, device, e, why)))) = ap is_done e
unopened_undone g v old end new (inr (inr (inr (e, why)))) = ap is_done e

pass_undone : (g : Group) (vol : Word) (old new : Counts) (end : End) → PassHasCause g vol old new end → is_done end ≡ false
pass_undone g vol old new (ends.Done copied parts blocks) why = absurd why
pass_undone g vol old new (ends.Fault told device parts) why = refl
pass_undone g vol old new (ends.Lost parts) why = refl
pass_undone g vol old new (ends.Refused r) why = refl
pass_undone g vol old new ends.ShelfFailed why = refl
pass_undone g vol old new ends.GroupLost why = refl

pub recovery_undone : (vol : Word) (old : Moment) (end : End) (new : Moment) → RecoveryStops vol old end new → is_done end ≡ false
recovery_undone vol old end new (inl b) = stopped_undone b.stops.0 old end new b.stops.2
recovery_undone vol old end new (inr (inl b)) = ap is_done b.ends.2.0
recovery_undone vol old end new (inr (inr (inl b))) = unopened_undone b.group b.of b.begun end new b.ends.cause
recovery_undone vol old end new (inr (inr (inr (inl b)))) = pass_undone b.group b.of.name b.begun.counts new.counts end b.ends.1
recovery_undone vol old end new (inr (inr (inr (inr b)))) = elim b.ends.ends [
  | inl u ↦ unopened_undone b.group b.of b.ends.healed end new u.cause
  | inr e ↦ stopped_undone e.stops.0 e.opened end new e.stops.2
]

module _ (vol : Word) (old : Moment) (end : End) (new : Moment) (over : is_done end ≡ true) where
  other_end : {A : Type 0} (e : End) → is_done e ≡ false → end ≡ e → A
  other_end e off is = not_both over (ap is_done is ∙ off)

  done_of : (g : Group) (v : Vol) → StopsOf g v old end new → StopsAfter g v old end new
  done_of g v (inl (inl (r, is, e), rests)) = other_end (ends.Refused r) refl e
  done_of g v (inl (inr (none, next, edited, (text, text_is, long, e)), rests)) = other_end (ends.Refused (refusal.TooLong (length text))) refl e
  done_of g v (inr (inl stops)) = not_both over (unopened_undone g v old end new stops.cause)
  done_of g v (inr (inr (inl c))) = not_both over (stopped_undone c.stops.0 c.opened end new c.stops.2)
  done_of g v (inr (inr (inr a))) = a

  done_in : (g : Group) → old.world.group ≡ Some g → (o : Option Vol) → volume_in vol g.config.volumes ≡ o →
      MatchOption o (EndsIn (refusal.NoObject vol) old end new) (λ v. MatchBool (may_start v.state) (StopsOf g v old end new) (EndsIn (refusal.VolState v.state) old end new)) → IsDoneStart vol old end new
  done_in g here None found stops = other_end (ends.Refused (refusal.NoObject vol)) refl stops.0
  done_in g here (Some v) found stops = by (may_start v.state) stops
    where
      by : (b : Bool) → MatchBool b (StopsOf g v old end new) (EndsIn (refusal.VolState v.state) old end new) → IsDoneStart vol old end new
      by true stops = record { group = g; here = here; of = v; found = found; after = done_of g v stops }
      by false stops = other_end (ends.Refused (refusal.VolState v.state)) refl stops.0

  done_by : (o : Option Group) → old.world.group ≡ o → MatchOption o (EndsIn (refusal.NoGroup None) old end new) (λ g. StopsIn g vol old end new) → IsDoneStart vol old end new
  done_by None here stops = other_end (ends.Refused (refusal.NoGroup None)) refl stops.0
  done_by (Some g) here stops = done_in g here (volume_in vol g.config.volumes) refl stops

  pub done_start : StartStops vol old end new → IsDoneStart vol old end new
  done_start stops = done_by old.world.group refl stops

-- ---- what stays

-- The bytes of the volume of the name, as the imported group records it, stand for this one, if it was started before.
abbrev pub Waits : Word → Candidates → World → Type 0
Waits name u w = (g : Group) → w.group ≡ Some g → (v : Vol) → IsIn g.config.volumes v → v.name ≡ name → is_new v.state ≡ false → LiesWithin (image_on w.devices g v) u

-- the volume of the name runs as it ran, or not, and waits if it waited
pub record Stays (name : Word) (u : Candidates) (old new : World) : Type 0 where
  pub same : new.volumes name ≡ old.volumes name
  pub waits : Waits name u old → Waits name u new

-- names that differ
differs : (vol name : Word) → name ≢ vol → bytes_eq vol name ≡ false
differs vol name other = elim (name_cases vol name) [ inl same ↦ absurd (other (sym same)) | inr is ↦ is ]

module _ (name : Word) (u : Candidates) where
  stays_same : (old new : World) → new ≡ old → Stays name u old new
  stays_same old new is = record { same = ap (λ (w : World). w.volumes name) is; waits = λ w. subst (Waits name u) (sym is) w }

  stays_on : (old mid new : World) → Stays name u old mid → Stays name u mid new → Stays name u old new
  stays_on old mid new first last = record { same = last.same ∙ first.same; waits = λ w. last.waits (first.waits w) }

  -- ---- another volume is touched, or put in

  module _ (vol : Word) (other : name ≢ vol) where
    stays_changed : (g : Group) (w : World) (devices : Word → Option Device) → w.group ≡ Some g → HaveOwnDevices g.members → ChangesOnly g vol w.devices devices → Stays name u w (record w { devices = devices })
    stays_changed g w devices here own changes = record {
      same = refl;
      waits = λ x h at v one named before.
          let groups : g ≡ h = some_same g h (sym here ∙ at) in
          let image : image_on devices h v ≡ image_on w.devices h v =
          subst (λ (i : Group). image_on devices i v ≡ image_on w.devices i v) groups (other_image g vol w.devices devices own changes v (λ is. other (sym named ∙ is))) in
          subst (λ (i : Image). LiesWithin i u) (sym image) (x h at v one named before);
    }

    stays_touched : (g : Group) (old new : Moment) → old.world.group ≡ Some g → HaveOwnDevices g.members → IsTouched g vol old new → Stays name u old.world new.world
    stays_touched g old new here own t = subst (Stays name u old.world) (sym t.world) (stays_changed g old.world new.world.devices here own t.changes)

    stays_put : (w : World) (o : Option Volume) → Stays name u w (record w { volumes = put vol o w.volumes })
    stays_put w o = record {
      same = put_other vol name o w.volumes (differs vol name other);
      waits = λ x h at v one named before. x h at v one named before;
    }

    stays_goes : (g : Group) (later : Volume) (old new : Moment) → old.world.group ≡ Some g → HaveOwnDevices g.members → VolumeGoes g vol later old new → Stays name u old.world new.world
    stays_goes g later old new here own goes =
        subst (Stays name u old.world) (sym goes.world)
        (stays_on old.world (record old.world { devices = new.world.devices }) (record old.world { devices = new.world.devices; volumes = put vol (Some later) old.world.volumes })
        (stays_changed g old.world new.world.devices here own goes.changes)
        (stays_put (record old.world { devices = new.world.devices }) (Some later)))

    -- ---- other states of another volume are recorded

    module _ (x : Writing) (old new : Moment) (c : IsCommitted x old new) (here : old.world.group ≡ Some x.group) (alone : x.joiners ≡ []) (next : VolState) (after : Plex → PlexState) (r : Restates vol next after x.group.config x.config) where
      fewer : (slot : ℕ) → has c.good slot ≡ true → has x.group.good slot ≡ true
      fewer slot good = elim (or_cases (has x.group.good slot) (is_slot_of x.joiners slot) (c.mask.few slot good)) [
        | inl was ↦ was
        | inr joins ↦ absurd (not_both joins (ap (λ js. is_slot_of js slot) alone))
      ]

      bytes_are : sectors_of new.world.devices (parties x) ≡ sectors_of old.world.devices x.group.members
      bytes_are =
          ap (λ ms. sectors_of new.world.devices ms) (ap (λ js. x.group.members ++ js) alone ∙ append-nil x.group.members)
          ∙ (λ i slot k. sectors_same old.world.devices new.world.devices x.group.members (λ m one n. member_public x c.last old new c.committing m one n) slot k i)

      others_stay : EachStays (λ y. y.name ≢ vol) x.group.config x.config
      others_stay v of apart good good' few = kept x.group.config v x.config good good' few (restated_untouched x.group.config v of vol apart next after x.config r)

      stays_recorded : Stays name u old.world new.world
      stays_recorded = record {
        same = ap (λ (f : Word → Option Volume). f name) c.committing.volumes;
        waits = λ w g at v one named before.
            let now : Group = record { config = x.config; good = c.good; members = parties x; sequence = c.last } in
            let groups : now ≡ g = some_same now g (sym c.group ∙ at) in
            let mine = subst (λ (h : Group). IsIn h.config.volumes v) (sym groups) one in
            let was = restated_back x.group.config x.config v vol next after r (λ is. other (sym named ∙ is)) mine in
            let stood : LiesWithin (image_of x.config c.good (sectors_of old.world.devices x.group.members) v) u =
            stayed_within (λ y. y.name ≢ vol) x.group.config x.config others_stay x.group.good c.good (λ slot good. inl (fewer slot good)) was.0 v was.1 was.3 mine was.2 (sectors_of old.world.devices x.group.members) u
            (w x.group here was.0 was.1 (was.2 ∙ named)) before in
            subst (λ (h : Group). LiesWithin (image_on new.world.devices h v) u) groups
            (subst (λ (b : Sectors). LiesWithin (image_of x.config c.good b v) u) (sym bytes_are) stood);
      }

  -- ---- another volume is recovered

  module _ (laws : StateLaws) (place : ℕ) where
    module _ (vol : Word) (other : name ≢ vol) where
      -- its recovery is recorded as begun
      begun_stays : (old : Moment) (g : Group) (v : Vol) (new : Moment) → IsRecoveryBegun vol old g v new → Stays name u old.world new.world
      begun_stays old g v new b =
          let named = (found_there vol b.group.config.volumes b.of b.was.volume).1 in
          stays_recorded vol other b.writing old new b.committed b.change.group b.change.joiners vols.Sync (λ p. p.state)
          (subst (λ n. Restates n vols.Sync (λ p. p.state) b.writing.group.config b.writing.config) named (begin_restates laws.recovery_restates vol old.world b.writing b.group b.of b.was b.change))

      module _ (old : Moment) (k : Keeps place Every old.world) (g : Group) (v : Vol) (of : IsOf vol old.world g v) where
        named : v.name ≡ vol
        named = (found_there vol g.config.volumes v of.volume).1

        there : IsIn g.config.volumes v
        there = (found_there vol g.config.volumes v of.volume).0

        touched_stays : (new : Moment) → IsTouched g v.name old new → Stays name u old.world new.world
        touched_stays new t = stays_touched vol other g old new of.group (k.disks g of.group).own (subst (λ n. IsTouched g n old new) named t)

        -- its end is recorded, and it runs
        ended_stays : (marks : ℕ) (new : Moment) → IsRecoveryEnded g v marks old new → Stays name u old.world new.world
        ended_stays marks new e =
            let x = e.writing in
            let own : g ≡ x.group = some_same g x.group (sym (ap (λ (w : World). w.group) e.opens.touched.world ∙ of.group) ∙ e.change.group) in
            let mine : IsIn x.group.config.volumes v = subst (λ (h : Group). IsIn h.config.volumes v) own there in
            let edited : IsEdited (recovered_edits x.group.config v marks) x.group.config x.config = subst (λ (h : Group). IsEdited (recovered_edits h.config v marks) x.group.config x.config) own e.change.edited in
            let r : Restates v.name vols.Active (recovered marks) x.group.config x.config =
            laws.recovered_restates x.group.config v marks (among (objects_of x.group.config) (VolRecord v) (records_vol x.group.config v mine)) x.config edited in
            let recorded : Stays name u e.opened.world e.recorded.world =
            stays_recorded vol other x e.opened e.recorded e.committed e.change.group e.change.joiners vols.Active (recovered marks) (subst (λ n. Restates n vols.Active (recovered marks) x.group.config x.config) named r) in
            let run = Some (volume_started g v (image_on old.world.devices g v) e.runs.sound) in
            let put_in : Stays name u e.recorded.world new.world =
            subst (Stays name u e.recorded.world) (sym e.runs.world) (subst (λ n. Stays name u e.recorded.world (record e.recorded.world { volumes = put n run e.recorded.world.volumes })) (sym named) (stays_put vol other e.recorded.world run)) in
            stays_on old.world e.opened.world new.world (touched_stays e.opened e.opens.touched) (stays_on e.opened.world e.recorded.world new.world recorded put_in)

      pub recovered_stays : (dirty copied : ℕ) (old new : Moment) → Keeps place Every old.world → IsRecovered vol dirty copied old new → Stays name u old.world new.world
      recovered_stays dirty copied old new k r =
          let begun = begun_kept laws place vol old r.group r.of r.begun r.begins k in
          let h = r.heals.healing in
          let healed = healing_kept laws place vol r.begun begun r.group r.of r.begins.is r.healed h in
          let of = healing_of laws place vol r.begun begun r.group r.of r.begins.is r.healed h in
          stays_on old.world r.begun.world new.world (begun_stays old r.group r.of r.begun r.begins)
          (stays_on r.begun.world r.healed.world new.world (touched_stays r.begun begun r.group r.of r.begins.is r.healed h.touched) (ended_stays r.healed healed r.group r.of of r.marks new r.ends))

      -- ---- another volume is started

      module _ (old : Moment) (end : End) (new : Moment) (k : Keeps place Every old.world) where
        module _ (g : Group) (here : old.world.group ≡ Some g) (v : Vol) (is_there : IsIn g.config.volumes v) (is_named : v.name ≡ vol) where
          log_stays : (m : Moment) → IsTouched g v.name old m → Stays name u old.world m.world
          log_stays m t = stays_touched vol other g old m here (k.disks g here).own (subst (λ n. IsTouched g n old m) is_named t)

          started_stays : (m : Moment) → IsStartedBy g v old m → Stays name u old.world m.world
          started_stays m b =
              let x = b.writing in
              let own : g ≡ x.group = some_same g x.group (sym (ap (λ (w : World). w.group) b.touched.world ∙ here) ∙ b.change.group) in
              let mine : IsIn x.group.config.volumes v = subst (λ (h : Group). IsIn h.config.volumes v) own is_there in
              let edited : IsEdited (start_edits x.group.config v) x.group.config x.config = subst (λ (h : Group). IsEdited (start_edits h.config v) x.group.config x.config) own b.change.edited in
              let r : Restates v.name vols.Active (started (is_new v.state)) x.group.config x.config =
              laws.start_restates x.group.config v (among (objects_of x.group.config) (VolRecord v) (records_vol x.group.config v mine)) x.config edited in
              let recorded : Stays name u b.opened.world b.recorded.world =
              stays_recorded vol other x b.opened b.recorded b.committed b.change.group b.change.joiners vols.Active (started (is_new v.state)) (subst (λ n. Restates n vols.Active (started (is_new v.state)) x.group.config x.config) is_named r) in
              let run = Some (volume_started g v (image_on old.world.devices g v) b.begins.sound) in
              let put_in : Stays name u b.recorded.world m.world =
              subst (Stays name u b.recorded.world) (sym b.begins.world) (subst (λ n. Stays name u b.recorded.world (record b.recorded.world { volumes = put n run b.recorded.world.volumes })) (sym is_named) (stays_put vol other b.recorded.world run)) in
              stays_on old.world b.opened.world m.world (log_stays b.opened b.touched) (stays_on b.opened.world b.recorded.world m.world recorded put_in)

      -- it is started and copied to
      pub start_stays : (old : Moment) (end : End) (new : Moment) → Keeps place Every old.world → (stops : StartStops vol old end new) → is_done end ≡ true → Stays name u old.world new.world
      start_stays old end new k stops over =
          let d = done_start vol old end new over stops in
          let found = found_there vol d.group.config.volumes d.of d.found in
          let a = d.after in
          let now : new.world.group ≡ Some a.copied.group = ap (λ (w : World). w.group) a.copied.goes.world ∙ a.copied.here in
          let own = ((starts laws place vol old end new k stops).disks a.copied.group now).own in
          stays_on old.world a.begun.world new.world (started_stays old end new k d.group d.here d.of found.0 found.1 a.begun a.started)
          (stays_goes vol other a.copied.group a.copied.later a.begun new a.copied.here own (subst (λ n. VolumeGoes a.copied.group n a.copied.later a.begun new) found.1 a.copied.goes))
