-- A recovery of volumes of the imported group is nothing to other groups, and where the group is lost in it, the configuration that was to be
-- written has sound volumes too.
use Rattle.std.proofs.Common.{◌≡◌, ◌≢◌, ◌∙◌, ℕ, false, List, Option, Some, None, refl, sym, ap, subst, inl, inr}
use Rattle.vx_base.specs.Named.{Word, put}
use Rattle.vx_config_parts.specs.declared.object.Object.TheVariants.{VolRecord}
use Rattle.vx_config_parts.specs.declared.plex.Plex.{Plex}
use Rattle.vx_config_parts.specs.declared.state.PlexState.{PlexState}
use Rattle.vx_config_parts.specs.declared.state.VolState.{VolState}
use Rattle.vx_config_parts.specs.declared.state.VolState.TheVariants as vol
use Rattle.vx_config_parts.specs.declared.vol.Vol.{Vol}
use Rattle.vx_objects.specs.Applied.{IsEdited}
use Rattle.vx_objects.specs.Config.{objects_of}
use Rattle.vx_image.proofs.PlexMembers.{IsIn}
use Rattle.vx_image.specs.Bytes.{image_of}
use Rattle.vx_image.specs.Soundness.{IsSoundImage}
use Rattle.vx_image.proofs.Members.{contains, is_in}
use Rattle.vx_state_edits.specs.Edits.{is_new, recovered, recovered_edits, recovery_edits, state_edits}
use Rattle.vx_state_edits.specs.Laws.{Restates}
use Rattle.vx_answers.specs.declared.answer.End.{End}
use Rattle.vx_answers.specs.declared.answer.View.{View}
use Rattle.vx_moments.specs.Commit.{Writing}
use Rattle.vx_moments.specs.Group.{image_on, sectors_of}
use Rattle.vx_moments.specs.Leaving.{grouped}
use Rattle.vx_moments.specs.Moment.{Moment}
use Rattle.vx_moments.specs.World.{Group, Volume, World}
use Rattle.vx_stages.specs.Ends.{IsChange}
use Rattle.vx_stages.specs.Recorded.{IsSoundAs}
use Rattle.vx_stages.specs.Starting.{StartStops, StopsUnopened, volume_started}
use Rattle.vx_stages.specs.Touching.{IsTouched}
use Rattle.vx_stages.specs.declared.stage.Stage.TheVariants as stage
use Rattle.vx_recovery.specs.Going.{Recovers, RecoversShort}
use Rattle.vx_recovery.specs.Healing.{IsHealing}
use Rattle.vx_recovery.specs.Recovering.{EndWants, HealingWants, IsOf, IsRecovered, IsRecoveryBegun, IsRecoveryEnded, IsRefusedBegun, RecoveryStops, RecoveryWants, StopsAtBegin, StopsAtEnd, StopsBegun, StopsHealed, StopsHealing}
use Rattle.vx_plans.proofs.Recoveries.{AreCarried, IsEndedBy, clean_rests, recovers_on, recovers_short_on}
use Rattle.vx_group_edits.proofs.ByKind.{records_vol}
use Rattle.vx_group_edits.proofs.Lists.{among}
use Rattle.vx_sound.specs.Standing.{IsStanding}
use Rattle.vx_sound.proofs.Recoveries.{begun_stands, done_stands, ended_recorded, ended_stands, group_still, opened_still, states_ready}
use Rattle.vx_sound.proofs.Running.{start_ends}
use Rattle.vx_sound_volumes.proofs.Named.{restated_back}
use Rattle.vx_sound_volumes.proofs.Parts.{Besides, Every, Keeps, all_kept, not_none, some_same}
use Rattle.vx_sound_volumes.proofs.Recoveries.{begin_own, begin_restates, begin_there, begun_before, begun_free, begun_kept, differs_so, ended_kept, healing_kept, own_now, own_sound, recovered_before, restated_keeps, starts}
use Rattle.vx_sound_volumes.proofs.Running.{found_there}
use Rattle.vx_sound_volumes.proofs.Stages.{StateLaws}
use Rattle.vx_sound_imports.specs.Offered.{HaveSoundOffers}
use Rattle.vx_sound_imports.proofs.Nexts.{IsSafe, recorded_safe}
use Rattle.vx_sound_imports.proofs.Places.{lent_put}
use Rattle.vx_sound_imports.proofs.Stages.{Settles, committed_known, imported_away, settles_idle, stopped_settles, whole_before}
use Rattle.vx_sound_imports.proofs.Starts.{start_settles, wants_known}
use Rattle.vx_sound_imports.proofs.Volumes.{IsKnown, known_settles, lent_offers, still_settles, touched_known}
use Rattle.vx_sound_imports.proofs.Writings.{HasWhole}

-- ---- what is to be recorded

-- other states of a volume, by which it is sound too
states_safe : (w : World) (x : Writing) → IsStanding w → (g : Group) → w.group ≡ Some g → HasWhole w → (next : VolState) (after : Plex → PlexState) (v : Vol) → (is : IsChange (state_edits next after g.config v) w x) →
    Restates v.name next after x.group.config x.config → IsSoundAs g x.config v.name w → IsSafe (Besides v.name) x w
states_safe w x s g here whole next after v is r sound_as =
    recorded_safe x w (states_ready w x s g here next after v is) (whole x.group is.group) is.joiners g (some_same g x.group (sym here ∙ is.group)) v.name (λ y there is started. sound_as y there is) (λ u. u.name ≢ v.name)
    (restated_keeps x.group.config x.config v next after r) (λ u one other started. restated_back x.group.config x.config u v.name next after r other one)

-- what is known of a moment
pub record IsFine (place : ℕ) (m : Moment) : Type 0 where
  pub known : IsKnown m.world
  pub kept : Keeps place Every m.world

-- ---- one volume

module _ (laws : StateLaws) (place : ℕ) where
  -- its recovery is recorded as begun
  begun_known : (name : Word) (old : Moment) (g : Group) (v : Vol) (new : Moment) → IsKnown old.world → IsRecoveryBegun name old g v new → IsKnown new.world
  begun_known name old g v new k b =
      let ready = states_ready old.world b.writing k.standing b.group b.was.group vol.Sync (λ p. p.state) b.of b.change in
      let both = committed_known b.writing old k.standing ready (k.whole b.writing.group b.change.group) new b.committed k.offers (imported_away b.writing old k.standing ready b.change.group) in
      record { standing = begun_stands name old g v new k.standing b; whole = both.1; offers = both.0 }

  begun_fine : (name : Word) (old : Moment) (g : Group) (v : Vol) (new : Moment) → IsFine place old → IsRecoveryBegun name old g v new → IsFine place new
  begun_fine name old g v new f b = record { known = begun_known name old g v new f.known b; kept = begun_kept laws place name old g v new b f.kept }

  -- that cannot be recorded
  module _ (name : Word) (old : Moment) (end : End) (new : Moment) (f : IsFine place old) (b : StopsAtBegin name old end new) where
    abbrev x : Writing
    x = b.stops.0

    abbrev is : IsChange (recovery_edits b.group.config b.of) old.world x
    is = b.stops.1

    own : b.group ≡ x.group
    own = begin_own laws.recovery_restates name old.world x b.group b.of b.was is

    there : IsIn x.group.config.volumes b.of
    there = begin_there laws.recovery_restates name old.world x b.group b.of b.was is

    r : Restates b.of.name vol.Sync (λ p. p.state) x.group.config x.config
    r = begin_restates laws.recovery_restates name old.world x b.group b.of b.was is

    sound : IsSoundImage (image_on old.world.devices x.group b.of)
    sound =
        f.kept.stopped x.group is.group b.of (contains x.group.config.volumes b.of there) tt (recovered_before b.of.state b.state)
        (ap grouped (ap old.world.volumes (found_there name b.group.config.volumes b.of b.was.volume).1 ∙ b.free))

    sound_as : IsSoundAs b.group x.config b.of.name old.world
    sound_as w one named =
        let bytes = sectors_of old.world.devices x.group.members in
        let at : w ≡ record b.of { state = vol.Sync } = own_now x.group.config x.config b.of there vol.Sync (λ p. p.state) r w (is_in x.config.volumes w one) named in
        subst (λ (h : Group). IsSoundImage (image_on old.world.devices (record h { config = x.config }) w)) (sym own)
        (subst (λ (y : Vol). IsSoundImage (image_of x.config x.group.good bytes y)) (sym at)
        (own_sound x.group.config x.config b.of there vol.Sync (λ p. p.state) r (λ p. refl) (differs_so b.of.state b.state) x.group.good x.group.good (λ slot good. good) bytes sound))

    begin_settles : Settles Every end new.world
    begin_settles =
        let idle : new.world.volumes b.of.name ≡ None = ap (λ (g : Word → Option Volume). g b.of.name) b.stops.2.committing.volumes ∙ ap old.world.volumes (found_there name b.group.config.volumes b.of b.was.volume).1 ∙ b.free in
        settles_idle b.of.name end new.world idle
        (stopped_settles (Besides b.of.name) x old f.known.standing (states_safe old.world x f.known.standing b.group b.was.group f.known.whole vol.Sync (λ p. p.state) b.of is r sound_as) end new b.stops.2 is.group f.known.whole f.known.offers)

  -- this volume of the group
  module _ (name : Word) (old : Moment) (f : IsFine place old) (g : Group) (v : Vol) (of : IsOf name old.world g v) where
    healed_fine : (new : Moment) → IsHealing g v old new → IsFine place new
    healed_fine new h = record { known = touched_known g v.name old new of.group h.touched f.known; kept = healing_kept laws place name old f.kept g v of new h }

    -- its end is recorded, and it runs
    ended_known : (marks : ℕ) (new : Moment) → IsRecoveryEnded g v marks old new → IsKnown new.world
    ended_known marks new e =
        let opened = touched_known g v.name old e.opened of.group e.opens.touched f.known in
        let at = opened_still g v old e.opened e.opens of.group in
        let ready = states_ready e.opened.world e.writing opened.standing g at vol.Active (recovered marks) v e.change in
        let recorded = committed_known e.writing e.opened opened.standing ready (opened.whole e.writing.group e.change.group) e.recorded e.committed opened.offers (imported_away e.writing e.opened opened.standing ready e.change.group) in
        let run = volume_started g v (image_on old.world.devices g v) e.runs.sound in
        let none : e.recorded.world.volumes v.name ≡ None = ap (λ (f : Word → Option Volume). f v.name) (e.committed.committing.volumes ∙ ap (λ (w : World). w.volumes) e.opens.touched.world) ∙ e.free in
        record {
          standing = ended_stands g v marks old f.known.standing of.group new e;
          whole = whole_before e.recorded.world new.world (ap (λ (w : World). w.group) e.runs.world) recorded.1;
          offers = subst HaveSoundOffers (sym e.runs.world)
              (lent_offers e.recorded.world (put v.name (Some run) e.recorded.world.volumes) (lent_put e.recorded.world v.name (Some run) (λ u at has is. not_none u (sym none ∙ has)))
              (ended_recorded g v marks old f.known.standing of.group new e) recorded.0);
        }

    ended_fine : (marks : ℕ) (new : Moment) → IsRecoveryEnded g v marks old new → IsFine place new
    ended_fine marks new e = record { known = ended_known marks new e; kept = ended_kept laws place name old f.kept g v of marks new e }

    -- that cannot be recorded
    unended_settles : (marks : ℕ) (end : End) (new : Moment) → old.world.volumes v.name ≡ None → IsSoundImage (image_on old.world.devices g v) → StopsAtEnd g v marks old end new → Settles Every end new.world
    unended_settles marks end new idle sound e =
        let x = e.stops.0 in
        let opened = touched_known g v.name old e.opened of.group e.opens.touched f.known in
        let at = opened_still g v old e.opened e.opens of.group in
        let own : g ≡ x.group = some_same g x.group (sym at ∙ e.stops.1.group) in
        let mine : IsIn x.group.config.volumes v = subst (λ (h : Group). IsIn h.config.volumes v) own (found_there name g.config.volumes v of.volume).0 in
        let edited : IsEdited (recovered_edits x.group.config v marks) x.group.config x.config = subst (λ (h : Group). IsEdited (recovered_edits h.config v marks) x.group.config x.config) own e.stops.1.edited in
        let r : Restates v.name vol.Active (recovered marks) x.group.config x.config =
        laws.recovered_restates x.group.config v marks (among (objects_of x.group.config) (VolRecord v) (records_vol x.group.config v mine)) x.config edited in
        let none : new.world.volumes v.name ≡ None = ap (λ (f : Word → Option Volume). f v.name) (e.stops.2.committing.volumes ∙ ap (λ (w : World). w.volumes) e.opens.touched.world) ∙ idle in
        settles_idle v.name end new.world none
        (stopped_settles (Besides v.name) x e.opened opened.standing (states_safe e.opened.world x opened.standing g at opened.whole vol.Active (recovered marks) v e.stops.1 r (e.sound sound)) end new e.stops.2 e.stops.1.group opened.whole opened.offers)

    -- ---- want of memory

    healing_left : (new : Moment) → HealingWants g v old new → IsKnown new.world
    healing_left new (inl same) = subst IsKnown (sym same) f.known
    healing_left new (inr (inl opened)) = touched_known g v.name old new of.group opened.0 f.known
    healing_left new (inr (inr h)) = touched_known g v.name old new of.group h.touched f.known

    end_left : (new : Moment) → EndWants g v old new → IsKnown new.world
    end_left new (inl same) = subst IsKnown (sym same) f.known
    end_left new (inr opened) = touched_known g v.name old new of.group opened.0 f.known

  still_of : (name : Word) (old : Moment) (g : Group) (v : Vol) (new : Moment) → IsHealing g v old new → IsOf name old.world g v → IsOf name new.world g v
  still_of name old g v new h of = record { group = group_still g v old new h of.group; volume = of.volume }

  recovered_fine : (name : Word) (dirty copied : ℕ) (old mid : Moment) → IsFine place old → IsRecovered name dirty copied old mid → IsFine place mid
  recovered_fine name dirty copied old mid f r =
      let begun = begun_fine name old r.group r.of r.begun f r.begins in
      let h = r.heals.healing in
      ended_fine name r.healed (healed_fine name r.begun begun r.group r.of r.begins.is r.healed h) r.group r.of (still_of name r.begun r.group r.of r.healed h r.begins.is) r.marks mid r.ends

  module _ (name : Word) (old : Moment) (end : End) (new : Moment) (f : IsFine place old) where
    stops_begun : (How : Group → Vol → Moment → End → Moment → Type 0)
        → ((g : Group) (v : Vol) (m : Moment) → IsFine place m → IsOf name m.world g v → is_new v.state ≡ false → m.world.volumes v.name ≡ None → How g v m end new → Settles Every end new.world)
        → StopsBegun name How old end new → Settles Every end new.world
    stops_begun How goes b =
        goes b.group b.of b.begun (begun_fine name old b.group b.of b.begun f b.begins) b.begins.is (begun_before laws place name old b.group b.of b.begun b.begins) (begun_free laws place name old b.group b.of b.begun b.begins) b.ends

    touches : (g : Group) (v : Vol) (m : Moment) → IsFine place m → m.world.group ≡ Some g → IsTouched g v.name m new → Settles Every end new.world
    touches g v m fine here t = known_settles end new.world (touched_known g v.name m new here t fine.known)

    healed_ends : (g : Group) (v : Vol) (m : Moment) → IsFine place m → IsOf name m.world g v → is_new v.state ≡ false → m.world.volumes v.name ≡ None → StopsHealed g v m end new → Settles Every end new.world
    healed_ends g v m fine of before free h =
        let healing = h.heals.healing in
        let healed = healed_fine name m fine g v of h.healed healing in
        let still = still_of name m g v h.healed healing of in
        let idle : h.healed.world.volumes v.name ≡ None = ap (λ (w : World). w.volumes v.name) healing.touched.world ∙ free in
        let there = contains g.config.volumes v (found_there name g.config.volumes v of.volume).0 in
        elim h.ends [
          | inl u ↦ touches g v h.healed healed still.group u.touched
          | inr e ↦ unended_settles name h.healed healed g v still h.marks end new idle (healed.kept.stopped g still.group v there tt before (ap grouped idle)) e
        ]

    recovery_settles : RecoveryStops name old end new → Settles Every end new.world
    recovery_settles (inl b) = begin_settles name old end new f b
    recovery_settles (inr (inl b)) = stops_begun IsRefusedBegun (λ g v m fine of before free h. still_settles end m.world new.world h.2.1.stays.world fine.known) b
    recovery_settles (inr (inr (inl b))) = stops_begun StopsUnopened (λ g v m fine of before free h. touches g v m fine of.group h.touched) b
    recovery_settles (inr (inr (inr (inl b)))) = stops_begun StopsHealing (λ g v m fine of before free h. touches g v m fine of.group h.0.touched) b
    recovery_settles (inr (inr (inr (inr b)))) = stops_begun StopsHealed healed_ends b

  recovery_left : (name : Word) (old new : Moment) → IsFine place old → RecoveryWants name old new → IsKnown new.world
  recovery_left name old new f (inl same) = subst IsKnown (sym same) f.known
  recovery_left name old new f (inr (g, v, begun, b, inl wants)) = healing_left name begun (begun_fine name old g v begun f b) g v b.is new wants
  recovery_left name old new f (inr (g, v, begun, b, inr (healed, h, wants))) =
      let fine = begun_fine name old g v begun f b in
      end_left name healed (healed_fine name begun fine g v b.is healed h) g v (still_of name begun g v healed h b.is) new wants

  -- ---- the volumes

  starts_settle : (name : Word) (old : Moment) (end : End) (new : Moment) → IsFine place old → old.world.volumes name ≡ None → StartStops name old end new → Settles Every end new.world
  starts_settle name old end new f idle stops = start_settles laws place old end new f.known (all_kept place old.world f.kept) name idle stops

  carried : AreCarried (IsFine place)
  carried = record {
    clean = λ name old began mid f need later stops over.
        let s = starts_settle name old began mid f (clean_rests name old.world need) stops in
        let known : IsKnown mid.world = record { standing = done_stands began mid.world over (start_ends old began mid f.known.standing name stops); whole = s.whole; offers = s.elsewhere } in
        record { known = known; kept = starts laws place name old began mid f.kept stops };
    healed = λ name dirty copied old mid f need later r. recovered_fine name dirty copied old mid f r;
  }

  ended : IsEndedBy (IsFine place) (λ end m. Settles Every end m.world)
  ended = record {
    over = λ m f. known_settles _ m.world f.known;
    refused = λ r old end new f is. still_settles end old.world new.world is.1.stays.world f.known;
    clean = λ name old end new f need later stops over. starts_settle name old end new f (clean_rests name old.world need) stops;
    healed = λ name old end new f need later stops. recovery_settles name old end new f stops;
  }

  pub recover_settles : (dg vol : Option Word) (old : Moment) (views : List View) (end : End) (new : Moment) → IsFine place old → Recovers dg vol old views end new → Settles Every end new.world
  recover_settles dg vol old views end new f does = recovers_on (IsFine place) (λ e m. Settles Every e m.world) carried ended dg vol old views end new f does

  pub recover_left : (vol : Option Word) (old new : Moment) → IsFine place old → RecoversShort vol old new → IsKnown new.world
  recover_left vol old new f short =
      recovers_short_on (IsFine place) (λ m. IsKnown m.world) carried
      (record {
        clean = λ name old new f need wants. wants_known laws place (stage.Start name) old new f.known (all_kept place old.world f.kept) wants;
        healed = λ name old new f need wants. recovery_left name old new f wants;
      })
      vol old new f (λ same. subst IsKnown (sym same) f.known) short
