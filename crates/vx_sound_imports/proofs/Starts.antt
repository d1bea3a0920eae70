-- A start and a stop of a volume of the imported group, and what want of memory leaves of them, of a mirror and of a plex that goes out of use or
-- leaves its volume.
use Rattle.std.proofs.Common.{◌≡◌, ◌∙◌, ℕ, Bool, true, false, Option, Some, None, MatchBool, MatchOption, refl, sym, ap, subst, inl, inr}
use Rattle.vx_base.specs.Named.{Word, put}
use Rattle.vx_base.proofs.NamedLemmas.{put_same}
use Rattle.vx_config_parts.specs.declared.state.VolState.{VolState}
use Rattle.vx_config_parts.specs.declared.state.VolState.TheVariants as vol
use Rattle.vx_config_parts.specs.declared.vol.Vol.{Vol}
use Rattle.vx_image.proofs.PlexMembers.{IsIn}
use Rattle.vx_image.specs.Soundness.{IsSoundImage}
use Rattle.vx_image.proofs.Members.{contains}
use Rattle.vx_answers.specs.declared.answer.End.{End}
use Rattle.vx_answers.specs.declared.refusal.Refusal.TheVariants as refusal
use Rattle.vx_state_edits.specs.Edits.{is_new, stop_edits}
use Rattle.vx_moments.specs.Leaving.{grouped}
use Rattle.vx_moments.specs.Moment.{Moment}
use Rattle.vx_moments.specs.World.{Group, Volume, World}
use Rattle.vx_moments.specs.Group.{image_on}
use Rattle.vx_stages.specs.Ends.{EndsIn, IsChange}
use Rattle.vx_stages.specs.Leaving.{ByLog, ByRecord, FromLog, FromRest, Way}
use Rattle.vx_stages.specs.Left.{IsReadied, way_in}
use Rattle.vx_stages.specs.Stages.{Wants}
use Rattle.vx_stages.specs.Starting.{IsStartedBy, StartStops, StopsIn, StopsOf, may_start, plexes_started, volume_started}
use Rattle.vx_stages.specs.Stopping.{ComesToRest, IsStopBroken, IsStopDone, StopStops, is_active, rested_volume, without_volume}
use Rattle.vx_stages.specs.Tests.{recorded, volume_in}
use Rattle.vx_stages.specs.declared.stage.Stage.{Stage}
use Rattle.vx_stages.specs.declared.stage.Stage.TheVariants as stage
use Rattle.vx_sound.proofs.Running.{after, begun, found_recorded, gone, recorded_stands, rested, rested_group, start_ready, started_lies, stop_ready}
use Rattle.vx_sound_volumes.specs.Volumes.{IsSoundBefore}
use Rattle.vx_sound_volumes.proofs.Parts.{Besides, Every, grouped_runs, not_none, some_same}
use Rattle.vx_sound_volumes.proofs.Running.{found_there}
use Rattle.vx_sound_volumes.proofs.Stages.{StateLaws}
use Rattle.vx_sound_imports.specs.Offered.{HaveSoundOffers}
use Rattle.vx_sound_imports.proofs.Logs.{prepare_wants}
use Rattle.vx_sound_imports.proofs.Writings.{HasWhole, start_safe, stop_safe}
use Rattle.vx_sound_imports.proofs.Places.{lent_on_plexes, lent_put}
use Rattle.vx_sound_imports.proofs.Stages.{Settles, committed_known, imported_away, settles_idle, stopped_settles, whole_before}
use Rattle.vx_sound_imports.proofs.Volumes.{IsKnown, goes_known, known_settles, lent_offers, still_settles, touched_known}

-- ---- a start

module _ (laws : StateLaws) (place : ℕ) (old : Moment) (end : End) (new : Moment) (k : IsKnown old.world) (sound : IsSoundBefore place old.world) where
  module _ (g : Group) (here : old.world.group ≡ Some g) (v : Vol) (found : volume_in v.name g.config.volumes ≡ Some v) (idle : old.world.volumes v.name ≡ None) where
    there : IsIn g.config.volumes v
    there = (found_there v.name g.config.volumes v found).0

    -- as it is left it was sound as the start began
    sound_at_first : is_new v.state ≡ false → IsSoundImage (image_on old.world.devices g v)
    sound_at_first before = sound.sound.stopped g here v (contains g.config.volumes v there) before (ap grouped idle)

    -- it runs
    begun_known : (m : Moment) → IsStartedBy g v old m → IsKnown m.world
    begun_known m b =
        let opened = touched_known g v.name old b.opened here b.touched k in
        let at : b.opened.world.group ≡ Some g = ap (λ (w : World). w.group) b.touched.world ∙ here in
        let ready = start_ready b.opened.world b.writing opened.standing g at v b.change in
        let whole = opened.whole b.writing.group b.change.group in
        let recorded = committed_known b.writing b.opened opened.standing ready whole b.recorded b.committed opened.offers (imported_away b.writing b.opened opened.standing ready b.change.group) in
        let stands = begun old end new k.standing g here v (found_recorded v.name g.config.volumes v found) m b in
        let run = volume_started g v (image_on old.world.devices g v) b.begins.sound in
        let none : b.recorded.world.volumes v.name ≡ None = ap (λ (f : Word → Option Volume). f v.name) (b.committed.committing.volumes ∙ ap (λ (w : World). w.volumes) b.touched.world) ∙ idle in
        record {
          standing = stands;
          whole = whole_before b.recorded.world m.world (ap (λ (w : World). w.group) b.begins.world) recorded.1;
          offers = subst HaveSoundOffers (sym b.begins.world)
              (lent_offers b.recorded.world (put v.name (Some run) b.recorded.world.volumes) (lent_put b.recorded.world v.name (Some run) (λ u name is has. not_none u (sym none ∙ is)))
              (recorded_stands old end new k.standing g here v (found_recorded v.name g.config.volumes v found) m b) recorded.0);
        }

    of_volume : StopsOf g v old end new → Settles Every end new.world
    of_volume (inl (why, rests)) = still_settles end old.world new.world rests.stays.world k
    of_volume (inr (inl stops)) = known_settles end new.world (touched_known g v.name old new here stops.touched k)
    of_volume (inr (inr (inl c))) =
        let opened = touched_known g v.name old c.opened here c.touched k in
        let at : c.opened.world.group ≡ Some g = ap (λ (w : World). w.group) c.touched.world ∙ here in
        let none : new.world.volumes v.name ≡ None = ap (λ (f : Word → Option Volume). f v.name) (c.stops.2.committing.volumes ∙ ap (λ (w : World). w.volumes) c.touched.world) ∙ idle in
        settles_idle v.name end new.world none (stopped_settles (Besides v.name) c.stops.0 c.opened opened.standing
        (start_safe c.opened.world c.stops.0 opened.standing g at opened.whole v laws.start_restates laws.start_keeps there c.stops.1 (c.recorded sound_at_first))
        end new c.stops.2 c.stops.1.group opened.whole opened.offers)
    of_volume (inr (inr (inr a))) =
        let m = begun_known a.begun a.started in
        let run = volume_started g v (image_on old.world.devices g v) a.started.begins.sound in
        let same : run ≡ a.copied.volume = some_same run a.copied.volume (sym (put_same v.name (Some run) a.started.recorded.world.volumes) ∙ sym (ap (λ (w : World). w.volumes v.name) a.started.begins.world) ∙ a.copied.was) in
        known_settles end new.world
        (goes_known a.copied.group v.name a.copied.later (plexes_started g v) a.begun new a.copied.here
        (λ u is. ap (λ (x : Volume). x.lies) (some_same u a.copied.volume (sym is ∙ a.copied.was) ∙ sym same) ∙ started_lies g v (image_on old.world.devices g v) a.started.begins.sound)
        a.copied.goes (after old end new k.standing g here v (found_recorded v.name g.config.volumes v found) a.begun a.started a.copied) m)

    of_state : (may : Bool) → MatchBool may (StopsOf g v old end new) (EndsIn (refusal.VolState v.state) old end new) → Settles Every end new.world
    of_state true stops = of_volume stops
    of_state false ends = still_settles end old.world new.world ends.1.stays.world k

  in_group : (g : Group) (name : Word) (o : Option Vol) → old.world.group ≡ Some g → old.world.volumes name ≡ None → volume_in name g.config.volumes ≡ o → MatchOption o (EndsIn (refusal.NoObject name) old end new) (λ v. MatchBool (may_start v.state) (StopsOf g v old end new) (EndsIn (refusal.VolState v.state) old end new)) → Settles Every end new.world
  in_group g name None here idle is ends = still_settles end old.world new.world ends.1.stays.world k
  in_group g name (Some v) here idle is stops =
      let named : v.name ≡ name = (found_there name g.config.volumes v is).1 in
      of_state g here v (subst (λ n. volume_in n g.config.volumes ≡ Some v) (sym named) is) (subst (λ n. old.world.volumes n ≡ None) (sym named) idle) (may_start v.state) stops

  pub start_settles : (name : Word) → old.world.volumes name ≡ None → StartStops name old end new → Settles Every end new.world
  start_settles name idle stops = in_world old.world.group refl stops
    where
      in_world : (o : Option Group) → old.world.group ≡ o → MatchOption o (EndsIn (refusal.NoGroup None) old end new) (λ g. StopsIn g name old end new) → Settles Every end new.world
      in_world None here ends = still_settles end old.world new.world ends.1.stays.world k
      in_world (Some g) here more = in_group g name (volume_in name g.config.volumes) here idle refl more

-- ---- a stop

-- an active volume was started before
active_before : (s : VolState) → is_active s ≡ true → is_new s ≡ false
active_before vol.Empty e = cc
active_before vol.Clean e = refl
active_before vol.Active e = refl
active_before vol.NeedSync e = refl
active_before vol.Sync e = refl

module _ (laws : StateLaws) (place : ℕ) (name : Word) (old : Moment) (k : IsKnown old.world) (sound : IsSoundBefore place old.world) where
  pub rested_known : (mid : Moment) → ComesToRest name old mid → IsKnown mid.world
  rested_known mid rest =
      goes_known rest.group name (rested_volume rest) rest.plexes old mid rest.here (λ u is. ap (λ (x : Volume). x.lies) (some_same u rest.volume (sym is ∙ rest.there)) ∙ rest.lies) rest.goes (rested name old k.standing mid rest) k

  pub was_sound : (mid : Moment) (rest : ComesToRest name old mid) → rest.volume.sound ≡ true
  was_sound mid rest = sound.sound.running name rest.volume (ap grouped rest.there ∙ grouped_runs rest.volume rest.plexes rest.lies)

  -- the volume is out of the world
  gone_known : (mid : Moment) (rest : ComesToRest name old mid) → IsKnown (without_volume name mid).world
  gone_known mid rest =
      let r = rested_known mid rest in
      let run = rested_volume rest in
      let is : mid.world.volumes name ≡ Some run = ap (λ (w : World). w.volumes name) rest.goes.world ∙ put_same name (Some run) old.world.volumes in
      record {
        standing = gone name old k.standing mid rest;
        whole = r.whole;
        offers = lent_offers mid.world (put name None mid.world.volumes) (lent_on_plexes mid.world name None rest.plexes (λ u at. ap (λ (x : Volume). x.lies) (some_same u run (sym at ∙ is)) ∙ rest.lies)) r.standing r.offers;
      }

  pub stop_done_known : (new : Moment) → IsStopDone name old new → HaveSoundOffers new.world × HasWhole new.world
  stop_done_known new d =
      let r = d.record_is in
      let w = without_volume name d.mid in
      let known = gone_known d.mid r.rest in
      let ready = stop_ready w.world d.writing known.standing r.rest.group (rested_group name old k.standing d.mid r.rest) r.of r.marks d.edits r.edits_are d.change in
      committed_known d.writing w known.standing ready (known.whole d.writing.group d.change.group) new d.committed known.offers (imported_away d.writing w known.standing ready d.change.group)

  broken_settles : (end : End) (new : Moment) → IsStopBroken name old end new → Settles Every end new.world
  broken_settles end new b =
      let r = b.record_is in
      let known = rested_known b.mid r.rest in
      let found = found_there name r.rest.group.config.volumes r.of (sym (ap (recorded name) r.rest.here) ∙ r.recorded_is) in
      let change : IsChange (stop_edits r.rest.group.config r.of r.marks) b.mid.world b.writing = subst (λ es. IsChange es b.mid.world b.writing) r.edits_are b.change in
      stopped_settles Every b.writing b.mid known.standing
      (stop_safe b.mid.world b.writing known.standing r.rest.group (rested_group name old k.standing b.mid r.rest) known.whole r.of laws.stop_restates laws.stop_keeps found.0 (active_before r.of.state r.active) r.marks change
      (λ v there is. b.sound (was_sound b.mid r.rest) v there (is ∙ found.1)))
      end new b.stopped b.change.group known.whole known.offers

  pub stop_settles : (end : End) (new : Moment) → StopStops name old end new → Settles Every end new.world
  stop_settles end new (inl (why, rests)) = still_settles end old.world new.world rests.stays.world k
  stop_settles end new (inr (inl r)) = known_settles end new.world (rested_known new r.rest)
  stop_settles end new (inr (inr b)) = broken_settles end new b

-- ---- what is done before a plex leaves its volume

pub readied_known : (laws : StateLaws) (place : ℕ) (old : Moment) → IsKnown old.world → IsSoundBefore place old.world → (way : Way) (g : Group) (v : Vol) (mid : Moment) → old.world.group ≡ Some g → IsReadied way g v old mid → IsKnown mid.world
readied_known laws place old k sound ByRecord g v mid here same = subst (λ (m : Moment). IsKnown m.world) (sym same) k
readied_known laws place old k sound FromLog g v mid here same = subst (λ (m : Moment). IsKnown m.world) (sym same) k
readied_known laws place old k sound FromRest g v mid here rest = rested_known laws place v.name old k sound mid rest
readied_known laws place old k sound ByLog g v mid here asked = touched_known g v.name old mid here asked.touched k

-- ---- want of memory

pub wants_known : (laws : StateLaws) (place : ℕ) (s : Stage) (old new : Moment) → IsKnown old.world → IsSoundBefore place old.world → Wants s old new → IsKnown new.world
wants_known laws place (stage.Start vol) old new k sound (inl same) = subst IsKnown (sym same) k
wants_known laws place (stage.Start vol) old new k sound (inr (g, v, here, found, may, touched, narrows)) = touched_known g vol old new here touched k
wants_known laws place (stage.Mirror mirror) old new k sound (inl same) = subst IsKnown (sym same) k
wants_known laws place (stage.Mirror mirror) old new k sound (inr rest) = rested_known laws place mirror.vol old k sound new rest
wants_known laws place (stage.Prepare logs) old new k sound wants = prepare_wants old k logs new wants
wants_known laws place (stage.Detach plex) old new k sound (inl same) = subst IsKnown (sym same) k
wants_known laws place (stage.Detach plex) old new k sound (inr r) = rested_known laws place r.volume.name old k sound new r.rest
wants_known laws place (stage.Dissociate plex remove) old new k sound (inl same) = subst IsKnown (sym same) k
wants_known laws place (stage.Dissociate plex remove) old new k sound (inr (from, readied)) = readied_known laws place old k sound (way_in from) from.group from.volume new from.here readied
wants_known laws place (stage.Stop vol) old new k sound (inl same) = subst IsKnown (sym same) k
wants_known laws place (stage.Stop vol) old new k sound (inr rest) = rested_known laws place vol old k sound new rest
wants_known laws place other old new k sound same = subst IsKnown (sym same) k
