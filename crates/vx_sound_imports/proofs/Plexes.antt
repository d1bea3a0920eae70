-- A plex of a running volume of the imported group that goes out of use or into use.
use Rattle.std.proofs.Common.{◌≡◌, ◌∙◌, ℕ, true, false, Option, Some, None, MatchOption, refl, sym, ap, subst, inl, inr}
use Rattle.std.specs.Prelude.{Contains, is_some}
use Rattle.std.specs.Str.{bytes_eq}
use Rattle.std.proofs.lemmas.Bool.{and_from, false≢true}
use Rattle.vx_base.specs.Named.{Word, put}
use Rattle.vx_base.proofs.NamedLemmas.{bytes_eq_self, name_cases}
use Rattle.vx_mask.proofs.Tests.{not_both}
use Rattle.vx_config_parts.specs.declared.state.PlexState.TheVariants as plex_state
use Rattle.vx_config_parts.specs.declared.vol.Vol.{Vol}
use Rattle.vx_config_parts.specs.Objects.{is_data, is_data_plex_of, refers}
use Rattle.vx_state_edits.specs.Edits.{is_new}
use Rattle.vx_image.specs.Bytes.{image_of}
use Rattle.vx_image.specs.Image.{Image}
use Rattle.vx_image.specs.Meaning.{StandsForCandidates}
use Rattle.vx_image.proofs.PlexMembers.{IsIn}
use Rattle.vx_answers.specs.declared.answer.End.{End}
use Rattle.vx_answers.specs.declared.refusal.Refusal.TheVariants as refusal
use Rattle.vx_moments.specs.Group.{image_on, sectors_of}
use Rattle.vx_moments.specs.Leaving.{grouped, grouped_by}
use Rattle.vx_moments.specs.Moment.{Moment}
use Rattle.vx_moments.specs.World.{Group, Lies, OnDevice, OnPlexes, Volume, World}
use Rattle.vx_group_edits.specs.OfVolume.{AreEditsOf}
use Rattle.vx_stages.specs.Attached.{AttachStops, AttachStopsIn, IsAttachCopied, IsAttachedBy, StopsUnattached, volume_unsure}
use Rattle.vx_stages.specs.Detached.{DetachStops, DetachStopsIn, IsDetached, IsRestedFor, StopsUndetached}
use Rattle.vx_stages.specs.Ends.{EndsIn}
use Rattle.vx_stages.specs.Plexes.{state_edits}
use Rattle.vx_stages.specs.Recorded.{IsSoundAs}
use Rattle.vx_stages.specs.Stopping.{runs_on_plexes}
use Rattle.vx_sound.proofs.Plexes.{attach_after, attach_own, attach_recorded, attach_tested, attached_stands, detach_group, detach_own, detach_tested, plex_found}
use Rattle.vx_sound.proofs.Logs.{own_ready}
use Rattle.vx_sound.proofs.Ready.{IsReady}
use Rattle.vx_sound_volumes.specs.Volumes.{IsSoundBefore}
use Rattle.vx_sound_volumes.proofs.Parts.{Besides, Every, image_same, some_same}
use Rattle.vx_sound_volumes.proofs.Running.{found_there}
use Rattle.vx_sound_volumes.proofs.Stages.{StateLaws}
use Rattle.vx_sound_imports.specs.Offered.{HaveSoundOffers, IsWholeGroup}
use Rattle.vx_sound_imports.specs.Left.{HoldWithin, IsLeft, LiesWithin}
use Rattle.vx_sound_imports.proofs.Commits.{public_stays}
use Rattle.vx_sound_imports.proofs.Left.{IsNextAs}
use Rattle.vx_sound_imports.proofs.Logs.{own_besides, own_safe, recorded_known}
use Rattle.vx_sound_imports.proofs.Nexts.{IsSafe, KeepsOwn, all_written, next_within, own_next}
use Rattle.vx_sound_imports.proofs.Places.{lent_on_plexes}
use Rattle.vx_sound_imports.proofs.Stages.{Settles, stopped_left, stopped_settles, whole_before}
use Rattle.vx_sound_imports.proofs.Starts.{rested_known, was_sound}
use Rattle.vx_sound_imports.proofs.Switched.{switched_within, volumes_now}
use Rattle.vx_sound_imports.proofs.Volumes.{IsKnown, goes_known, known_settles, lent_offers, still_settles}
use Rattle.vx_sound_imports.proofs.Writings.{HasWhole}

-- a volume that runs on plexes
runs_grouped : (o : Option Volume) (u : Volume) → o ≡ Some u → is_some (grouped o) ≡ true → grouped o ≡ Some u
runs_grouped o u is runs = ap grouped is ∙ by u.lies (subst (λ (x : Option Volume). is_some (grouped x) ≡ true) is runs)
  where
    by : (l : Lies) → is_some (grouped_by l u) ≡ true → grouped_by l u ≡ Some u
    by (OnPlexes plexes) on = refl
    by (OnDevice device) on = absurd (false≢true on)

module _ (laws : StateLaws) (place : ℕ) (old : Moment) (k : IsKnown old.world) (sound : IsSoundBefore place old.world) where
  -- ---- out of use

  detach_rested : (plex : Word) (mid : Moment) → IsRestedFor plex old mid → IsKnown mid.world
  detach_rested plex mid r = rested_known laws place r.volume.name old k sound mid r.rest

  pub detach_known : (plex : Word) (new : Moment) → IsDetached plex old new → HaveSoundOffers new.world × HasWhole new.world
  detach_known plex new d =
      let r = d.rested in
      recorded_known old k d.mid (detach_rested plex d.mid r) r.group (detach_group old k.standing plex d.mid r) r.volume.name (state_edits r.volume.name r.plex plex_state.Stale)
      (detach_own (runs_on_plexes old.world) r.group.config plex r.volume r.plex r.may) d.writing d.change new d.committed

  module _ (end : End) (new : Moment) where
    -- by the next configuration the plex is read no more
    detach_kept : (plex : Word) (c : StopsUndetached plex old end new) → KeepsOwn c.stops.0 c.mid.world c.rested.volume.name
    detach_kept plex c devices same candidates holds y one at before is_sound =
        let x = c.stops.0 in
        let r = c.rested in
        let name = r.volume.name in
        let groups : r.group ≡ x.group = some_same r.group x.group (sym (detach_group old k.standing plex c.mid r) ∙ c.stops.1.group) in
        let mine = subst (λ (h : Group). IsIn h.config.plexes r.plex) groups (plex_found plex r.group.config.plexes r.plex r.may.found).0 in
        let is_of = (detach_tested (runs_on_plexes old.world) r.group.config plex r.volume r.plex r.may).1 in
        let own : is_data_plex_of name r.plex ≡ true = and_from (refers r.plex.vol name) (is_data r.plex.kind) (ap (λ (o : Option Word). refers o name) r.may.own ∙ bytes_eq_self name) is_of in
        let there = subst (λ vs. Contains vs y) (volumes_now x.group.config x.config name r.plex plex_state.Stale mine own c.stops.1.edited) one in
        switched_within x.group.config x.config name r.plex plex_state.Stale mine own c.stops.1.edited refl x.group.good (sectors_of devices x.group.members) y at before candidates (holds y there at before) is_sound

    undetached_settles : (plex : Word) → StopsUndetached plex old end new → Settles Every end new.world
    undetached_settles plex c =
        let r = c.rested in
        let name = r.volume.name in
        let known = detach_rested plex c.mid r in
        let rests : r.rest.group ≡ r.group = some_same r.rest.group r.group (sym r.rest.here ∙ r.here) in
        let of = detach_own (runs_on_plexes old.world) r.group.config plex r.volume r.plex r.may in
        let sound_as = subst (λ (h : Group). IsSoundAs h c.stops.0.config name c.mid.world) rests (c.sound (was_sound laws place name old k sound c.mid r.rest)) in
        stopped_settles Every c.stops.0 c.mid known.standing
        (own_safe c.mid.world c.stops.0 known.standing r.group (detach_group old k.standing plex c.mid r) known.whole name (state_edits name r.plex plex_state.Stale) of c.stops.1 (λ v there is started. sound_as v there is) (detach_kept plex c))
        end new c.stops.2 c.stops.1.group known.whole known.offers

    detach_in : (plex : Word) (g : Group) → DetachStopsIn g plex old end new → Settles Every end new.world
    detach_in plex g (inl (why, rests)) = still_settles end old.world new.world rests.stays.world k
    detach_in plex g (inr (inl u)) = known_settles end new.world (rested_known laws place u.volume.name old k sound new u.stops.rest)
    detach_in plex g (inr (inr (inl n))) = known_settles end new.world (detach_rested plex new n.rested)
    detach_in plex g (inr (inr (inr c))) = undetached_settles plex c

    detach_by : (plex : Word) (o : Option Group) → MatchOption o (EndsIn (refusal.NoGroup None) old end new) (λ g. DetachStopsIn g plex old end new) → Settles Every end new.world
    detach_by plex None ends = still_settles end old.world new.world ends.1.stays.world k
    detach_by plex (Some g) stops = detach_in plex g stops

    pub detach_settles : (plex : Word) → DetachStops plex old end new → Settles Every end new.world
    detach_settles plex stops = detach_by plex old.world.group stops

  -- ---- into use

  module _ (vol plex : Word) (g : Group) (here : old.world.group ≡ Some g) where
    -- its state is committed
    attach_committed : (m : Moment) (b : IsAttachedBy g vol plex old m) → HaveSoundOffers b.recorded.world × HasWhole b.recorded.world
    attach_committed m b =
        recorded_known old k old k g here b.volume.name (state_edits b.volume.name b.plex plex_state.Active) (attach_own (runs_on_plexes old.world vol) g.config g.good vol plex b.volume b.plex b.may) b.writing b.change b.recorded b.committed

    -- the volume writes to it
    attached_known : (m : Moment) → IsAttachedBy g vol plex old m → IsKnown m.world
    attached_known m b =
        let j = b.goes in
        let recorded = attach_committed m b in
        let run = volume_unsure plex j.volume in
        record {
          standing = attached_stands old k.standing vol plex g here m b;
          whole = whole_before b.recorded.world m.world (ap (λ (w : World). w.group) j.world) recorded.1;
          offers = subst HaveSoundOffers (sym j.world)
              (lent_offers b.recorded.world (put vol (Some run) b.recorded.world.volumes)
              (lent_on_plexes b.recorded.world vol (Some run) j.plexes (λ u at. ap (λ (x : Volume). x.lies) (some_same u j.volume (sym at ∙ j.was)) ∙ j.lies))
              (attach_recorded old k.standing vol plex g here m b) recorded.0);
        }

    module _ (end : End) (new : Moment) where
      copied_known : (v : Vol) (before : Volume) (m : Moment) → IsAttachedBy g vol plex old m → IsAttachCopied v plex before m end new → IsKnown new.world
      copied_known v before m b c =
          goes_known c.group v.name c.later c.plexes m new c.here (λ u is. ap (λ (x : Volume). x.lies) (some_same u c.volume (sym is ∙ c.was)) ∙ c.lies) c.goes
          (attach_after old k.standing vol plex g here v before m end new b c) (attached_known m b)

      module _ (c : StopsUnattached g vol plex old end new) where
        abbrev name : Word
        name = c.volume.name

        named : name ≡ vol
        named = (found_there vol g.config.volumes c.volume c.may.volume).1

        -- the volume that runs was sound as it began
        runs : grouped (old.world.volumes vol) ≡ Some c.running
        runs = runs_grouped (old.world.volumes vol) c.running c.runs (attach_tested (runs_on_plexes old.world vol) g.config g.good vol plex c.volume c.plex c.may).0

        ran_sound : c.running.sound ≡ true
        ran_sound = sound.sound.running vol c.running runs

        own_group : g ≡ c.stops.0.group
        own_group = some_same g c.stops.0.group (sym here ∙ c.stops.1.group)

        sound_as : IsSoundAs g c.stops.0.config name old.world
        sound_as = subst (λ n. IsSoundAs g c.stops.0.config n old.world) (sym named) (c.sound ran_sound)

        of : AreEditsOf g.config name (state_edits name c.plex plex_state.Active)
        of = attach_own (runs_on_plexes old.world vol) g.config g.good vol plex c.volume c.plex c.may

        ready : IsReady c.stops.0 old.world
        ready = own_ready old.world c.stops.0 k.standing g here name (state_edits name c.plex plex_state.Active) of c.stops.1

        whole : IsWholeGroup c.stops.0.group
        whole = k.whole c.stops.0.group c.stops.1.group

        others_safe : IsSafe (Besides name) c.stops.0 old.world
        others_safe = own_besides old.world c.stops.0 k.standing g here k.whole name (state_edits name c.plex plex_state.Active) of c.stops.1 (λ v there is started. sound_as v there is)

        others : Settles (Besides name) end new.world
        others = stopped_settles (Besides name) c.stops.0 old k.standing others_safe end new c.stops.2 c.stops.1.group k.whole k.offers

        -- what is read of the bytes that are left lies within what is known of it
        read_within : (v : Vol) → Contains c.stops.0.config.volumes v → v.name ≡ name → is_new v.state ≡ false →
            LiesWithin (image_of c.stops.0.config c.stops.0.group.good (sectors_of new.world.devices c.stops.0.group.members) v) c.running.life.candidates
        read_within v there is started =
            let x = c.stops.0 in
            let stays = public_stays x c.stops.2.last old new c.stops.2.committing in
            let before : StandsForCandidates (image_on old.world.devices (record x.group { config = x.config }) v) c.running.life.candidates =
            subst (λ (h : Group). StandsForCandidates (image_on old.world.devices (record h { config = x.config }) v) c.running.life.candidates) own_group (c.within ran_sound v there (is ∙ named)) in
            record {
              sound = own_next x old.world ready whole c.stops.1.joiners g own_group name (λ u one at before. sound_as u one at) new.world.devices stays x.group.good (all_written x old.world ready whole c.stops.1.joiners) v there is started;
              among = subst (λ (i : Image). StandsForCandidates i c.running.life.candidates) (sym (image_same (record x.group { config = x.config }) old.world.devices new.world.devices (λ m one n. stays m.device n) v)) before;
            }

        next_as : IsNextAs c.stops.0 new.world.devices name c.running.life.candidates
        next_as good few v there is started =
            next_within c.stops.0 old.world ready whole c.stops.1.joiners new.world.devices c.running.life.candidates good few v there started (read_within v there is started)

        -- it is the one that runs as the command is over
        same_run : (u : Volume) → grouped (new.world.volumes name) ≡ Some u → c.running ≡ u
        same_run u is =
            some_same c.running u
            (sym runs ∙ ap (λ n. grouped (old.world.volumes n)) (sym named) ∙ ap (λ (f : Word → Option Volume). grouped (f name)) (sym c.stops.2.committing.volumes) ∙ is)

        own_left : (h : Group) → new.world.group ≡ Some h → (u : Volume) → grouped (new.world.volumes name) ≡ Some u → HoldWithin new.world.devices h name u.life.candidates → IsLeft h.config.group new.world name u.life.candidates
        own_left h at u is holds =
            stopped_left (Besides name) c.stops.0 old k.standing others_safe end new c.stops.2 c.stops.1.group h at name u.life.candidates holds
            (subst (λ (y : Volume). IsNextAs c.stops.0 new.world.devices name y.life.candidates) (same_run u is) next_as)

        unattached_settles : Settles Every end new.world
        unattached_settles = record {
          elsewhere = others.elsewhere;
          whole = others.whole;
          own = others.own;
          left = λ h at lost n u p is holds. elim (name_cases name n) [
            | inl same ↦ subst (λ m. IsLeft h.config.group new.world m u.life.candidates) same
                (own_left h at u (subst (λ m. grouped (new.world.volumes m) ≡ Some u) (sym same) is) (subst (λ m. HoldWithin new.world.devices h m u.life.candidates) (sym same) holds))
            | inr other ↦ others.left h at lost n u (λ same. not_both (subst (λ m. bytes_eq m n ≡ true) same (bytes_eq_self n)) other) is holds
          ];
        }

      attach_in : AttachStopsIn g vol plex old end new → Settles Every end new.world
      attach_in (inl (why, rests)) = still_settles end old.world new.world rests.stays.world k
      attach_in (inr (inl c)) = unattached_settles c
      attach_in (inr (inr a)) = known_settles end new.world (copied_known a.is.volume a.is.goes.volume a.attached a.is a.copied)

  attach_by : (vol plex : Word) (end : End) (new : Moment) (o : Option Group) → old.world.group ≡ o → MatchOption o (EndsIn (refusal.NoGroup None) old end new) (λ g. AttachStopsIn g vol plex old end new) → Settles Every end new.world
  attach_by vol plex end new None here ends = still_settles end old.world new.world ends.1.stays.world k
  attach_by vol plex end new (Some g) here stops = attach_in vol plex g here end new stops

  pub attach_settles : (vol plex : Word) (end : End) (new : Moment) → AttachStops vol plex old end new → Settles Every end new.world
  attach_settles vol plex end new stops = attach_by vol plex end new old.world.group refl stops
