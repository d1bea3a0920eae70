-- A plex of the imported group that leaves its volume. Where its commit is stopped a running volume is left within what is known of it, by
-- whichever configuration is read then.
use Rattle.std.proofs.Common.{◌≡◌, ◌∙◌, ℕ, true, false, List, [], Bool, Option, Some, None, MatchOption, refl, sym, ap, subst, inl, inr}
use Rattle.std.specs.Prelude.{Contains}
use Rattle.std.specs.Str.{bytes_eq}
use Rattle.vx_base.specs.Named.{Word, put}
use Rattle.vx_base.proofs.NamedLemmas.{bytes_eq_self, name_cases, put_same}
use Rattle.vx_mask.proofs.Tests.{not_both}
use Rattle.vx_life.specs.Candidates.{Candidates}
use Rattle.vx_life.specs.Life.{Life}
use Rattle.vx_config_parts.specs.declared.plex.Plex.{Plex}
use Rattle.vx_config_parts.specs.declared.vol.Vol.{Vol}
use Rattle.vx_objects.specs.declared.edit.Edit.{Edit}
use Rattle.vx_objects.specs.Applied.{IsEdited}
use Rattle.vx_state_edits.specs.Edits.{is_new}
use Rattle.vx_image.specs.Bytes.{image_of}
use Rattle.vx_image.specs.Image.{Image}
use Rattle.vx_image.specs.Meaning.{StandsForCandidates}
use Rattle.vx_image.specs.Soundness.{IsSoundImage}
use Rattle.vx_image.proofs.Members.{is_in}
use Rattle.vx_image.proofs.PlexMembers.{IsIn}
use Rattle.vx_answers.specs.declared.answer.End.{End}
use Rattle.vx_answers.specs.declared.refusal.Refusal.TheVariants as refusal
use Rattle.vx_moments.specs.Commit.{Writing}
use Rattle.vx_moments.specs.Group.{image_on, sectors_of}
use Rattle.vx_moments.specs.Leaving.{grouped}
use Rattle.vx_moments.specs.Moment.{Moment}
use Rattle.vx_moments.specs.World.{Group, Volume, World}
use Rattle.vx_group_edits.specs.OfVolume.{AreEditsOf}
use Rattle.vx_group_edits.proofs.PlexEdits.{leaving_volumes, plex_no_vol}
use Rattle.vx_stages.specs.Ends.{EndsIn, IsChange, StopsBy}
use Rattle.vx_stages.specs.Leaving.{ByLog, ByRecord, FromLog, FromRest, MayLeave, Way, leaving_edits, way_of}
use Rattle.vx_stages.specs.Left.{GoesOnBy, GoesOnWithout, IsDissociated, IsReadied, LeavesVolume, Leaves, LeavingStops, LeavingStopsIn, LeavingStopsOf, StaysKnown, StaysSound, StopsInVolume, StopsUnreadied, VolumeStops, volume_left}
use Rattle.vx_stages.specs.Recorded.{IsSoundAs}
use Rattle.vx_stages.specs.Stopping.{rested_volume, runs_on_plexes}
use Rattle.vx_stages.specs.Tests.{is_data, volume_in}
use Rattle.vx_sound.specs.Standing.{IsStanding}
use Rattle.vx_sound.proofs.Leaving.{leaves_own, left_recorded, loose_own}
use Rattle.vx_sound.proofs.Logs.{own_ready}
use Rattle.vx_sound.proofs.Plexes.{plex_found}
use Rattle.vx_sound.proofs.Ready.{IsReady}
use Rattle.vx_sound_volumes.specs.Volumes.{IsSoundBefore}
use Rattle.vx_sound_volumes.proofs.Commits.{vol_of}
use Rattle.vx_sound_volumes.proofs.Leaving.{idle_sound, readied_group}
use Rattle.vx_sound_volumes.proofs.Parts.{Besides, Every, Keeps, grouped_runs, grouped_was, image_same, keeps_all, not_none, some_same}
use Rattle.vx_sound_volumes.proofs.Running.{found_there}
use Rattle.vx_sound_volumes.proofs.Stages.{StateLaws}
use Rattle.vx_sound_imports.specs.Offered.{HaveSoundOffers, IsWholeGroup}
use Rattle.vx_sound_imports.specs.Left.{HoldWithin, IsLeft, LiesWithin}
use Rattle.vx_sound_imports.proofs.Commits.{public_stays}
use Rattle.vx_sound_imports.proofs.Left.{IsNextAs}
use Rattle.vx_sound_imports.proofs.Logs.{own_besides, own_safe, recorded_known}
use Rattle.vx_sound_imports.proofs.Nexts.{IsSafe, IsSoundIfStarted, all_written, next_within, own_next}
use Rattle.vx_sound_imports.proofs.Places.{lent_on_plexes}
use Rattle.vx_sound_imports.proofs.Stages.{Settles, stopped_left, stopped_settles, whole_before}
use Rattle.vx_sound_imports.proofs.Starts.{readied_known, rested_known}
use Rattle.vx_sound_imports.proofs.Volumes.{IsKnown, known_settles, lent_offers, still_settles, touched_known}
use Rattle.vx_sound_imports.proofs.Writings.{HasWhole}

-- ---- the volume that goes on

without_known : (g : Group) (vol : Word) (p : Plex) (m n : Moment) → IsStanding m.world → HaveSoundOffers m.world × HasWhole m.world → GoesOnWithout g vol p m n → HaveSoundOffers n.world × HasWhole n.world
without_known g vol p m n s known w =
    let run = volume_left g vol p w.plexes w.volume in (
      subst HaveSoundOffers (sym w.world)
          (lent_offers m.world (put vol (Some run) m.world.volumes)
          (lent_on_plexes m.world vol (Some run) w.plexes (λ u at. ap (λ (x : Volume). x.lies) (some_same u w.volume (sym at ∙ w.was)) ∙ w.lies)) s known.0),
      whole_before m.world n.world (ap (λ (x : World). x.group) w.world) known.1,
    )

known_by : (way : Way) (g : Group) (vol : Word) (p : Plex) (m n : Moment) → IsStanding m.world → HaveSoundOffers m.world × HasWhole m.world → GoesOnBy way g vol p m n → HaveSoundOffers n.world × HasWhole n.world
known_by ByRecord g vol p m n s known same = subst (λ (x : Moment). HaveSoundOffers x.world × HasWhole x.world) (sym same) known
known_by FromLog g vol p m n s known w = without_known g vol p m n s known w
known_by FromRest g vol p m n s known w = without_known g vol p m n s known w
known_by ByLog g vol p m n s known same = subst (λ (x : Moment). HaveSoundOffers x.world × HasWhole x.world) (sym same) known

-- what is done before leaves a running volume in its life, ..
record IsInLife (run : Volume) (o : Option Volume) : Type 0 where
  later : Volume
  runs : grouped o ≡ Some later
  life : later.life ≡ run.life

readied_runs : (way : Way) (g : Group) (v : Vol) (old mid : Moment) → IsReadied way g v old mid → (run : Volume) → grouped (old.world.volumes v.name) ≡ Some run → IsInLife run (mid.world.volumes v.name)
readied_runs ByRecord g v old mid same run is = record { later = run; runs = ap (λ (m : Moment). grouped (m.world.volumes v.name)) same ∙ is; life = refl }
readied_runs FromLog g v old mid same run is = record { later = run; runs = ap (λ (m : Moment). grouped (m.world.volumes v.name)) same ∙ is; life = refl }
readied_runs ByLog g v old mid asked run is = record { later = run; runs = ap (λ (w : World). grouped (w.volumes v.name)) asked.touched.world ∙ is; life = refl }
readied_runs FromRest g v old mid rest run is =
    let same : rest.volume ≡ run = some_same rest.volume run (sym (ap grouped rest.there ∙ grouped_runs rest.volume rest.plexes rest.lies) ∙ is) in
    let later = rested_volume rest in
    record {
      later = later;
      runs = ap (λ (w : World). grouped (w.volumes v.name)) rest.goes.world ∙ ap grouped (put_same v.name (Some later) old.world.volumes) ∙ grouped_runs later rest.plexes rest.lies;
      life = ap (λ (x : Volume). x.life) same;
    }

-- .. and one that does not run does not run then
readied_idle : (way : Way) (g : Group) (v : Vol) (old mid : Moment) → IsReadied way g v old mid → grouped (old.world.volumes v.name) ≡ None → grouped (mid.world.volumes v.name) ≡ None
readied_idle ByRecord g v old mid same is = ap (λ (m : Moment). grouped (m.world.volumes v.name)) same ∙ is
readied_idle FromLog g v old mid same is = ap (λ (m : Moment). grouped (m.world.volumes v.name)) same ∙ is
readied_idle ByLog g v old mid asked is = ap (λ (w : World). grouped (w.volumes v.name)) asked.touched.world ∙ is
readied_idle FromRest g v old mid rest is = not_none rest.volume (sym is ∙ ap grouped rest.there ∙ grouped_runs rest.volume rest.plexes rest.lies)

module _ (laws : StateLaws) (place : ℕ) (old : Moment) (k : IsKnown old.world) (sound : IsSoundBefore place old.world) where
  unreadied : (way : Way) (g : Group) (v : Vol) (end : End) (new : Moment) → old.world.group ≡ Some g → StopsUnreadied way g v old end new → Settles Every end new.world
  unreadied ByRecord g v end new here stops = absurd stops
  unreadied FromLog g v end new here stops = absurd stops
  unreadied FromRest g v end new here stops = known_settles end new.world (rested_known laws place v.name old k sound new stops.rest)
  unreadied ByLog g v end new here stops = known_settles end new.world (touched_known g v.name old new here stops.0 k)

  module _ (g : Group) (here : old.world.group ≡ Some g) (remove : Bool) (name : Word) (p : Plex) (may : MayLeave (runs_on_plexes old.world) g remove name p) where
    abbrev edits : List Edit
    edits = leaving_edits remove p

    -- ---- a plex of a volume

    module _ (vol : Word) (v : Vol) (own : p.vol ≡ Some vol) (is : volume_in vol g.config.volumes ≡ Some v) where
      abbrev way : Way
      way = way_of (is_data p.kind) (runs_on_plexes old.world v.name) v

      of : AreEditsOf g.config v.name edits
      of = leaves_own (runs_on_plexes old.world) g remove name p may vol v own is

      left_known : (new : Moment) → LeavesVolume remove g v p old new → HaveSoundOffers new.world × HasWhole new.world
      left_known new d =
          known_by way g v.name p d.recorded new (left_recorded old k.standing g here remove name p may vol v own is new d)
          (recorded_known old k d.mid (readied_known laws place old k sound way g v d.mid here d.readied) g (readied_group place old (keeps_all place old.world sound) way g v d.mid d.readied ∙ here) v.name edits of d.writing d.change d.recorded d.committed)
          d.goes

      -- ---- its commit is stopped

      module _ (end : End) (new : Moment) (c : StopsInVolume remove g v p old end new) where
        abbrev x : Writing
        x = c.stops.0

        known : IsKnown c.mid.world
        known = readied_known laws place old k sound way g v c.mid here c.readied

        group : c.mid.world.group ≡ Some g
        group = readied_group place old (keeps_all place old.world sound) way g v c.mid c.readied ∙ here

        own_group : g ≡ x.group
        own_group = some_same g x.group (sym group ∙ c.stops.1.group)

        -- the volume as it stays known, where it runs
        known_run : (run : Volume) → grouped (old.world.volumes v.name) ≡ Some run → StaysKnown g v.name x.config c.mid.world run
        known_run run runs =
            subst (λ (o : Option Volume). MatchOption o (is_new v.state ≡ false → IsSoundAs g g.config v.name old.world → IsSoundAs g x.config v.name c.mid.world) (λ r. r.sound ≡ true → StaysKnown g v.name x.config c.mid.world r)) runs c.sound
            (sound.sound.running v.name run runs)

        started_sound : (o : Option Volume) → grouped (old.world.volumes v.name) ≡ o → IsSoundIfStarted g x.config v.name c.mid.world
        started_sound None idle u one named started = idle_sound place old (keeps_all place old.world sound) g here remove name p may vol v own is c.mid group x c.stops.1 c.sound idle u one named started u one named
        started_sound (Some run) runs u one named started = (known_run run runs).sound u one named

        sound_as : IsSoundIfStarted g x.config v.name c.mid.world
        sound_as = started_sound (grouped (old.world.volumes v.name)) refl

        ready : IsReady x c.mid.world
        ready = own_ready c.mid.world x known.standing g group v.name edits of c.stops.1

        whole : IsWholeGroup x.group
        whole = known.whole x.group c.stops.1.group

        others_safe : IsSafe (Besides v.name) x c.mid.world
        others_safe = own_besides c.mid.world x known.standing g group known.whole v.name edits of c.stops.1 sound_as

        others : Settles (Besides v.name) end new.world
        others = stopped_settles (Besides v.name) x c.mid known.standing others_safe end new c.stops.2 c.stops.1.group known.whole known.offers

        module _ (run : Volume) (runs : grouped (old.world.volumes v.name) ≡ Some run) where
          -- what is read of the bytes that are left lies within what is known of it
          read_within : (y : Vol) → Contains x.config.volumes y → y.name ≡ v.name → is_new y.state ≡ false → LiesWithin (image_of x.config x.group.good (sectors_of new.world.devices x.group.members) y) run.life.candidates
          read_within y there named started =
              let stays = public_stays x c.stops.2.last c.mid new c.stops.2.committing in
              let before : StandsForCandidates (image_on c.mid.world.devices (record x.group { config = x.config }) y) run.life.candidates =
              subst (λ (h : Group). StandsForCandidates (image_on c.mid.world.devices (record h { config = x.config }) y) run.life.candidates) own_group ((known_run run runs).within y there named) in
              record {
                sound = own_next x c.mid.world ready whole c.stops.1.joiners g own_group v.name sound_as new.world.devices stays x.group.good (all_written x c.mid.world ready whole c.stops.1.joiners) y there named started;
                among = subst (λ (i : Image). StandsForCandidates i run.life.candidates) (sym (image_same (record x.group { config = x.config }) c.mid.world.devices new.world.devices (λ m one n. stays m.device n) y)) before;
              }

          next_as : IsNextAs x new.world.devices v.name run.life.candidates
          next_as good few y there named started = next_within x c.mid.world ready whole c.stops.1.joiners new.world.devices run.life.candidates good few y there started (read_within y there named started)

          -- it is in the same life as the command is over
          same_life : (u : Volume) → grouped (new.world.volumes v.name) ≡ Some u → run.life ≡ u.life
          same_life u at =
              let m = readied_runs way g v old c.mid c.readied run runs in
              sym m.life ∙ ap (λ (y : Volume). y.life) (some_same m.later u (sym m.runs ∙ ap (λ (f : Word → Option Volume). grouped (f v.name)) (sym c.stops.2.committing.volumes) ∙ at))

        own_left : (o : Option Volume) → grouped (old.world.volumes v.name) ≡ o → (h : Group) → new.world.group ≡ Some h → (u : Volume) → grouped (new.world.volumes v.name) ≡ Some u →
            HoldWithin new.world.devices h v.name u.life.candidates → IsLeft h.config.group new.world v.name u.life.candidates
        own_left None idle h at u is holds =
            not_none u (sym (readied_idle way g v old c.mid c.readied idle) ∙ ap (λ (f : Word → Option Volume). grouped (f v.name)) (sym c.stops.2.committing.volumes) ∙ is)
        own_left (Some run) runs h at u is holds =
            stopped_left (Besides v.name) x c.mid known.standing others_safe end new c.stops.2 c.stops.1.group h at v.name u.life.candidates holds
            (subst (λ (l : Life). IsNextAs x new.world.devices v.name l.candidates) (same_life run runs u is) (next_as run runs))

        in_volume_settles : Settles Every end new.world
        in_volume_settles = record {
          elsewhere = others.elsewhere;
          whole = others.whole;
          own = others.own;
          left = λ h at lost n u q is holds. elim (name_cases v.name n) [
            | inl same ↦ subst (λ m. IsLeft h.config.group new.world m u.life.candidates) same
                (own_left (grouped (old.world.volumes v.name)) refl h at u (subst (λ m. grouped (new.world.volumes m) ≡ Some u) (sym same) is) (subst (λ m. HoldWithin new.world.devices h m u.life.candidates) (sym same) holds))
            | inr other ↦ others.left h at lost n u (λ same. not_both (subst (λ m. bytes_eq m n ≡ true) same (bytes_eq_self n)) other) is holds
          ];
        }

      volume_settles : (end : End) (new : Moment) → VolumeStops remove g v p old end new → Settles Every end new.world
      volume_settles end new (inl stops) = unreadied way g v end new here stops
      volume_settles end new (inr (inl kept)) = known_settles end new.world (readied_known laws place old k sound way g v new here kept.readied)
      volume_settles end new (inr (inr c)) = in_volume_settles end new c

    -- ---- a plex of none

    module _ (none : p.vol ≡ None) where
      loose : AreEditsOf g.config p.name edits
      loose = loose_own (runs_on_plexes old.world) g remove name p may none p.name

      there : IsIn g.config.plexes p
      there = (plex_found name g.config.plexes p may.found).0

      -- no volume has its name
      no_volume : (x : Writing) → IsChange edits old.world x → (u : Vol) → Contains x.config.volumes u → u.name ≡ p.name → ⊥
      no_volume x change u one named =
          let edited = subst (λ (h : Group). IsEdited edits h.config x.config) (sym (some_same g x.group (sym here ∙ change.group))) change.edited in
          let was : IsIn g.config.volumes u = is_in g.config.volumes u (subst (λ vs. Contains vs u) (leaving_volumes g.config x.config p.name p remove loose edited) one) in
          plex_no_vol g.config p u there (vol_of g.config u was) named

      loose_settles : (end : End) (new : Moment) → StopsBy (IsChange edits old.world) old end new → Settles Every end new.world
      loose_settles end new stops =
          let x = stops.0 in
          stopped_settles Every x old k.standing
          (own_safe old.world x k.standing g here k.whole p.name edits loose stops.1 (λ u one named started. absurd (no_volume x stops.1 u one named)) (λ devices same candidates holds u one named started is_sound. absurd (no_volume x stops.1 u one named)))
          end new stops.2 stops.1.group k.whole k.offers

    -- ---- any plex

    left : (o : Option Word) → p.vol ≡ o → (new : Moment) → Leaves remove g p o old new → HaveSoundOffers new.world × HasWhole new.world
    left None none new d = recorded_known old k old k g here p.name edits (loose none) d.commits.0 d.commits.1 new d.commits.2
    left (Some vol) own new (v, is, d) = left_known vol v own is new d

    left_settles : (o : Option Word) → p.vol ≡ o → (end : End) (new : Moment) → LeavingStopsOf remove g p o old end new → Settles Every end new.world
    left_settles None none end new stops = loose_settles none end new stops
    left_settles (Some vol) own end new (v, is, stops) = volume_settles vol v own is end new stops

  pub leaving_known : (remove : Bool) (name : Word) (new : Moment) → IsDissociated remove name old new → HaveSoundOffers new.world × HasWhole new.world
  leaving_known remove name new d = left d.group d.here remove name d.plex d.may d.plex.vol refl new d.leaves

  module _ (end : End) (new : Moment) where
    leaving_in : (remove : Bool) (name : Word) (g : Group) → old.world.group ≡ Some g → LeavingStopsIn g remove name old end new → Settles Every end new.world
    leaving_in remove name g here (inl (why, rests)) = still_settles end old.world new.world rests.stays.world k
    leaving_in remove name g here (inr (p, may, stops)) = left_settles g here remove name p may p.vol refl end new stops

    leaving_by : (remove : Bool) (name : Word) (o : Option Group) → old.world.group ≡ o → MatchOption o (EndsIn (refusal.NoGroup None) old end new) (λ g. LeavingStopsIn g remove name old end new) → Settles Every end new.world
    leaving_by remove name None here ends = still_settles end old.world new.world ends.1.stays.world k
    leaving_by remove name (Some g) here stops = leaving_in remove name g here stops

    pub leaving_settles : (remove : Bool) (name : Word) → LeavingStops remove name old end new → Settles Every end new.world
    leaving_settles remove name stops = leaving_by remove name old.world.group refl stops
