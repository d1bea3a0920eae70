-- A mirror of a running volume of the imported group.
use Rattle.std.proofs.Common.{◌≡◌, ◌∙◌, ℕ, ◌<◌, true, false, List, Option, Some, None, MatchOption, refl, sym, ap, subst, inl, inr}
use Rattle.vx_config_parts.specs.Objects.{is_data_plex_of}
use Rattle.vx_objects.specs.Config.{objects_of}
use Rattle.vx_image.specs.Bytes.{image_of}
use Rattle.vx_image.specs.Image.{Image, is_marked_by_all, regions_of}
use Rattle.vx_image.specs.Soundness.{IsSoundImage}
use Rattle.vx_image.proofs.Members.{contains, into_filter, is_in}
use Rattle.vx_image.proofs.PlexMembers.{IsIn}
use Rattle.vx_state_edits.specs.Edits.{is_new}
use Rattle.vx_moments.specs.Group.{image_on, sectors_of}
use Rattle.vx_stages.specs.Recorded.{IsMarkedEverywhere}
use Rattle.vx_volume_laws.specs.Keeping.{data_plexes}
use Rattle.vx_group_edits.proofs.ByKind.{vol_recorded}
use Rattle.vx_group_edits.proofs.DcoEdits.{own_plex}
use Rattle.vx_group_edits.proofs.Joined.{plex_joins}
use Rattle.vx_group_edits.proofs.Records.{mirror_is_of}
use Rattle.vx_sound_volumes.proofs.Commits.{one_vol, vol_of}
use Rattle.vx_sound_volumes.proofs.Running.{found_there}
use Rattle.vx_sound_imports.specs.Left.{LiesWithin}
use Rattle.vx_sound_imports.proofs.Marked.{mirrored_within}
use Rattle.vx_sound_imports.proofs.Nexts.{KeepsOwn}
use Rattle.vx_base.specs.Named.{Word, put}
use Rattle.vx_config_parts.specs.declared.vol.Vol.{Vol}
use Rattle.vx_answers.specs.declared.answer.End.{End}
use Rattle.vx_answers.specs.declared.refusal.Refusal.TheVariants as refusal
use Rattle.vx_moments.specs.Moment.{Moment}
use Rattle.vx_moments.specs.World.{Group, Volume, World}
use Rattle.vx_stages.specs.Ends.{EndsIn}
use Rattle.vx_stages.specs.Mirrored.{IsMarkedFor, IsMirrorCopied, IsMirroredBy, MirrorStops, MirrorStopsIn, StopsUncommitted, volume_joined}
use Rattle.vx_sound.proofs.Commits.{added_ready}
use Rattle.vx_sound.proofs.Running.{joined_stands, mirror_after, mirror_recorded, rested_group}
use Rattle.vx_sound_volumes.specs.Volumes.{IsSoundBefore}
use Rattle.vx_sound_volumes.proofs.Mirrors.{own_records}
use Rattle.vx_sound_volumes.proofs.Parts.{Every, image_same, some_same}
use Rattle.vx_sound_volumes.proofs.Stages.{StateLaws}
use Rattle.vx_sound_imports.specs.Offered.{HaveSoundOffers}
use Rattle.vx_sound_imports.proofs.Places.{lent_on_plexes}
use Rattle.vx_sound_imports.proofs.Stages.{Settles, committed_known, imported_away, stopped_settles, whole_before}
use Rattle.vx_sound_imports.proofs.Starts.{rested_known, was_sound}
use Rattle.vx_sound_imports.proofs.Volumes.{IsKnown, goes_known, known_settles, lent_offers, still_settles}
use Rattle.vx_sound_imports.proofs.Writings.{HasWhole, added_safe}

module _ (laws : StateLaws) (place : ℕ) (name : Word) (disks : List Word) (old : Moment) (end : End) (new : Moment) (k : IsKnown old.world) (sound : IsSoundBefore place old.world) where
  module _ (g : Group) where
    -- its map is marked
    marked_known : (mid : Moment) → IsMarkedFor g name disks old mid → IsKnown mid.world
    marked_known mid mark = rested_known laws place name old k sound mid mark.rest

    -- its records are committed
    recorded_known : (m : Moment) (b : IsMirroredBy g name disks old m) → HaveSoundOffers b.recorded.world × HasWhole b.recorded.world
    recorded_known m b =
        let known = marked_known b.marked b.mark in
        let ready = added_ready b.mark.added b.marked.world b.writing known.standing b.change in
        committed_known b.writing b.marked known.standing ready (known.whole b.writing.group b.change.group) b.recorded b.committed known.offers (imported_away b.writing b.marked known.standing ready b.change.group)

    -- it joins
    joined_known : (m : Moment) → IsMirroredBy g name disks old m → IsKnown m.world
    joined_known m b =
        let j = b.joins in
        let recorded = recorded_known m b in
        let run = volume_joined j.later b.mark.plex.name j.volume in
        record {
          standing = joined_stands old end new k.standing name disks g m b;
          whole = whole_before b.recorded.world m.world (ap (λ (w : World). w.group) j.world) recorded.1;
          offers = subst HaveSoundOffers (sym j.world)
              (lent_offers b.recorded.world (put name (Some run) b.recorded.world.volumes)
              (lent_on_plexes b.recorded.world name (Some run) j.plexes (λ u at. ap (λ (x : Volume). x.lies) (some_same u j.volume (sym at ∙ j.was)) ∙ j.lies))
              (mirror_recorded old end new k.standing name disks g m b) recorded.0);
        }

    copied_known : (v : Vol) (plex : Word) (m : Moment) → IsMirroredBy g name disks old m → IsMirrorCopied v plex m end new → IsKnown new.world
    copied_known v plex m b c =
        goes_known c.group v.name c.later c.plexes m new c.here (λ u is. ap (λ (x : Volume). x.lies) (some_same u c.volume (sym is ∙ c.was)) ∙ c.lies) c.goes
        (mirror_after old end new k.standing name disks g m v plex b c) (joined_known m b)

    -- the volume is kept as it is recorded with the plex
    mirror_kept : old.world.group ≡ Some g → (c : StopsUncommitted g name disks old end new) → KeepsOwn c.stops.0 c.marked.world name
    mirror_kept here c devices same candidates holds y one at before is_sound =
        let mark = c.mark in
        let x = c.stops.0 in
        let bytes = sectors_of devices x.group.members in
        let now : c.marked.world.group ≡ Some mark.rest.group = rested_group name old k.standing c.marked mark.rest in
        let rests : mark.rest.group ≡ x.group = some_same mark.rest.group x.group (sym now ∙ c.stops.1.group) in
        let groups : g ≡ x.group = some_same g mark.rest.group (sym here ∙ mark.rest.here) ∙ rests in
        let found = found_there name g.config.volumes mark.volume mark.mirror.found in
        let mine = subst (λ (h : Group). IsIn h.config.volumes mark.volume) groups found.0 in
        let of = vol_of x.group.config mark.volume mine in
        let laid = mark.mirror.laid in
        let made = mirror_is_of (objects_of g.config) mark.volume laid.lowest mark.map laid.plan mark.added laid.records in
        let lowest = own_plex g.config mark.volume.name laid.lowest laid.lowest_is in
        let low_in : IsIn (data_plexes x.group.config mark.volume.name) laid.lowest =
        subst (λ (h : Group). IsIn (data_plexes h.config mark.volume.name) laid.lowest) groups
        (is_in (data_plexes g.config mark.volume.name) laid.lowest (into_filter (is_data_plex_of mark.volume.name) g.config.plexes laid.lowest (contains g.config.plexes laid.lowest lowest.0) lowest.1)) in
        let joins = plex_joins x.group.config x.config mark.volume.name mark.added made.2.of c.stops.1.edited in
        let is_now : y ≡ mark.volume = one_vol x.config y mark.volume (is_in x.config.volumes y one) (vol_recorded x.config mark.volume (joins.recorded mark.volume of)) (at ∙ sym found.1) in
        let started : is_new mark.volume.state ≡ false = subst (λ (z : Vol). is_new z.state ≡ false) is_now before in
        let image : image_on devices x.group mark.volume ≡ image_on c.marked.world.devices x.group mark.volume = image_same x.group c.marked.world.devices devices (λ m there n. same m.device n) mark.volume in
        let shown = subst (λ (h : Group). IsMarkedEverywhere h name mark.map c.marked.world) rests (c.shown (was_sound laws place name old k sound c.marked mark.rest)) mark.volume (contains x.group.config.volumes mark.volume mine) found.1 in
        let marked = subst (λ (i : Image). (r : ℕ) → r < regions_of i → is_marked_by_all i r mark.map ≡ true) (sym image) shown in
        subst (λ (z : Vol). LiesWithin (image_of x.config x.group.good bytes z) candidates) (sym is_now)
        (mirrored_within x.group.config x.config x.group.good bytes mark.volume of started mark.map mark.added made.0 made.2 c.stops.1.edited laid.lowest low_in marked candidates
        (holds mark.volume (contains x.group.config.volumes mark.volume mine) found.1 started)
        (subst (λ (z : Vol). IsSoundImage (image_of x.config x.group.good bytes z)) is_now is_sound))

    uncommitted_settles : old.world.group ≡ Some g → StopsUncommitted g name disks old end new → Settles Every end new.world
    uncommitted_settles here c =
        let known = marked_known c.marked c.mark in
        let rest = c.mark.rest in
        stopped_settles Every c.stops.0 c.marked known.standing
        (added_safe c.marked.world c.stops.0 known.standing rest.group (rested_group name old k.standing c.marked rest) known.whole name c.mark.added (own_records g name disks old c.marked c.mark) c.stops.1
        (c.sound (was_sound laws place name old k sound c.marked rest)) (mirror_kept here c))
        end new c.stops.2 c.stops.1.group known.whole known.offers

    in_group : old.world.group ≡ Some g → MirrorStopsIn g name disks old end new → Settles Every end new.world
    in_group here (inl (why, rests)) = still_settles end old.world new.world rests.stays.world k
    in_group here (inr (inl u)) = known_settles end new.world (rested_known laws place name old k sound new u.stops.rest)
    in_group here (inr (inr (inl c))) = uncommitted_settles here c
    in_group here (inr (inr (inr a))) = known_settles end new.world (copied_known a.mirrored.mark.volume a.mirrored.mark.plex.name a.joined a.mirrored a.copied)

  in_world : (o : Option Group) → old.world.group ≡ o → MatchOption o (EndsIn (refusal.NoGroup None) old end new) (λ g. MirrorStopsIn g name disks old end new) → Settles Every end new.world
  in_world None here ends = still_settles end old.world new.world ends.1.stays.world k
  in_world (Some g) here stops = in_group g here stops

  pub mirror_settles : MirrorStops name disks old end new → Settles Every end new.world
  mirror_settles stops = in_world old.world.group refl stops
