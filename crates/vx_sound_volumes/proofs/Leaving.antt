-- A plex of the imported group that leaves its volume. The volume has come to rest before, or its log was read; it goes on in the same life, or is
-- as sound by its bytes as it was.
use Rattle.std.proofs.Common.{◌≡◌, ◌≢◌, ◌∙◌, ℕ, Bool, true, false, List, [], ◌∷◌, Option, Some, None, MatchOption, refl, sym, ap, subst, inl, inr}
use Rattle.std.specs.Prelude.{Contains}
use Rattle.vx_base.specs.Named.{Word}
use Rattle.vx_base.proofs.NamedLemmas.{put_same}
use Rattle.vx_config_parts.specs.declared.plex.Plex.{Plex}
use Rattle.vx_config_parts.specs.declared.vol.Vol.{Vol}
use Rattle.vx_objects.specs.declared.config.Config.{Config}
use Rattle.vx_objects.specs.declared.edit.Edit.{Edit}
use Rattle.vx_objects.specs.Applied.{IsEdited}
use Rattle.vx_image.specs.Soundness.{IsSoundImage}
use Rattle.vx_image.proofs.Members.{is_in}
use Rattle.vx_image.proofs.PlexMembers.{IsIn}
use Rattle.vx_state_edits.specs.Edits.{is_new}
use Rattle.vx_answers.specs.declared.answer.End.{End}
use Rattle.vx_answers.specs.declared.refusal.Refusal.TheVariants as refusal
use Rattle.vx_moments.specs.Commit.{IsCommitted, Writing}
use Rattle.vx_moments.specs.Group.{image_on}
use Rattle.vx_moments.specs.Leaving.{grouped}
use Rattle.vx_moments.specs.Moment.{Moment}
use Rattle.vx_moments.specs.World.{Group, Volume, World}
use Rattle.vx_group_edits.specs.OfVolume.{AreEditsOf}
use Rattle.vx_group_edits.proofs.PlexEdits.{leaving_volumes, plex_no_vol}
use Rattle.vx_stages.specs.Ends.{EndsIn, IsChange}
use Rattle.vx_stages.specs.Leaving.{ByLog, ByRecord, FromLog, FromRest, MayLeave, Way, leaving_edits, way_of}
use Rattle.vx_stages.specs.Left.{GoesOnBy, GoesOnWithout, IsDissociated, IsReadied, LeavesVolume, Leaves, LeavingStops, LeavingStopsIn, LeavingStopsOf, LeavingWants, StaysKnown, StaysSound, StopsUnreadied, VolumeStops, besides, volume_left, way_in}
use Rattle.vx_stages.specs.Recorded.{IsSoundAs}
use Rattle.vx_stages.specs.Stopping.{rested_volume, runs_on_plexes}
use Rattle.vx_stages.specs.Tests.{is_data, volume_in}
use Rattle.vx_sound.proofs.Leaving.{leaves_own, loose_own}
use Rattle.vx_sound.proofs.Plexes.{plex_found}
use Rattle.vx_sound_volumes.proofs.Changes.{change_stops}
use Rattle.vx_sound_volumes.proofs.Commits.{one_vol, vol_of}
use Rattle.vx_sound_volumes.proofs.Logs.{others_kept, own_edits, recorded_sound}
use Rattle.vx_sound_volumes.proofs.Parts.{Besides, Every, Keeps, grouped_runs, not_none, put_run, some_same}
use Rattle.vx_sound_volumes.proofs.Plexes.{runs_too}
use Rattle.vx_sound_volumes.proofs.Running.{found_there, narrowed_kept, one_more, rested}

-- a volume that does not run once all is done before did not run
was_idle : (way : Way) (g : Group) (v : Vol) (old mid : Moment) → IsReadied way g v old mid → grouped (mid.world.volumes v.name) ≡ None → grouped (old.world.volumes v.name) ≡ None
was_idle ByRecord g v old mid same idle = ap (λ (m : Moment). grouped (m.world.volumes v.name)) (sym same) ∙ idle
was_idle FromLog g v old mid same idle = ap (λ (m : Moment). grouped (m.world.volumes v.name)) (sym same) ∙ idle
was_idle ByLog g v old mid asked idle = ap (λ (w : World). grouped (w.volumes v.name)) (sym asked.touched.world) ∙ idle
was_idle FromRest g v old mid rest idle =
    let later = rested_volume rest in
    not_none later (sym idle ∙ ap (λ (w : World). grouped (w.volumes v.name)) rest.goes.world ∙ ap grouped (put_same v.name (Some later) old.world.volumes) ∙ grouped_runs later rest.plexes rest.lies)

module _ (place : ℕ) (old : Moment) (k : Keeps place Every old.world) where
  -- ---- what is done before

  readied_kept : (way : Way) (g : Group) (v : Vol) (mid : Moment) → old.world.group ≡ Some g → IsIn g.config.volumes v → IsReadied way g v old mid → Keeps place Every mid.world
  readied_kept ByRecord g v mid here one same = subst (λ (m : Moment). Keeps place Every m.world) (sym same) k
  readied_kept FromLog g v mid here one same = subst (λ (m : Moment). Keeps place Every m.world) (sym same) k
  readied_kept FromRest g v mid here one rest = rested place v.name old k mid rest
  readied_kept ByLog g v mid here one asked = narrowed_kept place old k g v mid here one asked.touched asked.narrows

  pub readied_group : (way : Way) (g : Group) (v : Vol) (mid : Moment) → IsReadied way g v old mid → mid.world.group ≡ old.world.group
  readied_group ByRecord g v mid same = ap (λ (m : Moment). m.world.group) same
  readied_group FromLog g v mid same = ap (λ (m : Moment). m.world.group) same
  readied_group FromRest g v mid rest = ap (λ (w : World). w.group) rest.goes.world
  readied_group ByLog g v mid asked = ap (λ (w : World). w.group) asked.touched.world

  unreadied : (way : Way) (g : Group) (v : Vol) (end : End) (new : Moment) → old.world.group ≡ Some g → IsIn g.config.volumes v → StopsUnreadied way g v old end new → Keeps place Every new.world
  unreadied ByRecord g v end new here one stops = absurd stops
  unreadied FromLog g v end new here one stops = absurd stops
  unreadied FromRest g v end new here one stops = rested place v.name old k new stops.rest
  unreadied ByLog g v end new here one stops = narrowed_kept place old k g v new here one stops.0 stops.1

  module _ (g : Group) (here : old.world.group ≡ Some g) (remove : Bool) (name : Word) (p : Plex) (may : MayLeave (runs_on_plexes old.world) g remove name p) where
    abbrev pub edits : List Edit
    edits = leaving_edits remove p

    -- ---- a plex of a volume

    module _ (vol : Word) (v : Vol) (own : p.vol ≡ Some vol) (is : volume_in vol g.config.volumes ≡ Some v) where
      abbrev pub way : Way
      way = way_of (is_data p.kind) (runs_on_plexes old.world v.name) v

      pub there : IsIn g.config.volumes v
      there = (found_there vol g.config.volumes v is).0

      pub of : AreEditsOf g.config v.name edits
      of = leaves_own (runs_on_plexes old.world) g remove name p may vol v own is

      -- ---- what is to be recorded

      module _ (mid : Moment) (group : mid.world.group ≡ Some g) (x : Writing) (change : IsChange edits mid.world x) (stays : StaysSound old.world g v x.config mid.world) where
        pub same_group : g ≡ x.group
        same_group = some_same g x.group (sym group ∙ change.group)

        pub own_volumes : x.config.volumes ≡ g.config.volumes
        own_volumes = leaving_volumes g.config x.config v.name p remove of (subst (λ (h : Group). IsEdited edits h.config x.config) (sym same_group) change.edited)

        same_vol : (u : Vol) → Contains g.config.volumes u → u.name ≡ v.name → v ≡ u
        same_vol u one named = one_vol g.config v u there (is_in g.config.volumes u one) (sym named)

        was_sound : is_new v.state ≡ false → grouped (old.world.volumes v.name) ≡ None → IsSoundAs g g.config v.name old.world
        was_sound started idle u one named =
            k.stopped g here u one tt (subst (λ (w : Vol). is_new w.state ≡ false) (same_vol u one named) started) (subst (λ n. grouped (old.world.volumes n) ≡ None) (sym named) idle)

        -- a volume that was started before and does not run is sound as it is to be recorded
        pub idle_sound : grouped (old.world.volumes v.name) ≡ None → (u : Vol) → Contains x.config.volumes u → u.name ≡ v.name → is_new u.state ≡ false → IsSoundAs g x.config v.name mid.world
        idle_sound idle u one named started =
            let was = subst (λ vs. Contains vs u) own_volumes one in
            let before : is_new v.state ≡ false = subst (λ (w : Vol). is_new w.state ≡ false) (sym (same_vol u was named)) started in
            subst (λ (o : Option Volume). MatchOption o (is_new v.state ≡ false → IsSoundAs g g.config v.name old.world → IsSoundAs g x.config v.name mid.world) (λ run. run.sound ≡ true → StaysKnown g v.name x.config mid.world run)) idle stays before (was_sound before idle)

      -- ---- it is recorded

      module _ (new : Moment) (d : LeavesVolume remove g v p old new) where
        mid_group : d.mid.world.group ≡ Some g
        mid_group = readied_group way g v d.mid d.readied ∙ here

        others : Keeps place (Besides v.name) d.recorded.world
        others =
            others_kept place old k v.name edits d.writing d.mid d.change (own_edits place old k d.mid.world g mid_group v.name edits of d.writing d.change)
            (readied_kept way g v d.mid here there d.readied) d.recorded d.committed

        idle_kept : grouped (old.world.volumes v.name) ≡ None → Keeps place Every d.recorded.world
        idle_kept idle = one_more place d.recorded.world v.name own_sound others
          where
            own_sound : (h : Group) → d.recorded.world.group ≡ Some h → (u : Vol) → Contains h.config.volumes u → u.name ≡ v.name → is_new u.state ≡ false → grouped (d.recorded.world.volumes u.name) ≡ None → IsSoundImage (image_on d.recorded.world.devices h u)
            own_sound h at u one named started none =
                let config : h.config ≡ d.writing.config = ap (λ (y : Group). y.config) (some_same h _ (sym at ∙ d.committed.group)) in
                let as_written : Contains d.writing.config.volumes u = subst (λ (c : Config). Contains c.volumes u) config one in
                let sound = subst (λ (y : Group). IsSoundAs y d.writing.config v.name d.mid.world) (same_group d.mid mid_group d.writing d.change d.sound) (idle_sound d.mid mid_group d.writing d.change d.sound idle u as_written named started) in
                recorded_sound edits d.writing d.mid d.change d.recorded d.committed v.name sound h at u one named

        -- nothing is done to a volume as its record changes: it runs as it ran, or does not
        recorded_only : (o : Option Volume) → grouped (d.recorded.world.volumes v.name) ≡ o → new ≡ d.recorded → Keeps place Every new.world
        recorded_only None idle same =
            subst (λ (x : Moment). Keeps place Every x.world) (sym same) (idle_kept (was_idle way g v old d.mid d.readied (ap (λ (f : Word → Option Volume). grouped (f v.name)) (sym d.committed.committing.volumes) ∙ idle)))
        recorded_only (Some run) runs same = subst (λ (x : Moment). Keeps place Every x.world) (sym same) (runs_too place d.recorded.world v.name run runs others)

        taken_out : GoesOnWithout g v.name p d.recorded new → Keeps place Every new.world
        taken_out w =
            let was = others.running v.name w.volume (ap grouped w.was ∙ grouped_runs w.volume w.plexes w.lies) in
            subst (Keeps place Every) (sym w.world) (put_run place d.recorded.world v.name (volume_left g v.name p w.plexes w.volume) (besides p.name w.plexes) refl was.0 was.1 others)

        goes_on : (by : Way) → GoesOnBy by g v.name p d.recorded new → Keeps place Every new.world
        goes_on ByRecord same = recorded_only (grouped (d.recorded.world.volumes v.name)) refl same
        goes_on FromLog w = taken_out w
        goes_on FromRest w = taken_out w
        goes_on ByLog same = recorded_only (grouped (d.recorded.world.volumes v.name)) refl same

        left_kept : Keeps place Every new.world
        left_kept = goes_on way d.goes

      volume_ends : (end : End) (new : Moment) → VolumeStops remove g v p old end new → Keeps place Every new.world
      volume_ends end new (inl stops) = unreadied way g v end new here there stops
      volume_ends end new (inr (inl kept)) = readied_kept way g v new here there kept.readied
      volume_ends end new (inr (inr c)) = change_stops place Every edits c.stops.0 c.mid c.stops.1 (readied_kept way g v c.mid here there c.readied) end new c.stops.2

    -- ---- a plex of none

    -- its edits are of the volume of its name, and there is none
    loose_kept : p.vol ≡ None → (new : Moment) (x : Writing) → IsChange edits old.world x → IsCommitted x old new → Keeps place Every new.world
    loose_kept none new x is committed = one_more place new.world p.name no_volume others
      where
        of : AreEditsOf g.config p.name edits
        of = loose_own (runs_on_plexes old.world) g remove name p may none p.name

        others : Keeps place (Besides p.name) new.world
        others = others_kept place old k p.name edits x old is (own_edits place old k old.world g here p.name edits of x is) k new committed

        same_group : g ≡ x.group
        same_group = some_same g x.group (sym here ∙ is.group)

        no_volume : (h : Group) → new.world.group ≡ Some h → (u : Vol) → Contains h.config.volumes u → u.name ≡ p.name → is_new u.state ≡ false → grouped (new.world.volumes u.name) ≡ None → IsSoundImage (image_on new.world.devices h u)
        no_volume h at u one named started idle =
            let config : h.config ≡ x.config = ap (λ (y : Group). y.config) (some_same h _ (sym at ∙ committed.group)) in
            let same = leaving_volumes g.config x.config p.name p remove of (subst (λ (y : Group). IsEdited edits y.config x.config) (sym same_group) is.edited) in
            let was : IsIn g.config.volumes u = is_in g.config.volumes u (subst (λ vs. Contains vs u) (ap (λ (c : Config). c.volumes) config ∙ same) one) in
            absurd (plex_no_vol g.config p u (plex_found name g.config.plexes p may.found).0 (vol_of g.config u was) named)

    -- ---- any plex

    left : (o : Option Word) → p.vol ≡ o → (new : Moment) → Leaves remove g p o old new → Keeps place Every new.world
    left None none new d = loose_kept none new d.commits.0 d.commits.1 d.commits.2
    left (Some vol) own new (v, is, d) = left_kept vol v own is new d

    left_ends : (o : Option Word) → p.vol ≡ o → (end : End) (new : Moment) → LeavingStopsOf remove g p o old end new → Keeps place Every new.world
    left_ends None none end new stops = change_stops place Every edits stops.0 old stops.1 k end new stops.2
    left_ends (Some vol) own end new (v, is, stops) = volume_ends vol v own is end new stops

  pub leaving_done : (remove : Bool) (name : Word) (new : Moment) → IsDissociated remove name old new → Keeps place Every new.world
  leaving_done remove name new d = left d.group d.here remove name d.plex d.may d.plex.vol refl new d.leaves

  module _ (end : End) (new : Moment) where
    leaving_in : (remove : Bool) (name : Word) (g : Group) → old.world.group ≡ Some g → LeavingStopsIn g remove name old end new → Keeps place Every new.world
    leaving_in remove name g here (inl (why, rests)) = subst (Keeps place Every) (sym rests.stays.world) k
    leaving_in remove name g here (inr (p, may, stops)) = left_ends g here remove name p may p.vol refl end new stops

    leaving_by : (remove : Bool) (name : Word) (o : Option Group) → old.world.group ≡ o → MatchOption o (EndsIn (refusal.NoGroup None) old end new) (λ g. LeavingStopsIn g remove name old end new) → Keeps place Every new.world
    leaving_by remove name None here ends = subst (Keeps place Every) (sym ends.1.stays.world) k
    leaving_by remove name (Some g) here stops = leaving_in remove name g here stops

    pub leaving_ends : (remove : Bool) (name : Word) → LeavingStops remove name old end new → Keeps place Every new.world
    leaving_ends remove name stops = leaving_by remove name old.world.group refl stops

  pub leaving_wants : (remove : Bool) (name : Word) (new : Moment) → LeavingWants remove name old new → Keeps place Every new.world
  leaving_wants remove name new (inl same) = subst (Keeps place Every) (sym same) k
  leaving_wants remove name new (inr (from, readied)) = readied_kept (way_in from) from.group from.volume new from.here (found_there from.vol from.group.config.volumes from.volume from.there).0 readied
