-- A volume of the group that is started, stopped or gets a mirror leaves the world sound: its calls change its own sectors alone, which are public, and its
-- states are committed.
use Rattle.std.proofs.Common.{◌≡◌, ◌∙◌, ◌||◌, ℕ, Bool, true, false, cond, List, [], ◌∷◌, Option, Some, None, MatchBool, MatchOption, refl, sym, ap, subst, inl, inr}
use Rattle.std.specs.List.{list_any}
use Rattle.std.specs.Str.{bytes_eq}
use Rattle.vx_base.specs.Named.{Word}
use Rattle.vx_base.proofs.NamedLemmas.{bytes_eq_self, put_same}
use Rattle.vx_mask.proofs.Tests.{or_from_left, or_from_right}
use Rattle.vx_config_parts.specs.declared.state.VolState.{VolState}
use Rattle.vx_config_parts.specs.declared.state.VolState.TheVariants as vol
use Rattle.vx_config_parts.specs.declared.vol.Vol.{Vol}
use Rattle.vx_objects.specs.declared.edit.Edit.{Edit}
use Rattle.vx_objects.specs.Applied.{IsEdited}
use Rattle.vx_state_edits.specs.Edits.{start_edits, stop_edits}
use Rattle.vx_image.specs.Image.{Image}
use Rattle.vx_answers.specs.declared.answer.End.{End}
use Rattle.vx_answers.specs.declared.answer.End.TheVariants as ends
use Rattle.vx_answers.specs.declared.refusal.Refusal.TheVariants as refusal
use Rattle.vx_moments.specs.Commit.{Writing}
use Rattle.vx_moments.specs.Holding.{has_volume}
use Rattle.vx_moments.specs.Leaving.{lone}
use Rattle.vx_moments.specs.Moment.{Counts, Moment}
use Rattle.vx_moments.specs.World.{Group, OnPlexes, Volume, World}
use Rattle.vx_moments.specs.Group.{image_on}
use Rattle.vx_moments.specs.Lives.{volume_by}
use Rattle.vx_group_edits.proofs.Each.{is_new as mirror_is_new}
use Rattle.vx_stages.specs.Ends.{EndsIn, IsChange}
use Rattle.vx_stages.specs.Mirrored.{IsMirrorCopied, IsMirroredBy, MirrorCopiesTo, MirrorStops, MirrorStopsIn, volume_joined}
use Rattle.vx_stages.specs.Starting.{BecomesBy, CopiesTo, IsCopied, IsStartedBy, StartStops, StopsIn, StopsOf, may_start, plexes_started, volume_started}
use Rattle.vx_stages.specs.Stopping.{ComesToRest, IsStopDone, StopStops, rested_volume, without_volume}
use Rattle.vx_stages.specs.Tests.{volume_in}
use Rattle.vx_stages.specs.Touching.{IsTouched, VolumeGoes}
use Rattle.vx_sound.specs.Standing.{IsStanding}
use Rattle.vx_sound.proofs.Commits.{Ends, added_ready, commit_done, commit_stopped, group_apart, imported_led, parts_unnamed}
use Rattle.vx_sound.proofs.Headers.{some_same}
use Rattle.vx_sound.proofs.Names.{IsApart}
use Rattle.vx_sound.proofs.Private.{behind_private, front_itself, standing_behind}
use Rattle.vx_sound.proofs.Ready.{IsReady}
use Rattle.vx_sound.proofs.ReadyToWrite.{ready_alone}
use Rattle.vx_sound.proofs.States.{start_apart, start_grown, stop_apart, stop_grown}
use Rattle.vx_sound.proofs.Volumes.{lone_plexes, standing_goes}

-- ---- calls of its devices

pub standing_touched : (g : Group) (name : Word) (old new : Moment) → IsTouched g name old new → IsStanding old.world → IsStanding new.world
standing_touched g name old new t s =
    subst IsStanding (sym t.world) (standing_behind old.world (record old.world { devices = new.world.devices })
    (record { devices = λ other. behind_private g name other (old.world.devices other) (new.world.devices other) (t.changes other); lent = λ other lent. lent })
    (λ other lent. lent) refl s s.names s.volumes)

-- the started volume is another, on plexes
pub standing_run : (g : Group) (name : Word) (later : Volume) (plexes : List Word) (old new : Moment) → later.lies ≡ OnPlexes plexes → lone (old.world.volumes name) ≡ None → VolumeGoes g name later old new → IsStanding old.world → IsStanding new.world
standing_run g name later plexes old new lies was goes s =
    subst IsStanding (sym goes.world)
    (standing_goes name new.world.devices (Some later) old.world was (lone_plexes later plexes lies) (λ other. behind_private g name other (old.world.devices other) (new.world.devices other) (goes.changes other)) s)

-- ---- what is recorded

-- the group is imported, and these edits of it are written
module _ (w : World) (x : Writing) (s : IsStanding w) (g : Group) (here : w.group ≡ Some g) where
  module _ (v : Vol) (is : IsChange (start_edits g.config v) w x) where
    own : g ≡ x.group
    own = some_same g x.group (sym here ∙ is.group)

    start_edited : IsEdited (start_edits x.group.config v) x.group.config x.config
    start_edited = subst (λ (h : Group). IsEdited (start_edits h.config v) x.group.config x.config) own is.edited

    pub start_ready : IsReady x w
    start_ready = ready_alone x w (imported_led w x.group s is.group) (start_grown v x.group.config x.config start_edited) is.joiners is.carriers

    pub start_unnamed : IsApart x.config w
    start_unnamed = start_apart w v x.group.config x.config start_edited (group_apart w x.group s is.group)

  module _ (v : Vol) (marks : ℕ) (edits : List Edit) (are : edits ≡ stop_edits g.config v marks) (is : IsChange edits w x) where
    stop_own : g ≡ x.group
    stop_own = some_same g x.group (sym here ∙ is.group)

    stop_edited : IsEdited (stop_edits x.group.config v marks) x.group.config x.config
    stop_edited = subst (λ (h : Group). IsEdited (stop_edits h.config v marks) x.group.config x.config) stop_own (subst (λ (es : List Edit). IsEdited es x.group.config x.config) are is.edited)

    pub stop_ready : IsReady x w
    stop_ready = ready_alone x w (imported_led w x.group s is.group) (stop_grown v marks x.group.config x.config stop_edited) is.joiners is.carriers

    pub stop_unnamed : IsApart x.config w
    stop_unnamed = stop_apart w v marks x.group.config x.config stop_edited (group_apart w x.group s is.group)

-- ---- a start

lies_so : (state : VolState) (plexes : List Word) (image : Image) → (volume_by state plexes image).lies ≡ OnPlexes plexes
lies_so vol.Empty plexes image = refl
lies_so vol.Clean plexes image = refl
lies_so vol.Active plexes image = refl
lies_so vol.NeedSync plexes image = refl
lies_so vol.Sync plexes image = refl

pub started_lies : (g : Group) (v : Vol) (image : Image) (sound : Bool) → (volume_started g v image sound).lies ≡ OnPlexes (plexes_started g v)
started_lies g v image sound = lies_so v.state (plexes_started g v) image

-- copying leaves the volume where it lies
module _ (g now : Group) (v : Vol) (failed : Word → Bool) (old new : Counts) (run later : Volume) where
  copies : (end : End) → CopiesTo g now v failed old new end run later → later.lies ≡ run.lies
  copies (ends.Done copied parts blocks) (inl is) = ap (λ (x : Volume). x.lies) is
  copies (ends.Done copied parts blocks) (inr (log, is)) = ap (λ (x : Volume). x.lies) is
  copies (ends.Fault told device parts) is = ap (λ (x : Volume). x.lies) is
  copies (ends.Lost parts) is = ap (λ (x : Volume). x.lies) is
  copies (ends.Refused r) is = ap (λ (x : Volume). x.lies) is
  copies ends.ShelfFailed is = ap (λ (x : Volume). x.lies) is
  copies ends.GroupLost is = ap (λ (x : Volume). x.lies) is

  becomes : (sound : Bool) (end : End) → BecomesBy sound g now v failed old new end run later → later.lies ≡ run.lies
  becomes true end is = copies end is
  becomes false end is = ap (λ (x : Volume). x.lies) is

-- the volume that is found is recorded under its name
pub found_recorded : (name : Word) (vs : List Vol) (v : Vol) → volume_in name vs ≡ Some v → list_any (λ u. bytes_eq u.name v.name) vs ≡ true
found_recorded name [] v is = cc
found_recorded name (u ∷ us) v is = by (bytes_eq u.name name) (found_recorded name us v) is
  where
    by : (b : Bool) → (volume_in name us ≡ Some v → list_any (λ u. bytes_eq u.name v.name) us ≡ true) → cond b (Some u) (volume_in name us) ≡ Some v → (bytes_eq u.name v.name || list_any (λ u. bytes_eq u.name v.name) us) ≡ true
    by true more found = let same : u ≡ v = some_same u v found in or_from_left (bytes_eq u.name v.name) (list_any (λ u. bytes_eq u.name v.name) us) (ap (λ (x : Vol). bytes_eq x.name v.name) same ∙ bytes_eq_self v.name)
    by false more found = or_from_right (bytes_eq u.name v.name) (list_any (λ u. bytes_eq u.name v.name) us) (more found)

module _ (old : Moment) (end : End) (new : Moment) (s : IsStanding old.world) where
  pub still : new.world ≡ old.world → Ends end new.world
  still same = inl (subst IsStanding (sym same) s)

  module _ (g : Group) (here : old.world.group ≡ Some g) (v : Vol) (recorded : list_any (λ u. bytes_eq u.name v.name) g.config.volumes ≡ true) where
    -- no volume on a whole device has the name
    was : lone (old.world.volumes v.name) ≡ None
    was = s.names v.name (ap (λ (o : Option Group). has_volume o v.name) here ∙ recorded)

    pub opened_stands : (m : Moment) → IsTouched g v.name old m → IsStanding m.world
    opened_stands m t = standing_touched g v.name old m t s

    pub there_still : (m : Moment) → IsTouched g v.name old m → m.world.group ≡ Some g
    there_still m t = ap (λ (w : World). w.group) t.world ∙ here

    pub recorded_stands : (m : Moment) (b : IsStartedBy g v old m) → IsStanding b.recorded.world
    recorded_stands m b =
        let opened = opened_stands b.opened b.touched in
        let group = there_still b.opened b.touched in
        let ready = start_ready b.opened.world b.writing opened g group v b.change in
        commit_done b.writing b.opened b.recorded opened ready (start_unnamed b.opened.world b.writing opened g group v b.change) b.committed

    pub begun : (m : Moment) → IsStartedBy g v old m → IsStanding m.world
    begun m b =
        let recorded = recorded_stands m b in
        let run = volume_started g v (image_on old.world.devices g v) b.begins.sound in
        let none : lone (b.recorded.world.volumes v.name) ≡ None =
        ap lone (ap (λ (f : Word → Option Volume). f v.name) (b.committed.committing.volumes ∙ ap (λ (w : World). w.volumes) b.touched.world)) ∙ was in
        subst IsStanding (sym b.begins.world)
        (standing_goes v.name b.recorded.world.devices (Some run) b.recorded.world none (lone_plexes run (plexes_started g v) (started_lies g v (image_on old.world.devices g v) b.begins.sound)) (λ other. front_itself (b.recorded.world.devices other)) recorded)

    pub after : (m : Moment) → IsStartedBy g v old m → IsCopied g v m end new → IsStanding new.world
    after m b c =
        let run = volume_started g v (image_on old.world.devices g v) b.begins.sound in
        let same : run ≡ c.volume =
        some_same run c.volume (sym (put_same v.name (Some run) b.recorded.world.volumes) ∙ sym (ap (λ (w : World). w.volumes v.name) b.begins.world) ∙ c.was) in
        let lies : c.volume.lies ≡ OnPlexes (plexes_started g v) = ap (λ (x : Volume). x.lies) (sym same) ∙ started_lies g v (image_on old.world.devices g v) b.begins.sound in
        standing_run c.group v.name c.later (plexes_started g v) m new
        (becomes g c.group v c.failed m.counts new.counts c.volume c.later c.volume.sound end c.becomes ∙ lies)
        (ap lone c.was ∙ lone_plexes c.volume (plexes_started g v) lies) c.goes (begun m b)

    of_volume : StopsOf g v old end new → Ends end new.world
    of_volume (inl (why, rests)) = still rests.stays.world
    of_volume (inr (inl stops)) = inl (opened_stands new stops.touched)
    of_volume (inr (inr (inl c))) =
        let opened = opened_stands c.opened c.touched in
        commit_stopped c.stops.0 c.opened end new opened (start_ready c.opened.world c.stops.0 opened g (there_still c.opened c.touched) v c.stops.1) c.stops.2
    of_volume (inr (inr (inr a))) = inl (after a.begun a.started a.copied)

    of_state : (may : Bool) → MatchBool may (StopsOf g v old end new) (EndsIn (refusal.VolState v.state) old end new) → Ends end new.world
    of_state true stops = of_volume stops
    of_state false ends = still ends.1.stays.world

  in_group : (g : Group) (name : Word) (o : Option Vol) → old.world.group ≡ Some g → volume_in name g.config.volumes ≡ o → MatchOption o (EndsIn (refusal.NoObject name) old end new) (λ v. MatchBool (may_start v.state) (StopsOf g v old end new) (EndsIn (refusal.VolState v.state) old end new)) → Ends end new.world
  in_group g name None here is ends = still ends.1.stays.world
  in_group g name (Some v) here is stops = of_state g here v (found_recorded name g.config.volumes v is) (may_start v.state) stops

  in_world : (name : Word) (o : Option Group) → old.world.group ≡ o → MatchOption o (EndsIn (refusal.NoGroup None) old end new) (λ g. StopsIn g name old end new) → Ends end new.world
  in_world name None here ends = still ends.1.stays.world
  in_world name (Some g) here stops = in_group g name (volume_in name g.config.volumes) here refl stops

  pub start_ends : (name : Word) → StartStops name old end new → Ends end new.world
  start_ends name stops = in_world name old.world.group refl stops

-- ---- a stop

module _ (name : Word) (old : Moment) (s : IsStanding old.world) where
  rested_lies : (mid : Moment) (rest : ComesToRest name old mid) → (rested_volume rest).lies ≡ OnPlexes rest.plexes
  rested_lies mid rest = rest.lies

  pub rested : (mid : Moment) → ComesToRest name old mid → IsStanding mid.world
  rested mid rest = standing_run rest.group name (rested_volume rest) rest.plexes old mid (rested_lies mid rest) (ap lone rest.there ∙ lone_plexes rest.volume rest.plexes rest.lies) rest.goes s

  pub rested_group : (mid : Moment) (rest : ComesToRest name old mid) → mid.world.group ≡ Some rest.group
  rested_group mid rest = ap (λ (w : World). w.group) rest.goes.world ∙ rest.here

  pub gone : (mid : Moment) → ComesToRest name old mid → IsStanding (without_volume name mid).world
  gone mid rest =
      let run = rested_volume rest in
      let there : mid.world.volumes name ≡ Some run = ap (λ (w : World). w.volumes name) rest.goes.world ∙ put_same name (Some run) old.world.volumes in
      standing_goes name mid.world.devices None mid.world (ap lone there ∙ lone_plexes run rest.plexes (rested_lies mid rest)) refl (λ other. front_itself (mid.world.devices other)) (rested mid rest)

  pub stop_done : (new : Moment) → IsStopDone name old new → IsStanding new.world
  stop_done new d =
      let r = d.record_is in
      let stands = gone d.mid r.rest in
      let w = (without_volume name d.mid).world in
      let here = rested_group d.mid r.rest in
      commit_done d.writing (without_volume name d.mid) new stands (stop_ready w d.writing stands r.rest.group here r.of r.marks d.edits r.edits_are d.change) (stop_unnamed w d.writing stands r.rest.group here r.of r.marks d.edits r.edits_are d.change) d.committed

  pub stop_ends : (end : End) (new : Moment) → StopStops name old end new → Ends end new.world
  stop_ends end new (inl (why, rests)) = inl (subst IsStanding (sym rests.stays.world) s)
  stop_ends end new (inr (inl r)) = inl (rested new r.rest)
  stop_ends end new (inr (inr b)) =
      let r = b.record_is in
      let stands = rested b.mid r.rest in
      commit_stopped b.writing b.mid end new stands (stop_ready b.mid.world b.writing stands r.rest.group (rested_group b.mid r.rest) r.of r.marks b.edits r.edits_are b.change) b.stopped

-- ---- a mirror

-- copying leaves the volume where it lies
module _ (now : Group) (name plex : Word) (plexes : List Word) (failed : Word → Bool) (old new : Counts) (run later : Volume) where
  mirror_copies : (end : End) → MirrorCopiesTo now name plex plexes failed old new end run later → later.lies ≡ run.lies
  mirror_copies (ends.Done copied parts blocks) (inl is) = ap (λ (x : Volume). x.lies) is
  mirror_copies (ends.Done copied parts blocks) (inr (log, is)) = ap (λ (x : Volume). x.lies) is
  mirror_copies (ends.Fault told device parts) is = ap (λ (x : Volume). x.lies) is
  mirror_copies (ends.Lost parts) is = ap (λ (x : Volume). x.lies) is
  mirror_copies (ends.Refused r) is = ap (λ (x : Volume). x.lies) is
  mirror_copies ends.ShelfFailed is = ap (λ (x : Volume). x.lies) is
  mirror_copies ends.GroupLost is = ap (λ (x : Volume). x.lies) is

module _ (old : Moment) (end : End) (new : Moment) (s : IsStanding old.world) (name : Word) (disks : List Word) where
  module _ (g : Group) where
    -- its map is marked, and its records are committed
    pub mirror_recorded : (m : Moment) (b : IsMirroredBy g name disks old m) → IsStanding b.recorded.world
    mirror_recorded m b =
        let mark = b.mark in
        let stands = rested name old s b.marked mark.rest in
        let made = mirror_is_new g.config g.good mark.volume disks mark.map mark.added mark.mirror.laid in
        commit_done b.writing b.marked b.recorded stands (added_ready mark.added b.marked.world b.writing stands b.change)
        (parts_unnamed mark.volume.name mark.added b.marked.world b.writing stands made.1.of b.change) b.committed

    -- it joins
    pub joined_stands : (m : Moment) → IsMirroredBy g name disks old m → IsStanding m.world
    joined_stands m b =
        let j = b.joins in
        let recorded = mirror_recorded m b in
        let run = volume_joined j.later b.mark.plex.name j.volume in
        subst IsStanding (sym j.world)
        (standing_goes name b.recorded.world.devices (Some run) b.recorded.world (ap lone j.was ∙ lone_plexes j.volume j.plexes j.lies) (lone_plexes run j.later refl) (λ other. front_itself (b.recorded.world.devices other)) recorded)

    pub mirror_after : (m : Moment) (v : Vol) (plex : Word) → IsMirroredBy g name disks old m → IsMirrorCopied v plex m end new → IsStanding new.world
    mirror_after m v plex b c =
        standing_run c.group v.name c.later c.plexes m new
        (mirror_copies c.group v.name plex c.plexes c.failed m.counts new.counts c.volume c.later end c.becomes ∙ c.lies)
        (ap lone c.was ∙ lone_plexes c.volume c.plexes c.lies) c.goes (joined_stands m b)

    mirror_in_group : MirrorStopsIn g name disks old end new → Ends end new.world
    mirror_in_group (inl (why, rests)) = still old end new s rests.stays.world
    mirror_in_group (inr (inl u)) = inl (rested name old s new u.stops.rest)
    mirror_in_group (inr (inr (inl c))) =
        let stands = rested name old s c.marked c.mark.rest in
        commit_stopped c.stops.0 c.marked end new stands (added_ready c.mark.added c.marked.world c.stops.0 stands c.stops.1) c.stops.2
    mirror_in_group (inr (inr (inr a))) = inl (mirror_after a.joined a.mirrored.mark.volume a.mirrored.mark.plex.name a.mirrored a.copied)

  mirror_in_world : (o : Option Group) → MatchOption o (EndsIn (refusal.NoGroup None) old end new) (λ g. MirrorStopsIn g name disks old end new) → Ends end new.world
  mirror_in_world None ends = still old end new s ends.1.stays.world
  mirror_in_world (Some g) stops = mirror_in_group g stops

  pub mirror_ends : MirrorStops name disks old end new → Ends end new.world
  mirror_ends stops = mirror_in_world old.world.group stops
