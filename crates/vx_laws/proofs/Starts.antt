-- A start begins a life over what the volume's bytes are read as, and neither copying, a plex that joins or leaves or goes out of use or into
-- use, another log nor coming to rest is anything to its history.
use Rattle.std.proofs.Common.{◌≡◌, ◌∙◌, Bool, true, false, cond, List, [], ◌∷◌, ◌++◌, Option, Some, None, MatchBool, MatchOption, refl, sym, ap, subst, inl, inr}
use Rattle.std.specs.Str.{bytes_eq}
use Rattle.vx_base.specs.Named.{Word, put}
use Rattle.vx_base.proofs.NamedLemmas.{bytes_eq_same}
use Rattle.vx_life.specs.Life.{begun_from}
use Rattle.vx_config_parts.specs.declared.plex.Plex.{Plex}
use Rattle.vx_config_parts.specs.declared.state.VolState.{VolState}
use Rattle.vx_config_parts.specs.declared.state.VolState.TheVariants as vol
use Rattle.vx_config_parts.specs.declared.vol.Vol.{Vol}
use Rattle.vx_objects.specs.declared.config.Config.{Config}
use Rattle.vx_state_edits.specs.Edits.{is_new}
use Rattle.vx_new_volumes.specs.declared.logs.NewLogs.{NewLogs}
use Rattle.vx_image.specs.Image.{Image}
use Rattle.vx_image.specs.Meaning.{candidates_read}
use Rattle.vx_answers.specs.declared.answer.End.{End}
use Rattle.vx_answers.specs.declared.answer.End.TheVariants as ends
use Rattle.vx_answers.specs.declared.refusal.Refusal.TheVariants as refusal
use Rattle.vx_moments.specs.Moment.{AreLater, Counts, Moment}
use Rattle.vx_moments.specs.World.{Group, OnPlexes, Volume, World}
use Rattle.vx_moments.specs.Group.{image_on}
use Rattle.vx_moments.specs.Lives.{volume_by, volume_copied}
use Rattle.vx_moments.specs.Owners.{owners_of}
use Rattle.vx_moments.specs.Tracks.{volume_failed}
use Rattle.vx_stages.specs.Attached.{AttachCopiesTo, AttachStops, AttachStopsIn, IsAttachCopied, IsAttachedBy, volume_unsure}
use Rattle.vx_stages.specs.Detached.{DetachStops, DetachStopsIn, IsDetached, IsRestedFor}
use Rattle.vx_stages.specs.Ends.{EndsIn}
use Rattle.vx_stages.specs.Leaving.{ByLog, ByRecord, FromLog, FromRest, Way, way_of}
use Rattle.vx_stages.specs.Left.{GoesOnBy, GoesOnWithout, IsDissociated, IsReadied, Leaves, LeavingStops, LeavingStopsIn, LeavingStopsOf, StopsUnreadied, volume_left}
use Rattle.vx_stages.specs.Logged.{IsLogWritten, IsPrepared, IsRelogged, IsUnprepared, log_names, volume_relogged}
use Rattle.vx_stages.specs.Mirrored.{IsMirrorCopied, IsMirroredBy, MirrorCopiesTo, MirrorStops, MirrorStopsIn, volume_joined}
use Rattle.vx_stages.specs.Starting.{BecomesBy, CopiesTo, IsCopied, IsStartedBy, StartStops, StopsIn, StopsOf, is_copied, may_start, plexes_started, volume_started}
use Rattle.vx_stages.specs.Stopping.{ComesToRest, IsStopDone, StopStops, rested_volume, runs_on_plexes, without_volume}
use Rattle.vx_stages.specs.Tests.{is_data, volume_in}
use Rattle.vx_laws.specs.Histories.{HasHistory, HaveHistories, IsHistoried, IsHistoriedOn}
use Rattle.vx_laws.proofs.Lives.{Holding, Reading, begun_history, carried, put_history, same_volumes, taken_history}
use Rattle.vx_laws.proofs.Runs.{volumes_of}

-- ---- the volume as it begins

lies_so : (state : VolState) (plexes : List Word) (image : Image) → (volume_by state plexes image).lies ≡ OnPlexes plexes
lies_so vol.Empty plexes image = refl
lies_so vol.Clean plexes image = refl
lies_so vol.Active plexes image = refl
lies_so vol.NeedSync plexes image = refl
lies_so vol.Sync plexes image = refl

long_so : (state : VolState) (plexes : List Word) (image : Image) → (volume_by state plexes image).length ≡ image.length
long_so vol.Empty plexes image = refl
long_so vol.Clean plexes image = refl
long_so vol.Active plexes image = refl
long_so vol.NeedSync plexes image = refl
long_so vol.Sync plexes image = refl

lives_so : (state : VolState) (plexes : List Word) (image : Image) → (volume_by state plexes image).life ≡ begun_from (candidates_read image)
lives_so vol.Empty plexes image = refl
lives_so vol.Clean plexes image = refl
lives_so vol.Active plexes image = refl
lives_so vol.NeedSync plexes image = refl
lives_so vol.Sync plexes image = refl

-- the volume that is found under a name has it
pub found_named : (name : Word) (vs : List Vol) (v : Vol) → volume_in name vs ≡ Some v → v.name ≡ name
found_named name [] v is = cc
found_named name (u ∷ us) v is = by (bytes_eq u.name name) refl (found_named name us v) is
  where
    by : (b : Bool) → bytes_eq u.name name ≡ b → (volume_in name us ≡ Some v → v.name ≡ name) → cond b (Some u) (volume_in name us) ≡ Some v → v.name ≡ name
    by true e further found = let same : u ≡ v = cc in subst (λ (x : Vol). x.name ≡ name) same (bytes_eq_same u.name name e)
    by false e further found = further found

-- what the bytes of the volume of this name are read as, where it may be started
abbrev pub IsRead : Reading → Word → World → Type 0
IsRead Read name w = (g : Group) → w.group ≡ Some g → (v : Vol) → volume_in name g.config.volumes ≡ Some v → may_start v.state ≡ true → Read name v.len (candidates_read (image_on w.devices g v))

-- so it is of each volume
abbrev pub AreRead : Reading → World → Type 0
AreRead Read w = (name : Word) → IsRead Read name w

module _ (Held : Holding) (Read : Reading) where
  pub started_history : (g : Group) (v : Vol) (image : Image) (sound : Bool) → Read v.name image.length (candidates_read image) → IsHistoried Held Read v.name (volume_started g v image sound)
  started_history g v image sound was =
      subst (λ l. IsHistoriedOn Held Read v.name l (volume_started g v image sound)) (sym (lies_so v.state (plexes_started g v) image))
      (λ is. (candidates_read image, subst (λ n. Read v.name n (candidates_read image)) (sym (long_so v.state (plexes_started g v) image)) was, subst (HasHistory (candidates_read image)) (sym (lives_so v.state (plexes_started g v) image)) (begun_history (candidates_read image))))

  -- devices that fail are nothing to it
  failed_history : (name : Word) (g : Group) (vol : Word) (plexes : List Word) (failed : Word → Bool) (v : Volume) → IsHistoried Held Read name v → IsHistoried Held Read name (volume_failed (owners_of g vol plexes) failed v)
  failed_history name g vol plexes failed v own = carried Held Read name v (volume_failed (owners_of g vol plexes) failed v) refl refl refl (λ is. is) own

  copied_history : (name : Word) (copied : Word → Bool) (v : Volume) → IsHistoried Held Read name v → IsHistoried Held Read name (volume_copied copied v)
  copied_history name copied v own = carried Held Read name v (volume_copied copied v) refl refl refl (λ is. is) own

  module _ (name : Word) (g now : Group) (v : Vol) (failed : Word → Bool) (old new : Counts) (run later : Volume) (own : IsHistoried Held Read name run) where
    abbrev fails : Volume
    fails = volume_failed (owners_of now v.name (plexes_started g v)) failed run

    as_failed : later ≡ fails → IsHistoried Held Read name later
    as_failed is = subst (IsHistoried Held Read name) (sym is) (failed_history name now v.name (plexes_started g v) failed run own)

    copies : (end : End) → CopiesTo g now v failed old new end run later → IsHistoried Held Read name later
    copies (ends.Done copied parts blocks) (inl is) = subst (IsHistoried Held Read name) (sym is) (copied_history name (is_copied g v) fails (failed_history name now v.name (plexes_started g v) failed run own))
    copies (ends.Done copied parts blocks) (inr (log, is)) = as_failed is
    copies (ends.Fault told device parts) is = as_failed is
    copies (ends.Lost parts) is = as_failed is
    copies (ends.Refused r) is = as_failed is
    copies ends.ShelfFailed is = as_failed is
    copies ends.GroupLost is = as_failed is

    becomes : (sound : Bool) (end : End) → BecomesBy sound g now v failed old new end run later → IsHistoried Held Read name later
    becomes true end is = copies end is
    becomes false end is = subst (IsHistoried Held Read name) (sym is) own

  -- ---- a start

  module _ (old new : Moment) (end : End) (all : HaveHistories Held Read old.world) where
    still : new.world.volumes ≡ old.world.volumes → HaveHistories Held Read new.world
    still e = same_volumes Held Read old.world new.world e all

    module _ (g : Group) (here : old.world.group ≡ Some g) (v : Vol) (named : volume_in v.name g.config.volumes ≡ Some v) (may : may_start v.state ≡ true) (read : IsRead Read v.name old.world) where
      begun : (m : Moment) → IsStartedBy g v old m → HaveHistories Held Read m.world
      begun m s =
          let image = image_on old.world.devices g v in
          let recorded : HaveHistories Held Read s.recorded.world = same_volumes Held Read old.world s.recorded.world (s.committed.committing.volumes ∙ ap (λ (w : World). w.volumes) s.touched.world) all in
          same_volumes Held Read (record s.recorded.world { volumes = put v.name (Some (volume_started g v image s.begins.sound)) s.recorded.world.volumes }) m.world (ap (λ (w : World). w.volumes) s.begins.world)
          (put_history Held Read s.recorded.world v.name (volume_started g v image s.begins.sound) (started_history g v image s.begins.sound (read g here v named may)) recorded)

      copied : (m : Moment) → HaveHistories Held Read m.world → IsCopied g v m end new → HaveHistories Held Read new.world
      copied m have c =
          same_volumes Held Read (record m.world { volumes = put v.name (Some c.later) m.world.volumes }) new.world (ap (λ (w : World). w.volumes) c.goes.world)
          (put_history Held Read m.world v.name c.later (becomes v.name g c.group v c.failed m.counts new.counts c.volume c.later (have v.name c.volume c.was) c.volume.sound end c.becomes) have)

      of_volume : StopsOf g v old end new → HaveHistories Held Read new.world
      of_volume (inl (why, rests)) = still (volumes_of old.world new.world rests.stays.world)
      of_volume (inr (inl stops)) = still (ap (λ (w : World). w.volumes) stops.touched.world)
      of_volume (inr (inr (inl c))) = still (c.stops.2.committing.volumes ∙ ap (λ (w : World). w.volumes) c.touched.world)
      of_volume (inr (inr (inr a))) = copied a.begun (begun a.begun a.started) a.copied

    of_state : (g : Group) (v : Vol) → IsRead Read v.name old.world → (may : Bool) → may_start v.state ≡ may → old.world.group ≡ Some g → volume_in v.name g.config.volumes ≡ Some v → MatchBool may (StopsOf g v old end new) (EndsIn (refusal.VolState v.state) old end new) → HaveHistories Held Read new.world
    of_state g v read true may here is stops = of_volume g here v is may read stops
    of_state g v read false may here is ends = still (volumes_of old.world new.world ends.1.stays.world)

    in_group : (g : Group) (name : Word) → IsRead Read name old.world → (o : Option Vol) → old.world.group ≡ Some g → volume_in name g.config.volumes ≡ o → MatchOption o (EndsIn (refusal.NoObject name) old end new) (λ v. MatchBool (may_start v.state) (StopsOf g v old end new) (EndsIn (refusal.VolState v.state) old end new)) → HaveHistories Held Read new.world
    in_group g name read None here is ends = still (volumes_of old.world new.world ends.1.stays.world)
    in_group g name read (Some v) here is stops =
        let same : name ≡ v.name = sym (found_named name g.config.volumes v is) in
        of_state g v (subst (λ n. IsRead Read n old.world) same read) (may_start v.state) refl here (subst (λ (n : Word). volume_in n g.config.volumes ≡ Some v) same is) stops

    in_world : (name : Word) → IsRead Read name old.world → (o : Option Group) → old.world.group ≡ o → MatchOption o (EndsIn (refusal.NoGroup None) old end new) (λ g. StopsIn g name old end new) → HaveHistories Held Read new.world
    in_world name read None here ends = still (volumes_of old.world new.world ends.1.stays.world)
    in_world name read (Some g) here stops = in_group g name read (volume_in name g.config.volumes) here refl stops

    pub start_kept : (name : Word) → IsRead Read name old.world → StartStops name old end new → HaveHistories Held Read new.world
    start_kept name read stops = in_world name read old.world.group refl stops

  -- ---- a stop

  module _ (name : Word) (old : Moment) (all : HaveHistories Held Read old.world) where
    rested : (mid : Moment) → ComesToRest name old mid → HaveHistories Held Read mid.world
    rested mid rest =
        same_volumes Held Read (record old.world { volumes = put name (Some (rested_volume rest)) old.world.volumes }) mid.world (ap (λ (w : World). w.volumes) rest.goes.world)
        (put_history Held Read old.world name (rested_volume rest) (failed_history name rest.group name rest.plexes rest.failed rest.volume (all name rest.volume rest.there)) all)

    pub stop_done : (new : Moment) → IsStopDone name old new → HaveHistories Held Read new.world
    stop_done new d =
        same_volumes Held Read (without_volume name d.mid).world new.world d.committed.committing.volumes
        (taken_history Held Read d.mid.world name (rested d.mid d.record_is.rest))

    pub stop_kept : (end : End) (new : Moment) → StopStops name old end new → HaveHistories Held Read new.world
    stop_kept end new (inl (why, rests)) = same_volumes Held Read old.world new.world (volumes_of old.world new.world rests.stays.world) all
    stop_kept end new (inr (inl r)) = rested new r.rest
    stop_kept end new (inr (inr b)) = same_volumes Held Read b.mid.world new.world b.stopped.committing.volumes (rested b.mid b.record_is.rest)

  -- ---- a mirror

  module _ (name plex : Word) (now : Group) (at : Word) (plexes : List Word) (failed : Word → Bool) (old new : Counts) (run later : Volume) (own : IsHistoried Held Read name run) where
    abbrev failing : Volume
    failing = volume_failed (owners_of now at plexes) failed run

    as_failing : later ≡ failing → IsHistoried Held Read name later
    as_failing is = subst (IsHistoried Held Read name) (sym is) (failed_history name now at plexes failed run own)

    mirror_copies : (end : End) → MirrorCopiesTo now at plex plexes failed old new end run later → IsHistoried Held Read name later
    mirror_copies (ends.Done count parts blocks) (inl is) = subst (IsHistoried Held Read name) (sym is) (copied_history name (bytes_eq plex) failing (failed_history name now at plexes failed run own))
    mirror_copies (ends.Done count parts blocks) (inr (log, is)) = as_failing is
    mirror_copies (ends.Fault told device parts) is = as_failing is
    mirror_copies (ends.Lost parts) is = as_failing is
    mirror_copies (ends.Refused r) is = as_failing is
    mirror_copies ends.ShelfFailed is = as_failing is
    mirror_copies ends.GroupLost is = as_failing is

  -- a plex that joins is nothing to the history of the volume
  joined_history : (name plex : Word) (plexes more : List Word) (v : Volume) → v.lies ≡ OnPlexes plexes → IsHistoried Held Read name v → IsHistoried Held Read name (volume_joined more plex v)
  joined_history name plex plexes more v on own = subst (λ l. IsHistoriedOn Held Read name l v) on own

  module _ (name : Word) (disks : List Word) (old : Moment) (all : HaveHistories Held Read old.world) where
    joined : (g : Group) (m : Moment) → IsMirroredBy g name disks old m → HaveHistories Held Read m.world
    joined g m b =
        let j = b.joins in
        let recorded : HaveHistories Held Read b.recorded.world = same_volumes Held Read b.marked.world b.recorded.world b.committed.committing.volumes (rested name old all b.marked b.mark.rest) in
        let run = volume_joined j.later b.mark.plex.name j.volume in
        same_volumes Held Read (record b.recorded.world { volumes = put name (Some run) b.recorded.world.volumes }) m.world (ap (λ (w : World). w.volumes) j.world)
        (put_history Held Read b.recorded.world name run (joined_history name b.mark.plex.name j.plexes j.later j.volume j.lies (recorded name j.volume j.was)) recorded)

    copied_to : (v : Vol) (plex : Word) (m : Moment) (end : End) (new : Moment) → HaveHistories Held Read m.world → IsMirrorCopied v plex m end new → HaveHistories Held Read new.world
    copied_to v plex m end new have c =
        same_volumes Held Read (record m.world { volumes = put v.name (Some c.later) m.world.volumes }) new.world (ap (λ (w : World). w.volumes) c.goes.world)
        (put_history Held Read m.world v.name c.later
        (mirror_copies v.name plex c.group v.name c.plexes c.failed m.counts new.counts c.volume c.later (have v.name c.volume c.was) end c.becomes) have)

    mirrored : (g : Group) (end : End) (new : Moment) → MirrorStopsIn g name disks old end new → HaveHistories Held Read new.world
    mirrored g end new (inl (why, rests)) = same_volumes Held Read old.world new.world (volumes_of old.world new.world rests.stays.world) all
    mirrored g end new (inr (inl u)) = rested name old all new u.stops.rest
    mirrored g end new (inr (inr (inl c))) = same_volumes Held Read c.marked.world new.world c.stops.2.committing.volumes (rested name old all c.marked c.mark.rest)
    mirrored g end new (inr (inr (inr a))) = copied_to a.mirrored.mark.volume a.mirrored.mark.plex.name a.joined end new (joined g a.joined a.mirrored) a.copied

    mirror_by : (o : Option Group) (end : End) (new : Moment) → MatchOption o (EndsIn (refusal.NoGroup None) old end new) (λ g. MirrorStopsIn g name disks old end new) → HaveHistories Held Read new.world
    mirror_by None end new ends = same_volumes Held Read old.world new.world (volumes_of old.world new.world ends.1.stays.world) all
    mirror_by (Some g) end new stops = mirrored g end new stops

    pub mirror_kept : (end : End) (new : Moment) → MirrorStops name disks old end new → HaveHistories Held Read new.world
    mirror_kept end new stops = mirror_by old.world.group end new stops

  -- ---- a plex that goes out of use

  module _ (old : Moment) (all : HaveHistories Held Read old.world) where
    rested_for : (plex : Word) (mid : Moment) → IsRestedFor plex old mid → HaveHistories Held Read mid.world
    rested_for plex mid r = rested r.volume.name old all mid r.rest

    pub detach_done : (plex : Word) (new : Moment) → IsDetached plex old new → HaveHistories Held Read new.world
    detach_done plex new d = same_volumes Held Read d.mid.world new.world d.committed.committing.volumes (rested_for plex d.mid d.rested)

    detached : (g : Group) (plex : Word) (end : End) (new : Moment) → DetachStopsIn g plex old end new → HaveHistories Held Read new.world
    detached g plex end new (inl (why, rests)) = same_volumes Held Read old.world new.world (volumes_of old.world new.world rests.stays.world) all
    detached g plex end new (inr (inl u)) = rested u.volume.name old all new u.stops.rest
    detached g plex end new (inr (inr (inl n))) = rested_for plex new n.rested
    detached g plex end new (inr (inr (inr c))) = same_volumes Held Read c.mid.world new.world c.stops.2.committing.volumes (rested_for plex c.mid c.rested)

    detach_by : (plex : Word) (o : Option Group) (end : End) (new : Moment) → MatchOption o (EndsIn (refusal.NoGroup None) old end new) (λ g. DetachStopsIn g plex old end new) → HaveHistories Held Read new.world
    detach_by plex None end new ends = same_volumes Held Read old.world new.world (volumes_of old.world new.world ends.1.stays.world) all
    detach_by plex (Some g) end new stops = detached g plex end new stops

    pub detach_kept : (plex : Word) (end : End) (new : Moment) → DetachStops plex old end new → HaveHistories Held Read new.world
    detach_kept plex end new stops = detach_by plex old.world.group end new stops

  -- ---- a plex that goes into use

  module _ (name plex : Word) (now : Group) (v : Vol) (plexes : List Word) (failed : Word → Bool) (old new : Counts) (run later : Volume) (own : IsHistoried Held Read name run) where
    abbrev failing_now : Volume
    failing_now = volume_failed (owners_of now v.name plexes) failed run

    as_failing_now : later ≡ failing_now → IsHistoried Held Read name later
    as_failing_now is = subst (IsHistoried Held Read name) (sym is) (failed_history name now v.name plexes failed run own)

    attach_copies : (end : End) → AttachCopiesTo now v plex plexes failed old new end run later → IsHistoried Held Read name later
    attach_copies (ends.Done count parts blocks) (inl is) = subst (IsHistoried Held Read name) (sym is) (copied_history name (bytes_eq plex) failing_now (failed_history name now v.name plexes failed run own))
    attach_copies (ends.Done count parts blocks) (inr (log, is)) = as_failing_now is
    attach_copies (ends.Fault told device parts) is = as_failing_now is
    attach_copies (ends.Lost parts) is = as_failing_now is
    attach_copies (ends.Refused r) is = as_failing_now is
    attach_copies ends.ShelfFailed is = as_failing_now is
    attach_copies ends.GroupLost is = as_failing_now is

  -- that nothing is sure of a plex is nothing to the history of its volume
  unsure_history : (name plex : Word) (v : Volume) → IsHistoried Held Read name v → IsHistoried Held Read name (volume_unsure plex v)
  unsure_history name plex v own = carried Held Read name v (volume_unsure plex v) refl refl refl (λ is. is) own

  module _ (vol plex : Word) (old : Moment) (all : HaveHistories Held Read old.world) where
    attached : (g : Group) (m : Moment) → IsAttachedBy g vol plex old m → HaveHistories Held Read m.world
    attached g m b =
        let recorded : HaveHistories Held Read b.recorded.world = same_volumes Held Read old.world b.recorded.world b.committed.committing.volumes all in
        let run = volume_unsure plex b.goes.volume in
        same_volumes Held Read (record b.recorded.world { volumes = put vol (Some run) b.recorded.world.volumes }) m.world (ap (λ (w : World). w.volumes) b.goes.world)
        (put_history Held Read b.recorded.world vol run (unsure_history vol plex b.goes.volume (recorded vol b.goes.volume b.goes.was)) recorded)

    attach_copied : (v : Vol) (before : Volume) (m : Moment) (end : End) (new : Moment) → HaveHistories Held Read m.world → IsAttachCopied v plex before m end new → HaveHistories Held Read new.world
    attach_copied v before m end new have c =
        same_volumes Held Read (record m.world { volumes = put v.name (Some c.later) m.world.volumes }) new.world (ap (λ (w : World). w.volumes) c.goes.world)
        (put_history Held Read m.world v.name c.later
        (attach_copies v.name plex c.group v c.plexes c.failed m.counts new.counts c.volume c.later (have v.name c.volume c.was) end c.becomes) have)

    attach_in : (g : Group) (end : End) (new : Moment) → AttachStopsIn g vol plex old end new → HaveHistories Held Read new.world
    attach_in g end new (inl (why, rests)) = same_volumes Held Read old.world new.world (volumes_of old.world new.world rests.stays.world) all
    attach_in g end new (inr (inl c)) = same_volumes Held Read old.world new.world c.stops.2.committing.volumes all
    attach_in g end new (inr (inr a)) = attach_copied a.is.volume a.is.goes.volume a.attached end new (attached g a.attached a.is) a.copied

    attach_by : (o : Option Group) (end : End) (new : Moment) → MatchOption o (EndsIn (refusal.NoGroup None) old end new) (λ g. AttachStopsIn g vol plex old end new) → HaveHistories Held Read new.world
    attach_by None end new ends = same_volumes Held Read old.world new.world (volumes_of old.world new.world ends.1.stays.world) all
    attach_by (Some g) end new stops = attach_in g end new stops

    pub attach_kept : (end : End) (new : Moment) → AttachStops vol plex old end new → HaveHistories Held Read new.world
    attach_kept end new stops = attach_by old.world.group end new stops

  -- ---- a plex that leaves

  -- that it lies on fewer plexes is nothing to the history of a volume
  left_history : (name vol : Word) (g : Group) (p : Plex) (plexes : List Word) (v : Volume) → v.lies ≡ OnPlexes plexes → IsHistoried Held Read name v → IsHistoried Held Read name (volume_left g vol p plexes v)
  left_history name vol g p plexes v on own = subst (λ l. IsHistoriedOn Held Read name l v) on own

  goes_without : (g : Group) (vol : Word) (p : Plex) (m n : Moment) → HaveHistories Held Read m.world → GoesOnWithout g vol p m n → HaveHistories Held Read n.world
  goes_without g vol p m n have w =
      let run = volume_left g vol p w.plexes w.volume in
      same_volumes Held Read (record m.world { volumes = put vol (Some run) m.world.volumes }) n.world (ap (λ (x : World). x.volumes) w.world)
      (put_history Held Read m.world vol run (left_history vol vol g p w.plexes w.volume w.lies (have vol w.volume w.was)) have)

  goes_by : (way : Way) (g : Group) (vol : Word) (p : Plex) (m n : Moment) → HaveHistories Held Read m.world → GoesOnBy way g vol p m n → HaveHistories Held Read n.world
  goes_by ByRecord g vol p m n have same = subst (λ (x : Moment). HaveHistories Held Read x.world) (sym same) have
  goes_by FromLog g vol p m n have w = goes_without g vol p m n have w
  goes_by FromRest g vol p m n have w = goes_without g vol p m n have w
  goes_by ByLog g vol p m n have same = subst (λ (x : Moment). HaveHistories Held Read x.world) (sym same) have

  module _ (old : Moment) (all : HaveHistories Held Read old.world) where
    readied : (way : Way) (g : Group) (v : Vol) (mid : Moment) → IsReadied way g v old mid → HaveHistories Held Read mid.world
    readied ByRecord g v mid same = subst (λ (x : Moment). HaveHistories Held Read x.world) (sym same) all
    readied FromLog g v mid same = subst (λ (x : Moment). HaveHistories Held Read x.world) (sym same) all
    readied FromRest g v mid rest = rested v.name old all mid rest
    readied ByLog g v mid asked = same_volumes Held Read old.world mid.world (ap (λ (w : World). w.volumes) asked.touched.world) all

    unreadied : (way : Way) (g : Group) (v : Vol) (end : End) (new : Moment) → StopsUnreadied way g v old end new → HaveHistories Held Read new.world
    unreadied ByRecord g v end new stops = absurd stops
    unreadied FromLog g v end new stops = absurd stops
    unreadied FromRest g v end new stops = rested v.name old all new stops.rest
    unreadied ByLog g v end new stops = same_volumes Held Read old.world new.world (ap (λ (w : World). w.volumes) stops.0.world) all

    left : (remove : Bool) (g : Group) (p : Plex) (o : Option Word) (new : Moment) → Leaves remove g p o old new → HaveHistories Held Read new.world
    left remove g p None new d = same_volumes Held Read old.world new.world d.commits.2.committing.volumes all
    left remove g p (Some vol) new (v, is, d) =
        let way = way_of (is_data p.kind) (runs_on_plexes old.world v.name) v in
        goes_by way g v.name p d.recorded new (same_volumes Held Read d.mid.world d.recorded.world d.committed.committing.volumes (readied way g v d.mid d.readied)) d.goes

    pub leaving_done : (remove : Bool) (name : Word) (new : Moment) → IsDissociated remove name old new → HaveHistories Held Read new.world
    leaving_done remove name new d = left remove d.group d.plex d.plex.vol new d.leaves

    left_kept : (remove : Bool) (g : Group) (p : Plex) (o : Option Word) (end : End) (new : Moment) → LeavingStopsOf remove g p o old end new → HaveHistories Held Read new.world
    left_kept remove g p None end new stops = same_volumes Held Read old.world new.world stops.2.committing.volumes all
    left_kept remove g p (Some vol) end new (v, is, inl u) = unreadied (way_of (is_data p.kind) (runs_on_plexes old.world v.name) v) g v end new u
    left_kept remove g p (Some vol) end new (v, is, inr (inl kept)) = readied (way_of (is_data p.kind) (runs_on_plexes old.world v.name) v) g v new kept.readied
    left_kept remove g p (Some vol) end new (v, is, inr (inr c)) =
        same_volumes Held Read c.mid.world new.world c.stops.2.committing.volumes (readied (way_of (is_data p.kind) (runs_on_plexes old.world v.name) v) g v c.mid c.readied)

    leaving_in : (remove : Bool) (name : Word) (g : Group) (end : End) (new : Moment) → LeavingStopsIn g remove name old end new → HaveHistories Held Read new.world
    leaving_in remove name g end new (inl (why, rests)) = same_volumes Held Read old.world new.world (volumes_of old.world new.world rests.stays.world) all
    leaving_in remove name g end new (inr (p, may, stops)) = left_kept remove g p p.vol end new stops

    leaving_by : (remove : Bool) (name : Word) (o : Option Group) (end : End) (new : Moment) → MatchOption o (EndsIn (refusal.NoGroup None) old end new) (λ g. LeavingStopsIn g remove name old end new) → HaveHistories Held Read new.world
    leaving_by remove name None end new ends = same_volumes Held Read old.world new.world (volumes_of old.world new.world ends.1.stays.world) all
    leaving_by remove name (Some g) end new stops = leaving_in remove name g end new stops

    pub leaving_kept : (remove : Bool) (name : Word) (end : End) (new : Moment) → LeavingStops remove name old end new → HaveHistories Held Read new.world
    leaving_kept remove name end new stops = leaving_by remove name old.world.group end new stops

  -- ---- logs that come and go

  -- another log is nothing to the history of the volume
  relogged_history : (name : Word) (plexes more : List Word) (v : Volume) → v.lies ≡ OnPlexes plexes → IsHistoried Held Read name v → IsHistoried Held Read name (volume_relogged more v)
  relogged_history name plexes more v on own = subst (λ l. IsHistoriedOn Held Read name l v) on own

  relogged : (name : Word) (Goes : List Word → List Word → Type 0) (m n : Moment) → HaveHistories Held Read m.world → IsRelogged name Goes m n → HaveHistories Held Read n.world
  relogged name Goes m n have r =
      let run = volume_relogged r.later r.volume in
      same_volumes Held Read (record m.world { volumes = put name (Some run) m.world.volumes }) n.world (ap (λ (w : World). w.volumes) r.world)
      (put_history Held Read m.world name run (relogged_history name r.plexes r.later r.volume r.lies (have name r.volume r.was)) have)

  relogged_if : (name : Word) (Goes : List Word → List Word → Type 0) (m n : Moment) (b : Bool) → HaveHistories Held Read m.world → MatchBool b (IsRelogged name Goes m n) (n ≡ m) → HaveHistories Held Read n.world
  relogged_if name Goes m n true have r = relogged name Goes m n have r
  relogged_if name Goes m n false have same = subst (λ (x : Moment). HaveHistories Held Read x.world) (sym same) have

  module _ (old : Moment) (all : HaveHistories Held Read old.world) where
    written : (g : Group) (next : Config) (v : Vol) (m : Moment) (b : Bool) → MatchBool b (m ≡ old) (IsLogWritten g next v.name old m × AreLater old.counts m.counts) → HaveHistories Held Read m.world
    written g next v m true same = subst (λ (x : Moment). HaveHistories Held Read x.world) (sym same) all
    written g next v m false writes = same_volumes Held Read old.world m.world (ap (λ (w : World). w.volumes) writes.0.log.touched.world) all

    pub prepare_done : (n : NewLogs) (new : Moment) → IsPrepared n old new → HaveHistories Held Read new.world
    prepare_done n new d =
        relogged_if n.vol (λ plexes later. later ≡ plexes ++ log_names d.next d.group.good n.vol) d.recorded new (runs_on_plexes old.world n.vol)
        (same_volumes Held Read d.written.world d.recorded.world d.committed.committing.volumes (written d.group d.next d.volume d.written (is_new d.volume.state) d.writes)) d.runs

    pub unprepare_done : (name : Word) (new : Moment) → IsUnprepared name old new → HaveHistories Held Read new.world
    unprepare_done name new d =
        relogged_if name (λ plexes later. later ≡ d.plex.name ∷ []) d.recorded new (runs_on_plexes old.world name) (same_volumes Held Read old.world d.recorded.world d.committed.committing.volumes all) d.runs
