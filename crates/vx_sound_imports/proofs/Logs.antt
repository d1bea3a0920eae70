-- A volume of the imported group that gets a log or loses it.
use Rattle.std.proofs.Common.{◌≡◌, ◌≢◌, ◌∙◌, Bool, true, false, List, [], ◌∷◌, ◌++◌, Option, Some, None, MatchBool, MatchOption, refl, sym, ap, subst, inl, inr}
use Rattle.vx_base.specs.Named.{Word, put}
use Rattle.vx_copies.specs.Lists.{AllOf}
use Rattle.vx_config_parts.specs.declared.plex.Plex.{Plex}
use Rattle.vx_config_parts.specs.declared.vol.Vol.{Vol}
use Rattle.vx_objects.specs.declared.config.Config.{Config}
use Rattle.vx_objects.specs.declared.edit.Edit.{Edit}
use Rattle.vx_objects.specs.Applied.{IsEdited}
use Rattle.vx_image.specs.Bytes.{image_of}
use Rattle.vx_image.specs.Soundness.{IsSoundImage}
use Rattle.vx_image.proofs.Members.{contains, is_in}
use Rattle.vx_image.proofs.PlexMembers.{IsIn}
use Rattle.vx_new_volumes.specs.declared.logs.NewLogs.{NewLogs}
use Rattle.vx_state_edits.specs.Edits.{is_new}
use Rattle.vx_answers.specs.declared.answer.End.{End}
use Rattle.vx_answers.specs.declared.refusal.Refusal.TheVariants as refusal
use Rattle.vx_moments.specs.Commit.{IsCommitted, Writing}
use Rattle.vx_moments.specs.Moment.{AreLater, Moment}
use Rattle.vx_moments.specs.Group.{sectors_of}
use Rattle.vx_moments.specs.World.{Group, Volume, World}
use Rattle.vx_sound_volumes.proofs.Commits.{one_vol, vol_of}
use Rattle.vx_group_edits.specs.OfVolume.{AreEditsOf}
use Rattle.vx_group_edits.specs.Dcos.{ChangesDco}
use Rattle.vx_group_edits.proofs.ByKind.{vol_recorded}
use Rattle.vx_group_edits.proofs.DcoEdits.{fits_logs, own_group, preparing_own, unpreparing_own}
use Rattle.vx_group_edits.proofs.DcosGiven.{preparing_changes}
use Rattle.vx_group_edits.proofs.DcosTaken.{unpreparing_changes}
use Rattle.vx_group_edits.proofs.OfVolume.{own_edit_keeps_others}
use Rattle.vx_stages.specs.Ends.{EndsIn, IsChange}
use Rattle.vx_stages.specs.Logged.{AreNewLogs, IsLogTouched, IsLogWritten, IsPrepared, IsRelogged, IsUnprepared, PrepareStops, PrepareStopsIn, PrepareWants, StopsUnprepared, StopsPrepared, UnprepareStops, UnprepareStopsIn, by_config, log_names, volume_relogged}
use Rattle.vx_stages.specs.Recorded.{IsSoundAs}
use Rattle.vx_stages.specs.Stopping.{runs_on_plexes}
use Rattle.vx_sound.specs.Standing.{IsOwn, IsStanding}
use Rattle.vx_sound.proofs.Logs.{log_group, own_ready, prepare_recorded, unprepare_recorded}
use Rattle.vx_sound.proofs.Running.{standing_touched}
use Rattle.vx_sound_volumes.proofs.Logs.{own_back}
use Rattle.vx_sound_volumes.proofs.Parts.{Besides, Every, some_same}
use Rattle.vx_sound_volumes.proofs.Running.{found_there}
use Rattle.vx_sound_imports.specs.Offered.{HaveSoundOffers}
use Rattle.vx_sound_imports.specs.Left.{LiesWithin}
use Rattle.vx_sound_imports.proofs.Nexts.{IsSafe, IsSoundIfStarted, KeepsOwn, recorded_safe, whole_safe}
use Rattle.vx_sound_imports.proofs.Lone.{lone_within}
use Rattle.vx_sound_imports.proofs.Places.{had_elsewhere, lent_on_plexes}
use Rattle.vx_sound_imports.proofs.Stages.{Settles, committed_known, imported_away, leads, offers_kept, stopped_settles, whole_before}
use Rattle.vx_sound_imports.proofs.Volumes.{IsKnown, known_settles, lent_offers, still_settles}
use Rattle.vx_sound_imports.proofs.Writings.{HasWhole}

-- edits of one volume, as which the volume is sound: the others are kept, ..
pub own_besides : (w : World) (x : Writing) → IsStanding w → (g : Group) → w.group ≡ Some g → HasWhole w → (vol : Word) (edits : List Edit) → AreEditsOf g.config vol edits → IsChange edits w x → IsSoundIfStarted g x.config vol w → IsSafe (Besides vol) x w
own_besides w x s g here whole vol edits of is sound_as =
    let same = some_same g x.group (sym here ∙ is.group) in
    let mine = subst (λ (h : Group). AreEditsOf h.config vol edits) same of in
    recorded_safe x w (own_ready w x s g here vol edits of is) (whole x.group is.group) is.joiners g same vol sound_as (λ u. u.name ≢ vol) (own_edit_keeps_others x.group.config x.config vol edits mine is.edited)
    (λ u one other started. own_back x.group.config x.config vol edits mine is.edited u one other)

-- .. and all are where it is kept too
pub own_safe : (w : World) (x : Writing) → IsStanding w → (g : Group) → w.group ≡ Some g → HasWhole w → (vol : Word) (edits : List Edit) → AreEditsOf g.config vol edits → IsChange edits w x → IsSoundIfStarted g x.config vol w → KeepsOwn x w vol → IsSafe Every x w
own_safe w x s g here whole vol edits of is sound_as keeps =
    whole_safe x w (own_ready w x s g here vol edits of is) (whole x.group is.group) is.joiners g (some_same g x.group (sym here ∙ is.group)) vol sound_as (own_besides w x s g here whole vol edits of is sound_as) keeps

-- a volume of one plex is kept as it gets logs or loses them
lone_kept : (w : World) (x : Writing) (g : Group) → g ≡ x.group → (v : Vol) → IsIn g.config.volumes v → (v' : Vol) (p p' : Plex) → ChangesDco g.config v x.config v' p p' → KeepsOwn x w v.name
lone_kept w x g own v there v' p p' changes devices same candidates holds y one at before sound =
    let bytes = sectors_of devices x.group.members in
    let mine = subst (λ (h : Group). IsIn h.config.volumes v) own there in
    let changes_so = subst (λ (h : Group). ChangesDco h.config v x.config v' p p') own changes in
    let is_now : y ≡ v' = one_vol x.config y v' (is_in x.config.volumes y one) (vol_recorded x.config v' changes_so.recorded) (at ∙ sym (ap (λ (z : Vol). z.name) changes_so.volume)) in
    let started : is_new v.state ≡ false = sym (ap (λ (z : Vol). is_new z.state) (is_now ∙ changes_so.volume)) ∙ before in
    subst (λ (z : Vol). LiesWithin (image_of x.config x.group.good bytes z) candidates) (sym is_now)
    (lone_within x.group.config x.config v v' p p' changes_so (vol_of x.group.config v mine) started x.group.good bytes candidates (holds v (contains x.group.config.volumes v mine) refl started)
    (subst (λ (z : Vol). IsSoundImage (image_of x.config x.group.good bytes z)) is_now sound))

-- a volume goes on with another log, where it runs
relogged_if : (name : Word) (Goes : List Word → List Word → Type 0) (m n : Moment) (b : Bool) → IsStanding m.world → HaveSoundOffers m.world × HasWhole m.world → MatchBool b (IsRelogged name Goes m n) (n ≡ m) → HaveSoundOffers n.world × HasWhole n.world
relogged_if name Goes m n false s known same = subst (λ (x : Moment). HaveSoundOffers x.world × HasWhole x.world) (sym same) known
relogged_if name Goes m n true s known r =
    let run = volume_relogged r.later r.volume in (
      subst HaveSoundOffers (sym r.world)
          (lent_offers m.world (put name (Some run) m.world.volumes)
          (lent_on_plexes m.world name (Some run) r.plexes (λ u at. ap (λ (x : Volume). x.lies) (some_same u r.volume (sym at ∙ r.was)) ∙ r.lies)) s known.0),
      whole_before m.world n.world (ap (λ (w : World). w.group) r.world) known.1,
    )

module _ (old : Moment) (k : IsKnown old.world) where
  module _ (n : NewLogs) (g : Group) (here : old.world.group ≡ Some g) (runs : Bool) (v : Vol) (next : Config) (edits : List Edit) (logs : AreNewLogs g n runs v next edits) where
    -- the group has its name still
    same_name : next.group ≡ g.config.group
    same_name = (own_group g.config next v.name edits (preparing_own g.config g.good v n logs.plex logs.added edits logs.laid) logs.edited).0

    -- an empty log is written
    log_known : (name : Word) (m : Moment) → IsLogTouched g next name old m → IsKnown m.world
    log_known name m log = record {
      standing = standing_touched (by_config next g) name old m log.touched k.standing;
      whole = whole_before old.world m.world (ap (λ (w : World). w.group) log.touched.world) k.whole;
      offers = subst HaveSoundOffers (sym log.touched.world)
          (offers_kept old.world (record old.world { devices = m.world.devices }) k.standing.copies
          (λ dg away. (
            away,
            had_elsewhere (by_config next g) name old.world (record old.world { devices = m.world.devices })
                (subst (λ group. AllOf (IsOwn group old.world) g.members) (sym same_name) (leads old.world g k.standing here).own) log.touched.changes (λ device is. is) dg (λ is. away g here (sym same_name ∙ is)),
          )) k.offers);
    }

    pub written_known : (m : Moment) (b : Bool) → MatchBool b (m ≡ old) (IsLogWritten g next v.name old m × AreLater old.counts m.counts) → IsKnown m.world
    written_known m true same = subst (λ (x : Moment). IsKnown x.world) (sym same) k
    written_known m false writes = log_known v.name m writes.0.log

  -- the commit of edits of one volume
  pub recorded_known : (m : Moment) → IsKnown m.world → (g : Group) → m.world.group ≡ Some g → (vol : Word) (edits : List Edit) → AreEditsOf g.config vol edits → (x : Writing) → IsChange edits m.world x →
      (after : Moment) → IsCommitted x m after → HaveSoundOffers after.world × HasWhole after.world
  recorded_known m known g here vol edits of x is after committed =
      let ready = own_ready m.world x known.standing g here vol edits of is in
      committed_known x m known.standing ready (known.whole x.group is.group) after committed known.offers (imported_away x m known.standing ready is.group)

  -- ---- logs that come

  pub prepare_known : (n : NewLogs) (new : Moment) → IsPrepared n old new → HaveSoundOffers new.world × HasWhole new.world
  prepare_known n new d =
      let runs = runs_on_plexes old.world n.vol in
      let b = is_new d.volume.state in
      let written = written_known n d.group d.here runs d.volume d.next d.edits d.logs d.written b d.writes in
      let group = log_group old k.standing d.group d.next d.volume d.written b d.here d.writes in
      let own = preparing_own d.group.config d.group.good d.volume n d.logs.plex d.logs.added d.edits d.logs.laid in
      relogged_if n.vol (λ plexes later. later ≡ plexes ++ log_names d.next d.group.good n.vol) d.recorded new runs (prepare_recorded old k.standing n new d)
      (recorded_known d.written written d.group group d.volume.name d.edits own d.writing d.change d.recorded d.committed) d.runs

  module _ (end : End) (new : Moment) where
    unprepared_settles : (n : NewLogs) (g : Group) → old.world.group ≡ Some g → StopsUnprepared g n old end new → Settles Every end new.world
    unprepared_settles n g here c =
        let b = is_new c.volume.state in
        let written = written_known n g here (runs_on_plexes old.world n.vol) c.volume c.next c.edits c.logs c.written b c.writes in
        let group = log_group old k.standing g c.next c.volume c.written b here c.writes in
        let own = preparing_own g.config g.good c.volume n c.logs.plex c.logs.added c.edits c.logs.laid in
        let found = found_there n.vol g.config.volumes c.volume c.logs.found in
        let x = c.stops.0 in
        let same = some_same g x.group (sym group ∙ c.stops.1.group) in
        let edited = subst (λ (h : Group). IsEdited c.edits h.config x.config) (sym same) c.stops.1.edited in
        let fits = fits_logs (runs_on_plexes old.world n.vol) g.config n c.volume c.logs.found c.logs.fits in
        let changes = preparing_changes g.config g.good c.volume n c.logs.plex c.logs.added c.edits (vol_of g.config c.volume found.0) fits c.logs.laid x.config edited in
        stopped_settles Every x c.written written.standing
        (own_safe c.written.world x written.standing g group written.whole c.volume.name c.edits own c.stops.1 (λ v there is started. subst (λ vol. IsSoundAs g x.config vol c.written.world) (sym found.1) c.sound v there is)
        (lone_kept c.written.world x g same c.volume found.0 changes.0 c.logs.plex changes.1 changes.2))
        end new c.stops.2 c.stops.1.group written.whole written.offers

    prepare_in : (n : NewLogs) (g : Group) → old.world.group ≡ Some g → PrepareStopsIn g n old end new → Settles Every end new.world
    prepare_in n g here (inl (why, rests)) = still_settles end old.world new.world rests.stays.world k
    prepare_in n g here (inr (inl u)) = known_settles end new.world (log_known n g here (runs_on_plexes old.world n.vol) u.volume u.next u.edits u.logs n.vol new u.log)
    prepare_in n g here (inr (inr c)) = unprepared_settles n g here c

    prepare_by : (n : NewLogs) (o : Option Group) → old.world.group ≡ o → MatchOption o (EndsIn (refusal.NoGroup None) old end new) (λ g. PrepareStopsIn g n old end new) → Settles Every end new.world
    prepare_by n None here ends = still_settles end old.world new.world ends.1.stays.world k
    prepare_by n (Some g) here stops = prepare_in n g here stops

    pub prepare_settles : (n : NewLogs) → PrepareStops n old end new → Settles Every end new.world
    prepare_settles n stops = prepare_by n old.world.group refl stops

    -- ---- logs that go

    prepared_settles : (name : Word) (g : Group) → old.world.group ≡ Some g → StopsPrepared g name old end new → Settles Every end new.world
    prepared_settles name g here c =
        let own = unpreparing_own g.config name c.volume c.plex c.edits c.loses in
        let found = found_there name g.config.volumes c.volume c.loses.found in
        let x = c.stops.0 in
        let same = some_same g x.group (sym here ∙ c.stops.1.group) in
        let edited = subst (λ (h : Group). IsEdited c.edits h.config x.config) (sym same) c.stops.1.edited in
        let changes = unpreparing_changes g.config name c.volume c.plex c.edits c.loses x.config edited in
        stopped_settles Every x old k.standing
        (own_safe old.world x k.standing g here k.whole c.volume.name c.edits own c.stops.1 (λ v there is started. subst (λ vol. IsSoundAs g x.config vol old.world) (sym found.1) c.sound v there is)
        (lone_kept old.world x g same c.volume found.0 changes.0 c.plex changes.1 changes.2))
        end new c.stops.2 c.stops.1.group k.whole k.offers

    unprepare_in : (name : Word) (g : Group) → old.world.group ≡ Some g → UnprepareStopsIn g name old end new → Settles Every end new.world
    unprepare_in name g here (inl (why, rests)) = still_settles end old.world new.world rests.stays.world k
    unprepare_in name g here (inr c) = prepared_settles name g here c

    unprepare_by : (name : Word) (o : Option Group) → old.world.group ≡ o → MatchOption o (EndsIn (refusal.NoGroup None) old end new) (λ g. UnprepareStopsIn g name old end new) → Settles Every end new.world
    unprepare_by name None here ends = still_settles end old.world new.world ends.1.stays.world k
    unprepare_by name (Some g) here stops = unprepare_in name g here stops

    pub unprepare_settles : (name : Word) → UnprepareStops name old end new → Settles Every end new.world
    unprepare_settles name stops = unprepare_by name old.world.group refl stops

  pub unprepare_known : (name : Word) (new : Moment) → IsUnprepared name old new → HaveSoundOffers new.world × HasWhole new.world
  unprepare_known name new d =
      let own = unpreparing_own d.group.config name d.volume d.plex d.edits d.loses in
      relogged_if name (λ plexes later. later ≡ d.plex.name ∷ []) d.recorded new (runs_on_plexes old.world name) (unprepare_recorded old k.standing name new d)
      (recorded_known old k d.group d.here d.volume.name d.edits own d.writing d.change d.recorded d.committed) d.runs

  -- ---- want of memory

  pub prepare_wants : (n : NewLogs) (new : Moment) → PrepareWants n old new → IsKnown new.world
  prepare_wants n new (inl same) = subst IsKnown (sym same) k
  prepare_wants n new (inr (g, v, next, edits, here, logs, started, log)) = log_known n g here (runs_on_plexes old.world n.vol) v next edits logs n.vol new log
