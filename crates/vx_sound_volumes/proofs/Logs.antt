-- A volume of the group that gets a log or loses it. The sectors of a new log are of no volume as the group records them, so all are as sound
-- while it is written; and as its new configuration records the volume it is sound by its bytes, whichever of the disks the commit leaves good.
use Rattle.std.proofs.Common.{◌≡◌, ◌≢◌, ◌∙◌, ℕ, Bool, true, false, List, [], ◌∷◌, ◌++◌, Option, Some, None, MatchBool, MatchOption, refl, sym, ap, subst, inl, inr}
use Rattle.std.specs.Prelude.{Contains}
use Rattle.std.specs.List.{flat_map}
use Rattle.std.specs.Str.{bytes_eq}
use Rattle.std.proofs.lemmas.List.{append-nil}
use Rattle.std.proofs.lemmas.List.Sorted.{IsPermutation-refl}
use Rattle.vx_base.specs.Named.{Word}
use Rattle.vx_base.proofs.NamedLemmas.{bytes_eq_same, bytes_eq_self, name_cases}
use Rattle.vx_mask.specs.Mask.{has}
use Rattle.vx_mask.proofs.Tests.{not_both, or_cases}
use Rattle.vx_layout.specs.declared.place.Place.{Place}
use Rattle.vx_layout.specs.declared.strip.Strip.{Strip}
use Rattle.vx_config_parts.specs.declared.plex.Plex.{Plex}
use Rattle.vx_config_parts.specs.declared.vol.Vol.{Vol}
use Rattle.vx_config_parts.specs.Objects.{refers}
use Rattle.vx_objects.specs.declared.config.Config.{Config}
use Rattle.vx_objects.specs.declared.edit.Edit.{Edit}
use Rattle.vx_objects.specs.Applied.{IsEdited}
use Rattle.vx_objects.specs.Config.{objects_of}
use Rattle.vx_image.specs.Bytes.{log_copies}
use Rattle.vx_image.specs.Image.{LogCopy}
use Rattle.vx_image.specs.Own.{IsOfPlex, SameInside}
use Rattle.vx_image.specs.Soundness.{IsSoundImage}
use Rattle.vx_image.proofs.Members.{contains, is_in}
use Rattle.vx_image.proofs.Own.{image_own}
use Rattle.vx_image.proofs.PlexMembers.{IsIn, any_in, in_any}
use Rattle.vx_new_volumes.specs.declared.logs.NewLogs.{NewLogs}
use Rattle.vx_state_edits.specs.Edits.{is_new}
use Rattle.vx_answers.specs.declared.answer.End.{End}
use Rattle.vx_answers.specs.declared.refusal.Refusal.TheVariants as refusal
use Rattle.vx_moments.specs.Commit.{IsCommitted, Writing, is_slot_of, parties}
use Rattle.vx_moments.specs.Group.{IsSectorOf, image_on, sectors_of}
use Rattle.vx_moments.specs.Leaving.{grouped}
use Rattle.vx_moments.specs.Moment.{AreLater, Moment}
use Rattle.vx_moments.specs.World.{Group, World}
use Rattle.vx_moments.proofs.OtherVolumes.{same_inside}
use Rattle.vx_volume_laws.specs.Keeping.{LiesStill}
use Rattle.vx_readings.proofs.Images.{reading_sound}
use Rattle.vx_group_edits.specs.OfVolume.{AreEditsOf}
use Rattle.vx_group_edits.proofs.DcoEdits.{fits_logs, own_group, preparing_own, unpreparing_own}
use Rattle.vx_group_edits.proofs.DcosGiven.{preparing_changes}
use Rattle.vx_group_edits.proofs.LoneImages.{lone_image_sound, lone_plex_holds}
use Rattle.vx_group_edits.proofs.OfVolume.{own_edit_keeps_others}
use Rattle.vx_stages.specs.Ends.{EndsIn, IsChange}
use Rattle.vx_stages.specs.Logged.{AreNewLogs, IsLogTouched, IsLogWritten, IsPrepared, IsRelogged, IsUnprepared, PrepareStops, PrepareStopsIn, PrepareWants, UnprepareStops, UnprepareStopsIn, by_config, log_names, volume_relogged}
use Rattle.vx_stages.specs.Recorded.{IsSoundAs}
use Rattle.vx_stages.specs.Stopping.{runs_on_plexes}
use Rattle.vx_sound_volumes.proofs.Changes.{change_kept, change_stops}
use Rattle.vx_sound_volumes.proofs.Commits.{member_public, one_vol, vol_of}
use Rattle.vx_sound_volumes.proofs.Parts.{Besides, Every, Keeps, grouped_runs, put_run, sectors_same, some_same, stays_there}
use Rattle.vx_sound_volumes.proofs.Running.{fewer_names, found_there, one_more}

-- ---- what a commit of one volume records

-- edits of one volume alone bring no other
pub own_back : (c c' : Config) (vol : Word) (edits : List Edit) → AreEditsOf c vol edits → IsEdited edits c c' → (v : Vol) → IsIn c'.volumes v → v.name ≢ vol →
    (u : Vol) × IsIn c.volumes u × (u.name ≡ v.name) × (u.name ≢ vol)
own_back c c' vol edits of edited v there other =
    let kept = own_group c c' vol edits of edited in
    let was = any_in (λ (u : Vol). bytes_eq u.name v.name) c.volumes (kept.2 v.name (in_any (λ (u : Vol). bytes_eq u.name v.name) c'.volumes v there (bytes_eq_self v.name))) in
    let named = bytes_eq_same was.0.name v.name was.2 in
    (was.0, was.1, named, λ same. other (sym named ∙ same))

-- a volume that is sound as it is to be recorded is sound once it is, by whichever disks the commit has left good
module _ (edits : List Edit) (x : Writing) (old : Moment) (is : IsChange edits old.world x) (new : Moment) (committed : IsCommitted x old new) (name : Word) (sound : IsSoundAs x.group x.config name old.world) where
  abbrev now : Group
  now = record { config = x.config; good = committed.good; members = parties x; sequence = committed.last }

  no_joiner : (slot : ℕ) → is_slot_of x.joiners slot ≡ true → ⊥
  no_joiner slot joins = not_both joins (ap (λ js. is_slot_of js slot) is.joiners)

  was_good : (slot : ℕ) → has committed.good slot ≡ true → has x.group.good slot ≡ true
  was_good slot good = elim (or_cases (has x.group.good slot) (is_slot_of x.joiners slot) (committed.mask.few slot good)) [ inl was ↦ was | inr joins ↦ absurd (no_joiner slot joins) ]

  same_members : parties x ≡ x.group.members
  same_members = ap (λ js. x.group.members ++ js) is.joiners ∙ append-nil x.group.members

  same_sectors : (slot k : ℕ) → sectors_of new.world.devices (parties x) slot k ≡ sectors_of old.world.devices x.group.members slot k
  same_sectors slot k =
      ap (λ ms. sectors_of new.world.devices ms slot k) same_members
      ∙ sectors_same old.world.devices new.world.devices x.group.members (λ m one k. member_public x committed.last old new committed.committing m one k) slot k

  now_sound : (v : Vol) → Contains x.config.volumes v → v.name ≡ name → IsSoundImage (image_on new.world.devices now v)
  now_sound v there same =
      reading_sound x.config x.config v x.group.good committed.good (sectors_of old.world.devices x.group.members) (sectors_of new.world.devices (parties x))
      (vol_of x.config v (is_in x.config.volumes v there)) (IsPermutation-refl (objects_of x.config))
      (record { good = λ place of good. was_good place.disk good; same = λ place of good. same_sectors place.disk place.sector })
      (sound v there same)

  pub recorded_sound : (g : Group) → new.world.group ≡ Some g → (v : Vol) → Contains g.config.volumes v → v.name ≡ name → IsSoundImage (image_on new.world.devices g v)
  recorded_sound g here v there same =
      let one : now ≡ g = some_same now g (sym committed.group ∙ here) in
      subst (λ (h : Group). IsSoundImage (image_on new.world.devices h v)) one (now_sound v (subst (λ (h : Group). Contains h.config.volumes v) (sym one) there) same)

-- ---- a volume that runs goes on with another log

pub relogged_if : (place : ℕ) (name : Word) (Goes : List Word → List Word → Type 0) (m n : Moment) (b : Bool) → Keeps place (Besides name) m.world →
    ((g : Group) → m.world.group ≡ Some g → (v : Vol) → Contains g.config.volumes v → v.name ≡ name → IsSoundImage (image_on m.world.devices g v)) →
    MatchBool b (IsRelogged name Goes m n) (n ≡ m) → Keeps place Every n.world
relogged_if place name Goes m n true k own r =
    let was = k.running name r.volume (ap grouped r.was ∙ grouped_runs r.volume r.plexes r.lies) in
    subst (Keeps place Every) (sym r.world) (put_run place m.world name (volume_relogged r.later r.volume) r.later refl was.0 was.1 k)
relogged_if place name Goes m n false k own same =
    subst (λ (x : Moment). Keeps place Every x.world) (sym same) (one_more place m.world name (λ g here v there named started idle. own g here v there named) k)

-- ---- a log is written

place_stays : (c c' : Config) (p q : Plex) (place : Place) → LiesStill c c' p q → IsOfPlex c p place → IsOfPlex c' q place
place_stays c c' p q place lies (strip, one, has) = (strip, subst (λ (columns : List (List Strip)). Contains (flat_map (λ strips. strips) columns) strip) (sym lies.columns) one, has)

-- the only copy of a volume without a log marks nothing
no_marks : (dco : Option Word) (copies : List LogCopy) → copies ≡ (λ r k. false) ∷ [] → (c : LogCopy) → Contains copies c → (r k : ℕ) → c r k ≡ false
no_marks dco copies are c there r k = by (is_in ((λ r k. false) ∷ []) c (subst (λ cs. Contains cs c) are there))
  where
    by : IsIn ((λ r k. false) ∷ []) c → c r k ≡ false
    by (inl same) = ap (λ (d : LogCopy). d r k) same
    by (inr never) = absurd never

module _ (place : ℕ) (old : Moment) (k : Keeps place Every old.world) where
  module _ (n : NewLogs) (g : Group) (here : old.world.group ≡ Some g) (runs : Bool) (v : Vol) (next : Config) (edits : List Edit) (logs : AreNewLogs g n runs v next edits) where
    there : IsIn g.config.volumes v × (v.name ≡ n.vol)
    there = found_there n.vol g.config.volumes v logs.found

    pub of : AreEditsOf g.config v.name edits
    of = preparing_own g.config g.good v n logs.plex logs.added edits logs.laid

    module _ (m : Moment) (log : IsLogTouched g next v.name old m) where
      -- the volume itself has one plex and no log, by whatever it holds
      own_sound : IsSoundImage (image_on m.world.devices g v)
      own_sound =
          let changes = preparing_changes g.config g.good v n logs.plex logs.added edits (vol_of g.config v there.0) (fits_logs runs g.config n v logs.found logs.fits) logs.laid next logs.edited in
          let bytes = sectors_of m.world.devices g.members in
          let holds = lone_plex_holds g.config v next changes.0 logs.plex changes.1 changes.2 g.good bytes in
          lone_image_sound (image_on m.world.devices g v) holds.0 holds.2 changes.2.alone
          (λ c one r k low. no_marks v.dco (log_copies v.dco g.config g.good bytes v) (ap (λ dco. log_copies dco g.config g.good bytes v) changes.4.none) c one r k)

      -- the others have none of its sectors
      other_same : (u : Vol) → IsIn g.config.volumes u → u.name ≢ v.name → image_on m.world.devices g u ≡ image_on old.world.devices g u
      other_same u one other =
          image_own g.config g.good u (sectors_of old.world.devices g.members) (sectors_of m.world.devices g.members) inside
        where
          inside : SameInside g.config u.name (sectors_of old.world.devices g.members) (sectors_of m.world.devices g.members)
          inside at (p, has, own, of_plex) =
              let s = own_edit_keeps_others g.config next v.name edits of logs.edited u (vol_of g.config u one) other g.good g.good (λ slot is. inl is) in
              let stays = s.plexes p has own in
              same_inside (by_config next g) v.name u.name old.world.devices m.world.devices (k.disks g here).own log.touched.changes other at
              (p, stays.there, subst (λ vol. refers p.vol vol ≡ true) s.name stays.own, place_stays g.config next p p at stays.lies of_plex)

      pub log_kept : Keeps place Every m.world
      log_kept = subst (Keeps place Every) (sym log.touched.world) (record {
        running = k.running;
        stopped = λ h is u one named started idle.
            let same : g ≡ h = some_same g h (sym here ∙ is) in
            subst (λ (x : Group). IsSoundImage (image_on m.world.devices x u)) same
            (one_sound u (is_in g.config.volumes u (subst (λ (x : Group). Contains x.config.volumes u) (sym same) one)) started idle);
        disks = λ h is.
            let d = k.disks h is in
            record { own = d.own; there = λ i one. stays_there (IsSectorOf (by_config next g) v.name i.device) (old.world.devices i.device) (m.world.devices i.device) (log.touched.changes i.device) (d.there i one); apart = d.apart };
      })
        where
          one_sound : (u : Vol) → IsIn g.config.volumes u → is_new u.state ≡ false → grouped (old.world.volumes u.name) ≡ None → IsSoundImage (image_on m.world.devices g u)
          one_sound u one started idle = elim (name_cases u.name v.name) [
            | inl same ↦ subst (λ (w : Vol). IsSoundImage (image_on m.world.devices g w)) (one_vol g.config v u there.0 one (sym same)) own_sound
            | inr differ ↦
                let other = λ (same : u.name ≡ v.name). not_both (ap (λ n. bytes_eq n v.name) same ∙ bytes_eq_self v.name) differ in
                subst IsSoundImage (sym (other_same u one other)) (k.stopped g here u (contains g.config.volumes u one) tt started idle)
          ]

    pub written_kept : (m : Moment) (b : Bool) → MatchBool b (m ≡ old) (IsLogWritten g next v.name old m × AreLater old.counts m.counts) → Keeps place Every m.world
    written_kept m true same = subst (λ (x : Moment). Keeps place Every x.world) (sym same) k
    written_kept m false writes = log_kept m writes.0.log

    pub touched_kept : (m : Moment) → IsLogTouched g next n.vol old m → Keeps place Every m.world
    touched_kept m log = log_kept m (subst (λ name. IsLogTouched g next name old m) (sym there.1) log)

  -- the group of a writing is the one that was there before
  pub own_edits : (w : World) (g : Group) → w.group ≡ Some g → (vol : Word) (edits : List Edit) → AreEditsOf g.config vol edits → (x : Writing) → IsChange edits w x → AreEditsOf x.group.config vol edits
  own_edits w g here vol edits of x is = subst (λ (h : Group). AreEditsOf h.config vol edits) (some_same g x.group (sym here ∙ is.group)) of

  -- a commit of edits of one volume keeps the others
  pub others_kept : (vol : Word) (edits : List Edit) (x : Writing) (m : Moment) (is : IsChange edits m.world x) → AreEditsOf x.group.config vol edits → Keeps place Every m.world →
      (after : Moment) → IsCommitted x m after → Keeps place (Besides vol) after.world
  others_kept vol edits x m is of kept after committed =
      change_kept place (Besides vol) edits x m is (fewer_names place m.world vol kept) (λ u. u.name ≢ vol) after committed
      (own_edit_keeps_others x.group.config x.config vol edits of is.edited)
      (λ u one other started. own_back x.group.config x.config vol edits of is.edited u one other)

  -- ---- logs that come

  log_group : (g : Group) (next : Config) (name : Word) (m : Moment) (b : Bool) → old.world.group ≡ Some g → MatchBool b (m ≡ old) (IsLogWritten g next name old m × AreLater old.counts m.counts) → m.world.group ≡ Some g
  log_group g next name m true here same = ap (λ (x : Moment). x.world.group) same ∙ here
  log_group g next name m false here writes = ap (λ (w : World). w.group) writes.0.log.touched.world ∙ here

  pub prepare_done : (n : NewLogs) (new : Moment) → IsPrepared n old new → Keeps place Every new.world
  prepare_done n new d =
      let runs = runs_on_plexes old.world n.vol in
      let b = is_new d.volume.state in
      let named = (found_there n.vol d.group.config.volumes d.volume d.logs.found).1 in
      let written = written_kept n d.group d.here runs d.volume d.next d.edits d.logs d.written b d.writes in
      let own = of n d.group d.here runs d.volume d.next d.edits d.logs in
      let mine = own_edits d.written.world d.group (log_group d.group d.next d.volume.name d.written b d.here d.writes) d.volume.name d.edits own d.writing d.change in
      let at = some_same d.group d.writing.group (sym (log_group d.group d.next d.volume.name d.written b d.here d.writes) ∙ d.change.group) in
      let others = others_kept d.volume.name d.edits d.writing d.written d.change mine written d.recorded d.committed in
      relogged_if place n.vol (λ plexes later. later ≡ plexes ++ log_names d.next d.group.good n.vol) d.recorded new runs
      (subst (λ vol. Keeps place (Besides vol) d.recorded.world) named others)
      (recorded_sound d.edits d.writing d.written d.change d.recorded d.committed n.vol (subst (λ (h : Group). IsSoundAs h d.writing.config n.vol d.written.world) at d.sound))
      d.runs

  module _ (end : End) (new : Moment) where
    still : new.world ≡ old.world → Keeps place Every new.world
    still same = subst (Keeps place Every) (sym same) k

    prepare_in : (n : NewLogs) (g : Group) → old.world.group ≡ Some g → PrepareStopsIn g n old end new → Keeps place Every new.world
    prepare_in n g here (inl (why, rests)) = still rests.stays.world
    prepare_in n g here (inr (inl u)) = touched_kept n g here (runs_on_plexes old.world n.vol) u.volume u.next u.edits u.logs new u.log
    prepare_in n g here (inr (inr c)) =
        change_stops place Every c.edits c.stops.0 c.written c.stops.1 (written_kept n g here (runs_on_plexes old.world n.vol) c.volume c.next c.edits c.logs c.written (is_new c.volume.state) c.writes) end new c.stops.2

    prepare_by : (n : NewLogs) (o : Option Group) → old.world.group ≡ o → MatchOption o (EndsIn (refusal.NoGroup None) old end new) (λ g. PrepareStopsIn g n old end new) → Keeps place Every new.world
    prepare_by n None here ends = still ends.1.stays.world
    prepare_by n (Some g) here stops = prepare_in n g here stops

    pub prepare_ends : (n : NewLogs) → PrepareStops n old end new → Keeps place Every new.world
    prepare_ends n stops = prepare_by n old.world.group refl stops

    -- ---- logs that go

    unprepare_in : (name : Word) (g : Group) → UnprepareStopsIn g name old end new → Keeps place Every new.world
    unprepare_in name g (inl (why, rests)) = still rests.stays.world
    unprepare_in name g (inr c) = change_stops place Every c.edits c.stops.0 old c.stops.1 k end new c.stops.2

    unprepare_by : (name : Word) (o : Option Group) → MatchOption o (EndsIn (refusal.NoGroup None) old end new) (λ g. UnprepareStopsIn g name old end new) → Keeps place Every new.world
    unprepare_by name None ends = still ends.1.stays.world
    unprepare_by name (Some g) stops = unprepare_in name g stops

    pub unprepare_ends : (name : Word) → UnprepareStops name old end new → Keeps place Every new.world
    unprepare_ends name stops = unprepare_by name old.world.group stops

  pub unprepare_done : (name : Word) (new : Moment) → IsUnprepared name old new → Keeps place Every new.world
  unprepare_done name new d =
      let named = (found_there name d.group.config.volumes d.volume d.loses.found).1 in
      let own = own_edits old.world d.group d.here d.volume.name d.edits (unpreparing_own d.group.config name d.volume d.plex d.edits d.loses) d.writing d.change in
      let at = some_same d.group d.writing.group (sym d.here ∙ d.change.group) in
      let others = others_kept d.volume.name d.edits d.writing old d.change own k d.recorded d.committed in
      relogged_if place name (λ plexes later. later ≡ d.plex.name ∷ []) d.recorded new (runs_on_plexes old.world name)
      (subst (λ vol. Keeps place (Besides vol) d.recorded.world) named others)
      (recorded_sound d.edits d.writing old d.change d.recorded d.committed name (subst (λ (h : Group). IsSoundAs h d.writing.config name old.world) at d.sound))
      d.runs

  -- ---- want of memory

  pub prepare_wants : (n : NewLogs) (new : Moment) → PrepareWants n old new → Keeps place Every new.world
  prepare_wants n new (inl same) = subst (Keeps place Every) (sym same) k
  prepare_wants n new (inr (g, v, next, edits, here, logs, started, log)) = touched_kept n g here (runs_on_plexes old.world n.vol) v next edits logs new log
