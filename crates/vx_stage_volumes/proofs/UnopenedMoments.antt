-- The moments of a house whose volume was not opened: what its devices have to do with that.
use Rattle.std.proofs.Common.{◌≡◌, ◌∙◌, ◌⊎◌, inl, inr, ℕ, ◌^◌, Bool, true, false, List, ◌++◌, map, Some, None, refl, sym, ap, subst}
use Rattle.std.specs.Prelude.{IfSome, is_some}
use Rattle.std.specs.List.{All, flat_map}
use Rattle.std.proofs.lemmas.Bool.{false≢true}
use Rattle.vx_pages.specs.declared.local_piece.LocalPiece.{Ghosts}
use Rattle.vx_base.specs.Blocks.{Contents}
use Rattle.vx_base.specs.Counts.{Rose}
use Rattle.vx_base.specs.Named.{Word}
use Rattle.vx_piece.specs.Seen.{AreCounts, EndsThere, Seen}
use Rattle.vx_carve.specs.Together.{HasSome, Holds, SameSectors, cut_on, faults_on}
use Rattle.vx_carve.proofs.Same.{same_refl}
use Rattle.std.specs.Global.{Vec}
use Rattle.vx_image.specs.Narrowing.{IsNarrowed}
use Rattle.vx_group_volumes.specs.LogLaws.{EachCopyNarrows}
use Rattle.vx_lending.specs.declared.public.Running.{Running}
use Rattle.vx_config_parts.specs.declared.disk.Disk.{Disk}
use Rattle.vx_config_parts.specs.declared.vol.Vol.{Vol}
use Rattle.vx_copies.specs.Disks.{DiskSeen, good_mask}
use Rattle.vx_confdb.specs.Groups.{members}
use Rattle.vx_image.specs.Bytes.{Sectors}
use Rattle.vx_image.specs.Image.{IsFilled}
use Rattle.vx_image.specs.UsedPlexes.{IsVolOf}
use Rattle.vx_moments.specs.Moment.{AreLater, Moment}
use Rattle.vx_moments.specs.Moment.{HasFailed as FailsAt}
use Rattle.vx_moments.specs.World.{Group}
use Rattle.vx_moments.specs.Group.{image_on, sectors_of}
use Rattle.vx_moments.specs.Owners.{IsDeviceOfVolume}
use Rattle.vx_stages.specs.Starting.{HasNoReadCopy, IsFirstMissed}
use Rattle.vx_stages.specs.Touching.{FailsOn, IsCutOff, IsTouched, Narrows}
use Rattle.vx_lending.specs.Form.{IsFormOf}
use Rattle.vx_lending.specs.FormLaws.{good_disks}
use Rattle.vx_lending.specs.declared.form.VolumeForm.{VolumeForm}
use Rattle.vx_volume_laws.specs.Contents.{AreSectorsOf}
use Rattle.vx_lending.specs.Pieces.{copy_pieces}
use Rattle.vx_lending.specs.Taken.{AreTakenCopies, log_sectors}
use Rattle.vx_lending.specs.Public.{lent_pieces, running_pieces, still_pieces, stuck_pieces}
use Rattle.vx_group_start.specs.Fresh.{is_fresh}
use Rattle.vx_group_start.specs.Logs.{AreOn}
use Rattle.vx_group_start.specs.Refused.{IsLogCut, IsLogFailed, IsLowestAway, IsUnlogged, IsUnread}
use Rattle.vx_group_volumes.specs.Devices.{IsOwnDevice}
use Rattle.vx_group_volumes.proofs.Devices.{device_named, own_named}
use Rattle.vx_group_volumes.proofs.Taken.{device_own as taken_device}
use Rattle.vx_group_volumes.proofs.Unlogged.{passed_failed}
use Rattle.vx_house.specs.Scene.{FaultsGoOn, HasFailed, Scene, Shelved}
use Rattle.vx_house.specs.View.{IsGroupKept, IsMoment, Keeps, at, member_in, member_of, scene}
use Rattle.vx_house.specs.declared.house.House.{House}
use Rattle.vx_house.specs.declared.house.Imported.{Imported}
use Rattle.vx_house.specs.declared.stop.Stop.{Stop}
use Rattle.vx_house_calls.specs.Passes.{IsOneOf, with_group}
use Rattle.vx_house_calls.proofs.Entries.{all_at_one}
use Rattle.vx_house_calls.proofs.Owners.{HasNumber, same_name}
use Rattle.vx_stage_volumes.specs.Early.{refusal_here, refusal_of_form}
use Rattle.vx_stage_volumes.specs.Opening.{AreSlotNumbers, IsUnopenedIn, good_of}
use Rattle.vx_stage_volumes.proofs.AtOnce.{refused_by_form}
use Rattle.vx_stage_volumes.proofs.AtOnce.{new_is_fresh}
use Rattle.vx_stage_volumes.proofs.Narrowed.{narrows, stays}
use Rattle.vx_stage_volumes.proofs.TouchedBy.{all_still}
use Rattle.vx_stage_volumes.specs.Touching.{behind_of}
use Rattle.vx_stage_volumes.proofs.Slots.{slot_numbered}
use Rattle.vx_house.proofs.Ends.{keeps_but_group, moment_but_group}
use Rattle.vx_stage_volumes.proofs.Held.{held, hold_still, public_there}
use Rattle.vx_stage_volumes.proofs.StartLogs.{none_unread, unread_missed}
use Rattle.vx_stage_volumes.proofs.StillFaults.{still_cut, still_fails, still_rose}
use Rattle.vx_stage_volumes.proofs.StillSectors.{sectors_are}
use Rattle.vx_stage_volumes.proofs.TouchedGroup.{disks_on, kept_now, of_disks, some}
use Rattle.vx_stage_volumes.proofs.TouchedHouse.{GroupGoesOn, numbered, touched_faults, touched_keeps}
use Rattle.vx_stage_volumes.proofs.TouchedMoments.{counts_are_later, member_there, moment_now, touched}
use Rattle.vx_stage_volumes.proofs.TouchedMoments.{n as next}
use Rattle.vx_stage_volumes.proofs.UnopenedNames.{IsNamed, filled_of, log_there, lowest_there, no_copies}
use Rattle.vx_stage_volumes.proofs.UnopenedTouches.{TouchesVolume, opened_by, unopened_touches}

module _ {P : Type 0} {ghosts : Ghosts P} (see : P → Seen) (alike : (p q : P) → is_some (see p).told ≡ is_some (see q).told) (ends : (p : P) → EndsThere (see p)) (counts : (p : P) → AreCounts (see p))
    (shelf : Shelved) (h : House P ghosts) (keeps : Keeps see (at shelf h)) (g : Imported P ghosts) (has : h.group ≡ Some g) (v : Vol) (g' : Imported P ghosts) (stop : Stop) (unopened : IsUnopenedIn see v g g' stop) where
  kept : IsGroupKept see g
  kept = subst (λ o. IfSome o (IsGroupKept see)) has keeps.house.group

  pub t : TouchesVolume see v.name g g'
  t = unopened_touches see g kept v g' stop unopened

  -- the group as it is then
  abbrev pub now : Imported P ghosts
  now = record g { public = g'.public }

  pub on : GroupGoesOn see t.pieces t.later g now
  on = record {
    base = refl;
    disks = disks_on see alike t.pieces t.later g g'.public t.touched kept;
    kept = kept_now see alike t.pieces t.later g g'.public t.touched kept;
    of_disks = of_disks see alike t.pieces t.later g g'.public t.touched kept;
    each = t.touched.called.each;
  }

  abbrev pub k : House P ghosts
  k = with_group h now

  abbrev pub old : Scene
  old = scene see (at shelf h)

  abbrev pub new : Scene
  new = scene see (at shelf k)

  -- it is kept, and no count of faults has fallen
  pub keeps_on : Keeps see (at shelf k)
  keeps_on = touched_keeps see shelf h g has t.pieces t.later now on keeps

  pub faults_on_it : FaultsGoOn old new
  faults_on_it = touched_faults see shelf h g has t.pieces t.later now on keeps

  abbrev hs : List DiskSeen
  hs = members see g.base

  -- the group, as the world has it
  abbrev pub gm : Group
  gm = record { config = g.config; good = good_mask hs; members = map member_of g.base.disks.items; sequence = g.base.sequence }

  abbrev ds : List Disk
  ds = good_disks (good_of see g) g.config.disks

  abbrev still : List Seen
  still = still_pieces see g.public

  abbrev still' : List Seen
  still' = still_pieces see g'.public

  lent : lent_pieces see now.public ≡ lent_pieces see g.public
  lent i = flat_map (running_pieces see) (unopened.same.running i).entries ++ flat_map (stuck_pieces see) (unopened.same.stuck i).items

  -- ---- devices of the volume

  -- the disk of a number, on a device of the volume
  pub record IsOwnDisk (number : ℕ) : Type 0 where
    pub disk : DiskSeen
    pub there : IsOneOf hs disk
    pub number_is : disk.seen.device ≡ number
    pub own : IsDeviceOfVolume gm v.name disk.device

  own_disk : (numbers : List ℕ) → AreSlotNumbers see g numbers → (number : ℕ) → IsOwnDevice g.config v.name ds numbers number → IsOwnDisk number
  own_disk numbers are number own =
      let n = opened_by see g kept numbers are own.lies.slot own.lies.on in
      record {
        disk = n.disk;
        there = n.there;
        number_is = sym n.number ∙ own.lies.number_is;
        own = own_named gm v.name ds numbers number own n.disk.device n.device;
      }

  -- so is that of a copy that was taken for its log
  log_disk : (numbers : List ℕ) → AreSlotNumbers see g numbers → (form : VolumeForm) → IsFormOf g.config (good_of see g) v (is_fresh v.state) form → (number : ℕ) (copies : List (List Seen)) →
      AreTakenCopies numbers form.logs.items (log_sectors form.shape.geometry) copies → AreOn number (copy_pieces copies) → IsOwnDisk number
  log_disk numbers are form form_is number copies taken on_it =
      own_disk numbers are number (taken_device g.config (good_of see g) v (is_fresh v.state) form form_is numbers copies taken number on_it)

  has_number : (x : DiskSeen) → IsOneOf hs x → (number : ℕ) → x.seen.device ≡ number → HasNumber shelf.held x.device number
  has_number x one number is =
      subst (HasNumber shelf.held x.device) is
      (all_at_one (λ (y : DiskSeen). HasNumber shelf.held y.device y.seen.device) hs x
      (numbered see shelf h g has t.pieces t.later now on keeps) one)

  -- it is the one of each disk with this number
  own_name : (number : ℕ) → IsOwnDisk number → (x : DiskSeen) → IsOneOf hs x → x.seen.device ≡ number → IsDeviceOfVolume gm v.name x.device
  own_name number o x one is =
      let has_own = has_number o.disk o.there number o.number_is in
      let same = same_name shelf.held keeps.devices.numbers o.disk.device x.device number has_own (has_number x one number is) in
      subst (IsDeviceOfVolume gm v.name) same o.own

  -- where the count of its number rose, a disk is blamed
  pub blamed_by : (number : ℕ) (names : Word × Word) → IsNamed hs number names → Rose (faults_on number still) (faults_on number still') → HasFailed names.1 old new
  blamed_by number names x rose =
      subst (λ (d : Word). HasFailed d old new) x.device_is
      (inl (still_rose see shelf h g has t.pieces t.later now on keeps lent x.disk x.there
      (subst (λ n. Rose (faults_on n still) (faults_on n still')) (sym x.number_is) rose)))

  module _ (m : Moment) (is : IsMoment see (at shelf h) m) where
    pub some_pieces : All HasSome t.pieces
    some_pieces = some see alike t.pieces t.later g g'.public t.touched kept

    -- the moment that follows
    abbrev pub n : Moment
    n = next see shelf h g has t.pieces t.later now on keeps g.config v.name t.disks t.numbers t.opened t.own some_pieces refl t.touched.running m is

    pub is_next : IsMoment see (at shelf k) n
    is_next =
        moment_now see shelf h g has t.pieces t.later now on keeps g.config v.name t.disks t.numbers t.opened t.own some_pieces refl t.touched.running m is

    pub comes_later : AreLater m.counts n.counts
    comes_later =
        counts_are_later see shelf h g has t.pieces t.later now on keeps g.config v.name t.disks t.numbers t.opened t.own some_pieces refl
        t.touched.running m is

    pub is_touched : IsTouched gm v.name m n
    is_touched =
        touched see shelf h g has t.pieces t.later now on keeps g.config v.name t.disks t.numbers t.opened t.own some_pieces refl t.touched.running m is

    -- the copies of its log have come nearer to one another, or nothing was called
    pub narrows_to : EachCopyNarrows → Narrows gm v m n
    narrows_to law old = elim unopened.cause [
      | inl (wants, same) ↦ stay (subst (λ ps. SameSectors still ps) (sym same) (same_refl still))
      | inr (fault, told, refused) ↦ elim refused.comes [
        | inl still_same ↦ stay still_same
        | inr (form, form_is, log) ↦ narrows see ends counts shelf h keeps g has g'.public keeps_on m n is is_next g.config v still' lie_there refused.numbers refused.are refused.numbered form
            (subst (λ b. IsFormOf g.config (good_of see g) v b form) fresh form_is) (is_fresh v.state) log fresh law
      ]
    ]
      where
        fresh : is_fresh v.state ≡ false
        fresh = sym (new_is_fresh v.state) ∙ old

        lie_there : SameSectors (still' ++ lent_pieces see g.public) (behind_of see g'.public)
        lie_there = all_still see g g'.public (λ i. (unopened.same.running i).entries) (ap (λ (s : Vec (Running P ghosts)). s.items) unopened.same.stuck)

        stay : SameSectors still still' → IsNarrowed (image_on m.world.devices gm v) (image_on n.world.devices gm v)
        stay same = stays see ends counts shelf h keeps g has g'.public keeps_on m n is is_next g.config v still' lie_there same

    -- ---- a device that failed, or has no power

    fails : (number : ℕ) (x : DiskSeen) → IsOneOf hs x → x.seen.device ≡ number → Rose (faults_on number still) (faults_on number still') → FailsAt m.counts n.counts x.device
    fails number x one same rose =
        still_fails see shelf h g has t.pieces t.later now on keeps lent x one m is
        (subst (λ d. Rose (faults_on d still) (faults_on d still')) (sym same) rose)

    pub failed_on : (numbers : List ℕ) → AreSlotNumbers see g numbers → (form : VolumeForm) → IsFormOf g.config (good_of see g) v (is_fresh v.state) form → (number : ℕ) → IsLogFailed numbers form still still' number → (names : Word × Word) → IsNamed hs number names →
        FailsOn gm v.name m.counts n.counts names.0 names.1
    failed_on numbers are form form_is number log names x =
        let o = log_disk numbers are form form_is number log.copies log.are.taken log.own in
        record {
          member = member_in x.disk;
          there = member_there see shelf h g has t.pieces t.later now on keeps g.config v.name t.disks t.numbers t.opened t.own some_pieces refl
              t.touched.running m is x.disk x.there;
          device_is = x.device_is;
          disk_is = x.name_is;
          own = subst (IsDeviceOfVolume gm v.name) x.device_is (own_name number o x.disk x.there x.number_is);
          failed = subst (λ (d : Word). FailsAt m.counts n.counts d) x.device_is (fails number x.disk x.there x.number_is log.rose);
        }

    pub cut_off : (numbers : List ℕ) → AreSlotNumbers see g numbers → (form : VolumeForm) → IsFormOf g.config (good_of see g) v (is_fresh v.state) form → IsLogCut numbers form still still' → IsCutOff gm v.name n.counts
    cut_off numbers are form form_is log =
        let o = log_disk numbers are form form_is log.device log.copies log.are.taken log.own in (
          o.disk.device,
          o.own,
          still_cut see shelf h g has t.pieces t.later now on keeps lent o.disk o.there
              (subst (λ d. cut_on d still' ≡ 1) (sym o.number_is) log.cut),
        )

    -- ---- its log

    abbrev contents : ℕ → Contents
    contents = held see ends counts (at shelf h) (keeps_but_group see (at shelf h) keeps) m (moment_but_group see (at shelf h) m is) g has

    abbrev bytes : Sectors
    bytes = sectors_of m.world.devices gm.members

    still_held : All (Holds contents) still
    still_held = hold_still see ends counts (at shelf h) (keeps_but_group see (at shelf h) keeps) m (moment_but_group see (at shelf h) m is) g has

    sectors_there : (numbers : List ℕ) → AreSlotNumbers see g numbers → AreSectorsOf (good_of see g) numbers contents bytes
    sectors_there numbers are =
        sectors_are m.world.devices hs gm.members (good_of see g) numbers contents
        (public_there see ends counts (at shelf h) (keeps_but_group see (at shelf h) keeps) m (moment_but_group see (at shelf h) m is) g has)
        (slot_numbered see g.base.disks.items kept.carries.alive.ready numbers (2 ^ 32) are)

    no_read_copy : (numbers : List ℕ) → AreSlotNumbers see g numbers → (form : VolumeForm) → IsFormOf g.config (good_of see g) v false form → IsUnlogged v numbers form still still' → HasNoReadCopy gm v m n
    no_read_copy numbers are form form_is log p there counts_is =
        let failed = passed_failed g.config (good_of see g) v form form_is numbers still still' log contents still_held
        bytes (sectors_there numbers are) p there counts_is in
        let s = opened_by see g kept numbers are failed.lies.slot failed.lies.on in (
          s.disk.device,
          device_named gm ds numbers p failed.device failed.lies s.disk.device s.device,
          fails failed.device s.disk s.there (sym s.number ∙ failed.lies.number_is) failed.rose,
        )

    module _ (of : IsVolOf g.config v) (early : refusal_here g.config (good_of see g) v ≡ None) (numbers : List ℕ) (are : AreSlotNumbers see g numbers) (form : VolumeForm) (form_is : IsFormOf g.config (good_of see g) v (is_fresh v.state) form) where
      passes : refusal_of_form v form ≡ None
      passes = sym (refused_by_form g.config (good_of see g) v form of form_is) ∙ early

      by_form : is_fresh v.state ≡ false → IsFormOf g.config (good_of see g) v false form
      by_form e = subst (λ b. IsFormOf g.config (good_of see g) v b form) e form_is

      -- each copy was passed over: it was started before
      pub unlogged : IsUnlogged v numbers form still still' → IsFilled v.state × (is_some v.dco ≡ true) × HasNoReadCopy gm v m n
      unlogged log = by (is_fresh v.state) refl
        where
          by : (b : Bool) → is_fresh v.state ≡ b → IsFilled v.state × (is_some v.dco ≡ true) × HasNoReadCopy gm v m n
          by true e = absurd (no_copies log.copies form.logs.items (log_there v form passes log.dco) log.are.taken.long (log.filled e))
          by false e = (filled_of v.state e, log.dco, no_read_copy numbers are form (by_form e) log)

      -- a region has no current plex by the log: so it was
      missed : (r : ℕ) → IsUnread see v numbers form g.public r → IsFilled v.state × IsFirstMissed (image_on m.world.devices gm v) r
      missed r un = by (is_fresh v.state) refl
        where
          by : (b : Bool) → is_fresh v.state ≡ b → IsFilled v.state × IsFirstMissed (image_on m.world.devices gm v) r
          by true e =
              absurd (none_unread see g.config (good_of see g) v numbers form still of un.log un.is form_is e
              (lowest_there v form passes e) r un.first)
          by false e = (
            filled_of v.state e,
            unread_missed see g.config (good_of see g) v numbers form still of un.log un.is (by_form e) e contents still_held
                bytes (sectors_there numbers are) r un.first,
          )

      -- and no lowest plex is away
      pub unread : (r : ℕ) → IsUnread see v numbers form g.public r ⊎ IsLowestAway v form.shape r → IsFilled v.state × IsFirstMissed (image_on m.world.devices gm v) r
      unread r (inl un) = missed r un
      unread r (inr low) = absurd (false≢true (sym low.away ∙ lowest_there v form passes low.fresh))
