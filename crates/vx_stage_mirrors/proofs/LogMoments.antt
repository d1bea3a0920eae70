-- The moments of a house whose group got an empty log for a volume of its next configuration, or was to get one: what its devices have to do
-- with that.
use Rattle.std.proofs.Common.{◌≡◌, ◌∙◌, inl, inr, ℕ, true, false, List, ◌++◌, map, Some, refl, sym, ap, subst}
use Rattle.std.specs.Prelude.{IfSome, is_some, Contains}
use Rattle.std.specs.Global.{Vec}
use Rattle.std.specs.List.{All, flat_map}
use Rattle.vx_pages.specs.declared.local_piece.LocalPiece.{Ghosts}
use Rattle.vx_base.specs.Counts.{Rose}
use Rattle.vx_base.specs.Named.{Word}
use Rattle.vx_piece.specs.Seen.{AreCounts, EndsThere, Seen}
use Rattle.vx_carve.specs.Together.{HasSome, SameSectors, cut_on, faults_on}
use Rattle.vx_config_parts.specs.declared.disk.Disk.{Disk}
use Rattle.vx_config_parts.specs.declared.object.Object.TheVariants.{VolRecord}
use Rattle.vx_config_parts.specs.declared.vol.Vol.{Vol}
use Rattle.vx_objects.specs.declared.config.Config.{Config}
use Rattle.vx_objects.specs.Config.{objects_of}
use Rattle.vx_copies.specs.Disks.{DiskSeen, good_mask}
use Rattle.vx_confdb.specs.Groups.{members}
use Rattle.vx_image.proofs.Members.{is_in}
use Rattle.vx_image.proofs.PlexMembers.{in_one}
use Rattle.vx_image.specs.UsedPlexes.{IsVolOf}
use Rattle.vx_group_edits.proofs.ByKind.{records_vol}
use Rattle.vx_moments.specs.Moment.{AreLater, Moment}
use Rattle.vx_moments.specs.Moment.{HasFailed as FailsAt}
use Rattle.vx_moments.specs.World.{Group}
use Rattle.vx_moments.specs.Group.{image_on}
use Rattle.vx_moments.specs.Owners.{IsDeviceOfVolume}
use Rattle.vx_stages.specs.Logged.{IsLogTouched, IsSameButLog}
use Rattle.vx_stages.specs.Touching.{FailsOn, IsCutOff, IsTouched}
use Rattle.vx_lending.specs.FormLaws.{good_disks}
use Rattle.vx_lending.specs.Pieces.{copy_pieces}
use Rattle.vx_lending.specs.Public.{lent_pieces, running_pieces, still_pieces, stuck_pieces}
use Rattle.vx_lending.specs.Taken.{AreTakenCopies, log_sectors}
use Rattle.vx_lending.specs.declared.public.Running.{Running}
use Rattle.vx_group_start.specs.Logs.{AreOn}
use Rattle.vx_group_start.specs.Refused.{IsLogCut, IsLogFailed}
use Rattle.vx_group_volumes.specs.Devices.{IsOwnDevice}
use Rattle.vx_group_volumes.proofs.Devices.{own_named}
use Rattle.vx_group_volumes.proofs.Taken.{device_own as taken_device}
use Rattle.vx_house.specs.Scene.{FaultsGoOn, HasFailed, Scene, Shelved}
use Rattle.vx_house.specs.View.{IsGroupKept, IsMoment, Keeps, at, member_in, member_of, scene}
use Rattle.vx_house.specs.declared.house.House.{House}
use Rattle.vx_house.specs.declared.house.Imported.{Imported}
use Rattle.vx_house_calls.specs.Passes.{IsOneOf, with_group}
use Rattle.vx_house_calls.proofs.Entries.{all_at_one}
use Rattle.vx_house_calls.proofs.Owners.{HasNumber, same_name}
use Rattle.vx_stage_volumes.specs.Opening.{SameButStill, good_of}
use Rattle.vx_stage_volumes.specs.Touching.{behind_of}
use Rattle.vx_stage_volumes.proofs.Absent.{one_vol}
use Rattle.vx_stage_volumes.proofs.Narrowed.{same_but_log, stays}
use Rattle.vx_stage_volumes.proofs.StillFaults.{still_cut, still_fails, still_rose}
use Rattle.vx_stage_volumes.proofs.TouchedBy.{all_still}
use Rattle.vx_stage_volumes.proofs.TouchedGroup.{disks_on, kept_now, of_disks, some}
use Rattle.vx_stage_volumes.proofs.TouchedHouse.{GroupGoesOn, numbered, touched_faults, touched_keeps}
use Rattle.vx_stage_volumes.proofs.TouchedMoments.{counts_are_later, member_there, moment_now, touched}
use Rattle.vx_stage_volumes.proofs.TouchedMoments.{n as next}
use Rattle.vx_stage_volumes.proofs.UnopenedNames.{IsNamed}
use Rattle.vx_stage_mirrors.specs.Ending.{seen_group}
use Rattle.vx_stage_mirrors.specs.Making.{IsFormNext}
use Rattle.vx_stage_mirrors.specs.LogMoments.{LogGoes}
use Rattle.vx_stage_mirrors.proofs.LogTouches.{IsLogTried, TouchesBy, opened_by, touches}

module _ {P : Type 0} {ghosts : Ghosts P} (see : P → Seen) (ends : (p : P) → EndsThere (see p)) (counts : (p : P) → AreCounts (see p)) (alike : (p q : P) → is_some (see p).told ≡ is_some (see q).told)
    (shelf : Shelved) (h : House P ghosts) (keeps : Keeps see (at shelf h)) (g : Imported P ghosts) (has : h.group ≡ Some g) (c : Config) (v : Vol) (g' : Imported P ghosts) (same : SameButStill g g') (tried : IsLogTried see c v g g') where
  kept : IsGroupKept see g
  kept = subst (λ o. IfSome o (IsGroupKept see)) has keeps.house.group

  pub t : TouchesBy see c v.name g g'
  t = touches see g kept c v g' same tried

  -- the group as it is then
  abbrev pub now : Imported P ghosts
  now = record g { public = g'.public }

  pub on : GroupGoesOn see t.pieces t.later g now
  on = record {
    base = refl;
    disks = disks_on see alike t.pieces t.later g g'.public t.touched kept;
    kept = kept_now see alike t.pieces t.later g g'.public t.touched kept;
    of_disks = of_disks see alike t.pieces t.later g g'.public t.touched kept;
    each = t.touched.called.each;
  }

  abbrev pub k : House P ghosts
  k = with_group h now

  abbrev pub old : Scene
  old = scene see (at shelf h)

  abbrev pub new : Scene
  new = scene see (at shelf k)

  -- it is kept, and no count of faults has fallen
  pub keeps_on : Keeps see (at shelf k)
  keeps_on = touched_keeps see shelf h g has t.pieces t.later now on keeps

  pub faults_on_it : FaultsGoOn old new
  faults_on_it = touched_faults see shelf h g has t.pieces t.later now on keeps

  abbrev hs : List DiskSeen
  hs = members see g.base

  -- the group, as the world has it, with that configuration
  abbrev pub gm : Group
  gm = record { config = c; good = good_mask hs; members = map member_of g.base.disks.items; sequence = g.base.sequence }

  abbrev ds : List Disk
  ds = good_disks (good_of see g) c.disks

  abbrev still : List Seen
  still = still_pieces see g.public

  abbrev still' : List Seen
  still' = still_pieces see g'.public

  lent : lent_pieces see now.public ≡ lent_pieces see g.public
  lent i = flat_map (running_pieces see) (same.running i).entries ++ flat_map (stuck_pieces see) (same.stuck i).items

  -- they lie where they did among all of the group
  pub lie_there : SameSectors (still' ++ lent_pieces see g.public) (behind_of see g'.public)
  lie_there = all_still see g g'.public (λ i. (same.running i).entries) (ap (λ (s : Vec (Running P ghosts)). s.items) same.stuck)

  -- ---- devices of the volume

  -- the disk of a number, on a device of the volume
  pub record IsOwnDisk (number : ℕ) : Type 0 where
    pub disk : DiskSeen
    pub there : IsOneOf hs disk
    pub number_is : disk.seen.device ≡ number
    pub own : IsDeviceOfVolume gm v.name disk.device

  has_number : (x : DiskSeen) → IsOneOf hs x → (number : ℕ) → x.seen.device ≡ number → HasNumber shelf.held x.device number
  has_number x one number is =
      subst (HasNumber shelf.held x.device) is
      (all_at_one (λ (y : DiskSeen). HasNumber shelf.held y.device y.seen.device) hs x
      (numbered see shelf h g has t.pieces t.later now on keeps) one)

  -- it is the one of each disk with this number
  own_name : (number : ℕ) → IsOwnDisk number → (x : DiskSeen) → IsOneOf hs x → x.seen.device ≡ number → IsDeviceOfVolume gm v.name x.device
  own_name number o x one is =
      let has_own = has_number o.disk o.there number o.number_is in
      let alone = same_name shelf.held keeps.devices.numbers o.disk.device x.device number has_own (has_number x one number is) in
      subst (IsDeviceOfVolume gm v.name) alone o.own

  -- where the count of its number rose, a disk is blamed
  pub blamed_by : (number : ℕ) (names : Word × Word) → IsNamed hs number names → Rose (faults_on number still) (faults_on number still') → HasFailed names.1 old new
  blamed_by number names x rose =
      subst (λ (d : Word). HasFailed d old new) x.device_is
      (inl (still_rose see shelf h g has t.pieces t.later now on keeps lent x.disk x.there
      (subst (λ n. Rose (faults_on n still) (faults_on n still')) (sym x.number_is) rose)))

  module _ (form_next : IsFormNext see g c v) where
    own_disk : (number : ℕ) → IsOwnDevice c v.name ds form_next.numbers number → IsOwnDisk number
    own_disk number own =
        let s = opened_by see g kept c form_next.numbers form_next.are own.lies.slot own.lies.on in
        record {
          disk = s.disk;
          there = s.there;
          number_is = sym s.number ∙ own.lies.number_is;
          own = own_named gm v.name ds form_next.numbers number own s.disk.device s.device;
        }

    -- a copy that was taken for its log is on one
    log_disk : (number : ℕ) (copies : List (List Seen)) → AreTakenCopies form_next.numbers form_next.form.logs.items (log_sectors form_next.form.shape.geometry) copies → AreOn number (copy_pieces copies) → IsOwnDisk number
    log_disk number copies taken on_it = own_disk number (taken_device c (good_of see g) v false form_next.form form_next.form_is form_next.numbers copies taken number on_it)

  -- ---- a moment

  module _ (m : Moment) (is : IsMoment see (at shelf h) m) where
    pub some_pieces : All HasSome t.pieces
    some_pieces = some see alike t.pieces t.later g g'.public t.touched kept

    -- the moment that follows
    abbrev pub n : Moment
    n = next see shelf h g has t.pieces t.later now on keeps c v.name t.disks t.numbers t.opened t.own some_pieces refl t.touched.running m is

    pub is_next : IsMoment see (at shelf k) n
    is_next = moment_now see shelf h g has t.pieces t.later now on keeps c v.name t.disks t.numbers t.opened t.own some_pieces refl t.touched.running m is

    pub comes_later : AreLater m.counts n.counts
    comes_later = counts_are_later see shelf h g has t.pieces t.later now on keeps c v.name t.disks t.numbers t.opened t.own some_pieces refl t.touched.running m is

    is_touched : IsTouched gm v.name m n
    is_touched = touched see shelf h g has t.pieces t.later now on keeps c v.name t.disks t.numbers t.opened t.own some_pieces refl t.touched.running m is

    -- nothing of the image has changed but the copies of the log
    same_image : IsSameButLog (image_on m.world.devices gm v) (image_on n.world.devices gm v)
    same_image = elim tried [
      | inl stay ↦ (stays see ends counts shelf h keeps g has g'.public keeps_on m n is is_next c v still' lie_there stay).same
      | inr log ↦ same_but_log see ends counts shelf h keeps g has g'.public keeps_on m n is is_next c v still' lie_there log.form_next.numbers log.form_next.are log.form_next.numbered log.form_next.form log.form_next.form_is true log.log
    ]

    module _ (of : IsVolOf c v) where
      -- a volume of its name is the one
      pub one_of_name : (w : Vol) → Contains c.volumes w → w.name ≡ v.name → v ≡ w
      one_of_name w there named = one_vol c v w of (in_one (objects_of c) (VolRecord w) (records_vol c w (is_in c.volumes w there))) (sym named)

      pub is_log_touched : IsLogTouched (seen_group see g) c v.name m n
      is_log_touched = record {
        touched = is_touched;
        kept = λ w there named. subst (λ (x : Vol). IsSameButLog (image_on m.world.devices gm x) (image_on n.world.devices gm x)) (one_of_name w there named) same_image;
      }

    -- ---- a device that failed, or has no power

    fails : (number : ℕ) (x : DiskSeen) → IsOneOf hs x → x.seen.device ≡ number → Rose (faults_on number still) (faults_on number still') → FailsAt m.counts n.counts x.device
    fails number x one number_is rose =
        still_fails see shelf h g has t.pieces t.later now on keeps lent x one m is
        (subst (λ d. Rose (faults_on d still) (faults_on d still')) (sym number_is) rose)

    pub failed_on : (form_next : IsFormNext see g c v) (number : ℕ) → IsLogFailed form_next.numbers form_next.form still still' number → (names : Word × Word) → IsNamed hs number names → FailsOn gm v.name m.counts n.counts names.0 names.1
    failed_on form_next number log names x =
        let o = log_disk form_next number log.copies log.are.taken log.own in
        record {
          member = member_in x.disk;
          there = member_there see shelf h g has t.pieces t.later now on keeps c v.name t.disks t.numbers t.opened t.own some_pieces refl t.touched.running m is x.disk x.there;
          device_is = x.device_is;
          disk_is = x.name_is;
          own = subst (IsDeviceOfVolume gm v.name) x.device_is (own_name number o x.disk x.there x.number_is);
          failed = subst (λ (d : Word). FailsAt m.counts n.counts d) x.device_is (fails number x.disk x.there x.number_is log.rose);
        }

    pub cut_off : (form_next : IsFormNext see g c v) → IsLogCut form_next.numbers form_next.form still still' → IsCutOff gm v.name n.counts
    cut_off form_next log =
        let o = log_disk form_next log.device log.copies log.are.taken log.own in (
          o.disk.device,
          o.own,
          still_cut see shelf h g has t.pieces t.later now on keeps lent o.disk o.there
              (subst (λ d. cut_on d still' ≡ 1) (sym o.number_is) log.cut),
        )

  -- ---- the house

  abbrev pub log_goes : IsVolOf c v → LogGoes see shelf h c v.name g now
  log_goes of = record {
    keeps = keeps_on;
    faults = faults_on_it;
    then = λ m is. n m is;
    is = λ m is. is_next m is;
    later = λ m is. comes_later m is;
    touched = λ m is. is_log_touched m is of;
  }

  -- what is so of the volume and of that group is so of the name and of the group
  pub carried : (name : Word) → v.name ≡ name → (Q : Word → Imported P ghosts → Type 0) → Q v.name now → Q name g'
  carried name named Q is = subst (λ (x : Imported P ghosts). Q name x) (sym same.group) (subst (λ (x : Word). Q x now) named is)
