-- A house of whose group pieces were called: it keeps what it did, no count of faults falls, and what was counted of the pieces is counted of
-- the devices.
use Rattle.std.proofs.Common.{◌≡◌, ◌∙◌, inl, ℕ, true, List, ◌++◌, map, Some, sym, ap, subst}
use Rattle.std.specs.List.{All, list_any}
use Rattle.vx_pages.specs.declared.local_piece.LocalPiece.{Ghosts}
use Rattle.vx_base.specs.Counts.{Rose}
use Rattle.vx_piece.specs.Seen.{Seen, Keeps as KeepsSeen}
use Rattle.vx_runs.specs.Run.{EachPiece}
use Rattle.vx_carve.specs.Together.{cut_on, faults_on}
use Rattle.vx_copies.specs.Disks.{DiskSeen}
use Rattle.vx_copies.specs.Lists.{AllOf, Each}
use Rattle.vx_confdb.specs.Groups.{members}
use Rattle.vx_fronts.specs.Fronts.{whole_disk}
use Rattle.vx_fronts.specs.Parted.{IsOfSome}
use Rattle.vx_fronts.specs.Rests.{is_of}
use Rattle.vx_house.specs.Holders.{Holder, holders, volume_holder, group_holders, group_rests, hand_holder, held_as, holder_in, whole_members, AreApart, IsTakenFrom}
use Rattle.vx_house.specs.Scene.{Shelved, Scene, faults_at, faults_in, FaultsGoOn, HasFailed}
use Rattle.vx_house.specs.View.{at, scene, IsGroupKept, Keeps}
use Rattle.vx_house.specs.declared.house.House.{House}
use Rattle.vx_house.specs.declared.house.Imported.{Imported}
use Rattle.vx_house.proofs.AllLaws.{all_back, all_front, all_unmapped, held_each}
use Rattle.vx_house.proofs.Holders.{IsLater, later_apart, later_held}
use Rattle.vx_house.proofs.LaterFaults.{later_faults, later_self}
use Rattle.vx_house.proofs.Lists.{each_append, each_mapped}
use Rattle.vx_house.proofs.Wholes.{name_whole}
use Rattle.vx_house_calls.specs.Passes.{IsDiskOf, IsOneOf, with_group}
use Rattle.vx_house_calls.proofs.Counts.{of_kept}
use Rattle.vx_house_calls.proofs.Entries.{all_at_one, each_at}
use Rattle.vx_house_calls.proofs.Groups.{DiskIsCalled, number_whole}
use Rattle.vx_house_calls.proofs.Houses.{disk_of, one_disk, rose_there, whole_numbers}
use Rattle.vx_house_calls.proofs.Owners.{HasNumber}

-- the group goes on by calls on these pieces, on the same disks
pub record GroupGoesOn {P : Type 0} {ghosts : Ghosts P} (see : P → Seen) (pieces pieces' : List Seen) (old new : Imported P ghosts) : Type 0 where
  pub base : new.base ≡ old.base
  pub disks : Each (DiskIsCalled pieces pieces') (whole_members see old) (whole_members see new)
  pub kept : IsGroupKept see new
  pub of_disks : All (IsOfSome (members see old.base)) pieces
  pub each : EachPiece KeepsSeen pieces pieces'

module _ {P : Type 0} {ghosts : Ghosts P} (see : P → Seen) (shelf : Shelved) (h : House P ghosts) (g : Imported P ghosts) (has_group : h.group ≡ Some g) (pieces pieces' : List Seen) (now : Imported P ghosts)
    (on : GroupGoesOn see pieces pieces' g now) (keeps : Keeps see (at shelf h)) where
  abbrev pub k : House P ghosts
  k = with_group h now

  abbrev pub old : Scene
  old = scene see (at shelf h)

  abbrev pub new : Scene
  new = scene see (at shelf k)

  abbrev pub hs : List DiskSeen
  hs = members see g.base

  abbrev pub vs : List Holder
  vs = map (volume_holder see) h.volumes.entries

  abbrev pub ts : List Holder
  ts = map (hand_holder see) h.hand.items

  pub were : holders see h ≡ vs ++ (group_holders see (Some g) ++ ts)
  were = ap (λ o. vs ++ (group_holders see o ++ ts)) has_group

  later : Each IsLater (holders see h) (holders see k)
  later = subst (λ os. Each IsLater os (holders see k)) (sym were)
      (each_append IsLater vs vs _ _ (later_self vs) (each_append IsLater (group_holders see (Some g)) (group_holders see (Some now)) ts ts
      (each_mapped (DiskIsCalled pieces pieces') IsLater holder_in (λ a b on. record { name = on.goes.device; kept = on.goes.keeps })
      (whole_members see g) (whole_members see now) on.disks) (later_self ts)))

  -- no count of faults falls, ..
  pub touched_faults : FaultsGoOn old new
  touched_faults = later_faults shelf (holders see h) (holders see k) later

  -- .. and the house keeps what it did
  pub touched_keeps : Keeps see (at shelf k)
  touched_keeps = record {
    devices = later_held shelf.held (holders see h) (holders see k) later keeps.devices;
    house = record { ordered = keeps.house.ordered; hand = keeps.house.hand; volumes = keeps.house.volumes; group = on.kept };
  }

  -- ---- numbers

  -- what is so of all devices is so of the group's
  of_group : (Q : Holder → Type 0) → AllOf Q (holders see h) → AllOf (λ o. Q (holder_in o)) (whole_members see g)
  of_group Q all =
      all_unmapped Q holder_in (whole_members see g)
      (all_front Q (group_holders see (Some g)) ts (all_back Q vs (group_holders see (Some g) ++ ts) (subst (AllOf Q) were all)))

  pub taken : AllOf (λ o. IsTakenFrom shelf.held (holder_in o)) (whole_members see g)
  taken = of_group (IsTakenFrom shelf.held) keeps.devices.each

  pub numbered : AllOf (λ x. HasNumber shelf.held x.device x.seen.device) hs
  numbered = whole_numbers shelf.held (group_rests see g) hs taken

  -- ---- what is held under the name of a disk

  apart_now : AreApart (holders see k)
  apart_now = later_apart (holders see h) (holders see k) later keeps.devices.apart

  disks_here : Each (DiskIsCalled pieces pieces') (map (whole_disk (group_rests see g)) hs) (map (whole_disk (group_rests see now)) hs)
  disks_here = subst (λ b. Each (DiskIsCalled pieces pieces') (whole_members see g) (map (whole_disk (group_rests see now)) (members see b))) on.base on.disks

  held_all : AllOf (λ o. held_as (holders see k) (holder_in o).name ≡ Some (holder_in o).seen) (map (whole_disk (group_rests see now)) hs)
  held_all =
      let Q = λ (o : Holder). held_as (holders see k) o.name ≡ Some o.seen in
      subst (λ b. AllOf (λ o. Q (holder_in o)) (map (whole_disk (group_rests see now)) (members see b))) on.base
      (all_unmapped Q holder_in (whole_members see now)
      (all_front Q (group_holders see (Some now)) ts (all_back Q vs (group_holders see (Some now) ++ ts) (held_each (holders see k) apart_now))))

  module _ (x : DiskSeen) (one : IsOneOf hs x) where
    abbrev pub was : DiskSeen
    was = whole_disk (group_rests see g) x

    abbrev pub becomes : DiskSeen
    becomes = whole_disk (group_rests see now) x

    pub on_disk : DiskIsCalled pieces pieces' was becomes
    on_disk = each_at (DiskIsCalled pieces pieces') (whole_disk (group_rests see g)) (whole_disk (group_rests see now)) hs x disks_here one

    number : was.seen.device ≡ x.seen.device
    number = number_whole (group_rests see g x.seen.device) x

    pub held_was : held_as (holders see h) x.device ≡ Some was.seen
    held_was =
        ap (held_as (holders see h)) (sym (name_whole (group_rests see g x.seen.device) x))
        ∙ all_at_one (λ y. held_as (holders see h) (whole_disk (group_rests see g) y).device ≡ Some (whole_disk (group_rests see g) y).seen) hs x
        (all_unmapped (λ o. held_as (holders see h) o.device ≡ Some o.seen) (whole_disk (group_rests see g)) hs
        (of_group (λ o. held_as (holders see h) o.name ≡ Some o.seen) (held_each (holders see h) keeps.devices.apart))) one

    pub held_now : held_as (holders see k) x.device ≡ Some becomes.seen
    held_now =
        ap (held_as (holders see k)) (sym (name_whole (group_rests see now x.seen.device) x))
        ∙ all_at_one (λ y. held_as (holders see k) (whole_disk (group_rests see now) y).device ≡ Some (whole_disk (group_rests see now) y).seen) hs x
        (all_unmapped (λ o. held_as (holders see k) o.device ≡ Some o.seen) (whole_disk (group_rests see now)) hs held_all) one

    pub faults_were : faults_at old x.device ≡ was.seen.faults
    faults_were = ap (λ o. faults_in o (shelf.counted x.device)) held_was

    pub faults_are : faults_at new x.device ≡ becomes.seen.faults
    faults_are = ap (λ o. faults_in o (shelf.counted x.device)) held_now

    -- where the count of the pieces on the device rose, that of the device did
    pub disk_rose : Rose (faults_on x.seen.device pieces) (faults_on x.seen.device pieces') → Rose (faults_at old x.device) (faults_at new x.device)
    disk_rose rose =
        subst (λ n. Rose n (faults_at new x.device)) (sym faults_were) (subst (λ n. Rose was.seen.faults n) (sym faults_are)
        (on_disk.counts.rose (subst (λ d. Rose (faults_on d pieces) (faults_on d pieces')) (sym number) rose)))

    pub disk_failed : Rose (faults_on x.seen.device pieces) (faults_on x.seen.device pieces') → HasFailed x.device old new
    disk_failed rose = inl (disk_rose rose)

    -- where one of them is cut, the device is
    pub disk_cut : cut_on x.seen.device pieces' ≡ 1 → becomes.seen.cut ≡ true
    disk_cut cut = on_disk.counts.cut (subst (λ d. cut_on d pieces' ≡ 1) (sym number) cut)

  pub same_of : (d : ℕ) → list_any (is_of d) pieces' ≡ list_any (is_of d) pieces
  same_of d = of_kept pieces pieces' d on.each

  -- a device of the pieces is of one of the group's disks
  pub number_disk : (d : ℕ) → list_any (is_of d) pieces ≡ true → IsDiskOf hs d
  number_disk d any = one_disk hs d (disk_of hs pieces d on.of_disks any)

  pub rose_disk : (d : ℕ) → Rose (faults_on d pieces) (faults_on d pieces') → IsDiskOf hs d
  rose_disk d rose = number_disk d (rose_there pieces pieces' d (same_of d) rose)
