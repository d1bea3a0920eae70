-- A house of whose group one running volume was called: it keeps what it did, no count of faults falls, and what was counted of the
-- volume's pieces is counted of the devices.
use Rattle.std.proofs.Common.{◌≡◌, ◌∙◌, inl, inr, ℕ, ◌+◌, ◌-◌, ◌^◌, ◌||◌, min, Bool, true, false, cond, List, [], ◌∷◌, ◌++◌, map, Option, Some, refl, sym, ap, subst, arith}
use Rattle.std.specs.Prelude.{IfSome, IsTrue}
use Rattle.std.specs.BTreeMap.{BTreeMap}
use Rattle.std.specs.List.{All, list_any, sum_by}
use Rattle.std.proofs.lemmas.List.Elements.{All-head, All-tail}
use Rattle.std.proofs.lemmas.List.Sums.{sum_by-cons}
use Rattle.vx_pages.specs.declared.local_piece.LocalPiece.{Ghosts}
use Rattle.vx_base.specs.Counts.{Rose}
use Rattle.vx_base.specs.Named.{Word}
use Rattle.vx_piece.specs.Seen.{Seen}
use Rattle.vx_runs.specs.Run.{SomeCut}
use Rattle.vx_carve.specs.Together.{cut_of, cut_on, faults_on}
use Rattle.vx_copies.specs.Disks.{DiskSeen}
use Rattle.vx_copies.specs.Lists.{AllOf, AnyOf, Each}
use Rattle.vx_confdb.specs.Groups.{members}
use Rattle.vx_shelf.specs.Shelf.{Held}
use Rattle.vx_shelf.specs.Shelf.{held_as as held_of}
use Rattle.vx_fronts.specs.Fronts.{Rests, whole_disk}
use Rattle.vx_fronts.specs.Laws.{whole_disks}
use Rattle.vx_fronts.specs.Parted.{IsOfSome}
use Rattle.vx_fronts.specs.Rests.{is_of}
use Rattle.vx_fronts.proofs.Sectors.{same_number, self}
use Rattle.vx_lending.specs.Left.{held_pieces}
use Rattle.vx_lending.specs.declared.public.Running.{Running}
use Rattle.vx_house.specs.Holders.{Holder, holders, volume_holder, group_holders, group_rests, hand_holder, held_as, holder_in, whole_members, AreApart, IsTakenFrom}
use Rattle.vx_house.specs.Scene.{Shelved, Scene, faults_at, faults_in, FaultsGoOn, HasFailed}
use Rattle.vx_house.specs.View.{at, scene, IsGroupKept, Keeps}
use Rattle.vx_house.specs.declared.house.House.{House}
use Rattle.vx_house.specs.declared.house.Imported.{Imported}
use Rattle.vx_house.proofs.AllLaws.{all_back, all_front, all_unmapped, held_each}
use Rattle.vx_house.proofs.Holders.{IsLater, later_apart, later_held}
use Rattle.vx_house.proofs.LaterFaults.{later_faults, later_self}
use Rattle.vx_house.proofs.Lists.{each_append, each_mapped}
use Rattle.vx_house.proofs.Wholes.{name_whole}
use Rattle.vx_house_calls.specs.Passes.{IsCalledIn, IsDiskOf, IsOneOf, with_group}
use Rattle.vx_house_calls.proofs.Counts.{no_faults, of_kept, rose_none}
use Rattle.vx_house_calls.proofs.Entries.{all_at_one, each_at}
use Rattle.vx_house_calls.proofs.Groups.{DiskIsCalled, disks_on, kept_now, number_whole, of_disks, with_running}
use Rattle.vx_house_calls.proofs.Owners.{HasNumber}

-- ---- disks

-- the device of each disk was taken, by its number
pub whole_numbers : (held : Word → Option Held) (rests : Rests) (xs : List DiskSeen) → AllOf (λ h. IsTakenFrom held (holder_in h)) (whole_disks rests xs) →
    AllOf (λ x. HasNumber held x.device x.seen.device) xs
whole_numbers held rests [] all = tt
whole_numbers held rests (x ∷ xs) all = (
  record { device = held_of (whole_disk rests x).seen; taken = ap held (sym (name_whole (rests x.seen.device) x)) ∙ all.0.1; is = number_whole (rests x.seen.device) x },
  whole_numbers held rests xs all.1,
)

-- some disk is of the device that one of the pieces is of
pub disk_of : (hs : List DiskSeen) (ps : List Seen) (d : ℕ) → All (IsOfSome hs) ps → list_any (is_of d) ps ≡ true → AnyOf (λ h. h.seen.device ≡ d) hs
disk_of hs [] d all any = cc
disk_of hs (p ∷ ps) d all any = by (is_of d p) refl any (disk_of hs ps d (All-tail (IsOfSome hs) p ps all))
  where
    by : (b : Bool) → is_of d p ≡ b → (b || list_any (is_of d) ps) ≡ true → (list_any (is_of d) ps ≡ true → AnyOf (λ h. h.seen.device ≡ d) hs) →
        AnyOf (λ h. h.seen.device ≡ d) hs
    by true e any rest = subst (λ n. AnyOf (λ (h : DiskSeen). h.seen.device ≡ n) hs) (same_number d p.device e) (All-head (IsOfSome hs) p ps all)
    by false e any rest = rest any

pub one_disk : (hs : List DiskSeen) (d : ℕ) → AnyOf (λ h. h.seen.device ≡ d) hs → IsDiskOf hs d
one_disk [] d any = absurd any
one_disk (h ∷ hs) d (inl is) = record { disk = h; there = inl refl; number_is = is }
one_disk (h ∷ hs) d (inr any) = let r = one_disk hs d any in record { disk = r.disk; there = inr r.there; number_is = r.number_is }

-- ---- pieces that rose, or are cut

not_true : (b : Bool) (A : Type 0) → (b ≡ true → A) → (b ≡ false → ⊥) → A
not_true true A f g = f refl
not_true false A f g = absurd (g refl)

-- where the count of a device rose, one of the pieces is of it
pub rose_there : (ps qs : List Seen) (d : ℕ) → list_any (is_of d) qs ≡ list_any (is_of d) ps → Rose (faults_on d ps) (faults_on d qs) → list_any (is_of d) ps ≡ true
rose_there ps qs d same rose =
    not_true (list_any (is_of d) ps) (list_any (is_of d) ps ≡ true) (λ e. e)
    (λ none. rose_none (2 ^ 64 - 1) _ _ (no_faults d ps none) (no_faults d qs (same ∙ none)) (omega arith) rose)

-- the device of a piece that is cut
pub record IsCutOn (ps : List Seen) (d : ℕ) : Type 0 where
  pub there : list_any (is_of d) ps ≡ true
  pub cut : cut_on d ps ≡ 1

one_more : (n c s : ℕ) → s ≡ c + n → min n 1 ≡ 1 → min s 1 ≡ 1
one_more n c s e one = omega (arith, e, one)

pub cut_here : (p : Seen) (ps : List Seen) → IsTrue p.cut → IsCutOn (p ∷ ps) p.device
cut_here p ps cut = record { there = or_true (is_of p.device p) _ (self p.device); cut = by (is_of p.device p) p.cut (self p.device) cut (sum_by-cons (cut_of p.device) p ps) }
  where
    or_true : (a b : Bool) → a ≡ true → (a || b) ≡ true
    or_true true b e = refl
    or_true false b e = cc

    by : (b c : Bool) → b ≡ true → IsTrue c → sum_by (cut_of p.device) (p ∷ ps) ≡ cond b (cond c 1 0) 0 + sum_by (cut_of p.device) ps → cut_on p.device (p ∷ ps) ≡ 1
    by true true e t sum = omega (arith, sum)
    by true false e t sum = let no : ⊥ = cc in absurd no
    by false c e t sum = let no : ⊥ = cc in absurd no

pub cut_behind : (p : Seen) (ps : List Seen) (d : ℕ) → IsCutOn ps d → IsCutOn (p ∷ ps) d
cut_behind p ps d is = record { there = or_behind (is_of d p) _ is.there; cut = one_more (sum_by (cut_of d) ps) (cut_of d p) _ (sum_by-cons (cut_of d) p ps) is.cut }
  where
    or_behind : (a b : Bool) → b ≡ true → (a || b) ≡ true
    or_behind true b e = refl
    or_behind false b e = e

pub some_cut_on : (ps : List Seen) → SomeCut ps → (d : ℕ) × IsCutOn ps d
some_cut_on [] cut = absurd cut
some_cut_on (p ∷ ps) (inl here) = (p.device, cut_here p ps here)
some_cut_on (p ∷ ps) (inr there) = let r = some_cut_on ps there in (r.0, cut_behind p ps r.0 r.1)

-- where a piece of the device is cut, the device is cut among them
pub cut_piece : (ps : List Seen) (d : ℕ) → AnyOf (λ p. (p.device ≡ d) × IsTrue p.cut) ps → IsCutOn ps d
cut_piece [] d any = absurd any
cut_piece (p ∷ ps) d (inl here) = subst (IsCutOn (p ∷ ps)) here.0 (cut_here p ps here.1)
cut_piece (p ∷ ps) d (inr there) = cut_behind p ps d (cut_piece ps d there)

-- ---- the house

module _ {P : Type 0} {ghosts : Ghosts P} (see : P → Seen) (shelf : Shelved) (h : House P ghosts) (g : Imported P ghosts) (has_group : h.group ≡ Some g) (name : Word) (running : BTreeMap Word (Running P ghosts))
    (is : IsCalledIn see name g (with_running g running)) (keeps : Keeps see (at shelf h)) where
  abbrev pub now : Imported P ghosts
  now = with_running g running

  abbrev pub k : House P ghosts
  k = with_group h now

  abbrev pub old : Scene
  old = scene see (at shelf h)

  abbrev pub new : Scene
  new = scene see (at shelf k)

  abbrev pub pieces : List Seen
  pieces = held_pieces see is.before.volume

  abbrev pub pieces' : List Seen
  pieces' = held_pieces see is.after.volume

  abbrev pub hs : List DiskSeen
  hs = members see g.base

  pub kept : IsGroupKept see g
  kept = subst (λ o. IfSome o (IsGroupKept see)) has_group keeps.house.group

  pub disks : Each (DiskIsCalled pieces pieces') (whole_members see g) (whole_members see now)
  disks = disks_on see name g running is kept.whole

  abbrev pub vs : List Holder
  vs = map (volume_holder see) h.volumes.entries

  abbrev pub ts : List Holder
  ts = map (hand_holder see) h.hand.items

  pub were : holders see h ≡ vs ++ (group_holders see (Some g) ++ ts)
  were = ap (λ o. vs ++ (group_holders see o ++ ts)) has_group

  later : Each IsLater (holders see h) (holders see k)
  later = subst (λ os. Each IsLater os (holders see k)) (sym were)
      (each_append IsLater vs vs _ _ (later_self vs) (each_append IsLater (group_holders see (Some g)) (group_holders see (Some now)) ts ts
      (each_mapped (DiskIsCalled pieces pieces') IsLater holder_in (λ a b on. record { name = on.goes.device; kept = on.goes.keeps })
      (whole_members see g) (whole_members see now) disks) (later_self ts)))

  -- no count of faults falls, ..
  pub called_faults : FaultsGoOn old new
  called_faults = later_faults shelf (holders see h) (holders see k) later

  -- .. and the house keeps what it did
  pub called_keeps : Keeps see (at shelf k)
  called_keeps = record {
    devices = later_held shelf.held (holders see h) (holders see k) later keeps.devices;
    house = record { ordered = keeps.house.ordered; hand = keeps.house.hand; volumes = keeps.house.volumes; group = kept_now see name g running is kept };
  }

  -- ---- numbers

  -- what is so of all devices is so of the group's
  of_group : (Q : Holder → Type 0) → AllOf Q (holders see h) → AllOf (λ o. Q (holder_in o)) (whole_members see g)
  of_group Q all =
      all_unmapped Q holder_in (whole_members see g)
      (all_front Q (group_holders see (Some g)) ts (all_back Q vs (group_holders see (Some g) ++ ts) (subst (AllOf Q) were all)))

  pub taken : AllOf (λ o. IsTakenFrom shelf.held (holder_in o)) (whole_members see g)
  taken = of_group (IsTakenFrom shelf.held) keeps.devices.each

  pub numbered : AllOf (λ x. HasNumber shelf.held x.device x.seen.device) hs
  numbered = whole_numbers shelf.held (group_rests see g) hs taken

  -- ---- what is held under the name of a disk

  apart_now : AreApart (holders see k)
  apart_now = later_apart (holders see h) (holders see k) later keeps.devices.apart

  module _ (x : DiskSeen) (one : IsOneOf hs x) where
    abbrev pub was : DiskSeen
    was = whole_disk (group_rests see g) x

    abbrev pub becomes : DiskSeen
    becomes = whole_disk (group_rests see now) x

    pub on_disk : DiskIsCalled pieces pieces' was becomes
    on_disk = each_at (DiskIsCalled pieces pieces') (whole_disk (group_rests see g)) (whole_disk (group_rests see now)) hs x disks one

    number : was.seen.device ≡ x.seen.device
    number = number_whole (group_rests see g x.seen.device) x

    pub held_was : held_as (holders see h) x.device ≡ Some was.seen
    held_was =
        ap (held_as (holders see h)) (sym (name_whole (group_rests see g x.seen.device) x))
        ∙ all_at_one (λ y. held_as (holders see h) (whole_disk (group_rests see g) y).device ≡ Some (whole_disk (group_rests see g) y).seen) hs x
        (all_unmapped (λ o. held_as (holders see h) o.device ≡ Some o.seen) (whole_disk (group_rests see g)) hs
        (of_group (λ o. held_as (holders see h) o.name ≡ Some o.seen) (held_each (holders see h) keeps.devices.apart))) one

    pub held_now : held_as (holders see k) x.device ≡ Some becomes.seen
    held_now =
        let Q = λ (o : Holder). held_as (holders see k) o.name ≡ Some o.seen in
        ap (held_as (holders see k)) (sym (name_whole (group_rests see now x.seen.device) x))
        ∙ all_at_one (λ y. held_as (holders see k) (whole_disk (group_rests see now) y).device ≡ Some (whole_disk (group_rests see now) y).seen) hs x
        (all_unmapped (λ o. held_as (holders see k) o.device ≡ Some o.seen) (whole_disk (group_rests see now)) hs
        (all_unmapped Q holder_in (whole_members see now)
        (all_front Q (group_holders see (Some now)) ts (all_back Q vs (group_holders see (Some now) ++ ts) (held_each (holders see k) apart_now))))) one

    pub faults_were : faults_at old x.device ≡ was.seen.faults
    faults_were = ap (λ o. faults_in o (shelf.counted x.device)) held_was

    pub faults_are : faults_at new x.device ≡ becomes.seen.faults
    faults_are = ap (λ o. faults_in o (shelf.counted x.device)) held_now

    -- where the count of the volume's pieces on the device rose, that of the device did
    pub disk_rose : Rose (faults_on x.seen.device pieces) (faults_on x.seen.device pieces') → Rose (faults_at old x.device) (faults_at new x.device)
    disk_rose rose =
        subst (λ n. Rose n (faults_at new x.device)) (sym faults_were) (subst (λ n. Rose was.seen.faults n) (sym faults_are)
        (on_disk.counts.rose (subst (λ d. Rose (faults_on d pieces) (faults_on d pieces')) (sym number) rose)))

    pub disk_failed : Rose (faults_on x.seen.device pieces) (faults_on x.seen.device pieces') → HasFailed x.device old new
    disk_failed rose = inl (disk_rose rose)

    -- where one of them is cut, the device is
    pub disk_cut : cut_on x.seen.device pieces' ≡ 1 → becomes.seen.cut ≡ true
    disk_cut cut = on_disk.counts.cut (subst (λ d. cut_on d pieces' ≡ 1) (sym number) cut)

  pub same_of : (d : ℕ) → list_any (is_of d) pieces' ≡ list_any (is_of d) pieces
  same_of d = of_kept pieces pieces' d is.called.each

  -- a device of the volume's pieces is of one of the group's disks
  pub number_disk : (d : ℕ) → list_any (is_of d) pieces ≡ true → IsDiskOf hs d
  number_disk d any = one_disk hs d (disk_of hs pieces d (of_disks see name g running is kept.whole) any)

  pub rose_disk : (d : ℕ) → Rose (faults_on d pieces) (faults_on d pieces') → IsDiskOf hs d
  rose_disk d rose = number_disk d (rose_there pieces pieces' d (same_of d) rose)
