-- What becomes of the rests of devices, and of their parts, where the pieces behind are moved, lent, put back and called.
use Rattle.std.specs.Prelude.{◌≡◌, ℕ, ◌-◌, ◌≤◌, ◌≢◌, if◌then◌else◌, List, [], ◌∷◌, ◌++◌}
use Rattle.std.specs.List.{list_any, All}
use Rattle.vx_piece.specs.Seen.{Seen, Keeps}
use Rattle.vx_carve.specs.Together.{AreOnce, HasSome, IsFree, SameSectors, covers, cut_on, faults_on, owners}
use Rattle.vx_copies.specs.Disks.{DiskSeen, CommitGoes}
use Rattle.vx_copies.specs.Lists.{AllOf, Each}
use Rattle.vx_confdb.specs.Prepare.{Tells}
use Rattle.vx_fronts.specs.Fronts.{HasPrivate, whole_disk}
use Rattle.vx_fronts.specs.Rests.{AllTell, bare, rests_of, sector_in}
use Rattle.vx_fronts.specs.Parted.{AreParted, IsFront, IsWhole, fronts_of}

-- ---- pieces that lie still

-- Where they are moved, cut and joined, the rests are the same but for what they hold, ..
abbrev pub RestsAreCounted : Type 0
RestsAreCounted =
    (still still' lent : List Seen) → All HasSome (still ++ lent) → SameSectors still still' →
    (device : ℕ) → bare (rests_of still' lent device) ≡ bare (rests_of still lent device)

-- .. and where all tell, they are the same.
abbrev pub RestsStay : Type 0
RestsStay =
    (still still' lent : List Seen) → All HasSome (still ++ lent) → AreOnce still → AllTell still → SameSectors still still' →
    rests_of still' lent ≡ rests_of still lent

-- Pieces that tell do so still.
abbrev pub PiecesTellStill : Type 0
PiecesTellStill = (ps qs : List Seen) → AreOnce ps → AllTell ps → SameSectors ps qs → AllTell qs

-- ---- pieces that are lent

-- Where pieces are taken out and lent, the rests are the same but for what they hold, ..
abbrev pub LentAreCounted : Type 0
LentAreCounted =
    (still taken still' lent : List Seen) → All HasSome (still ++ lent) → SameSectors still (taken ++ still') →
    (device : ℕ) → bare (rests_of still' (taken ++ lent) device) ≡ bare (rests_of still lent device)

-- .. and where all tell, they hold nothing at each sector that was taken, and the others are as before.
abbrev pub LentAreEmpty : Type 0
LentAreEmpty =
    (still taken still' : List Seen) → AreOnce still → AllTell still → SameSectors still (taken ++ still') →
    (device k : ℕ) → sector_in still' device k ≡ (if list_any (covers device k) taken then [] else sector_in still device k)

-- Where pieces that were lent are put back, the rests are the same but for what they hold, ..
abbrev pub BackAreCounted : Type 0
BackAreCounted =
    (still back still' lent : List Seen) → All HasSome (still ++ (back ++ lent)) → SameSectors (back ++ still) still' →
    (device : ℕ) → bare (rests_of still' lent device) ≡ bare (rests_of still (back ++ lent) device)

-- .. and where all tell, they hold at each sector of these what it holds, and the others are as before.
abbrev pub BackAreHeld : Type 0
BackAreHeld =
    (still back still' : List Seen) → AreOnce (back ++ still) → AllTell (back ++ still) → SameSectors (back ++ still) still' →
    (device k : ℕ) → sector_in still' device k ≡ (if list_any (covers device k) back then sector_in back device k else sector_in still device k)

-- ---- whole devices

-- With no pieces behind, a disk is there whole.
abbrev pub NoneIsBehind : Type 0
NoneIsBehind = (h : DiskSeen) → whole_disk (rests_of [] []) h ≡ h

-- Calls were made on these pieces: each sector is in as many of them as before, no count of faults falls, and no power comes back.
pub record WereCalled (old new : List Seen) : Type 0 where
  pub sectors : (device sector : ℕ) → owners device sector new ≡ owners device sector old
  pub faults : (device : ℕ) → faults_on device old ≤ faults_on device new
  pub cut : (device : ℕ) → cut_on device old ≤ cut_on device new

-- Where calls were made on a front and on the pieces behind, no count of the whole device's faults falls, and its power stays gone.
abbrev pub DevicesWereCalled : Type 0
DevicesWereCalled =
    (still lent still' lent' : List Seen) (old new : DiskSeen) → All HasSome (still ++ lent) → All HasSome (still' ++ lent') → WereCalled (still ++ lent) (still' ++ lent') →
    new.sectors ≡ old.sectors → Keeps old.seen new.seen →
    Keeps (whole_disk (rests_of still lent) old).seen (whole_disk (rests_of still' lent') new).seen

-- ---- disks that are parted

-- Disks that are there whole, on devices that differ, are parted with nothing behind.
abbrev pub WholeArePartedAlone : Type 0
WholeArePartedAlone = (disks : List DiskSeen) → AllOf IsFront disks → AllOf IsWhole disks → AreOnce (fronts_of disks) → AreParted disks []

-- They have private regions, no sector is in two pieces, and each behind a front is in a piece behind it.
abbrev pub PartedHavePrivate : Type 0
PartedHavePrivate = (disks : List DiskSeen) (behind : List Seen) → AreParted disks behind → AllOf HasPrivate disks

abbrev pub PartedAreOnce : Type 0
PartedAreOnce = (disks : List DiskSeen) (behind : List Seen) → AreParted disks behind → AreOnce (fronts_of disks ++ behind)

abbrev pub PartedAreFree : Type 0
PartedAreFree =
    (disks : List DiskSeen) (behind : List Seen) → AreParted disks behind →
    AllOf (λ h. IsFree h.seen.device h.seen.sectors (h.sectors - h.seen.sectors) behind) disks

-- They stay parted where the pieces behind are moved, cut and joined, ..
abbrev pub PartedStay : Type 0
PartedStay = (disks : List DiskSeen) (behind behind' : List Seen) → SameSectors behind behind' → AreParted disks behind → AreParted disks behind'

-- .. or called, as long as each has sectors and tells as before, ..
abbrev pub PartedWereCalled : Type 0
PartedWereCalled =
    (disks : List DiskSeen) (behind behind' : List Seen) → ((device sector : ℕ) → owners device sector behind' ≡ owners device sector behind) →
    All HasSome behind' → (AllTell behind → AllTell behind') → AreParted disks behind → AreParted disks behind'

-- .. through a commit to the fronts, ..
abbrev pub PartedWereCommitted : Type 0
PartedWereCommitted =
    (first last : ℕ) (text : List ℕ) (old new : List DiskSeen) (behind : List Seen) → Each (CommitGoes first last text) old new → AreParted old behind → AreParted new behind

-- .. and where pieces are taken out and lent, or put back.
abbrev pub LentStayParted : Type 0
LentStayParted =
    (disks : List DiskSeen) (still taken still' lent : List Seen) → SameSectors still (taken ++ still') → AreParted disks (still ++ lent) → AreParted disks (still' ++ (taken ++ lent))

abbrev pub BackStayParted : Type 0
BackStayParted =
    (disks : List DiskSeen) (still back still' lent : List Seen) → SameSectors (back ++ still) still' → AreParted disks (still ++ (back ++ lent)) → AreParted disks (still' ++ lent)

-- ---- a disk that joins

-- the disk is there whole, and none of these is of its device
pub record IsApart (disks : List DiskSeen) (h : DiskSeen) : Type 0 where
  pub front : IsFront h
  pub whole : IsWhole h
  pub other : AllOf (λ g. g.seen.device ≢ h.seen.device) disks

-- With it the disks are parted as before, ..
abbrev pub JoinedStayParted : Type 0
JoinedStayParted = (disks : List DiskSeen) (behind : List Seen) (h : DiskSeen) → IsApart disks h → AreParted disks behind → AreParted (disks ++ h ∷ []) behind

-- .. and it is there whole.
abbrev pub JoinedIsWhole : Type 0
JoinedIsWhole = (disks : List DiskSeen) (still lent : List Seen) (h : DiskSeen) → IsApart disks h → AreParted disks (still ++ lent) → whole_disk (rests_of still lent) h ≡ h

-- ---- small steps

-- Disks that tell have fronts that do, ..
abbrev pub DisksTell : Type 0
DisksTell = (disks : List DiskSeen) → AllOf Tells disks → AllTell (fronts_of disks)

-- .. and parts of pieces that have no sector twice have none twice.
abbrev pub PartsAreOnce : Type 0
PartsAreOnce = (ps qs : List Seen) → AreOnce (ps ++ qs) → AreOnce ps × AreOnce qs
