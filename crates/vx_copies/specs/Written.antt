-- What a commit writes to each disk, sector by sector and call by call.
use Rattle.std.specs.Prelude.{◌≡◌, ◌⊎◌, ℕ, ◌+◌, ◌-◌, ◌*◌, ◌<◌, ◌≤◌, true, false, IsTrue, List, length, take, Option, Some, None, MatchOption}
use Rattle.vx_base.specs.Blocks.{Contents, written}
use Rattle.vx_base.specs.Counts.{Rose, later_count}
use Rattle.vx_mask.specs.Mask.{has}
use Rattle.vx_copies.specs.Lists.{Each, AllOf}
use Rattle.vx_copies.specs.Image.{half_start, blocks_from, sectors_for, filled, toggle_at}
use Rattle.vx_copies.specs.Disks.{DiskSeen, good_count, is_good_slot, good_mask}

-- where the disk tells what it holds, it goes on telling, and so it goes
abbrev pub BothTell : (Contents → Contents → Type 0) → Option Contents → Option Contents → Type 0
BothTell R None None = Unit {0}
BothTell R None (Some new) = ⊥
BothTell R (Some old) None = ⊥
BothTell R (Some old) (Some new) = R old new

-- the half holds the text, and zeros up to the end of its last sector
abbrev pub Holds : List ℕ → ℕ → Contents → Type 0
Holds text half contents = blocks_from (sectors_for (length text)) (half_start half) contents ≡ filled text

-- each sector of the half is as it was
abbrev pub HalfStays : ℕ → Contents → Contents → Type 0
HalfStays half old new = (k : ℕ) → half_start half ≤ k → k < half_start half + 1020 → new k ≡ old k

-- the contents with the text in both halves
abbrev pub in_both : List ℕ → Contents → Contents
in_both text old = written (half_start 1) (filled text) (written (half_start 0) (filled text) old)

-- each sector but the toggle's is as it was, or in a half the one of the text
abbrev pub OldOrText : List ℕ → Contents → Contents → Type 0
OldOrText text old new = (k : ℕ) → (k ≡ 1 → ⊥) → (new k ≡ old k) ⊎ (new k ≡ in_both text old k)

-- the toggle has a sequence of this commit and one of its masks, and names a half that holds the text
pub record IsTurned (first last : ℕ) (text : List ℕ) (Masks : ℕ → Type 0) (half : ℕ) (contents : Contents) : Type 0 where
  pub sequence : ℕ
  pub mask : ℕ
  pub from : first ≤ sequence
  pub up_to : sequence ≤ last
  pub masks : Masks mask
  pub says : toggle_at contents ≡ Some (record { sequence = sequence; half = half; length = length text; good = mask })
  pub holds : Holds text half contents

-- the toggle and the half that it names stay
pub record NotTurned (old new : DiskSeen) (c d : Contents) : Type 0 where
  pub toggle : d 1 ≡ c 1
  pub named : HalfStays old.half c d
  pub half : IsTrue new.good → new.half ≡ old.half

-- the toggle names the half that was spare, and the other one stays
pub record TurnedOnce (first last : ℕ) (text : List ℕ) (Masks : ℕ → Type 0) (half : ℕ) (c d : Contents) : Type 0 where
  pub turned : IsTurned first last text Masks (1 - half) d
  pub named : HalfStays half c d

-- after an attempt that failed on another disk the next one turned to the other half, or wrote into it
pub record TurnedAgain (first last : ℕ) (text : List ℕ) (Masks : ℕ → Type 0) (d : Contents) : Type 0 where
  pub again : first < last
  pub now : ℕ
  pub turned : IsTurned first last text Masks now d

-- the toggle did not turn, or turned once, or again
abbrev pub Turns : ℕ → ℕ → List ℕ → (ℕ → Type 0) → DiskSeen → DiskSeen → Contents → Contents → Type 0
Turns first last text Masks old new c d = NotTurned old new c d ⊎ (TurnedOnce first last text Masks old.half c d ⊎ TurnedAgain first last text Masks d)

-- the sectors that one attempt hands to a disk: those of the text, and the toggle
abbrev pub sectors_of : List ℕ → ℕ
sectors_of text = sectors_for (length text) + 1

-- what the attempts of these sequences do to a disk: to its toggle and the halves, and with which calls
pub record Touches (first last : ℕ) (text : List ℕ) (Masks : ℕ → Type 0) (old new : DiskSeen) : Type 0 where
  pub turns : BothTell (Turns first last text Masks old new) old.seen.told new.seen.told
  pub only : BothTell (OldOrText text) old.seen.told new.seen.told
  pub reads : new.seen.reads ≡ old.seen.reads
  pub writes : new.seen.writes ≤ old.seen.writes + (last + 1 - first) * sectors_of text

-- a mask of slots that were good as the call began; the count of each good disk that it lacks has risen
pub record IsMaskOf (old new : List DiskSeen) (mask : ℕ) : Type 0 where
  pub good : (slot : ℕ) → has mask slot ≡ true → is_good_slot slot old ≡ true
  pub lacks : Each (λ a b. IsTrue a.good → has mask a.slot ≡ false → Rose a.seen.faults b.seen.faults) old new

-- its count of faults has not risen
abbrev pub IsQuiet : DiskSeen → DiskSeen → Type 0
IsQuiet old new = Rose old.seen.faults new.seen.faults → ⊥

-- what a commit writes, however it ends; where no count of faults rose there was one attempt at most
pub record Recorded (first last : ℕ) (text : List ℕ) (old new : List DiskSeen) : Type 0 where
  pub touches : Each (Touches first last text (IsMaskOf old new)) old new
  pub once : Each IsQuiet old new → last ≤ first

-- the toggle has this sequence and mask, and names this half, which holds the text
pub record IsCurrent (sequence mask : ℕ) (text : List ℕ) (half : ℕ) (contents : Contents) : Type 0 where
  pub says : toggle_at contents ≡ Some (record { sequence = sequence; half = half; length = length text; good = mask })
  pub holds : Holds text half contents

-- where the disk is good, its toggle has this sequence and mask, and names the half that the disk is known by
abbrev pub CarriesIfGood : ℕ → ℕ → List ℕ → DiskSeen → Type 0
CarriesIfGood sequence mask text h = IsTrue h.good → MatchOption h.seen.told (Unit {0}) (IsCurrent sequence mask text h.half)

-- where it is good, just so many sectors were handed to it
abbrev pub WritesJust : ℕ → DiskSeen → DiskSeen → Type 0
WritesJust n old new = IsTrue new.good → new.seen.writes ≡ later_count old.seen.writes n

-- what a commit that is done leaves: a good disk among the carriers, and on each good disk the newest toggle and the text
pub record IsDone (carriers sequence : ℕ) (text : List ℕ) (new : List DiskSeen) : Type 0 where
  pub some : 0 < good_count (take carriers new)
  pub current : AllOf (CarriesIfGood sequence (good_mask new) text) new
