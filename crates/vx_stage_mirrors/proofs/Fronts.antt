-- Each disk of a group has a device of its own.
use Rattle.std.proofs.Common.{◌≡◌, ◌∙◌, inl, inr, ℕ, ◌≤◌, List, [], ◌∷◌, sym, ap, subst, arith}
use Rattle.std.proofs.lemmas.List.Sums.{sum_by-cons}
use Rattle.vx_carve.specs.Together.{has, owners}
use Rattle.vx_copies.specs.Disks.{DiskSeen}
use Rattle.vx_copies.specs.Lists.{AllOf}
use Rattle.vx_fronts.specs.Parted.{IsFront, fronts_of}
use Rattle.vx_fronts.proofs.Parted.{has_first}
use Rattle.vx_fronts.proofs.Parted.{IsIn as IsDisk}

-- a disk's device has its first sector in some front
some_front : (hs : List DiskSeen) (h : DiskSeen) → AllOf IsFront hs → IsDisk h hs → 1 ≤ owners h.seen.device 0 (fronts_of hs)
some_front [] h fronts is = absurd is
some_front (g ∷ hs) h fronts (inl e) =
    let sum = sum_by-cons (has g.seen.device 0) g.seen (fronts_of hs) in
    let first = has_first g fronts.0 in
    subst (λ (x : DiskSeen). 1 ≤ owners x.seen.device 0 (fronts_of (g ∷ hs))) e (omega (arith, sum, first))
some_front (g ∷ hs) h fronts (inr is) =
    let sum = sum_by-cons (has h.seen.device 0) g.seen (fronts_of hs) in
    let more = some_front hs h fronts.1 is in
    omega (arith, sum, more)

-- the device of a front is none of those of the disks behind it
twice : (g : DiskSeen) (hs : List DiskSeen) (h : DiskSeen) → AllOf IsFront (g ∷ hs) → ((number : ℕ) → owners number 0 (fronts_of (g ∷ hs)) ≤ 1) → IsDisk h hs → g.seen.device ≡ h.seen.device → ⊥
twice g hs h fronts few there same =
    let sum = sum_by-cons (has h.seen.device 0) g.seen (fronts_of hs) in
    let first : has h.seen.device 0 g.seen ≡ 1 = subst (λ n. has n 0 g.seen ≡ 1) same (has_first g fronts.0) in
    let more = some_front hs h fronts.1 there in
    let le = few h.seen.device in
    omega (arith, sum, first, more, le)

-- two disks on one device are one, where no two fronts have a sector
pub one_device : (hs : List DiskSeen) (a b : DiskSeen) → AllOf IsFront hs → ((number : ℕ) → owners number 0 (fronts_of hs) ≤ 1) → IsDisk a hs → IsDisk b hs → a.seen.device ≡ b.seen.device → a ≡ b
one_device [] a b fronts few is there same = absurd is
one_device (g ∷ hs) a b fronts few (inl e) (inl f) same = sym e ∙ f
one_device (g ∷ hs) a b fronts few (inl e) (inr there) same = absurd (twice g hs b fronts few there (ap (λ (x : DiskSeen). x.seen.device) e ∙ same))
one_device (g ∷ hs) a b fronts few (inr is) (inl f) same = absurd (twice g hs a fronts few is (ap (λ (x : DiskSeen). x.seen.device) f ∙ sym same))
one_device (g ∷ hs) a b fronts few (inr is) (inr there) same =
    one_device hs a b fronts.1 (λ n. let sum = sum_by-cons (has n 0) g.seen (fronts_of hs) in let le = few n in omega (arith, sum, le)) is there same
