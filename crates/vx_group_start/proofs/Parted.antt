-- The plexes and logs of volumes lie in the pieces behind the fronts.
use Rattle.std.proofs.Common.{◌≡◌, inl, inr, ℕ, ◌+◌, ◌-◌, ◌<◌, List, [], ◌∷◌, length, sym, subst, arith}
use Rattle.std.specs.Prelude.{slice_index}
use Rattle.std.proofs.lemmas.List.Elements.{All-weaker}
use Rattle.vx_piece.specs.Seen.{Seen}
use Rattle.vx_carve.specs.Together.{IsFree, owners}
use Rattle.vx_carve.specs.Strips.{IsOpenRun}
use Rattle.vx_config_parts.specs.declared.disk.Disk.{Disk}
use Rattle.vx_copies.specs.Disks.{DiskSeen}
use Rattle.vx_copies.specs.Lists.{AllOf, AnyOf}
use Rattle.vx_fronts.specs.Parted.{IsCutShort, IsFront, fronts_of}
use Rattle.vx_fronts.proofs.Parted.{free_parted, parted_once}
use Rattle.vx_fronts.proofs.Joined.{parts_once}
use Rattle.vx_image.specs.Room.{public_of}
use Rattle.vx_lending.specs.FormLaws.{good_disks}
use Rattle.vx_lending.proofs.Places.{form_free}
use Rattle.vx_group_start.specs.GroupDisks.{BehindAreOnce, GroupDisksAreNumbered, IsDiskOn, VolumesAreFree}

has_slot : (numbers : List ℕ) (d : Disk) (hs : List DiskSeen) → AnyOf (IsDiskOn numbers d) hs → d.slot < length numbers
has_slot numbers d [] any = absurd any
has_slot numbers d (h ∷ hs) (inl on) = on.slot
has_slot numbers d (h ∷ hs) (inr any) = has_slot numbers d hs any

pub disks_numbered : GroupDisksAreNumbered
disks_numbered numbers hs good disks are = All-weaker (λ (d : Disk). AnyOf (IsDiskOn numbers d) hs) (λ (d : Disk). d.slot < length numbers) (λ d any. has_slot numbers d hs any) (good_disks good disks) are

pub behind_once : BehindAreOnce
behind_once hs behind parted = (parts_once (fronts_of hs) behind (parted_once hs behind parted)).1

-- each sector of a public region is in one of the pieces
open_on : (numbers : List ℕ) (d : Disk) (h : DiskSeen) (behind : List Seen) → IsFront h → IsCutShort h → IsDiskOn numbers d h → IsFree h.seen.device h.seen.sectors (h.sectors - h.seen.sectors) behind → IsFree (slice_index numbers d.slot) (2048 + 0) d.publen behind
open_on numbers d h behind front short on free k below =
    let private = front.private in
    let room = on.room in
    let one = free k (omega (arith, private, short, room, below)) in
    let at : h.seen.sectors + k ≡ 2048 + 0 + k = omega (arith, private, short) in
    subst (λ device. owners device (2048 + 0 + k) behind ≡ 1) (sym on.number) (subst (λ s. owners h.seen.device s behind ≡ 1) at one)

open_in : (numbers : List ℕ) (d : Disk) (hs : List DiskSeen) (behind : List Seen) → AllOf IsFront hs → AllOf IsCutShort hs → AllOf (λ h. IsFree h.seen.device h.seen.sectors (h.sectors - h.seen.sectors) behind) hs → AnyOf (IsDiskOn numbers d) hs → IsOpenRun numbers behind (public_of d)
open_in numbers d [] behind fronts short free any = absurd any
open_in numbers d (h ∷ hs) behind fronts short free (inl on) = (on.slot, open_on numbers d h behind fronts.0 short.0 on free.0)
open_in numbers d (h ∷ hs) behind fronts short free (inr any) = open_in numbers d hs behind fronts.1 short.1 free.1 any

pub volumes_free : VolumesAreFree
volumes_free c good v fresh form is numbers hs behind parted short are =
    form_free c good v fresh form is numbers behind
    (All-weaker (λ (d : Disk). AnyOf (IsDiskOn numbers d) hs) (λ (d : Disk). IsOpenRun numbers behind (public_of d)) (λ d any. open_in numbers d hs behind parted.fronts short (free_parted hs behind parted) any) (good_disks good c.disks) are)
