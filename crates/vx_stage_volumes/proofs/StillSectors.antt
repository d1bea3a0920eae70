-- The sectors of a group's good disks are those of its devices, by the numbers of its slots.
use Rattle.std.proofs.Common.{◌≡◌, ◌∙◌, ℕ, ◌+◌, true, List, Option, sym, ap}
use Rattle.vx_base.specs.Blocks.{Contents}
use Rattle.vx_base.specs.Named.{Word}
use Rattle.vx_mask.specs.Mask.{has}
use Rattle.vx_copies.specs.Disks.{DiskSeen}
use Rattle.vx_copies.specs.Lists.{AllOf}
use Rattle.vx_moments.specs.Group.{public_of, sectors_of}
use Rattle.vx_moments.specs.World.{Device, Member}
use Rattle.vx_volume_laws.specs.Contents.{AreSectorsOf}
use Rattle.vx_house.specs.Runs.{IsNumbered}
use Rattle.vx_house_calls.proofs.Entries.{all_at_one}
use Rattle.vx_stage_volumes.proofs.Stands.{sectors_at}

pub sectors_are : (devices : Word → Option Device) (hs : List DiskSeen) (ms : List Member) (good : ℕ) (numbers : List ℕ) (held : ℕ → Contents) → AllOf (λ h. (k : ℕ) → public_of (devices h.device) k ≡ held h.seen.device (2048 + k)) hs →
    ((slot : ℕ) → has good slot ≡ true → IsNumbered numbers hs ms slot) → AreSectorsOf good numbers held (sectors_of devices ms)
sectors_are devices hs ms good numbers held public numbered slot sector is =
    let n = numbered slot is in
    sectors_at devices ms slot n.disk.device n.device sector
    ∙ all_at_one (λ (h : DiskSeen). (k : ℕ) → public_of (devices h.device) k ≡ held h.seen.device (2048 + k)) hs n.disk public n.there sector
    ∙ ap (λ number. held number (2048 + sector)) (sym n.number)
