-- Passes up to one that fails.
use Rattle.std.proofs.Common.{◌≡◌, ℕ, ◌<◌, Result, Err, refl, subst}
use Rattle.vx_volume.specs.declared.fault.IoFault.{IoFault}
use Rattle.vx_volume.specs.declared.fault.IoFault.TheVariants.{Range, Fault, PowerLost}
use Rattle.vx_volume.specs.Calls.{IsNoRange, io_stop}
use Rattle.vx_volume.specs.Loop.{AreDone}
use Rattle.vx_volume.specs.Volume.{VolumeSeen}
use Rattle.vx_group_start.specs.Copying.{AreCopied, CopiesMap}

stopped : (mask n : ℕ) (old mid new : VolumeSeen) (fault : IoFault) → n < 64 → AreDone (CopiesMap mask) n old mid → CopiesMap mask n (io_stop {T = Unit {0}} (Err fault)) mid new → IsNoRange {T = Unit {0}} (Err fault) → AreCopied {T = ℕ} mask old new (Err fault)
stopped mask n old mid new Range lt done copies plain = absurd plain
stopped mask n old mid new (Fault place) lt done copies plain = record { maps = 64; all = refl; made = (n, mid, lt, done, copies); plain = tt }
stopped mask n old mid new PowerLost lt done copies plain = record { maps = 64; all = refl; made = (n, mid, lt, done, copies); plain = tt }

pub copies_stopped : (mask n : ℕ) (old mid new : VolumeSeen) (r : Result (Unit {0}) IoFault) (fault : IoFault) → r ≡ Err fault → n < 64 → AreDone (CopiesMap mask) n old mid → CopiesMap mask n (io_stop r) mid new → IsNoRange r → AreCopied {T = ℕ} mask old new (Err fault)
copies_stopped mask n old mid new r fault is lt done copies plain =
    stopped mask n old mid new fault lt done (subst (λ (x : Result (Unit {0}) IoFault). CopiesMap mask n (io_stop x) mid new) is copies) (subst (λ (x : Result (Unit {0}) IoFault). IsNoRange x) is plain)
