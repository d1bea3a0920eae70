-- The receipt of a call on a volume.
use Rattle.std.specs.Prelude.{◌≡◌, ℕ, ◌+◌, ◌*◌, ◌/◌, ◌≤◌, List, [], ◌∷◌, ◌++◌, length, Result, Ok, Err}
use Rattle.std.specs.Vec.{vec_capacity}
use Rattle.vx_life.specs.declared.Part.{Part}
use Rattle.vx_life.specs.declared.EntryKind.{EntryKind}
use Rattle.vx_core.specs.declared.stage.Phase.{Phase}
use Rattle.vx_core.specs.declared.stage.Phase.TheVariants.{Settled, Unsettled, Dead, Busy}
use Rattle.vx_volume.specs.declared.receipt.Receipt.{Receipt}
use Rattle.vx_volume.specs.Volume.{VolumeSeen, cell_at}

-- it has the memory of a call on so many blocks, and no part yet
pub record IsReserved (count : ℕ) (receipt : Receipt) : Type 0 where
  pub blocks : length receipt.blocks.items ≡ 512 * count
  pub spare : count / 32 + 2 ≤ vec_capacity receipt.parts
  pub fresh : receipt.parts.items ≡ []
  pub size : receipt.count ≡ count

-- the part that a region has drawn last
abbrev pub part_of : VolumeSeen → ℕ → Part
part_of v r = record { region = r; epoch = (cell_at v r).epoch; number = (cell_at v r).number }

-- the parts with that of a call, which a region begins unless it was dead
abbrev pub with_part : Phase → Part → List Part → List Part
with_part Dead part parts = parts
with_part Settled part parts = parts ++ part ∷ []
with_part Unsettled part parts = parts ++ part ∷ []
with_part (Busy work) part parts = parts ++ part ∷ []

-- how a call that ends so is told
abbrev pub kind_of : {T F : Type 0} → (done stopped : EntryKind) → Result T F → EntryKind
kind_of done stopped (Ok value) = done
kind_of done stopped (Err fault) = stopped
