-- Why a call of a shelf did nothing: want of memory, a name that is used, or a failure that the shelf has counted.
use Rattle.std.specs.Prelude.{ℕ}
use Rattle.vx_base.specs.Counts.{Rose}
use Rattle.vx_shelf.specs.declared.shelf.ShelfFault.{ShelfFault}
use Rattle.vx_shelf.specs.declared.shelf.ShelfFault.TheVariants.{OutOfMemory, NoDisk, Held, Failed, Exists}

-- the names are not told: memory is wanting, or the shelf failed, and its count has risen
abbrev pub ListCause : ℕ → ℕ → ShelfFault → Type 0
ListCause before after OutOfMemory = Unit {0}
ListCause before after NoDisk = ⊥
ListCause before after Held = ⊥
ListCause before after Failed = Rose before after
ListCause before after Exists = ⊥

-- no device is made: memory is wanting, the name is used, or the shelf failed, and its count has risen
abbrev pub MakeCause : ℕ → ℕ → ShelfFault → Type 0
MakeCause before after OutOfMemory = Unit {0}
MakeCause before after NoDisk = ⊥
MakeCause before after Held = ⊥
MakeCause before after Failed = Rose before after
MakeCause before after Exists = Unit {0}
