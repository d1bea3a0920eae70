-- What it is to write loose marks again.
use Rattle.std.specs.Prelude.{ℕ, Result, Ok, Err}
use Rattle.vx_mask.specs.Marks.{Marks, AllLose, MayTidy, SomeLoseLoose}
use Rattle.vx_marks.specs.declared.marker.MarkFault.{MarkFault}

-- on a page: at Ok every copy has lost the loose marks of all regions, and else each a part of them
abbrev pub FirmsAll : {T : Type 0} → Result T MarkFault → (ℕ → Marks) → (ℕ → Marks) → Type 0
FirmsAll (Ok u) old new = (region : ℕ) → AllLose 0 (old region) (new region)
FirmsAll (Err fault) old new = (region : ℕ) → SomeLoseLoose 0 (old region) (new region)

-- on a store: at Ok the same, and else some pages are done and of others a part
abbrev pub FirmsStore : {T : Type 0} → Result T MarkFault → (ℕ → Marks) → (ℕ → Marks) → Type 0
FirmsStore (Ok u) old new = (region : ℕ) → AllLose 0 (old region) (new region)
FirmsStore (Err fault) old new = (region : ℕ) → MayTidy (old region) (new region)
