-- That calls on a page keep it in its place, and its pieces.
use Rattle.std.proofs.Common.{inl, inr, ℕ, List, Result, Ok, Err}
use Rattle.vx_marks.specs.declared.marker.MarkFault.{MarkFault}
use Rattle.vx_pages.specs.Page.{EachSector, IsFirmed, IsMarkedIn, IsUnmarkedIn}
use Rattle.vx_pages.specs.Pages.{RowGoes}
use Rattle.vx_pages.specs.Sector.{KeepsPiece, KeepsSector, SectorSeen}

pub goes_each : (fact : ℕ → SectorSeen → SectorSeen → Type 0) (xs ys : List SectorSeen) → ((m : ℕ) (a b : SectorSeen) → fact m a b → KeepsSector a b) → EachSector fact xs ys → RowGoes KeepsPiece xs ys
goes_each fact xs ys keeps each = record { size = each.size; each = λ m lt. let k = keeps m _ _ (each.each m lt) in record { pair = k.pair; each = k.each } }

pub firm_goes : (xs ys : List SectorSeen) (result : Result (Unit {0}) MarkFault) → IsFirmed result xs ys → RowGoes KeepsPiece xs ys
firm_goes xs ys (Ok u) each = goes_each _ xs ys (λ m a b h. h.kept) each
firm_goes xs ys (Err fault) each = goes_each _ xs ys (λ m a b h. h.kept) each

pub mark_goes : (bits region : ℕ) (xs ys : List SectorSeen) (result : Result (Unit {0}) MarkFault) → IsMarkedIn bits region result xs ys → RowGoes KeepsPiece xs ys
mark_goes bits region xs ys (Ok u) each = goes_each _ xs ys (λ m a b h. h.kept) each
mark_goes bits region xs ys (Err fault) each = elim each [ inl e ↦ goes_each _ xs ys (λ m a b h. h.kept) e | inr e ↦ goes_each _ xs ys (λ m a b h. h.kept) e ]

pub unmark_goes : (bits region : ℕ) (xs ys : List SectorSeen) (result : Result (Unit {0}) MarkFault) → IsUnmarkedIn bits region result xs ys → RowGoes KeepsPiece xs ys
unmark_goes bits region xs ys (Ok u) each = goes_each _ xs ys (λ m a b h. h.kept) each
unmark_goes bits region xs ys (Err fault) each = elim each [ inl e ↦ goes_each _ xs ys (λ m a b h. h.kept) e | inr e ↦ goes_each _ xs ys (λ m a b h. h.kept) e ]
