-- Calls on pages keep how many copies their sectors have.
use Rattle.std.proofs.Common.{inl, inr, ℕ, ◌<◌, sym, ◌∙◌, arith, List, length, Result, Ok, Err}
use Rattle.vx_marks.specs.declared.marker.MarkFault.{MarkFault}
use Rattle.vx_pages.specs.Sector.{SectorSeen, KeepsSector}
use Rattle.vx_pages.specs.Page.{EachSector, IsFirmed, IsMarkedIn, IsUnmarkedIn}
use Rattle.vx_pages.specs.Page.{ArePairedAlike}

pub paired_each : (fact : ℕ → SectorSeen → SectorSeen → Type 0) (xs ys : List SectorSeen) → ((m : ℕ) (a b : SectorSeen) → fact m a b → KeepsSector a b) → EachSector fact xs ys → ArePairedAlike xs → ArePairedAlike ys
paired_each fact xs ys keeps each pair m lt =
    let size = each.size in
    let some : 0 < length xs = omega (arith, size, lt) in
    (keeps m _ _ (each.each m (omega (arith, size, lt)))).pair ∙ pair m (omega (arith, size, lt)) ∙ sym (keeps 0 _ _ (each.each 0 some)).pair

pub firm_paired : (xs ys : List SectorSeen) (result : Result (Unit {0}) MarkFault) → IsFirmed result xs ys → ArePairedAlike xs → ArePairedAlike ys
firm_paired xs ys (Ok u) each pair = paired_each _ xs ys (λ m a b h. h.kept) each pair
firm_paired xs ys (Err fault) each pair = paired_each _ xs ys (λ m a b h. h.kept) each pair

pub mark_paired : (bits region : ℕ) (xs ys : List SectorSeen) (result : Result (Unit {0}) MarkFault) → IsMarkedIn bits region result xs ys → ArePairedAlike xs → ArePairedAlike ys
mark_paired bits region xs ys (Ok u) each pair = paired_each _ xs ys (λ m a b h. h.kept) each pair
mark_paired bits region xs ys (Err fault) each pair = elim each [ inl e ↦ paired_each _ xs ys (λ m a b h. h.kept) e pair | inr e ↦ paired_each _ xs ys (λ m a b h. h.kept) e pair ]

pub unmark_paired : (bits region : ℕ) (xs ys : List SectorSeen) (result : Result (Unit {0}) MarkFault) → IsUnmarkedIn bits region result xs ys → ArePairedAlike xs → ArePairedAlike ys
unmark_paired bits region xs ys (Ok u) each pair = paired_each _ xs ys (λ m a b h. h.kept) each pair
unmark_paired bits region xs ys (Err fault) each pair = elim each [ inl e ↦ paired_each _ xs ys (λ m a b h. h.kept) e pair | inr e ↦ paired_each _ xs ys (λ m a b h. h.kept) e pair ]
