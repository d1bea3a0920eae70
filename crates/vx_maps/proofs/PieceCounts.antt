-- How many pieces the copies of a store have.
use Rattle.std.proofs.Common.{◌≡◌, ℕ, ◌+◌, List, [], ◌∷◌, length, Option, Some, None, arith}
use Rattle.std.specs.List.{sum_by}
use Rattle.std.proofs.lemmas.List.Sums.{sum_by-cons}
use Rattle.vx_piece.specs.Seen.{Seen}
use Rattle.vx_pages.specs.Sector.{SectorSeen}
use Rattle.vx_maps.specs.Copies.{copies_list}
use Rattle.vx_maps.specs.Slots.{filled}
use Rattle.vx_maps.proofs.Fills.{filled_size}

pub one_copy : (size : ℕ) (pages : List (List SectorSeen)) (first : List (Option Seen)) → sum_by (λ copy. length copy) (copies_list (filled size 0 pages 0 first) None) ≡ length first
one_copy size pages first =
    let a = filled_size size 0 pages 0 first in
    let sum = sum_by-cons (λ (copy : List Seen). length copy) (filled size 0 pages 0 first) [] in
    omega (arith, a, sum)

pub two_copies : (size : ℕ) (pages : List (List SectorSeen)) (first second : List (Option Seen)) → sum_by (λ copy. length copy) (copies_list (filled size 0 pages 0 first) (Some (filled size 1 pages 0 second))) ≡ length first + length second
two_copies size pages first second =
    let a = filled_size size 0 pages 0 first in
    let b = filled_size size 1 pages 0 second in
    let sum = sum_by-cons (λ (copy : List Seen). length copy) (filled size 0 pages 0 first) (filled size 1 pages 0 second ∷ []) in
    let rest = sum_by-cons (λ (copy : List Seen). length copy) (filled size 1 pages 0 second) [] in
    omega (arith, a, b, sum, rest)
