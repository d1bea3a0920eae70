-- Pieces of regions and of copies, one after the other.
use Rattle.std.proofs.Common.{◌++◌, List, sym, subst, append_assoc}
use Rattle.std.proofs.lemmas.List.Sorted.{IsPermutation-append_comm}
use Rattle.vx_piece.specs.Seen.{Seen}
use Rattle.vx_carve.specs.Together.{SameSectors}
use Rattle.vx_carve.proofs.Same.{same_trans, same_moved, same_beside}
use Rattle.vx_carve.proofs.Runs.{same_after}

-- the first of two lists is put in
pub first_put : (rs cs ps qs : List Seen) → SameSectors (rs ++ ps) qs → SameSectors ((rs ++ cs) ++ ps) (cs ++ qs)
first_put rs cs ps qs put =
    same_trans _ _ _ (same_beside ps (rs ++ cs) (cs ++ rs) (same_moved _ _ (IsPermutation-append_comm rs cs)))
    (subst (λ (xs : List Seen). SameSectors xs (cs ++ qs)) (sym (append_assoc cs rs ps)) (same_after cs (rs ++ ps) qs put))

-- and then the second
pub both_put : (rs cs ps qs os : List Seen) → SameSectors (rs ++ ps) qs → SameSectors (cs ++ qs) os → SameSectors ((rs ++ cs) ++ ps) os
both_put rs cs ps qs os first second = same_trans _ _ _ (first_put rs cs ps qs first) second

-- of the first one only a part is put in
pub first_left : (rs cs ss ps qs : List Seen) → SameSectors (rs ++ ps) (ss ++ qs) → SameSectors ((rs ++ cs) ++ ps) ((ss ++ cs) ++ qs)
first_left rs cs ss ps qs put =
    same_trans _ _ _ (first_put rs cs ps (ss ++ qs) put)
    (subst (λ (xs : List Seen). SameSectors xs ((ss ++ cs) ++ qs)) (append_assoc cs ss qs) (same_beside qs (cs ++ ss) (ss ++ cs) (same_moved _ _ (IsPermutation-append_comm cs ss))))

-- the first is taken, and then the second
pub both_taken : (rs cs olds ps qs : List Seen) → SameSectors olds (rs ++ ps) → SameSectors ps (cs ++ qs) → SameSectors olds ((rs ++ cs) ++ qs)
both_taken rs cs olds ps qs first second = same_trans _ _ _ first (subst (SameSectors (rs ++ ps)) (sym (append_assoc rs cs qs)) (same_after rs ps (cs ++ qs) second))
