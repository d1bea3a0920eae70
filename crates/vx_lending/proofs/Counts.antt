-- The sectors of a run, counted one by one.
use Rattle.std.proofs.Common.{◌≡◌, ℕ, zero, suc, ◌+◌, ◌-◌, ◌<◌, ◌≤◌, ◌==◌, Bool, true, false, cond, List, [], ◌∷◌, Option, Some, None, refl, sym, ap, ◌∙◌, arith}
use Rattle.std.specs.Prelude.{nat_lt, nat_le, ◌&&◌}
use Rattle.std.proofs.lemmas.List.Sums.{sum_by-cons}
use Rattle.vx_piece.specs.Seen.{Seen}
use Rattle.vx_runs.specs.Run.{run_sectors}
use Rattle.vx_cut.specs.Same.{SectorSeen, SameRun, run_at, sector_in}
use Rattle.vx_carve.specs.Together.{has, owners}

-- the sum of the first so many
total : (ℕ → ℕ) → ℕ → ℕ
total f zero = 0
total f (suc n) = f 0 + total (λ k. f (suc k)) n

total_same : (f g : ℕ → ℕ) (n : ℕ) → ((k : ℕ) → k < n → f k ≡ g k) → total f n ≡ total g n
unfolding total
total_same f g zero same = refl
total_same f g (suc n) same = let here = same 0 (omega arith) in let rest = total_same (λ k. f (suc k)) (λ k. g (suc k)) n (λ k lt. same (suc k) (omega (arith, lt))) in omega (arith, here, rest)

total_more : (f : ℕ → ℕ) (n m : ℕ) → total f (n + m) ≡ total f n + total (λ k. f (n + k)) m
unfolding total
total_more f zero m = let e : 0 + m ≡ m = omega arith in ap (total f) e ∙ total_same f (λ k. f (0 + k)) m (λ k lt. let e : k ≡ 0 + k = omega arith in ap f e) ∙ (let v : total (λ k. f (0 + k)) m ≡ 0 + total (λ k. f (0 + k)) m = omega arith in v)
total_more f (suc n) m =
    let e : suc n + m ≡ suc (n + m) = omega arith in
    let rest = total_more (λ k. f (suc k)) n m in
    let same = total_same (λ k. f (suc (n + k))) (λ k. f (suc n + k)) m (λ k lt. let e : suc (n + k) ≡ suc n + k = omega arith in ap f e) in
    ap (total f) e ∙ (omega (arith, rest, same))

-- 1 where it is the sector, else 0
hit : ℕ → ℕ → Option SectorSeen → ℕ
hit device sector None = 0
hit device sector (Some x) = cond (x.device == device && x.place == sector) 1 0

one_more : (b : Bool) (start n s : ℕ) → cond (b && (start + 0) == s) 1 0 + cond (b && nat_le (start + 1) s && nat_lt (s - (start + 1)) n) 1 0 ≡ cond (b && nat_le start s && nat_lt (s - start) (suc n)) 1 0
one_more false start n s = refl
one_more true start n s = grind arith

none_yet : (b : Bool) (start s : ℕ) → cond (b && nat_le start s && nat_lt (s - start) zero) (suc zero) zero ≡ zero
none_yet false start s = refl
none_yet true start s = grind arith

hits_in : (b : Bool) (start n s : ℕ) → total (λ k. cond (b && (start + k) == s) 1 0) n ≡ cond (b && nat_le start s && nat_lt (s - start) n) 1 0
unfolding total
hits_in b start zero s = sym (none_yet b start s)
hits_in b start (suc n) s =
    let rest = total_same (λ k. cond (b && (start + suc k) == s) 1 0) (λ k. cond (b && (start + 1 + k) == s) 1 0) n (λ k lt. let e : start + suc k ≡ start + 1 + k = omega arith in ap (λ i. cond (b && i == s) 1 0) e) in
    let in' = hits_in b (start + 1) n s in
    let sum = one_more b start n s in
    omega (arith, rest, in', sum)

lt_is : (k n : ℕ) → k < n → nat_lt k n ≡ true
lt_is k n lt = grind (arith, lt)

ge_is : (k n : ℕ) → n ≤ k → nat_lt k n ≡ false
ge_is k n le = grind (arith, le)

pub in_first : (p : Seen) (ps : List Seen) (k : ℕ) → k < p.sectors → run_at (p ∷ ps) k ≡ Some (sector_in p k)
in_first p ps k lt = ap (λ b. cond b (Some (sector_in p k)) (run_at ps (k - p.sectors))) (lt_is k p.sectors lt)

pub behind_first : (p : Seen) (ps : List Seen) (k : ℕ) → run_at (p ∷ ps) (p.sectors + k) ≡ run_at ps k
behind_first p ps k =
    let e : p.sectors + k - p.sectors ≡ k = omega arith in
    ap (λ b. cond b (Some (sector_in p (p.sectors + k))) (run_at ps (p.sectors + k - p.sectors))) (ge_is (p.sectors + k) p.sectors (omega arith)) ∙ ap (run_at ps) e

counted_in : (device sector : ℕ) (ps : List Seen) → owners device sector ps ≡ total (λ k. hit device sector (run_at ps k)) (run_sectors ps)
unfolding total hit
counted_in device sector [] = refl
counted_in device sector (p ∷ ps) =
    let first = total_same (λ k. hit device sector (run_at (p ∷ ps) k)) (λ k. cond (p.device == device && (p.start + k) == sector) 1 0) p.sectors (λ k lt. ap (hit device sector) (in_first p ps k lt)) in
    let own = hits_in (p.device == device) p.start p.sectors sector in
    let rest = total_same (λ k. hit device sector (run_at (p ∷ ps) (p.sectors + k))) (λ k. hit device sector (run_at ps k)) (run_sectors ps) (λ k lt. ap (hit device sector) (behind_first p ps k)) in
    let all = total_more (λ k. hit device sector (run_at (p ∷ ps) k)) p.sectors (run_sectors ps) in
    let others = counted_in device sector ps in
    let sum = sum_by-cons (has device sector) p ps in
    omega (arith, first, own, rest, all, others, sum)

-- the same run has each sector as often
pub same_owners : (old new : List Seen) → SameRun old new → (device sector : ℕ) → owners device sector new ≡ owners device sector old
same_owners old new same device sector =
    counted_in device sector new ∙ ap (total (λ k. hit device sector (run_at new k))) same.sectors ∙ total_same (λ k. hit device sector (run_at new k)) (λ k. hit device sector (run_at old k)) (run_sectors old) (λ k lt. ap (hit device sector) (same.each k))
    ∙ sym (counted_in device sector old)
