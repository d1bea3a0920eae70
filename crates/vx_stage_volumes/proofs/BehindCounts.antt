-- What rises among the pieces that lie still rises on their device, and where one of them is cut, their device is.
use Rattle.std.proofs.Common.{◌≡◌, ◌∙◌, ℕ, ◌+◌, ◌-◌, ◌^◌, ◌<◌, ◌≤◌, ◌==◌, ◌||◌, min, Bool, true, false, cond, List, [], ◌++◌, Some, None, refl, ap, arith}
use Rattle.std.specs.List.{list_any, sum_by}
use Rattle.std.proofs.lemmas.List.{append-nil}
use Rattle.std.proofs.lemmas.List.Sums.{sum_by-append}
use Rattle.vx_base.specs.Counts.{Rose}
use Rattle.vx_piece.specs.Seen.{Seen}
use Rattle.vx_carve.specs.Together.{cut_of, cut_on, faults_of, faults_on}
use Rattle.vx_copies.specs.Disks.{DiskSeen}
use Rattle.vx_fronts.specs.Fronts.{with_device, whole_disk}
use Rattle.vx_fronts.specs.Rests.{is_of, rest_in, rests_of}
use Rattle.vx_house_calls.proofs.Counts.{no_cuts, no_faults}

-- ---- counts that stand still at their type's end

rose_on : (m a b c f s t : ℕ) → s ≡ a + c → t ≡ b + c → min (min a m + 1) m ≤ min b m → min (min (f + min s m) m + 1) m ≤ min (f + min t m) m
rose_on m a b c f s t e g rose = omega (arith, e, g, rose)

rose_first : (m a b c f t : ℕ) → a ≡ 0 → t ≡ b + c → 0 < m → min (min a m + 1) m ≤ min b m → min (f + 1) m ≤ min (f + min t m) m
rose_first m a b c f t e g some rose = omega (arith, e, g, some, rose)

rose_gone : (m a b : ℕ) → b ≡ 0 → 0 < m → min (min a m + 1) m ≤ min b m → ⊥
rose_gone m a b e some rose = omega (arith, e, some, rose)

module _ (h : DiskSeen) (L : List Seen) where
  abbrev d : ℕ
  d = h.seen.device

  sum_parts : (f : Seen → ℕ) (S : List Seen) → sum_by f ((S ++ L) ++ []) ≡ sum_by f S + sum_by f L
  sum_parts f S = ap (sum_by f) (append-nil (S ++ L)) ∙ sum_by-append f S L

  none_still : (f : Seen → ℕ) (S : List Seen) → sum_by f ((S ++ L) ++ []) ≡ 0 → sum_by f S ≡ 0
  none_still f S none = let s = sum_parts f S in omega (arith, s, none)

  module _ (S S' : List Seen) where
    -- none rose where there is none of the device
    gone : Rose (faults_on d S) (faults_on d S') → list_any (is_of d) ((S' ++ L) ++ []) ≡ false → ⊥
    gone rose none =
        rose_gone (2 ^ 64 - 1) (sum_by (faults_of d) S) (sum_by (faults_of d) S')
        (none_still (faults_of d) S' (no_faults d ((S' ++ L) ++ []) none)) (omega arith) rose

    rose_by : Rose (faults_on d S) (faults_on d S') → (b b' : Bool) → list_any (is_of d) ((S ++ L) ++ []) ≡ b → list_any (is_of d) ((S' ++ L) ++ []) ≡ b' →
        Rose (with_device (cond b (Some (rest_in (S ++ L) [] d)) None) h).seen.faults (with_device (cond b' (Some (rest_in (S' ++ L) [] d)) None) h).seen.faults
    rose_by rose true true there there' =
        rose_on (2 ^ 64 - 1) (sum_by (faults_of d) S) (sum_by (faults_of d) S') (sum_by (faults_of d) L) h.seen.faults _ _
        (sum_parts (faults_of d) S) (sum_parts (faults_of d) S') rose
    rose_by rose false true none there' =
        rose_first (2 ^ 64 - 1) (sum_by (faults_of d) S) (sum_by (faults_of d) S') (sum_by (faults_of d) L) h.seen.faults _
        (none_still (faults_of d) S (no_faults d ((S ++ L) ++ []) none)) (sum_parts (faults_of d) S') (omega arith) rose
    rose_by rose true false there none = absurd (gone rose none)
    rose_by rose false false there none = absurd (gone rose none)

    pub rose_whole : Rose (faults_on d S) (faults_on d S') → Rose (whole_disk (rests_of (S ++ L) []) h).seen.faults (whole_disk (rests_of (S' ++ L) []) h).seen.faults
    rose_whole rose = rose_by rose (list_any (is_of d) ((S ++ L) ++ [])) (list_any (is_of d) ((S' ++ L) ++ [])) refl refl

  both_true : (a b : Bool) → b ≡ true → (a || b) ≡ true
  both_true true b e = refl
  both_true false b e = e

  some_cut : (n c s : ℕ) → s ≡ n + c → min n 1 ≡ 1 → (min s 1 == 1) ≡ true
  some_cut n c s e one = grind (arith, e, one)

  cut_by : (S : List Seen) → cut_on d S ≡ 1 → (b : Bool) → list_any (is_of d) ((S ++ L) ++ []) ≡ b → (with_device (cond b (Some (rest_in (S ++ L) [] d)) None) h).seen.cut ≡ true
  cut_by S one true there = both_true h.seen.cut _ (some_cut (sum_by (cut_of d) S) (sum_by (cut_of d) L) _ (sum_parts (cut_of d) S) one)
  cut_by S one false none = let zero_is = none_still (cut_of d) S (no_cuts d ((S ++ L) ++ []) none) in absurd (omega (arith, zero_is, one))

  pub cut_whole : (S : List Seen) → cut_on d S ≡ 1 → (whole_disk (rests_of (S ++ L) []) h).seen.cut ≡ true
  cut_whole S one = cut_by S one (list_any (is_of d) ((S ++ L) ++ [])) refl
