-- What becomes of the counts of whole devices as some of the pieces behind their fronts are called.
use Rattle.std.proofs.Common.{◌≡◌, ◌∙◌, ℕ, ◌+◌, ◌-◌, ◌^◌, ◌==◌, ◌<◌, ◌≤◌, ◌||◌, min, Bool, true, false, cond, List, [], ◌∷◌, ◌++◌, Some, None, refl, ap, arith}
use Rattle.std.specs.List.{list_any, sum_by}
use Rattle.std.proofs.lemmas.List.{append-nil}
use Rattle.std.proofs.lemmas.List.Sums.{sum_by-append}
use Rattle.vx_base.specs.Counts.{Rose}
use Rattle.vx_piece.specs.Seen.{Seen, Keeps}
use Rattle.vx_runs.specs.Run.{EachPiece}
use Rattle.vx_carve.specs.Together.{cut_of, cut_on, faults_of, faults_on, reads_of, writes_of}
use Rattle.vx_copies.specs.Disks.{DiskSeen}
use Rattle.vx_fronts.specs.Fronts.{with_device, whole_disk}
use Rattle.vx_fronts.specs.Rests.{is_of, rest_in, rests_of}
use Rattle.vx_fronts.proofs.Sectors.{none_counted}
use Rattle.vx_group_volumes.proofs.Called.{any_kept}

-- the same calls are counted of both
pub record SameCounts (old new : Seen) : Type 0 where
  pub faults : new.faults ≡ old.faults
  pub reads : new.reads ≡ old.reads
  pub writes : new.writes ≡ old.writes
  pub cut : new.cut ≡ old.cut

-- ---- pieces in their places

pub keeps_self : (p : Seen) → Keeps p p
keeps_self p = record { device = refl; start = refl; sectors = refl; stop = refl; faults = omega arith; cut = λ h. h }

pub pieces_self : (ps : List Seen) → EachPiece Keeps ps ps
pieces_self [] = tt
pieces_self (p ∷ ps) = (keeps_self p, pieces_self ps)

pub pieces_behind : (xs ps qs : List Seen) → EachPiece Keeps ps qs → EachPiece Keeps (xs ++ ps) (xs ++ qs)
pieces_behind [] ps qs each = each
pieces_behind (x ∷ xs) ps qs each = (keeps_self x, pieces_behind xs ps qs each)

pub pieces_before : (ps qs ys : List Seen) → EachPiece Keeps ps qs → EachPiece Keeps (ps ++ ys) (qs ++ ys)
pieces_before [] [] ys each = pieces_self ys
pieces_before [] (q ∷ qs) ys each = absurd each
pieces_before (p ∷ ps) [] ys each = absurd each
pieces_before (p ∷ ps) (q ∷ qs) ys each = (each.0, pieces_before ps qs ys each.1)

pub of_kept : (ps qs : List Seen) (device : ℕ) → EachPiece Keeps ps qs → list_any (is_of device) qs ≡ list_any (is_of device) ps
of_kept ps qs device each = any_kept (is_of device) (λ p q kept. ap (λ n. n == device) kept.device) ps qs each

counts_not : (b : Bool) (n : ℕ) → b ≡ false → cond b n 0 ≡ 0
counts_not b n e = ap (λ v. cond v n 0) e

-- where there is none of the device, none is counted
none_of : (f : ℕ → Seen → ℕ) → ((d : ℕ) (p : Seen) → is_of d p ≡ false → f d p ≡ 0) → (d : ℕ) (ps : List Seen) → list_any (is_of d) ps ≡ false → sum_by (f d) ps ≡ 0
none_of f zero_if d ps none = none_counted (f d) d ps (zero_if d) none

pub no_faults : (d : ℕ) (ps : List Seen) → list_any (is_of d) ps ≡ false → sum_by (faults_of d) ps ≡ 0
no_faults = none_of faults_of (λ d p e. counts_not (is_of d p) p.faults e)

no_reads : (d : ℕ) (ps : List Seen) → list_any (is_of d) ps ≡ false → sum_by (reads_of d) ps ≡ 0
no_reads = none_of reads_of (λ d p e. counts_not (is_of d p) p.reads e)

no_writes : (d : ℕ) (ps : List Seen) → list_any (is_of d) ps ≡ false → sum_by (writes_of d) ps ≡ 0
no_writes = none_of writes_of (λ d p e. counts_not (is_of d p) p.writes e)

pub no_cuts : (d : ℕ) (ps : List Seen) → list_any (is_of d) ps ≡ false → sum_by (cut_of d) ps ≡ 0
no_cuts = none_of cut_of (λ d p e. counts_not (is_of d p) (cond p.cut 1 0) e)

-- ---- counts that stand still at their type's end

pub rose_none : (m a b : ℕ) → a ≡ 0 → b ≡ 0 → 0 < m → min (min a m + 1) m ≤ min b m → ⊥
rose_none m a b e f some rose = omega (arith, e, f, some, rose)

rose_more : (m a b c f s t : ℕ) → s ≡ c + a → t ≡ c + b → min (min a m + 1) m ≤ min b m → min (min (f + min s m) m + 1) m ≤ min (f + min t m) m
rose_more m a b c f s t e g rose = omega (arith, e, g, rose)

same_sum : (a b c s t : ℕ) → s ≡ c + a → t ≡ c + b → a ≡ 0 → b ≡ 0 → t ≡ s
same_sum a b c s t e f x y = omega (arith, e, f, x, y)

some_cut : (n c s : ℕ) → s ≡ c + n → min n 1 ≡ 1 → (min s 1 == 1) ≡ true
some_cut n c s e one = grind (arith, e, one)

both_true : (a b : Bool) → b ≡ true → (a || b) ≡ true
both_true true b e = refl
both_true false b e = e

-- ---- devices

module _ (still front held held' rest : List Seen) (kept : EachPiece Keeps held held') where
  abbrev pub olds : List Seen
  olds = still ++ (front ++ (held ++ rest))

  abbrev pub news : List Seen
  news = still ++ (front ++ (held' ++ rest))

  sum_parts : (f : Seen → ℕ) (ps : List Seen) → sum_by f ((still ++ (front ++ (ps ++ rest))) ++ []) ≡ (sum_by f still + (sum_by f front + sum_by f rest)) + sum_by f ps
  sum_parts f ps =
      let a = sum_by-append f still (front ++ (ps ++ rest)) in
      let b = sum_by-append f front (ps ++ rest) in
      let c = sum_by-append f ps rest in
      ap (sum_by f) (append-nil (still ++ (front ++ (ps ++ rest)))) ∙ omega (arith, a, b, c)

  all_kept : EachPiece Keeps (olds ++ []) (news ++ [])
  all_kept = pieces_before olds news [] (pieces_behind still _ _ (pieces_behind front _ _ (pieces_before held held' rest kept)))

  of_all : (d : ℕ) → list_any (is_of d) (news ++ []) ≡ list_any (is_of d) (olds ++ [])
  of_all d = of_kept (olds ++ []) (news ++ []) d all_kept

  -- where none that was called is of the device, what is counted of it stays
  counts_stay : (d : ℕ) (f : Seen → ℕ) → (list_any (is_of d) held ≡ false → sum_by f held ≡ 0) → (list_any (is_of d) held' ≡ false → sum_by f held' ≡ 0) →
      list_any (is_of d) held ≡ false → sum_by f (news ++ []) ≡ sum_by f (olds ++ [])
  counts_stay d f old new none = same_sum (sum_by f held) (sum_by f held') _ _ _ (sum_parts f held) (sum_parts f held') (old none) (new (of_kept held held' d kept ∙ none))

  quiet_by : (h : DiskSeen) → list_any (is_of h.seen.device) held ≡ false → (b b' : Bool) → b' ≡ b →
      SameCounts (with_device (cond b (Some (rest_in olds [] h.seen.device)) None) h).seen (with_device (cond b' (Some (rest_in news [] h.seen.device)) None) h).seen
  quiet_by h none true true e = let d = h.seen.device in record {
    faults = ap (λ n. min (h.seen.faults + min n (2 ^ 64 - 1)) (2 ^ 64 - 1)) (counts_stay d (faults_of d) (no_faults d held) (no_faults d held') none);
    reads = ap (λ n. min (h.seen.reads + min n (2 ^ 64 - 1)) (2 ^ 64 - 1)) (counts_stay d (reads_of d) (no_reads d held) (no_reads d held') none);
    writes = ap (λ n. min (h.seen.writes + min n (2 ^ 64 - 1)) (2 ^ 64 - 1)) (counts_stay d (writes_of d) (no_writes d held) (no_writes d held') none);
    cut = ap (λ n. h.seen.cut || (min n 1 == 1)) (counts_stay d (cut_of d) (no_cuts d held) (no_cuts d held') none);
  }
  quiet_by h none false false e = record { faults = refl; reads = refl; writes = refl; cut = refl }
  quiet_by h none true false e = let no : ⊥ = cc in absurd no
  quiet_by h none false true e = let no : ⊥ = cc in absurd no

  pub quiet : (h : DiskSeen) → list_any (is_of h.seen.device) held ≡ false → SameCounts (whole_disk (rests_of olds []) h).seen (whole_disk (rests_of news []) h).seen
  quiet h none = quiet_by h none (list_any (is_of h.seen.device) (olds ++ [])) (list_any (is_of h.seen.device) (news ++ [])) (of_all h.seen.device)

  -- where what those that were called have counted rose, what the device has did
  rose_by : (h : DiskSeen) → Rose (faults_on h.seen.device held) (faults_on h.seen.device held') → (b b' : Bool) → list_any (is_of h.seen.device) (olds ++ []) ≡ b →
      b' ≡ b →
      Rose (with_device (cond b (Some (rest_in olds [] h.seen.device)) None) h).seen.faults (with_device (cond b' (Some (rest_in news [] h.seen.device)) None) h).seen.faults
  rose_by h rose true true there e =
      let d = h.seen.device in
      rose_more (2 ^ 64 - 1) (sum_by (faults_of d) held) (sum_by (faults_of d) held') _ h.seen.faults _ _ (sum_parts (faults_of d) held) (sum_parts (faults_of d) held') rose
  rose_by h rose false false none e =
      let d = h.seen.device in
      let old : sum_by (faults_of d) held ≡ 0 = (let x = no_faults d (olds ++ []) none in let s = sum_parts (faults_of d) held in omega (arith, x, s)) in
      let new : sum_by (faults_of d) held' ≡ 0 = (let x = no_faults d (news ++ []) (of_all d ∙ none) in let s = sum_parts (faults_of d) held' in omega (arith, x, s)) in
      absurd (rose_none (2 ^ 64 - 1) _ _ old new (omega arith) rose)
  rose_by h rose true false there e = let no : ⊥ = cc in absurd no
  rose_by h rose false true there e = let no : ⊥ = cc in absurd no

  pub rose : (h : DiskSeen) → Rose (faults_on h.seen.device held) (faults_on h.seen.device held') →
      Rose (whole_disk (rests_of olds []) h).seen.faults (whole_disk (rests_of news []) h).seen.faults
  rose h up = rose_by h up (list_any (is_of h.seen.device) (olds ++ [])) (list_any (is_of h.seen.device) (news ++ [])) refl (of_all h.seen.device)

  -- where one of these is cut, the device is
  cut_by : (h : DiskSeen) → cut_on h.seen.device held' ≡ 1 → (b : Bool) → list_any (is_of h.seen.device) (news ++ []) ≡ b →
      (with_device (cond b (Some (rest_in news [] h.seen.device)) None) h).seen.cut ≡ true
  cut_by h one true there = let d = h.seen.device in both_true h.seen.cut _ (some_cut (sum_by (cut_of d) held') _ _ (sum_parts (cut_of d) held') one)
  cut_by h one false none =
      let d = h.seen.device in
      let s = sum_parts (cut_of d) held' in
      let x = no_cuts d (news ++ []) none in
      absurd (omega (arith, s, x, one))

  pub cut : (h : DiskSeen) → cut_on h.seen.device held' ≡ 1 → (whole_disk (rests_of news []) h).seen.cut ≡ true
  cut h one = cut_by h one (list_any (is_of h.seen.device) (news ++ [])) refl
