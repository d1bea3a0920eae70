-- Pieces in the order of their places give the columns of all records.
use Rattle.std.proofs.Common.{◌≡◌, ℕ, ◌+◌, ◌<◌, ◌≤◌, Bool, true, false, cond, max, not, nat_lt, nat_le, List, [], ◌∷◌, None, refl, sym, ap, ◌∙◌, subst, arith, zero-add, ◌&&◌, ◌||◌, ◌==◌}
use Rattle.std.specs.List.{list_any, list_all, count_by, fold}
use Rattle.std.specs.List.Sorted.{IsPermutation, IsNonDecreasingBy}
use Rattle.std.specs.Option.{is_some}
use Rattle.std.specs.BTreeMap.{BTreeMap, get}
use Rattle.std.proofs.lemmas.Bool.{and_parts, and_from, le-leb, ltb-true, ltb-false, lt-ltb, le-ltb}
use Rattle.std.proofs.lemmas.List.Sorted.{IsNonDecreasingBy-drop, sum_by-IsPermutation, list_any-IsPermutation}
use Rattle.vx_base.specs.Named.{Word}
use Rattle.vx_config_parts.specs.declared.object.Object.{Object}
use Rattle.vx_rules.specs.declared.piece.Piece.{Piece}
use Rattle.vx_rules.specs.declared.column.Column.{Column}
use Rattle.vx_rules.specs.Keys.{Key, key_cmp}
use Rattle.vx_rules.specs.Pieces.{pieces, is_in, is_filled, column_of, end_of, whole_of}
use Rattle.vx_rules.specs.Indexed.{IsIndexed}
use Rattle.vx_rules.proofs.Runs.{Run, chain, full, ascends, follows, good, chain_is_good}
use Rattle.vx_rules.proofs.ColumnRuns.{runs, runs_in, runs_same, whole_run, last_end, length_run, there_run, grow_run, column_runs, found_end, found_is, found_whole}
use Rattle.vx_rules.proofs.ListTests.{any_count, all_is_none, all_agree, count_more}

-- of each test as many pass
pub record IsSame (xs ys : List Run) : Type 0 where
  pub counts : (test : Run → Bool) → count_by test xs ≡ count_by test ys

count_runs : (q : Key) (test : Run → Bool) (ps : List Piece) → count_by test (runs q ps) ≡ count_by (λ p. is_in q p && test (p.at, p.len)) ps
count_runs q test [] = refl
count_runs q test (p ∷ ps) = by (is_in q p) (count_runs q test ps) ∙ sym (count_more (λ p. is_in q p && test (p.at, p.len)) p ps)
  where
    by : (b : Bool) → count_by test (runs q ps) ≡ count_by (λ p. is_in q p && test (p.at, p.len)) ps → count_by test (cond b ((p.at, p.len) ∷ runs q ps) (runs q ps)) ≡ cond (b && test (p.at, p.len)) 1 0 + count_by (λ p. is_in q p && test (p.at, p.len)) ps
    by true h = count_more test (p.at, p.len) (runs q ps) ∙ ap (λ n. cond (test (p.at, p.len)) 1 0 + n) h
    by false h = h ∙ sym (zero-add _)

moved_runs : (q : Key) (xs ys : List Piece) → IsPermutation xs ys → IsSame (runs q xs) (runs q ys)
moved_runs q xs ys moved = record {
  counts = λ test. count_runs q test xs ∙ (sym (sum_by-IsPermutation (λ p. cond (is_in q p && test (p.at, p.len)) 1 0) xs ys moved) ∙ sym (count_runs q test ys));
}

any_same : (xs ys : List Run) → IsSame xs ys → (test : Run → Bool) → list_any test xs ≡ list_any test ys
any_same xs ys same test = any_count test xs ∙ (ap (λ n. nat_lt 0 n) (same.counts test) ∙ sym (any_count test ys))

all_same : (xs ys : List Run) → IsSame xs ys → (test : Run → Bool) → list_all test xs ≡ list_all test ys
all_same xs ys same test = all_is_none test xs ∙ (ap not (any_same xs ys same (λ r. not (test r))) ∙ sym (all_is_none test ys))

good_same : (xs ys : List Run) → IsSame xs ys → good xs ≡ good ys
good_same xs ys same =
    ap (λ b. b && list_all (follows 0 xs) xs) (any_same xs ys same (λ r. r.0 == 0))
    ∙ ap (λ b. list_any (λ r. r.0 == 0) ys && b) (all_agree (follows 0 xs) (follows 0 ys) xs follow ∙ all_same xs ys same (follows 0 ys))
  where
    follow : (r : Run) → follows 0 xs r ≡ follows 0 ys r
    follow r =
        ap (λ b. (r.0 == 0 || b) && nat_le (count_by (λ t. t.0 == r.0) xs) 1) (any_same xs ys same (λ t. t.0 + t.1 == r.0))
        ∙ ap (λ n. (r.0 == 0 || list_any (λ t. t.0 + t.1 == r.0) ys) && nat_le n 1) (same.counts (λ t. t.0 == r.0))

-- a number is below the last end where it is below some end
below_end : (n end : ℕ) (rs : List Run) → nat_lt n (last_end end rs) ≡ (nat_lt n end || list_any (λ r. nat_lt n (r.0 + r.1)) rs)
below_end n end [] = or_false (nat_lt n end)
  where
    or_false : (b : Bool) → b ≡ (b || false)
    or_false true = refl
    or_false false = refl
below_end n end (r ∷ rs) = below_end n (max end (r.0 + r.1)) rs ∙ (ap (λ b. b || list_any (λ t. nat_lt n (t.0 + t.1)) rs) (below_max end (r.0 + r.1)) ∙ assoc (nat_lt n end) (nat_lt n (r.0 + r.1)) (list_any (λ t. nat_lt n (t.0 + t.1)) rs))
  where
    below_max : (a b : ℕ) → nat_lt n (max a b) ≡ (nat_lt n a || nat_lt n b)
    below_max a b = by (nat_lt n a) (nat_lt n b) refl refl
      where
        by : (x y : Bool) → nat_lt n a ≡ x → nat_lt n b ≡ y → nat_lt n (max a b) ≡ (x || y)
        by true y e f = let lt = ltb-true n a e in lt-ltb n (max a b) (omega (arith, lt))
        by false true e f = let lt = ltb-true n b f in lt-ltb n (max a b) (omega (arith, lt))
        by false false e f = let le = ltb-false n a e in let le' = ltb-false n b f in le-ltb n (max a b) (omega (arith, le, le'))

    assoc : (a b c : Bool) → ((a || b) || c) ≡ (a || (b || c))
    assoc true b c = refl
    assoc false b c = refl

same_bounds : (x y : ℕ) → ((n : ℕ) → nat_lt n x ≡ nat_lt n y) → x ≡ y
same_bounds x y h =
    let le : x ≤ y = ltb-false y x (h y ∙ le-ltb y y (omega arith)) in
    let ge : y ≤ x = ltb-false x y (sym (h x) ∙ le-ltb x x (omega arith)) in
    omega arith

end_same : (xs ys : List Run) → IsSame xs ys → last_end 0 xs ≡ last_end 0 ys
end_same xs ys same = same_bounds (last_end 0 xs) (last_end 0 ys) (λ n. below_end n 0 xs ∙ (ap (λ b. nat_lt n 0 || b) (any_same xs ys same (λ r. nat_lt n (r.0 + r.1))) ∙ sym (below_end n 0 ys)))

full_runs : (q : Key) (ps : List Piece) → list_all is_filled ps ≡ true → list_all full (runs q ps) ≡ true
full_runs q [] h = refl
full_runs q (p ∷ ps) h = by (full_runs q ps (and_parts (is_filled p) (list_all is_filled ps) h).1) (is_in q p)
  where
    parts : (is_filled p ≡ true) × (list_all is_filled ps ≡ true)
    parts = and_parts (is_filled p) (list_all is_filled ps) h

    by : list_all full (runs q ps) ≡ true → (b : Bool) → list_all full (cond b ((p.at, p.len) ∷ runs q ps) (runs q ps)) ≡ true
    by later true = and_from _ _ parts.0 later
    by later false = later

-- the number is up to where the first of the pieces begins
abbrev pub IsUpTo : ℕ → List Piece → Type 0
IsUpTo low [] = Unit {0}
IsUpTo low (p ∷ ps) = low ≤ p.at

up_to_next : (p : Piece) (ps : List Piece) (low : ℕ) → IsNonDecreasingBy (λ (x : Piece). x.at) (p ∷ ps) → low ≤ p.at → IsUpTo low ps
up_to_next p [] low sorted le = tt
up_to_next p (x ∷ ps) low sorted le = let next : p.at ≤ x.at = sorted 0 1 p (omega arith) (omega arith) in omega arith

ascend_runs : (q : Key) (low : ℕ) (ps : List Piece) → IsNonDecreasingBy (λ (x : Piece). x.at) ps → IsUpTo low ps → ascends low (runs q ps) ≡ true
ascend_runs q low [] sorted le = refl
ascend_runs q low (p ∷ ps) sorted le = by (is_in q p) (ascend_runs q p.at ps rest (up_to_next p ps p.at sorted (omega arith))) (ascend_runs q low ps rest (up_to_next p ps low sorted le))
  where
    rest : IsNonDecreasingBy (λ (x : Piece). x.at) ps
    rest = IsNonDecreasingBy-drop (λ (x : Piece). x.at) 1 (p ∷ ps) sorted

    by : (b : Bool) → ascends p.at (runs q ps) ≡ true → ascends low (runs q ps) ≡ true → ascends low (cond b ((p.at, p.len) ∷ runs q ps) (runs q ps)) ≡ true
    by true in' out = and_from _ _ (le-leb low p.at le) in'
    by false in' out = out

-- what is found of the runs in their order
found_good : (rs : List Run) → ascends 0 rs ≡ true → list_all full rs ≡ true → whole_of (fold grow_run None rs) ≡ good rs
found_good [] up filled = refl
found_good (r ∷ rs) up filled = found_whole (record { end = max 0 (r.0 + r.1); whole = true && r.0 == 0 }) rs ∙ (ap (λ n. (r.0 == 0) && chain n rs) (max_zero (r.0 + r.1)) ∙ chain_is_good r rs up filled)
  where
    max_zero : (n : ℕ) → max 0 n ≡ n
    max_zero n = omega arith

found_length : (rs : List Run) → end_of (fold grow_run None rs) ≡ last_end 0 rs
found_length [] = refl
found_length (r ∷ rs) = found_end (record { end = max 0 (r.0 + r.1); whole = true && r.0 == 0 }) rs

found_there : (rs : List Run) → is_some (fold grow_run None rs) ≡ list_any (λ r. true) rs
found_there [] = refl
found_there (r ∷ rs) = found_is (record { end = max 0 (r.0 + r.1); whole = true && r.0 == 0 }) rs

-- the columns of the pieces in their order are those of the records
pub indexed_by : (all : List Object) (ps : List Piece) (columns : BTreeMap Key Column) → IsPermutation (pieces all) ps → list_all is_filled (pieces all) ≡ true → IsNonDecreasingBy (λ (x : Piece). x.at) ps → ((q : Key) → get key_cmp columns q ≡ column_of q ps) → ((q : Key) → end_of (get key_cmp columns q) < 36893488147419103232) → IsIndexed all columns
indexed_by all ps columns moved filled sorted at small = record {
  ends = λ plex col. ap end_of (found plex col) ∙ (found_length (runs (plex, col) ps) ∙ (sym (end_same (runs_in plex col all) (runs (plex, col) ps) (same plex col)) ∙ sym (length_run all plex col)));
  wholes = λ plex col. ap whole_of (found plex col) ∙ (found_good (runs (plex, col) ps) (ascend_runs (plex, col) 0 ps sorted (zero_up_to ps)) (full_runs (plex, col) ps all_full) ∙ (sym (good_same (runs_in plex col all) (runs (plex, col) ps) (same plex col)) ∙ sym (whole_run all plex col)));
  there = λ plex col. ap is_some (found plex col) ∙ (found_there (runs (plex, col) ps) ∙ (sym (any_same (runs_in plex col all) (runs (plex, col) ps) (same plex col) (λ r. true)) ∙ sym (there_run all plex col)));
  small = small;
}
  where
    found : (plex : Word) (col : ℕ) → get key_cmp columns (plex, col) ≡ fold grow_run None (runs (plex, col) ps)
    found plex col = at (plex, col) ∙ column_runs (plex, col) None ps

    same : (plex : Word) (col : ℕ) → IsSame (runs_in plex col all) (runs (plex, col) ps)
    same plex col = subst (λ rs. IsSame rs (runs (plex, col) ps)) (runs_same plex col all) (moved_runs (plex, col) (pieces all) ps moved)

    all_full : list_all is_filled ps ≡ true
    all_full = all_is_none is_filled ps ∙ (ap not (sym (list_any-IsPermutation (λ p. not (is_filled p)) (pieces all) ps moved)) ∙ (sym (all_is_none is_filled (pieces all)) ∙ filled))

    zero_up_to : (xs : List Piece) → IsUpTo 0 xs
    zero_up_to [] = tt
    zero_up_to (x ∷ xs) = omega arith
