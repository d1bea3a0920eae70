-- A column as a list of runs, each of which begins where the one before ends.
use Rattle.std.proofs.Common.{◌≡◌, ℕ, ◌+◌, ◌<◌, ◌≤◌, Bool, true, false, cond, nat_lt, nat_le, List, [], ◌∷◌, refl, sym, ap, ◌∙◌, inl, inr, arith, ◌&&◌, ◌||◌, ◌==◌}
use Rattle.std.specs.List.{list_any, list_all, count_by}
use Rattle.std.proofs.lemmas.Bool.{false≢true, and_parts, and_from, or_cases, or_left, or_right, or_from, eqb-true, eq-eqb, ne_eqb, leb-true, le-leb, ltb-true, cases_eq}
use Rattle.vx_rules.proofs.ListTests.{all_both, all_weaker, none_of_all, count_more, count_none, same_truth}

-- where a piece begins, and its sectors
abbrev pub Run : Type 0
Run = ℕ × ℕ

-- each begins where the one before ends, the first there
abbrev pub chain : ℕ → List Run → Bool
chain start [] = true
chain start (r ∷ rs) = r.0 == start && chain (r.0 + r.1) rs

-- the run begins there or where another ends, and none begins with it
abbrev pub follows : ℕ → List Run → Run → Bool
follows start rs r = (r.0 == start || list_any (λ t. t.0 + t.1 == r.0) rs) && nat_le (count_by (λ t. t.0 == r.0) rs) 1

abbrev pub full : Run → Bool
full r = nat_lt 0 r.1

abbrev pub is_from : ℕ → Run → Bool
is_from low r = nat_le low r.0

-- they begin behind one another
abbrev pub ascends : ℕ → List Run → Bool
ascends low [] = true
ascends low (r ∷ rs) = nat_le low r.0 && ascends r.0 rs

ascends_from : (low : ℕ) (rs : List Run) → ascends low rs ≡ true → list_all (is_from low) rs ≡ true
ascends_from low [] h = refl
ascends_from low (r ∷ rs) h =
    let parts = and_parts (nat_le low r.0) (ascends r.0 rs) h in
    let first : low ≤ r.0 = leb-true low r.0 parts.0 in
    and_from _ _ parts.0 (all_weaker (is_from r.0) (is_from low) rs (λ t k. let le : r.0 ≤ t.0 = leb-true r.0 t.0 k in le-leb low t.0 (omega arith)) (ascends_from r.0 rs parts.1))

chain_from : (start : ℕ) (rs : List Run) → chain start rs ≡ true → list_all (is_from start) rs ≡ true
chain_from start [] h = refl
chain_from start (r ∷ rs) h =
    let parts = and_parts (r.0 == start) (chain (r.0 + r.1) rs) h in
    let at : r.0 ≡ start = eqb-true r.0 start parts.0 in
    and_from _ _ (le-leb start r.0 (omega arith)) (all_weaker (is_from (r.0 + r.1)) (is_from start) rs (λ t k. let le : r.0 + r.1 ≤ t.0 = leb-true (r.0 + r.1) t.0 k in le-leb start t.0 (omega arith)) (chain_from (r.0 + r.1) rs parts.1))

-- in a chain each follows the others
pub chain_follows : (start : ℕ) (rs : List Run) → list_all full rs ≡ true → chain start rs ≡ true → list_all (follows start rs) rs ≡ true
chain_follows start [] filled h = refl
chain_follows start (r ∷ rs) filled h = and_from _ _ head (all_both (follows (r.0 + r.1) rs) (is_from (r.0 + r.1)) (follows start (r ∷ rs)) rs later (chain_follows (r.0 + r.1) rs sectors.1 parts.1) (chain_from (r.0 + r.1) rs parts.1))
  where
    parts : (r.0 == start ≡ true) × (chain (r.0 + r.1) rs ≡ true)
    parts = and_parts (r.0 == start) (chain (r.0 + r.1) rs) h

    at : r.0 ≡ start
    at = eqb-true r.0 start parts.0

    sectors : (full r ≡ true) × (list_all full rs ≡ true)
    sectors = and_parts (full r) (list_all full rs) filled

    sector : 0 < r.1
    sector = ltb-true 0 r.1 sectors.0

    alone : count_by (λ t. t.0 == r.0) rs ≡ 0
    alone = count_none (λ t. t.0 == r.0) rs (none_of_all (is_from (r.0 + r.1)) (λ t. t.0 == r.0) rs (λ t k. let le : r.0 + r.1 ≤ t.0 = leb-true (r.0 + r.1) t.0 k in let lt : 0 < r.1 = sector in ne_eqb t.0 r.0 (λ e. absurd (omega arith))) (chain_from (r.0 + r.1) rs parts.1))

    head : follows start (r ∷ rs) r ≡ true
    head =
        let count = count_more (λ t. t.0 == r.0) r rs in
        let here : ◌≡◌ {A = ℕ} (cond (r.0 == r.0) 1 0) 1 = ap (λ b. cond b 1 0) (eq-eqb r.0 r.0 refl) in
        let none : count_by (λ t. t.0 == r.0) rs ≡ 0 = alone in
        and_from _ _ (or_left _ _ parts.0) (le-leb (count_by (λ t. t.0 == r.0) (r ∷ rs)) 1 (omega (arith, count, here, none)))

    later : (t : Run) → follows (r.0 + r.1) rs t ≡ true → is_from (r.0 + r.1) t ≡ true → follows start (r ∷ rs) t ≡ true
    later t h k =
        let tests = and_parts (t.0 == r.0 + r.1 || list_any (λ u. u.0 + u.1 == t.0) rs) (nat_le (count_by (λ u. u.0 == t.0) rs) 1) h in
        let count = count_more (λ u. u.0 == t.0) r rs in
        let le : r.0 + r.1 ≤ t.0 = leb-true (r.0 + r.1) t.0 k in
        let lt : 0 < r.1 = sector in
        let other : ◌≡◌ {A = ℕ} (cond (r.0 == t.0) 1 0) 0 = ap (λ b. cond b 1 0) (ne_eqb r.0 t.0 (λ e. absurd (omega arith))) in
        let few = leb-true (count_by (λ u. u.0 == t.0) rs) 1 tests.1 in
        let ends : list_any (λ u. u.0 + u.1 == t.0) (r ∷ rs) ≡ true = elim (or_cases (t.0 == r.0 + r.1) (list_any (λ u. u.0 + u.1 == t.0) rs) tests.0) [
          | inl e ↦ or_left _ _ (eq-eqb (r.0 + r.1) t.0 (sym (eqb-true t.0 (r.0 + r.1) e)))
          | inr any ↦ or_right _ _ any
        ] in
        and_from _ _ (or_right _ _ ends) (le-leb (count_by (λ u. u.0 == t.0) (r ∷ rs)) 1 (omega (arith, count, other, few)))

-- the second begins where the first ends
second_at : (start : ℕ) (h k : Run) (rest : List Run) → h.0 ≡ start → list_all (is_from k.0) (k ∷ rest) ≡ true → list_all full (k ∷ rest) ≡ true → follows start (h ∷ k ∷ rest) k ≡ true → k.0 ≡ h.0 + h.1
second_at start h k rest at from filled test = elim (or_cases (k.0 == start) (list_any (λ t. t.0 + t.1 == k.0) (h ∷ k ∷ rest)) parts.0) [
  | inl e ↦ absurd (doubled (eqb-true k.0 start e))
  | inr any ↦ elim (or_cases (h.0 + h.1 == k.0) (list_any (λ t. t.0 + t.1 == k.0) (k ∷ rest)) any) [
    | inl e ↦ sym (eqb-true (h.0 + h.1) k.0 e)
    | inr any' ↦ absurd (false≢true (sym none ∙ any'))
  ]
]
  where
    parts : ((k.0 == start || list_any (λ t. t.0 + t.1 == k.0) (h ∷ k ∷ rest)) ≡ true) × (nat_le (count_by (λ t. t.0 == k.0) (h ∷ k ∷ rest)) 1 ≡ true)
    parts = and_parts (k.0 == start || list_any (λ t. t.0 + t.1 == k.0) (h ∷ k ∷ rest)) (nat_le (count_by (λ t. t.0 == k.0) (h ∷ k ∷ rest)) 1) test

    doubled : k.0 ≡ start → ⊥
    doubled e =
        let first = count_more (λ t. t.0 == k.0) h (k ∷ rest) in
        let second = count_more (λ t. t.0 == k.0) k rest in
        let one : ◌≡◌ {A = ℕ} (cond (h.0 == k.0) 1 0) 1 = ap (λ b. cond b 1 0) (eq-eqb h.0 k.0 (at ∙ sym e)) in
        let two : ◌≡◌ {A = ℕ} (cond (k.0 == k.0) 1 0) 1 = ap (λ b. cond b 1 0) (eq-eqb k.0 k.0 refl) in
        let few = leb-true (count_by (λ t. t.0 == k.0) (h ∷ k ∷ rest)) 1 parts.1 in
        absurd (omega (arith, first, second, one, two, few))

    none : list_any (λ t. t.0 + t.1 == k.0) (k ∷ rest) ≡ false
    none = none_of_all (λ t. is_from k.0 t && full t) (λ t. t.0 + t.1 == k.0) (k ∷ rest) (λ t both. let tests = and_parts (is_from k.0 t) (full t) both in let le : k.0 ≤ t.0 = leb-true k.0 t.0 tests.0 in let lt : 0 < t.1 = ltb-true 0 t.1 tests.1 in ne_eqb (t.0 + t.1) k.0 (λ e. absurd (omega arith)))
        (all_both (is_from k.0) full (λ t. is_from k.0 t && full t) (k ∷ rest) (λ t a b. and_from _ _ a b) from filled)

-- runs behind one another, each of which follows the others, are a chain
pub follows_chain : (start : ℕ) (h : Run) (rest : List Run) → h.0 ≡ start → ascends h.0 rest ≡ true → list_all full (h ∷ rest) ≡ true → list_all (follows start (h ∷ rest)) (h ∷ rest) ≡ true → chain start (h ∷ rest) ≡ true
follows_chain start h [] at up filled tests = and_from _ _ (eq-eqb h.0 start at) refl
follows_chain start h (k ∷ rest) at up filled tests =
    let sectors = and_parts (full h) (list_all full (k ∷ rest)) filled in
    let ups = and_parts (nat_le h.0 k.0) (ascends k.0 rest) up in
    let from : list_all (is_from k.0) (k ∷ rest) ≡ true = and_from _ _ (le-leb k.0 k.0 (omega arith)) (ascends_from k.0 rest ups.1) in
    let later = (and_parts (follows start (h ∷ k ∷ rest) h) (list_all (follows start (h ∷ k ∷ rest)) (k ∷ rest)) tests).1 in
    let here = (and_parts (follows start (h ∷ k ∷ rest) k) (list_all (follows start (h ∷ k ∷ rest)) rest) later).0 in
    let second : k.0 ≡ h.0 + h.1 = second_at start h k rest at from sectors.1 here in
    and_from _ _ (eq-eqb h.0 start at) (follows_chain (h.0 + h.1) k rest second ups.1 sectors.1 (all_both (follows start (h ∷ k ∷ rest)) (is_from k.0) (follows (h.0 + h.1) (k ∷ rest)) (k ∷ rest) (shorter second (ltb-true 0 h.1 sectors.0)) later from))
  where
    shorter : k.0 ≡ h.0 + h.1 → 0 < h.1 → (t : Run) → follows start (h ∷ k ∷ rest) t ≡ true → is_from k.0 t ≡ true → follows (h.0 + h.1) (k ∷ rest) t ≡ true
    shorter second sector t test from =
        let parts = and_parts (t.0 == start || list_any (λ u. u.0 + u.1 == t.0) (h ∷ k ∷ rest)) (nat_le (count_by (λ u. u.0 == t.0) (h ∷ k ∷ rest)) 1) test in
        let le : k.0 ≤ t.0 = leb-true k.0 t.0 from in
        let count = count_more (λ u. u.0 == t.0) h (k ∷ rest) in
        let few = leb-true (count_by (λ u. u.0 == t.0) (h ∷ k ∷ rest)) 1 parts.1 in
        let ends : (t.0 == h.0 + h.1 || list_any (λ u. u.0 + u.1 == t.0) (k ∷ rest)) ≡ true = elim (or_cases (t.0 == start) (list_any (λ u. u.0 + u.1 == t.0) (h ∷ k ∷ rest)) parts.0) [
          | inl e ↦ let same : t.0 ≡ start = eqb-true t.0 start e in absurd (omega arith)
          | inr any ↦ elim (or_cases (h.0 + h.1 == t.0) (list_any (λ u. u.0 + u.1 == t.0) (k ∷ rest)) any) [
            | inl e ↦ or_left _ _ (eq-eqb t.0 (h.0 + h.1) (sym (eqb-true (h.0 + h.1) t.0 e)))
            | inr any' ↦ or_right _ _ any'
          ]
        ] in
        and_from _ _ ends (le-leb (count_by (λ u. u.0 == t.0) (k ∷ rest)) 1 (omega (arith, count, few)))

-- the column begins at its first sector, and each run follows the others
abbrev pub good : List Run → Bool
good rs = list_any (λ r. r.0 == 0) rs && list_all (follows 0 rs) rs

-- so it is where the runs in their order are a chain
pub chain_is_good : (h : Run) (rest : List Run) → ascends 0 (h ∷ rest) ≡ true → list_all full (h ∷ rest) ≡ true → chain 0 (h ∷ rest) ≡ good (h ∷ rest)
chain_is_good h rest up filled = same_truth (chain 0 (h ∷ rest)) (good (h ∷ rest)) to back
  where
    first_at : list_any (λ r. r.0 == 0) (h ∷ rest) ≡ true → h.0 ≡ 0
    first_at begins = elim (cases_eq h.0 0) [
      | inl e ↦ e
      | inr ne ↦
          let ups = and_parts (nat_le 0 h.0) (ascends h.0 rest) up in
          absurd (false≢true (sym (or_from _ _ (ne_eqb h.0 0 ne) (none_of_all (is_from h.0) (λ r. r.0 == 0) rest (λ t k. ne_eqb t.0 0 (λ e. ne (let le : h.0 ≤ t.0 = leb-true h.0 t.0 k in omega arith))) (ascends_from h.0 rest ups.1))) ∙ begins))
    ]

    to : chain 0 (h ∷ rest) ≡ true → good (h ∷ rest) ≡ true
    to ch = and_from _ _ (or_left _ _ (and_parts (h.0 == 0) (chain (h.0 + h.1) rest) ch).0) (chain_follows 0 (h ∷ rest) filled ch)

    back : good (h ∷ rest) ≡ true → chain 0 (h ∷ rest) ≡ true
    back g =
        let parts = and_parts (list_any (λ r. r.0 == 0) (h ∷ rest)) (list_all (follows 0 (h ∷ rest)) (h ∷ rest)) g in
        let ups = and_parts (nat_le 0 h.0) (ascends h.0 rest) up in
        follows_chain 0 h rest (first_at parts.0) ups.1 filled parts.1
