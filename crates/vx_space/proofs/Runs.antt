-- The runs of a disk between its subdisks are its sectors that are in none, in order.
use Rattle.std.proofs.Common.{◌≡◌, ℕ, ◌+◌, ◌-◌, ◌<◌, ◌≤◌, ◌^◌, max, nat_le, nat_lt, Bool, true, false, cond, not, List, [], ◌∷◌, ◌++◌, refl, sym, ap, ◌∙◌, subst, arith, append-nil, ◌&&◌, ◌||◌}
use Rattle.std.specs.List.{list_all, list_any}
use Rattle.std.specs.Str.{bytes_eq}
use Rattle.std.proofs.lemmas.Bool.{and_parts, and_from, or_right, leb-true, le-leb, lt-ltb, ltb-true, ltb-false, false_from_ne_true, cond-true}
use Rattle.std.proofs.lemmas.List.Folds.{list_any-append}
use Rattle.vx_base.specs.Named.{Word}
use Rattle.vx_base.proofs.NamedLemmas.{bytes_eq_self}
use Rattle.vx_config_parts.specs.declared.disk.Disk.{Disk}
use Rattle.vx_config_parts.specs.declared.subdisk.Subdisk.{Subdisk}
use Rattle.vx_rules.proofs.ListTests.{none_of_all}
use Rattle.vx_space.specs.declared.extent.Extent.{Extent}
use Rattle.vx_space.specs.Extents.{has_sector, is_listed, next_is_behind, are_in_order, total, between}
use Rattle.vx_space.specs.Free.{covers}
use Rattle.vx_space.specs.Gaps.{gaps}
use Rattle.vx_space.proofs.Tests.{or_false, and_true, all_append, eq_turned, within_none, around}

-- the subdisk, where it is on the disk, has a sector and ends in the public region
abbrev pub fits : Disk → Subdisk → Bool
fits d s = cond (bytes_eq s.disk d.name) (nat_lt 0 s.len && nat_le (s.off + s.len) d.publen) true

-- the subdisks rise by their first sectors
abbrev pub ascend : List Subdisk → Bool
ascend [] = true
ascend (s ∷ ss) = list_all (λ (t : Subdisk). nat_le s.off t.off) ss && ascend ss

-- ---- one run

to_end : (from to : ℕ) → from < to → from + (to - from) ≡ to
to_end from to lt = omega (arith, lt)

-- what is said of the one run, if there is one
between_by : (P : List Extent → Type 0) (n : Word) (from to : ℕ) → (from < to → P (record { disk = n; start = from; count = to - from } ∷ [])) → (to ≤ from → P []) → P (between n from to)
between_by P n from to some none = by (nat_lt from to) refl where
  by : (b : Bool) → nat_lt from to ≡ b → P (cond b (record { disk = n; start = from; count = to - from } ∷ []) [])
  by true e = some (ltb-true from to e)
  by false e = none (ltb-false from to e)

between_listed : (n : Word) (from to x : ℕ) → is_listed (between n from to) n x ≡ (nat_le from x && nat_lt x to)
between_listed n from to x = between_by (λ es. is_listed es n x ≡ (nat_le from x && nat_lt x to)) n from to
    (λ lt. or_false _ ∙ ap (λ b. b && (nat_le from x && nat_lt x (from + (to - from)))) (bytes_eq_self n) ∙ ap (λ m. nat_le from x && nat_lt x m) (to_end from to lt))
    (λ le. sym (within_none from to x le))

between_test : (p : Extent → Bool) (n : Word) (from to : ℕ) → (from < to → p (record { disk = n; start = from; count = to - from }) ≡ true) → list_all p (between n from to) ≡ true
between_test p n from to h = between_by (λ es. list_all p es ≡ true) n from to (λ lt. and_from _ _ (h lt) refl) (λ le. refl)

pub between_total : (n m : Word) (from to : ℕ) → total m (between n from to) ≡ cond (bytes_eq n m) (to - from) 0
between_total n m from to = between_by (λ es. total m es ≡ cond (bytes_eq n m) (to - from) 0) n from to (λ lt. by (bytes_eq n m)) (λ le. none (bytes_eq n m) le) where
  by : (b : Bool) → cond b (to - from) 0 + 0 ≡ cond b (to - from) 0
  by b = omega arith

  none : (b : Bool) → to ≤ from → 0 ≡ cond b (to - from) 0
  none true le = omega (arith, le)
  none false le = refl

-- the first extent is on the disk and begins at the sector or behind it
abbrev begins_from : Word → ℕ → List Extent → Bool
begins_from n at [] = true
begins_from n at (e ∷ es) = bytes_eq e.disk n && nat_le at e.start

begins_before : (n : Word) (at m : ℕ) (es : List Extent) → at ≤ m → begins_from n m es ≡ true → begins_from n at es ≡ true
begins_before n at m [] le h = refl
begins_before n at m (e ∷ es) le h =
    let parts = and_parts (bytes_eq e.disk n) (nat_le m e.start) h in
    let a = leb-true m e.start parts.1 in
    and_from _ _ parts.0 (le-leb at e.start (omega (arith, a, le)))

-- in order, and from that sector of the disk on
record Run (n : Word) (at : ℕ) (es : List Extent) : Type 0 where
  order : are_in_order es ≡ true
  from : begins_from n at es ≡ true

next_behind : (n : Word) (from to m : ℕ) (es : List Extent) → from < to → to < m → begins_from n m es ≡ true → next_is_behind (record { disk = n; start = from; count = to - from }) es ≡ true
next_behind n from to m [] lt less h = refl
next_behind n from to m (e ∷ es) lt less h =
    let parts = and_parts (bytes_eq e.disk n) (nat_le m e.start) h in
    let a = leb-true m e.start parts.1 in
    or_right _ _ (and_from _ _ (eq_turned e.disk n parts.0) (lt-ltb (from + (to - from)) e.start (omega (arith, a, lt, less))))

run_more : (n : Word) (from to m : ℕ) (es : List Extent) → to < m → from ≤ m → Run n m es → Run n from (between n from to ++ es)
run_more n from to m es less le run = between_by (λ xs. Run n from (xs ++ es)) n from to
    (λ lt. record {
      order = and_from _ _ (lt-ltb 0 (to - from) (omega (arith, lt))) (and_from _ _ (next_behind n from to m es lt less run.from) run.order);
      from = and_from _ _ (bytes_eq_self n) (le-leb from from (omega arith));
    })
    (λ _. record { order = run.order; from = begins_before n from m es le run.from })

run_last : (n : Word) (from to : ℕ) → Run n from (between n from to)
run_last n from to = subst (λ es. Run n from es) (append-nil (between n from to)) (run_more n from to (from + to + 1) [] (omega arith) (omega arith) (record { order = refl; from = refl }))

-- ---- the runs of a disk

record Fits (d : Disk) (s : Subdisk) : Type 0 where
  some : 0 < s.len
  room : s.off + s.len ≤ d.publen

fits_parts : (d : Disk) (s : Subdisk) → bytes_eq s.disk d.name ≡ true → fits d s ≡ true → Fits d s
fits_parts d s on h =
    let parts = and_parts (nat_lt 0 s.len) (nat_le (s.off + s.len) d.publen) (sym (cond-true (bytes_eq s.disk d.name) (nat_lt 0 s.len && nat_le (s.off + s.len) d.publen) true on) ∙ h) in
    record { some = ltb-true 0 s.len parts.0; room = leb-true (s.off + s.len) d.publen parts.1 }

-- no later subdisk has a sector before one
none_before : (n : Word) (off x : ℕ) (ss : List Subdisk) → list_all (λ (t : Subdisk). nat_le off t.off) ss ≡ true → x < off → list_any (covers n x) ss ≡ false
none_before n off x ss h less = none_of_all (λ t. nat_le off t.off) (covers n x) ss (λ t k. false_from_ne_true (covers n x t) (λ on.
    let a = leb-true off t.off k in
    let parts = and_parts (nat_le t.off x) (nat_lt x (t.off + t.len)) (and_parts (bytes_eq t.disk n) (nat_le t.off x && nat_lt x (t.off + t.len)) on).1 in
    let b = leb-true t.off x parts.0 in
    absurd (omega (arith, a, b, less)))) h

pub gaps_listed : (d : Disk) (at x : ℕ) (ss : List Subdisk) → ascend ss ≡ true → list_all (fits d) ss ≡ true → is_listed (gaps d at ss) d.name x ≡ (nat_le at x && nat_lt x d.publen && not (list_any (covers d.name x) ss))
gaps_listed d at x [] up h = between_listed d.name at d.publen x ∙ sym (and_true (nat_le at x && nat_lt x d.publen))
gaps_listed d at x (s ∷ ss) up h =
    let ups = and_parts (list_all (λ (t : Subdisk). nat_le s.off t.off) ss) (ascend ss) up in
    let parts = and_parts (fits d s) (list_all (fits d) ss) h in
    by parts.0 ups.0 (bytes_eq s.disk d.name) refl (λ m. gaps_listed d m x ss ups.1 parts.1) where
      by : fits d s ≡ true → list_all (λ (t : Subdisk). nat_le s.off t.off) ss ≡ true → (b : Bool) → bytes_eq s.disk d.name ≡ b → ((m : ℕ) → is_listed (gaps d m ss) d.name x ≡ (nat_le m x && nat_lt x d.publen && not (list_any (covers d.name x) ss))) →
          is_listed (cond b (between d.name at s.off ++ gaps d (max at (s.off + s.len)) ss) (gaps d at ss)) d.name x ≡ (nat_le at x && nat_lt x d.publen && not ((b && (nat_le s.off x && nat_lt x (s.off + s.len))) || list_any (covers d.name x) ss))
      by here behind false e more = more at
      by here behind true e more =
          let f = fits_parts d s e here in
          let some = f.some in
          list_any-append (has_sector d.name x) (between d.name at s.off) (gaps d (max at (s.off + s.len)) ss)
          ∙ ap (λ b. b || is_listed (gaps d (max at (s.off + s.len)) ss) d.name x) (between_listed d.name at s.off x)
          ∙ ap (λ b. (nat_le at x && nat_lt x s.off) || b) (more (max at (s.off + s.len)))
          ∙ around at s.off (s.off + s.len) d.publen x (list_any (covers d.name x) ss) (omega (arith, some)) f.room (λ less. none_before d.name s.off x ss behind less)

gaps_run : (d : Disk) (at : ℕ) (ss : List Subdisk) → list_all (fits d) ss ≡ true → Run d.name at (gaps d at ss)
gaps_run d at [] h = run_last d.name at d.publen
gaps_run d at (s ∷ ss) h =
    let parts = and_parts (fits d s) (list_all (fits d) ss) h in
    by parts.0 (bytes_eq s.disk d.name) refl (λ m. gaps_run d m ss parts.1) where
      by : fits d s ≡ true → (b : Bool) → bytes_eq s.disk d.name ≡ b → ((m : ℕ) → Run d.name m (gaps d m ss)) → Run d.name at (cond b (between d.name at s.off ++ gaps d (max at (s.off + s.len)) ss) (gaps d at ss))
      by here false e more = more at
      by here true e more =
          let some = (fits_parts d s e here).some in
          run_more d.name at s.off (max at (s.off + s.len)) (gaps d (max at (s.off + s.len)) ss) (omega (arith, some)) (omega arith) (more (max at (s.off + s.len)))

pub gaps_order : (d : Disk) (at : ℕ) (ss : List Subdisk) → list_all (fits d) ss ≡ true → are_in_order (gaps d at ss) ≡ true
gaps_order d at ss h = (gaps_run d at ss h).order

-- what each run passes that ends in the public region, each of them passes
gaps_test : (p : Extent → Bool) (d : Disk) (at : ℕ) (ss : List Subdisk) → ((from to : ℕ) → from < to → to ≤ d.publen → p (record { disk = d.name; start = from; count = to - from }) ≡ true) → list_all (fits d) ss ≡ true → list_all p (gaps d at ss) ≡ true
gaps_test p d at [] each h = between_test p d.name at d.publen (λ lt. each at d.publen lt (omega arith))
gaps_test p d at (s ∷ ss) each h =
    let parts = and_parts (fits d s) (list_all (fits d) ss) h in
    by parts.0 (bytes_eq s.disk d.name) refl (λ m. gaps_test p d m ss each parts.1) where
      by : fits d s ≡ true → (b : Bool) → bytes_eq s.disk d.name ≡ b → ((m : ℕ) → list_all p (gaps d m ss) ≡ true) → list_all p (cond b (between d.name at s.off ++ gaps d (max at (s.off + s.len)) ss) (gaps d at ss)) ≡ true
      by here false e more = more at
      by here true e more =
          let room = (fits_parts d s e here).room in
          all_append p (between d.name at s.off) (gaps d (max at (s.off + s.len)) ss) (between_test p d.name at s.off (λ lt. each at s.off lt (omega (arith, room)))) (more (max at (s.off + s.len)))

pub gaps_on : (d : Disk) (at : ℕ) (ss : List Subdisk) → list_all (fits d) ss ≡ true → list_all (λ (e : Extent). bytes_eq e.disk d.name) (gaps d at ss) ≡ true
gaps_on d at ss h = gaps_test (λ e. bytes_eq e.disk d.name) d at ss (λ from to lt le. bytes_eq_self d.name) h

pub gaps_end : (d : Disk) (at : ℕ) (ss : List Subdisk) → d.publen < 2 ^ 40 → list_all (fits d) ss ≡ true → list_all (λ (e : Extent). nat_lt (e.start + e.count) (2 ^ 64)) (gaps d at ss) ≡ true
gaps_end d at ss short h = gaps_test (λ (e : Extent). nat_lt (e.start + e.count) (2 ^ 64)) d at ss (λ from to lt le. lt-ltb (from + (to - from)) (2 ^ 64) (omega (arith, lt, le, short))) h

pub total_append : (n : Word) (xs ys : List Extent) → total n (xs ++ ys) ≡ total n xs + total n ys
total_append n [] ys = omega arith
total_append n (x ∷ xs) ys = let e = total_append n xs ys in omega (arith, e)

pub gaps_total : (d : Disk) (at : ℕ) (ss : List Subdisk) → list_all (fits d) ss ≡ true → total d.name (gaps d at ss) ≤ d.publen - at
gaps_total d at [] h = let e = between_total d.name d.name at d.publen ∙ cond-true (bytes_eq d.name d.name) (d.publen - at) 0 (bytes_eq_self d.name) in omega (arith, e)
gaps_total d at (s ∷ ss) h =
    let parts = and_parts (fits d s) (list_all (fits d) ss) h in
    by parts.0 (bytes_eq s.disk d.name) refl (λ m. gaps_total d m ss parts.1) where
      by : fits d s ≡ true → (b : Bool) → bytes_eq s.disk d.name ≡ b → ((m : ℕ) → total d.name (gaps d m ss) ≤ d.publen - m) → total d.name (cond b (between d.name at s.off ++ gaps d (max at (s.off + s.len)) ss) (gaps d at ss)) ≤ d.publen - at
      by here false e more = more at
      by here true e more =
          let room = (fits_parts d s e here).room in
          let sum = total_append d.name (between d.name at s.off) (gaps d (max at (s.off + s.len)) ss) in
          let first = between_total d.name d.name at s.off ∙ cond-true (bytes_eq d.name d.name) (s.off - at) 0 (bytes_eq_self d.name) in
          let rest = more (max at (s.off + s.len)) in
          omega (arith, sum, first, rest, room)
