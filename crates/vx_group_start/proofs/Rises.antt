-- A count of one copy that rose has risen in all pieces, and is one of a device that the copy lies on.
use Rattle.std.proofs.Common.{◌≡◌, ℕ, zero, suc, ◌+◌, ◌-◌, ◌^◌, ◌≤◌, ◌==◌, min, Bool, true, false, cond, List, [], ◌∷◌, ◌++◌, ◌∙◌, refl, sym, ap, subst, arith}
use Rattle.std.specs.Prelude.{◌||◌}
use Rattle.std.specs.List.{list_any, sum_by, All}
use Rattle.std.proofs.lemmas.Bool.{false≢true}
use Rattle.std.proofs.lemmas.List.Folds.{list_any-append}
use Rattle.std.proofs.lemmas.List.Sums.{sum_by-append, sum_by-cons}
use Rattle.vx_base.specs.Counts.{Rose}
use Rattle.vx_piece.specs.Seen.{Seen}
use Rattle.vx_runs.specs.Run.{EachPiece}
use Rattle.vx_carve.specs.Together.{HasSome, SameSectors, cut_of, cut_on, faults_of, faults_on}
use Rattle.vx_cut.specs.Same.{SameRun, counted}
use Rattle.vx_cut.proofs.Parts.{all_parts}
use Rattle.vx_fronts.specs.Rests.{is_of}
use Rattle.vx_fronts.proofs.Sectors.{any_same, none_counted}
use Rattle.vx_pages.specs.Sector.{KeepsPiece}
use Rattle.vx_maps.specs.Copies.{SameRuns}
use Rattle.vx_maps.specs.Creating.{copies_cut, run_cut}
use Rattle.vx_maps.specs.Going.{CopiesGo}
use Rattle.vx_maps.specs.Loading.{copy_at}
use Rattle.vx_maps.specs.Wholes.{copy_faults}
use Rattle.vx_lending.specs.Going.{GoTogether}
use Rattle.vx_lending.specs.Pieces.{copy_pieces}
use Rattle.vx_lending.proofs.Counts.{same_owners}
use Rattle.vx_lending.proofs.Goings.{counted_on}
use Rattle.vx_group_start.specs.Logs.{AreOn, SomeCut}

-- ---- counts of a copy

cond_less : (b : Bool) (m n : ℕ) → m ≤ n → cond b m 0 ≤ cond b n 0
cond_less true m n le = le
cond_less false m n le = omega arith

piece_grows : (device : ℕ) (p q : Seen) → KeepsPiece p q → faults_of device p ≤ faults_of device q
piece_grows device p q k =
    let same : faults_of device q ≡ cond (p.device == device) q.faults 0 = ap (λ n. cond (n == device) q.faults 0) k.kept.device in
    let less = cond_less (p.device == device) p.faults q.faults k.kept.faults in
    omega (arith, same, less)

each_grows : (device : ℕ) (ps qs : List Seen) → EachPiece KeepsPiece ps qs → sum_by (faults_of device) ps ≤ sum_by (faults_of device) qs
each_grows device [] [] go = omega arith
each_grows device [] (q ∷ qs) go = absurd go
each_grows device (p ∷ ps) [] go = absurd go
each_grows device (p ∷ ps) (q ∷ qs) go =
    let a = sum_by-cons (faults_of device) p ps in
    let b = sum_by-cons (faults_of device) q qs in
    let here = piece_grows device p q go.0 in
    let rest = each_grows device ps qs go.1 in
    omega (arith, a, b, here, rest)

run_grows : (device : ℕ) (x y z : List Seen) → SameRun x y → EachPiece KeepsPiece y z → sum_by (faults_of device) x ≤ sum_by (faults_of device) z
run_grows device x y z same go =
    let a = counted_on device x in
    let b = counted_on device y in
    let e = same.faults device in
    let more = each_grows device y z go in
    omega (arith, a, b, e, more)

copies_grow : (device : ℕ) (xs cut ys : List (List Seen)) → SameRuns xs cut → CopiesGo KeepsPiece cut ys → sum_by (faults_of device) (copy_pieces xs) ≤ sum_by (faults_of device) (copy_pieces ys)
copies_grow device [] [] [] same go = omega arith
copies_grow device [] [] (y ∷ ys) same go = absurd go
copies_grow device [] (c ∷ cs) ys same go = absurd same
copies_grow device (x ∷ xs) [] ys same go = absurd same
copies_grow device (x ∷ xs) (c ∷ cs) [] same go = absurd go
copies_grow device (x ∷ xs) (c ∷ cs) (y ∷ ys) same go =
    let a = sum_by-append (faults_of device) x (copy_pieces xs) in
    let b = sum_by-append (faults_of device) y (copy_pieces ys) in
    let here = run_grows device x c y same.0 go.0 in
    let rest = copies_grow device xs cs ys same.1 go.1 in
    omega (arith, a, b, here, rest)

-- ---- one that rose

rose_first : (a b c d : ℕ) → Rose a b → c ≤ d → Rose (min (a + c) (2 ^ 64 - 1)) (min (b + d) (2 ^ 64 - 1))
rose_first a b c d rose le = omega (arith, rose, le)

rose_then : (a b c d : ℕ) → a ≤ b → Rose (min c (2 ^ 64 - 1)) (min d (2 ^ 64 - 1)) → Rose (min (a + c) (2 ^ 64 - 1)) (min (b + d) (2 ^ 64 - 1))
rose_then a b c d le rose = omega (arith, rose, le)

rose_as : (a b x y : ℕ) → x ≡ a → y ≡ b → Rose (min a (2 ^ 64 - 1)) (min b (2 ^ 64 - 1)) → Rose (min x (2 ^ 64 - 1)) (min y (2 ^ 64 - 1))
rose_as a b x y e f rose = omega (arith, e, f, rose)

rose_counted : (a b x y : ℕ) → a ≡ x → b ≡ y → Rose a b → Rose x y
rose_counted a b x y e f rose = omega (arith, e, f, rose)

pub rose_in : (device n : ℕ) (xs cut ys : List (List Seen)) → SameRuns xs cut → CopiesGo KeepsPiece cut ys → Rose (copy_faults xs n device) (copy_faults ys n device) → Rose (faults_on device (copy_pieces xs)) (faults_on device (copy_pieces ys))
rose_in device n [] [] [] same go rose = absurd (omega (arith, rose))
rose_in device n [] [] (y ∷ ys) same go rose = absurd go
rose_in device n [] (c ∷ cs) ys same go rose = absurd same
rose_in device n (x ∷ xs) [] ys same go rose = absurd same
rose_in device n (x ∷ xs) (c ∷ cs) [] same go rose = absurd go
rose_in device zero (x ∷ xs) (c ∷ cs) (y ∷ ys) same go rose =
    rose_as _ _ _ _ (sum_by-append (faults_of device) x (copy_pieces xs)) (sum_by-append (faults_of device) y (copy_pieces ys))
    (rose_first (sum_by (faults_of device) x) (sum_by (faults_of device) y) (sum_by (faults_of device) (copy_pieces xs)) (sum_by (faults_of device) (copy_pieces ys)) (rose_counted _ _ _ _ (counted_on device x) (counted_on device y) rose) (copies_grow device xs cs ys same.1 go.1))
rose_in device (suc n) (x ∷ xs) (c ∷ cs) (y ∷ ys) same go rose =
    rose_as _ _ _ _ (sum_by-append (faults_of device) x (copy_pieces xs)) (sum_by-append (faults_of device) y (copy_pieces ys))
    (rose_then (sum_by (faults_of device) x) (sum_by (faults_of device) y) (sum_by (faults_of device) (copy_pieces xs)) (sum_by (faults_of device) (copy_pieces ys)) (run_grows device x c y same.0 go.0) (rose_in device n xs cs ys same.1 go.1 rose))

-- beside other pieces
rose_among : (a b r s : ℕ) → Rose (min a (2 ^ 64 - 1)) (min b (2 ^ 64 - 1)) → Rose (min (r + a + s) (2 ^ 64 - 1)) (min (r + b + s) (2 ^ 64 - 1))
rose_among a b r s rose = omega (arith, rose)

three : (f : Seen → ℕ) (rs cs ss : List Seen) → sum_by f ((rs ++ cs) ++ ss) ≡ sum_by f rs + sum_by f cs + sum_by f ss
three f rs cs ss = let a = sum_by-append f (rs ++ cs) ss in let b = sum_by-append f rs cs in omega (arith, a, b)

pub rose_beside : (device : ℕ) (rs cs ds ss os : List Seen) → SameSectors ((rs ++ ds) ++ ss) os → Rose (faults_on device cs) (faults_on device ds) → Rose (faults_on device ((rs ++ cs) ++ ss)) (faults_on device os)
rose_beside device rs cs ds ss os same rose =
    subst (Rose (faults_on device ((rs ++ cs) ++ ss))) (sym (same.faults device))
    (rose_as _ _ _ _ (three (faults_of device) rs cs ss) (three (faults_of device) rs ds ss) (rose_among (sum_by (faults_of device) cs) (sum_by (faults_of device) ds) (sum_by (faults_of device) rs) (sum_by (faults_of device) ss) rose))

-- ---- power

some_here : (a b : ℕ) → a ≡ 1 → min (a + b) 1 ≡ 1
some_here a b e = omega (arith, e)

some_there : (a b : ℕ) → min b 1 ≡ 1 → min (a + b) 1 ≡ 1
some_there a b e = omega (arith, e)

min_as : (a x : ℕ) → x ≡ a → min a 1 ≡ 1 → min x 1 ≡ 1
min_as a x e f = omega (arith, e, f)

same_self : (n : ℕ) → (n == n) ≡ true
same_self n = grind arith

own_cut : (p : Seen) → p.cut ≡ true → cut_of p.device p ≡ 1
own_cut p e = ap (λ b. cond b (cond p.cut 1 0) 0) (same_self p.device) ∙ ap (λ b. cond b 1 0) e

behind_cut : (p : Seen) (ps : List Seen) → SomeCut ps → SomeCut (p ∷ ps)
behind_cut p ps some = (some.0, min_as _ _ (sum_by-cons (cut_of some.0) p ps) (some_there (cut_of some.0 p) (sum_by (cut_of some.0) ps) some.1))

pub after_cut : (xs ys : List Seen) → SomeCut ys → SomeCut (xs ++ ys)
after_cut [] ys some = some
after_cut (x ∷ xs) ys some = behind_cut x (xs ++ ys) (after_cut xs ys some)

less_cut : (a b : ℕ) → min a 1 ≡ 1 → min (a + b) 1 ≡ 1
less_cut a b e = omega (arith, e)

pub before_cut : (xs ys : List Seen) → SomeCut xs → SomeCut (xs ++ ys)
before_cut xs ys some = (some.0, min_as _ _ (sum_by-append (cut_of some.0) xs ys) (less_cut (sum_by (cut_of some.0) xs) (sum_by (cut_of some.0) ys) some.1))

run_is_cut : (ps : List Seen) → run_cut ps ≡ true → SomeCut ps
run_is_cut [] e = absurd cc
run_is_cut (p ∷ ps) e = by p.cut refl (λ rest. behind_cut p ps (run_is_cut ps rest)) e
  where
    by : (b : Bool) → p.cut ≡ b → (run_cut ps ≡ true → SomeCut (p ∷ ps)) → (b || run_cut ps) ≡ true → SomeCut (p ∷ ps)
    by true is rest e = (p.device, min_as _ _ (sum_by-cons (cut_of p.device) p ps) (some_here (cut_of p.device p) (sum_by (cut_of p.device) ps) (own_cut p is)))
    by false is rest e = rest e

pub copies_are_cut : (xs : List (List Seen)) → copies_cut xs ≡ true → SomeCut (copy_pieces xs)
copies_are_cut [] e = absurd cc
copies_are_cut (x ∷ xs) e = by (run_cut x) refl (λ rest. after_cut x (copy_pieces xs) (copies_are_cut xs rest)) e
  where
    by : (b : Bool) → run_cut x ≡ b → (copies_cut xs ≡ true → SomeCut (x ++ copy_pieces xs)) → (b || copies_cut xs) ≡ true → SomeCut (x ++ copy_pieces xs)
    by true is rest e = before_cut x (copy_pieces xs) (run_is_cut x is)
    by false is rest e = rest e

some_among : (a r s x : ℕ) → x ≡ r + a + s → min a 1 ≡ 1 → min x 1 ≡ 1
some_among a r s x e f = omega (arith, e, f)

pub cut_beside : (device : ℕ) (rs ds ss os : List Seen) → SameSectors ((rs ++ ds) ++ ss) os → cut_on device ds ≡ 1 → cut_on device os ≡ 1
cut_beside device rs ds ss os same cut = same.cut device ∙ some_among (sum_by (cut_of device) ds) (sum_by (cut_of device) rs) (sum_by (cut_of device) ss) _ (three (cut_of device) rs ds ss) cut

-- ---- the devices of copies

on_same : (device : ℕ) (ps qs : List Seen) → EachPiece KeepsPiece ps qs → list_any (is_of device) qs ≡ list_any (is_of device) ps
on_same device [] [] go = refl
on_same device [] (q ∷ qs) go = absurd go
on_same device (p ∷ ps) [] go = absurd go
on_same device (p ∷ ps) (q ∷ qs) go = ap (λ n. (n == device) || list_any (is_of device) qs) go.0.kept.device ∙ ap (λ b. is_of device p || b) (on_same device ps qs go.1)

counts_none : (device : ℕ) (ps : List Seen) → list_any (is_of device) ps ≡ false → counted (λ p. p.faults) device ps ≡ 0
counts_none device ps none = counted_on device ps ∙ none_counted (faults_of device) device ps (λ p e. ap (λ b. cond b p.faults 0) e) none

-- a device whose count rose is one of the copy's
rose_on : (device : ℕ) (x c y : List Seen) → All HasSome x → SameRun x c → EachPiece KeepsPiece c y → Rose (counted (λ p. p.faults) device x) (counted (λ p. p.faults) device y) → AreOn device x
rose_on device x c y some same go rose = by (list_any (is_of device) x) refl
  where
    by : (b : Bool) → list_any (is_of device) x ≡ b → list_any (is_of device) x ≡ true
    by true e = e
    by false e =
        let first = counts_none device x e in
        let last = counts_none device y (on_same device c y go ∙ any_same x c device some (same.some some) (λ k. same_owners x c same device k) ∙ e) in
        absurd (omega (arith, first, last, rose))

pub copy_on : (device n : ℕ) (xs cut ys : List (List Seen)) → All HasSome (copy_pieces xs) → SameRuns xs cut → CopiesGo KeepsPiece cut ys → Rose (copy_faults xs n device) (copy_faults ys n device) → AreOn device (copy_at xs n)
copy_on device n [] [] [] some same go rose = absurd (omega (arith, rose))
copy_on device n [] [] (y ∷ ys) some same go rose = absurd go
copy_on device n [] (c ∷ cs) ys some same go rose = absurd same
copy_on device n (x ∷ xs) [] ys some same go rose = absurd same
copy_on device n (x ∷ xs) (c ∷ cs) [] some same go rose = absurd go
copy_on device zero (x ∷ xs) (c ∷ cs) (y ∷ ys) some same go rose = rose_on device x c y (all_parts HasSome x (copy_pieces xs) some).0 same.0 go.0 rose
copy_on device (suc n) (x ∷ xs) (c ∷ cs) (y ∷ ys) some same go rose = copy_on device n xs cs ys (all_parts HasSome x (copy_pieces xs) some).1 same.1 go.1 rose

or_true : (b : Bool) → (b || true) ≡ true
or_true true = refl
or_true false = refl

pub on_copies : (device n : ℕ) (xs : List (List Seen)) → AreOn device (copy_at xs n) → AreOn device (copy_pieces xs)
on_copies device n [] on = absurd (false≢true on)
on_copies device zero (x ∷ xs) on = list_any-append (is_of device) x (copy_pieces xs) ∙ ap (λ b. b || list_any (is_of device) (copy_pieces xs)) on
on_copies device (suc n) (x ∷ xs) on = list_any-append (is_of device) x (copy_pieces xs) ∙ ap (λ b. list_any (is_of device) x || b) (on_copies device n xs on) ∙ or_true (list_any (is_of device) x)

-- a device whose power is gone is one of those that went on
pub cut_own : (device : ℕ) (ps qs : List Seen) → GoTogether ps qs → All HasSome ps → cut_on device qs ≡ 1 → AreOn device ps
cut_own device ps qs goes some cut = by (list_any (is_of device) ps) refl
  where
    by : (b : Bool) → list_any (is_of device) ps ≡ b → list_any (is_of device) ps ≡ true
    by true e = e
    by false e =
        let none = none_counted (cut_of device) device qs (λ p f. ap (λ b. cond b (cond p.cut 1 0) 0) f) (any_same ps qs device some (goes.some some) (λ k. goes.sectors device k) ∙ e) in
        absurd (omega (arith, none, cut))
