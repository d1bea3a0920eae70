-- Pieces are cut, joined and moved, and stay together what they were.
use Rattle.std.proofs.Common.{◌≡◌, ℕ, ◌+◌, ◌-◌, ◌^◌, ◌<◌, ◌≤◌, ◌==◌, min, Bool, true, false, cond, List, [], ◌∷◌, ◌++◌, Option, Some, None, refl, sym, ap, ◌∙◌, subst, arith}
use Rattle.std.specs.Prelude.{nat_lt, nat_le, ◌&&◌, ◌||◌}
use Rattle.std.specs.List.{sum_by, All}
use Rattle.std.specs.List.Sorted.{IsPermutation}
use Rattle.std.proofs.lemmas.List.Sums.{sum_by-append}
use Rattle.std.proofs.lemmas.List.Elements.{All-nil, All-cons, All-head, All-tail, All-append}
use Rattle.std.proofs.lemmas.List.Sorted.{sum_by-IsPermutation, All-permutation}
use Rattle.vx_base.specs.Blocks.{Contents}
use Rattle.vx_piece.specs.Seen.{Seen, IsSplit, IsJoined}
use Rattle.vx_piece.specs.Told.{front_of, front_told, back_told, joined_told}
use Rattle.vx_carve.specs.Together.{has_at, has, owners, faults_of, writes_of, reads_of, cut_of, HoldsTold, Holds, HasStop, HasSome, SameSectors}

pub same_refl : (ps : List Seen) → SameSectors ps ps
same_refl ps = record { sectors = λ d s. refl; faults = λ d. refl; writes = λ d. refl; reads = λ d. refl; cut = λ d. refl; contents = λ c h. h; some = λ h. h; stops = λ s h. h }

pub same_trans : (ps qs rs : List Seen) → SameSectors ps qs → SameSectors qs rs → SameSectors ps rs
same_trans ps qs rs a b = record {
  sectors = λ d s. b.sectors d s ∙ a.sectors d s;
  faults = λ d. b.faults d ∙ a.faults d;
  writes = λ d. b.writes d ∙ a.writes d;
  reads = λ d. b.reads d ∙ a.reads d;
  cut = λ d. b.cut d ∙ a.cut d;
  contents = λ c h. b.contents c (a.contents c h);
  some = λ h. b.some (a.some h);
  stops = λ s h. b.stops s (a.stops s h);
}

-- moved
pub same_moved : (ps qs : List Seen) → IsPermutation ps qs → SameSectors ps qs
same_moved ps qs p = record {
  sectors = λ d s. sum_by-IsPermutation (has d s) ps qs p;
  faults = λ d. ap (λ n. min n (2 ^ 64 - 1)) (sum_by-IsPermutation (faults_of d) ps qs p);
  writes = λ d. ap (λ n. min n (2 ^ 64 - 1)) (sum_by-IsPermutation (writes_of d) ps qs p);
  reads = λ d. ap (λ n. min n (2 ^ 64 - 1)) (sum_by-IsPermutation (reads_of d) ps qs p);
  cut = λ d. ap (λ n. min n 1) (sum_by-IsPermutation (cut_of d) ps qs p);
  contents = λ c h. All-permutation (Holds c) ps qs p h;
  some = λ h. All-permutation HasSome ps qs p h;
  stops = λ s h. All-permutation (HasStop s) ps qs p h;
}

-- beside others
clip_more : (m a b c : ℕ) → min b m ≡ min a m → min (b + c) m ≡ min (a + c) m
clip_more m a b c e = omega (arith, e)

clip_append : {X : Type 0} (f : X → ℕ) (m : ℕ) (ps qs rs : List X) → min (sum_by f qs) m ≡ min (sum_by f ps) m → min (sum_by f (qs ++ rs)) m ≡ min (sum_by f (ps ++ rs)) m
clip_append f m ps qs rs e = ap (λ n. min n m) (sum_by-append f qs rs) ∙ clip_more m _ _ _ e ∙ sym (ap (λ n. min n m) (sum_by-append f ps rs))

all_parts : {X : Type 0} (P : X → Type 0) (ps rs : List X) → All P (ps ++ rs) → All P ps × All P rs
all_parts P [] rs h = (All-nil P, h)
all_parts P (p ∷ ps) rs h = let rest = all_parts P ps rs (All-tail P p (ps ++ rs) h) in (All-cons P p ps (All-head P p (ps ++ rs) h) rest.0, rest.1)

all_beside : {X : Type 0} (P : X → Type 0) (ps qs rs : List X) → (All P ps → All P qs) → All P (ps ++ rs) → All P (qs ++ rs)
all_beside P ps qs rs f h = let parts = all_parts P ps rs h in All-append P qs rs (f parts.0) parts.1

pub same_beside : (rs ps qs : List Seen) → SameSectors ps qs → SameSectors (ps ++ rs) (qs ++ rs)
same_beside rs ps qs a = record {
  sectors = λ d s. sum_by-append (has d s) qs rs ∙ ap (λ n. n + owners d s rs) (a.sectors d s) ∙ sym (sum_by-append (has d s) ps rs);
  faults = λ d. clip_append (faults_of d) (2 ^ 64 - 1) ps qs rs (a.faults d);
  writes = λ d. clip_append (writes_of d) (2 ^ 64 - 1) ps qs rs (a.writes d);
  reads = λ d. clip_append (reads_of d) (2 ^ 64 - 1) ps qs rs (a.reads d);
  cut = λ d. clip_append (cut_of d) 1 ps qs rs (a.cut d);
  contents = λ c h. all_beside (Holds c) ps qs rs (a.contents c) h;
  some = λ h. all_beside HasSome ps qs rs a.some h;
  stops = λ s h. all_beside (HasStop s) ps qs rs (a.stops s) h;
}

-- a run in two parts
has_cut : (b : Bool) (start at rest s : ℕ) → cond (b && nat_le start s && nat_lt (s - start) at) 1 0 + cond (b && nat_le (start + at) s && nat_lt (s - (start + at)) rest) 1 0 ≡ cond (b && nat_le start s && nat_lt (s - start) (at + rest)) 1 0
has_cut false start at rest s = refl
has_cut true start at rest s = grind arith

pub has_parts : (number number' number'' start start' at rest count d s : ℕ) → number' ≡ number → number'' ≡ number → start' ≡ start + at → at + rest ≡ count → has_at number' start at d s + has_at number'' start' rest d s ≡ has_at number start count d s
has_parts number number' number'' start start' at rest count d s e e' f g =
    ap (λ n. has_at n start at d s + has_at number'' start' rest d s) e ∙ ap (λ n. has_at number start at d s + has_at n start' rest d s) e'
    ∙ ap (λ n. has_at number start at d s + has_at number n rest d s) f ∙ has_cut (number == d) start at rest s ∙ ap (λ n. has_at number start n d s) g

two : {X : Type 0} (f : X → ℕ) (x y : X) → sum_by f (x ∷ y ∷ []) ≡ f x + f y
two f x y = ap (λ n. n + f y) (omega arith)

one : {X : Type 0} (f : X → ℕ) (x : X) → sum_by f (x ∷ []) ≡ f x
one f x = omega arith

-- the counts of a device, in one piece or in two
add_on : (b b' b'' : Bool) (m n k : ℕ) → b' ≡ b → b'' ≡ b → m + n ≡ k → cond b' m 0 + cond b'' n 0 ≡ cond b k 0
add_on true b' b'' m n k e f g = rw e (rw f g)
add_on false b' b'' m n k e f g = rw e (rw f refl)

clip_on : (b b' : Bool) (most m n k : ℕ) → b' ≡ b → k ≡ min (m + n) most → min (cond b k 0) most ≡ min (cond b m 0 + cond b' n 0) most
clip_on true b' most m n k e g = rw e (omega (arith, g))
clip_on false b' most m n k e g = rw e refl

cut_parts : (b b' b'' c c' c'' : Bool) → b' ≡ b → b'' ≡ b → c' ≡ c → c'' ≡ c → min (cond b' (cond c' 1 0) 0 + cond b'' (cond c'' 1 0) 0) 1 ≡ min (cond b (cond c 1 0) 0) 1
cut_parts true b' b'' true c' c'' e f g h = rw e (rw f (rw g (rw h refl)))
cut_parts true b' b'' false c' c'' e f g h = rw e (rw f (rw g (rw h refl)))
cut_parts false b' b'' c c' c'' e f g h = rw e (rw f refl)

cut_whole : (b b' b'' c c' c'' : Bool) → b' ≡ b → b'' ≡ b → c'' ≡ (c || c') → min (cond b'' (cond c'' 1 0) 0) 1 ≡ min (cond b (cond c 1 0) 0 + cond b' (cond c' 1 0) 0) 1
cut_whole true b' b'' true c' c'' e f g = rw e (rw f (rw g (by c')))
  where
    by : (c : Bool) → 1 ≡ min (1 + cond c 1 0) 1
    by true = refl
    by false = refl
cut_whole true b' b'' false c' c'' e f g = rw e (rw f (rw g (by c')))
  where
    by : (c : Bool) → min (cond c 1 0) 1 ≡ min (0 + cond c 1 0) 1
    by true = refl
    by false = refl
cut_whole false b' b'' c c' c'' e f g = rw e (rw f refl)

parts_of : {X : Type 0} (f : X → ℕ) (m : ℕ) (p x y : X) → min (f x + f y) m ≡ min (f p) m → min (sum_by f (x ∷ y ∷ [])) m ≡ min (sum_by f (p ∷ [])) m
parts_of f m p x y e = ap (λ n. min n m) (two f x y) ∙ e ∙ sym (ap (λ n. min n m) (one f p))

whole_of : {X : Type 0} (f : X → ℕ) (m : ℕ) (p x y : X) → min (f p) m ≡ min (f x + f y) m → min (sum_by f (p ∷ [])) m ≡ min (sum_by f (x ∷ y ∷ [])) m
whole_of f m p x y e = ap (λ n. min n m) (one f p) ∙ e ∙ sym (ap (λ n. min n m) (two f x y))

front_at : (n : ℕ) (t : Contents) (k : ℕ) → k < n → front_of n t k ≡ t k
front_at n t k lt = grind (arith, lt)

hold_front : (c : ℕ → Contents) (old first : Option Contents) (d d' s s' n n' : ℕ) → d' ≡ d → s' ≡ s → n' ≤ n → first ≡ front_told n' old → HoldsTold c d s n old → HoldsTold c d' s' n' first
hold_front c None first d d' s s' n n' e f le part h = absurd h
hold_front c (Some t) first d d' s s' n n' e f le part h = subst (λ x. HoldsTold c d' s' n' x) (sym part)
    (λ k lt. front_at n' t k lt ∙ h k (omega (arith, lt, le)) ∙ sym (ap (λ i. c i (s' + k)) e ∙ ap (λ i. c d (i + k)) f))

hold_back : (c : ℕ → Contents) (old second : Option Contents) (d d' s s' at n m : ℕ) → d' ≡ d → s' ≡ s + at → m + at ≡ n → second ≡ back_told at old → HoldsTold c d s n old → HoldsTold c d' s' m second
hold_back c None second d d' s s' at n m e f g part h = absurd h
hold_back c (Some t) second d d' s s' at n m e f g part h = subst (λ x. HoldsTold c d' s' m x) (sym part)
    (λ k lt.
    let z : s + (at + k) ≡ s' + k = omega (arith, f) in
    h (at + k) (omega (arith, lt, g)) ∙ ap (λ i. c d i) z ∙ sym (ap (λ i. c i (s' + k)) e))

hold_joined : (c : ℕ → Contents) (a b j : Option Contents) (d d' d'' s s' s'' n m l : ℕ) → d' ≡ d → d'' ≡ d → s' ≡ s + n → s'' ≡ s → l ≡ n + m → j ≡ joined_told n a b → HoldsTold c d s n a → HoldsTold c d' s' m b → HoldsTold c d'' s'' l j
hold_joined c None b j d d' d'' s s' s'' n m l e f g h i join x y = absurd x
hold_joined c (Some a) None j d d' d'' s s' s'' n m l e f g h i join x y = absurd y
hold_joined c (Some a) (Some b) j d d' d'' s s' s'' n m l e f g h i join x y = subst (λ t. HoldsTold c d'' s'' l t) (sym join) (λ k lt. by k lt (nat_lt k n) refl)
  where
    at : (k : ℕ) → c d'' (s'' + k) ≡ c d (s + k)
    at k = ap (λ i. c i (s'' + k)) f ∙ ap (λ i. c d (i + k)) h

    by : (k : ℕ) → k < l → (v : Bool) → v ≡ nat_lt k n → cond v (a k) (b (k - n)) ≡ c d'' (s'' + k)
    by k lt true is = let in_front : k < n = grind (arith, is) in x k in_front ∙ sym (at k)
    by k lt false is =
        let behind : n ≤ k = grind (arith, is) in
        let there : s' + (k - n) ≡ s + k = omega (arith, behind, g) in
        let inside : k - n < m = omega (arith, behind, lt, i) in
        y (k - n) inside ∙ ap (λ u. c u (s' + (k - n))) e ∙ ap (λ u. c d u) there ∙ sym (at k)

all_two : {X : Type 0} (P : X → Type 0) (x y : X) → P x → P y → All P (x ∷ y ∷ [])
all_two P x y a b = All-cons P x (y ∷ []) a (All-cons P y [] b (All-nil P))

-- cut in two
pub same_cut : (at : ℕ) (p x y : Seen) → 0 < at → at < p.sectors → IsSplit at p x y → SameSectors (p ∷ []) (x ∷ y ∷ [])
same_cut at p x y front back is = record {
  sectors = λ d s. two (has d s) x y ∙ ap (λ n. has_at x.device n x.sectors d s + has d s y) is.starts.0 ∙ has_parts p.device x.device y.device p.start y.start x.sectors y.sectors p.sectors d s is.devices.0 is.devices.1 (is.starts.1 ∙ ap (λ n. p.start + n) (sym is.sizes.0)) (let a = is.sizes.0 in let b = is.sizes.1 in omega (arith, a, b)) ∙ sym (one (has d s) p);
  faults = λ d. parts_of (faults_of d) (2 ^ 64 - 1) p x y (ap (λ n. min n (2 ^ 64 - 1)) (add_on (p.device == d) (x.device == d) (y.device == d) x.faults y.faults p.faults (ap (λ n. n == d) is.devices.0) (ap (λ n. n == d) is.devices.1) is.faults));
  writes = λ d. parts_of (writes_of d) (2 ^ 64 - 1) p x y (ap (λ n. min n (2 ^ 64 - 1)) (add_on (p.device == d) (x.device == d) (y.device == d) x.writes y.writes p.writes (ap (λ n. n == d) is.devices.0) (ap (λ n. n == d) is.devices.1) is.writes));
  reads = λ d. parts_of (reads_of d) (2 ^ 64 - 1) p x y (ap (λ n. min n (2 ^ 64 - 1)) (add_on (p.device == d) (x.device == d) (y.device == d) x.reads y.reads p.reads (ap (λ n. n == d) is.devices.0) (ap (λ n. n == d) is.devices.1) is.reads));
  cut = λ d. parts_of (cut_of d) 1 p x y (cut_parts (p.device == d) (x.device == d) (y.device == d) p.cut x.cut y.cut (ap (λ n. n == d) is.devices.0) (ap (λ n. n == d) is.devices.1) is.cuts.0 is.cuts.1);
  contents = λ c h. let whole = All-head (Holds c) p [] h in
      all_two (Holds c) x y
      (hold_front c p.told x.told p.device x.device p.start x.start p.sectors x.sectors is.devices.0 is.starts.0 (let a = is.sizes.0 in let b = is.sizes.1 in omega (arith, a, b)) (subst (λ n. x.told ≡ front_told n p.told) (sym is.sizes.0) is.front) whole)
      (hold_back c p.told y.told p.device y.device p.start y.start at p.sectors y.sectors is.devices.1 is.starts.1 is.sizes.1 is.back whole);
  some = λ h. let a = is.sizes.0 in let b = is.sizes.1 in all_two HasSome x y (omega (arith, a, front)) (omega (arith, b, back));
  stops = λ s h. let whole = All-head (HasStop s) p [] h in all_two (HasStop s) x y (is.stops.0 ∙ whole) (is.stops.1 ∙ whole);
}

-- joined
pub same_joined : (x y p : Seen) → y.device ≡ x.device → y.start ≡ x.start + x.sectors → IsJoined x y p → SameSectors (x ∷ y ∷ []) (p ∷ [])
same_joined x y p e f is = record {
  sectors = λ d s. one (has d s) p ∙ sym (has_parts p.device x.device y.device p.start y.start x.sectors y.sectors p.sectors d s (sym is.device) (e ∙ sym is.device) (f ∙ ap (λ n. n + x.sectors) (sym is.start)) (sym is.sectors)) ∙ ap (λ n. has_at x.device n x.sectors d s + has d s y) is.start ∙ sym (two (has d s) x y);
  faults = λ d. whole_of (faults_of d) (2 ^ 64 - 1) p x y (ap (λ n. min (cond (n == d) p.faults 0) (2 ^ 64 - 1)) is.device ∙ clip_on (x.device == d) (y.device == d) (2 ^ 64 - 1) x.faults y.faults p.faults (ap (λ n. n == d) e) is.faults);
  writes = λ d. whole_of (writes_of d) (2 ^ 64 - 1) p x y (ap (λ n. min (cond (n == d) p.writes 0) (2 ^ 64 - 1)) is.device ∙ clip_on (x.device == d) (y.device == d) (2 ^ 64 - 1) x.writes y.writes p.writes (ap (λ n. n == d) e) is.writes);
  reads = λ d. whole_of (reads_of d) (2 ^ 64 - 1) p x y (ap (λ n. min (cond (n == d) p.reads 0) (2 ^ 64 - 1)) is.device ∙ clip_on (x.device == d) (y.device == d) (2 ^ 64 - 1) x.reads y.reads p.reads (ap (λ n. n == d) e) is.reads);
  cut = λ d. whole_of (cut_of d) 1 p x y (cut_whole (x.device == d) (y.device == d) (p.device == d) x.cut y.cut p.cut (ap (λ n. n == d) e) (ap (λ n. n == d) is.device) is.cut);
  contents = λ c h. All-cons (Holds c) p []
      (hold_joined c x.told y.told p.told x.device y.device p.device x.start y.start p.start x.sectors y.sectors p.sectors e is.device f is.start is.sectors is.told (All-head (Holds c) x (y ∷ []) h) (All-head (Holds c) y [] (All-tail (Holds c) x (y ∷ []) h)))
      (All-nil (Holds c));
  some = λ h. let a = is.sectors in let b = All-head HasSome x (y ∷ []) h in All-cons HasSome p [] (omega (arith, a, b)) (All-nil HasSome);
  stops = λ s h. All-cons (HasStop s) p [] (is.stop ∙ All-head (HasStop s) x (y ∷ []) h) (All-nil (HasStop s));
}
