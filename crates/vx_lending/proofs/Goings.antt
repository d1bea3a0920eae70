-- How pieces that were cut and called go on together.
use Rattle.std.proofs.Common.{◌≡◌, ℕ, zero, suc, ◌+◌, ◌-◌, ◌^◌, ◌<◌, ◌≤◌, ◌==◌, min, Bool, true, false, cond, List, [], ◌∷◌, ◌++◌, Option, Some, refl, sym, ap, ◌∙◌, subst, arith}
use Rattle.std.specs.Prelude.{IsTrue, nat_lt}
use Rattle.std.specs.List.{sum_by, All}
use Rattle.std.proofs.lemmas.List.Sums.{sum_by-cons, sum_by-append}
use Rattle.std.proofs.lemmas.List.Elements.{All-nil, All-cons, All-head, All-tail, All-append}
use Rattle.vx_piece.specs.Seen.{Keeps, Seen}
use Rattle.vx_runs.specs.Run.{EachPiece}
use Rattle.vx_cut.specs.Same.{SectorSeen, SameRun, counted, run_at, sector_in}
use Rattle.vx_cut.proofs.Parts.{all_parts}
use Rattle.vx_pages.specs.Sector.{KeepsPiece}
use Rattle.vx_maps.specs.Copies.{SameRuns}
use Rattle.vx_maps.specs.Going.{CopiesGo, CutCopiesGo}
use Rattle.vx_carve.specs.Together.{HasSome, HasStop, SameSectors, cut_of, faults_of, has, has_at}
use Rattle.vx_lending.specs.Going.{GoTogether}
use Rattle.vx_lending.specs.Pieces.{copy_pieces}
use Rattle.vx_lending.proofs.Counts.{behind_first, in_first, same_owners}

pub go_same : (ps : List Seen) → GoTogether ps ps
go_same ps = record { sectors = λ d s. refl; faults = λ d. omega arith; cut = λ d. omega arith; some = λ h. h; stops = λ s h. h }

pub go_then : (ps qs rs : List Seen) → GoTogether ps qs → GoTogether qs rs → GoTogether ps rs
go_then ps qs rs a b = record {
  sectors = λ d s. b.sectors d s ∙ a.sectors d s;
  faults = λ d. let x = a.faults d in let y = b.faults d in omega (arith, x, y);
  cut = λ d. let x = a.cut d in let y = b.cut d in omega (arith, x, y);
  some = λ h. b.some (a.some h);
  stops = λ s h. b.stops s (a.stops s h);
}

-- pieces that are together the same
pub go_from : (ps qs : List Seen) → SameSectors ps qs → GoTogether ps qs
go_from ps qs a = record {
  sectors = a.sectors;
  faults = λ d. let e = a.faults d in omega (arith, e);
  cut = λ d. let e = a.cut d in omega (arith, e);
  some = a.some;
  stops = a.stops;
}

clip_both : (m a b c d : ℕ) → min a m ≤ min b m → min c m ≤ min d m → min (a + c) m ≤ min (b + d) m
clip_both m a b c d x y = omega (arith, x, y)

clip_append : (f : Seen → ℕ) (m : ℕ) (ps qs rs ss : List Seen) → min (sum_by f ps) m ≤ min (sum_by f qs) m → min (sum_by f rs) m ≤ min (sum_by f ss) m → min (sum_by f (ps ++ rs)) m ≤ min (sum_by f (qs ++ ss)) m
clip_append f m ps qs rs ss x y =
    let a = sum_by-append f ps rs in
    let b = sum_by-append f qs ss in
    let c = clip_both m (sum_by f ps) (sum_by f qs) (sum_by f rs) (sum_by f ss) x y in
    omega (arith, a, b, c)

all_beside : (P : Seen → Type 0) (ps qs rs ss : List Seen) → (All P ps → All P qs) → (All P rs → All P ss) → All P (ps ++ rs) → All P (qs ++ ss)
all_beside P ps qs rs ss f g h = let both = all_parts P ps rs h in All-append P qs ss (f both.0) (g both.1)

pub go_beside : (ps qs rs ss : List Seen) → GoTogether ps qs → GoTogether rs ss → GoTogether (ps ++ rs) (qs ++ ss)
go_beside ps qs rs ss a b = record {
  sectors = λ d s.
      let x = sum_by-append (has d s) ps rs in
      let y = sum_by-append (has d s) qs ss in
      let e = a.sectors d s in
      let f = b.sectors d s in
      omega (arith, x, y, e, f);
  faults = λ d. clip_append (faults_of d) (2 ^ 64 - 1) ps qs rs ss (a.faults d) (b.faults d);
  cut = λ d. clip_append (cut_of d) 1 ps qs rs ss (a.cut d) (b.cut d);
  some = λ h. all_beside HasSome ps qs rs ss a.some b.some h;
  stops = λ s h. all_beside (HasStop s) ps qs rs ss (a.stops s) (b.stops s) h;
}

-- ---- a run that was cut

module _ (Q : SectorSeen → Type 0) where
  one_of : (b : Bool) (y x : SectorSeen) (o : Option SectorSeen) → cond b (Some y) o ≡ Some x → Q y → (o ≡ Some x → Q x) → Q x
  one_of true y x o e here there = let same : y ≡ x = cc in subst Q same here
  one_of false y x o e here there = there e

  at_sectors : (ps : List Seen) → All (λ p. (k : ℕ) → Q (sector_in p k)) ps → (k : ℕ) (x : SectorSeen) → run_at ps k ≡ Some x → Q x
  at_sectors [] all k x e = cc
  at_sectors (p ∷ ps) all k x e =
      one_of (nat_lt k p.sectors) (sector_in p k) x (run_at ps (k - p.sectors)) e (All-head (λ p. (k : ℕ) → Q (sector_in p k)) p ps all k)
      (at_sectors ps (All-tail (λ p. (k : ℕ) → Q (sector_in p k)) p ps all) (k - p.sectors) x)

  from_sectors : (ps : List Seen) → All HasSome ps → ((k : ℕ) (x : SectorSeen) → run_at ps k ≡ Some x → Q x) → All (λ p. Q (sector_in p 0)) ps
  from_sectors [] some each = All-nil (λ p. Q (sector_in p 0))
  from_sectors (p ∷ ps) some each =
      All-cons (λ p. Q (sector_in p 0)) p ps (each 0 (sector_in p 0) (in_first p ps 0 (All-head HasSome p ps some)))
      (from_sectors ps (All-tail HasSome p ps some) (λ k x e. each (p.sectors + k) x (behind_first p ps k ∙ e)))

pub counted_on : (device : ℕ) (ps : List Seen) → counted (λ p. p.faults) device ps ≡ sum_by (faults_of device) ps
counted_on device [] = refl
counted_on device (p ∷ ps) = let rest = counted_on device ps in let sum = sum_by-cons (faults_of device) p ps in omega (arith, rest, sum)

none_of : (f : Seen → ℕ) (ps : List Seen) → sum_by f ps ≡ 0 → All (λ p. f p ≡ 0) ps
none_of f [] e = All-nil (λ p. f p ≡ 0)
none_of f (p ∷ ps) e = let sum = sum_by-cons f p ps in All-cons (λ p. f p ≡ 0) p ps (omega (arith, e, sum)) (none_of f ps (omega (arith, e, sum)))

of_none : (f : Seen → ℕ) (ps : List Seen) → All (λ p. f p ≡ 0) ps → sum_by f ps ≡ 0
of_none f [] h = refl
of_none f (p ∷ ps) h = let sum = sum_by-cons f p ps in let here : f p ≡ 0 = All-head (λ p. f p ≡ 0) p ps h in let rest = of_none f ps (All-tail (λ p. f p ≡ 0) p ps h) in omega (arith, sum, here, rest)

-- no sector of the device is without power
abbrev cut_at : ℕ → SectorSeen → ℕ
cut_at device x = cond (x.device == device) (cond x.cut 1 0) 0

abbrev NotCut : ℕ → SectorSeen → Type 0
NotCut device x = cut_at device x ≡ 0

run_cuts : (old new : List Seen) → SameRun old new → All HasSome old → (device : ℕ) → sum_by (cut_of device) new ≡ 0 → sum_by (cut_of device) old ≡ 0
run_cuts old new same some device none =
    of_none (cut_of device) old
    (from_sectors (NotCut device) old some (λ k x e. at_sectors (NotCut device) new (λ i d lt n. none_of (cut_of device) new none i d lt) k x (same.each k ∙ e)))

less_cut : (a b : ℕ) → (b ≡ 0 → a ≡ 0) → min a 1 ≤ min b 1
less_cut a zero f = let e = f refl in omega (arith, e)
less_cut a (suc b) f = omega arith

pub run_goes : (old new : List Seen) → SameRun old new → All HasSome old → GoTogether old new
run_goes old new same some = record {
  sectors = same_owners old new same;
  faults = λ d. let a = counted_on d old in let b = counted_on d new in let e = same.faults d in omega (arith, a, b, e);
  cut = λ d. less_cut (sum_by (cut_of d) old) (sum_by (cut_of d) new) (run_cuts old new same some d);
  some = λ h. same.some h;
  stops = λ s h. from_sectors (λ x. x.stop ≡ s) new (same.some some) (λ k x e. at_sectors (λ x. x.stop ≡ s) old (λ i d lt n. h i d lt) k x (sym (same.each k) ∙ e));
}

-- ---- pieces that were called

cond_less : (b : Bool) (m n : ℕ) → m ≤ n → cond b m 0 ≤ cond b n 0
cond_less true m n le = le
cond_less false m n le = omega arith

cut_less : (b c c' : Bool) → (IsTrue c → IsTrue c') → cond b (cond c 1 0) 0 ≤ cond b (cond c' 1 0) 0
cut_less true true true f = omega arith
cut_less true true false f = let e = f refl in cc
cut_less true false c' f = omega arith
cut_less false c c' f = omega arith

piece_goes : (p q : Seen) → Keeps p q → GoTogether (p ∷ []) (q ∷ [])
piece_goes p q k = record {
  sectors = λ d s.
      let x = sum_by-cons (has d s) q [] in
      let y = sum_by-cons (has d s) p [] in
      let e : has d s q ≡ has d s p = ap (λ n. has_at n q.start q.sectors d s) k.device ∙ ap (λ n. has_at p.device n q.sectors d s) k.start ∙ ap (λ n. has_at p.device p.start n d s) k.sectors in
      omega (arith, x, y, e);
  faults = λ d. (
      let a = cond_less (p.device == d) p.faults q.faults k.faults in
      let b : cond (q.device == d) q.faults 0 ≡ cond (p.device == d) q.faults 0 = ap (λ n. cond (n == d) q.faults 0) k.device in
      omega (arith, a, b)
      );
  cut = λ d. (
      let a = cut_less (p.device == d) p.cut q.cut k.cut in
      let b : cut_of d q ≡ cut_of d (record q { device = p.device }) = ap (λ n. cut_of d (record q { device = n })) k.device in
      omega (arith, a, b)
      );
  some = λ h. All-cons HasSome q [] (subst (λ n. 0 < n) (sym k.sectors) (All-head HasSome p [] h)) (All-nil HasSome);
  stops = λ s h. All-cons (HasStop s) q [] (k.stop ∙ All-head (HasStop s) p [] h) (All-nil (HasStop s));
}

-- pieces that keep their places
pub each_goes : (ps qs : List Seen) → EachPiece Keeps ps qs → GoTogether ps qs
each_goes [] [] go = go_same []
each_goes [] (q ∷ qs) go = absurd go
each_goes (p ∷ ps) [] go = absurd go
each_goes (p ∷ ps) (q ∷ qs) go = go_beside (p ∷ []) (q ∷ []) ps qs (piece_goes p q go.0) (each_goes ps qs go.1)

kept_each : (ps qs : List Seen) → EachPiece KeepsPiece ps qs → EachPiece Keeps ps qs
kept_each [] [] go = tt
kept_each [] (q ∷ qs) go = absurd go
kept_each (p ∷ ps) [] go = absurd go
kept_each (p ∷ ps) (q ∷ qs) go = (go.0.kept, kept_each ps qs go.1)

-- ---- copies

pub copies_go : (xs ys : List (List Seen)) → CopiesGo KeepsPiece xs ys → GoTogether (copy_pieces xs) (copy_pieces ys)
copies_go [] [] go = go_same []
copies_go [] (y ∷ ys) go = absurd go
copies_go (x ∷ xs) [] go = absurd go
copies_go (x ∷ xs) (y ∷ ys) go = go_beside x y (copy_pieces xs) (copy_pieces ys) (each_goes x y (kept_each x y go.0)) (copies_go xs ys go.1)

runs_go : (xs ys : List (List Seen)) → SameRuns xs ys → All HasSome (copy_pieces xs) → GoTogether (copy_pieces xs) (copy_pieces ys)
runs_go [] [] same some = go_same []
runs_go [] (y ∷ ys) same some = absurd same
runs_go (x ∷ xs) [] same some = absurd same
runs_go (x ∷ xs) (y ∷ ys) same some = let both = all_parts HasSome x (copy_pieces xs) some in go_beside x y (copy_pieces xs) (copy_pieces ys) (run_goes x y same.0 both.0) (runs_go xs ys same.1 both.1)

-- copies that were cut, and called
pub cut_go : (xs ys : List (List Seen)) → All HasSome (copy_pieces xs) → CutCopiesGo KeepsPiece xs ys → GoTogether (copy_pieces xs) (copy_pieces ys)
cut_go xs ys some go = go_then _ _ _ (runs_go xs go.cut go.same some) (copies_go go.cut ys go.goes)
