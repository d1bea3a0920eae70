-- A run stays what it is when its pieces are cut.
use Rattle.std.proofs.Common.{◌≡◌, ℕ, ◌+◌, ◌-◌, ◌<◌, ◌≤◌, ◌==◌, Bool, true, false, cond, List, [], ◌∷◌, ◌++◌, Option, Some, None, refl, sym, ap, ◌∙◌, subst, arith}
use Rattle.std.specs.Prelude.{nat_lt}
use Rattle.std.specs.Option.{option_map}
use Rattle.std.proofs.lemmas.List.Elements.{All-cons, All-head, All-tail}
use Rattle.vx_base.specs.Blocks.{Contents}
use Rattle.vx_piece.specs.Seen.{Seen, IsSplit}
use Rattle.vx_piece.specs.Told.{front_told, back_told}
use Rattle.vx_runs.specs.Part.{Tells}
use Rattle.vx_cut.specs.Same.{SectorSeen, HasSome, sector_in, run_at, SameRun}

pub same_refl : (ps : List Seen) → SameRun ps ps
same_refl ps = record { each = λ k. refl; sectors = refl; tells = λ t. t; faults = λ d. refl; writes = λ d. refl; reads = λ d. refl; some = λ h. h }

pub same_is : (ps qs : List Seen) → qs ≡ ps → SameRun ps qs
same_is ps qs e = subst (λ (xs : List Seen). SameRun ps xs) (sym e) (same_refl ps)

pub same_trans : (ps qs rs : List Seen) → SameRun ps qs → SameRun qs rs → SameRun ps rs
same_trans ps qs rs a b = record {
  each = λ k. b.each k ∙ a.each k;
  sectors = b.sectors ∙ a.sectors;
  tells = λ t. b.tells (a.tells t);
  faults = λ d. b.faults d ∙ a.faults d;
  writes = λ d. b.writes d ∙ a.writes d;
  reads = λ d. b.reads d ∙ a.reads d;
  some = λ h. b.some (a.some h);
}

behind_one : (x : Seen) (ps qs : List Seen) → SameRun ps qs → SameRun (x ∷ ps) (x ∷ qs)
behind_one x ps qs a = record {
  each = λ k. ap (λ (o : Option SectorSeen). cond (nat_lt k x.sectors) (Some (sector_in x k)) o) (a.each (k - x.sectors));
  sectors = ap (λ (n : ℕ). x.sectors + n) a.sectors;
  tells = λ t. (t.0, a.tells t.1);
  faults = λ d. ap (λ (n : ℕ). cond (x.device == d) x.faults 0 + n) (a.faults d);
  writes = λ d. ap (λ (n : ℕ). cond (x.device == d) x.writes 0 + n) (a.writes d);
  reads = λ d. ap (λ (n : ℕ). cond (x.device == d) x.reads 0 + n) (a.reads d);
  some = λ h. All-cons HasSome x qs (All-head HasSome x ps h) (a.some (All-tail HasSome x ps h));
}

pub same_behind : (xs ps qs : List Seen) → SameRun ps qs → SameRun (xs ++ ps) (xs ++ qs)
same_behind [] ps qs a = a
same_behind (x ∷ xs) ps qs a = behind_one x (xs ++ ps) (xs ++ qs) (same_behind xs ps qs a)

-- ---- a piece in two

front_holds : (at k : ℕ) (told : Option Contents) → k < at → option_map (λ (c : Contents). c k) (front_told at told) ≡ option_map (λ (c : Contents). c k) told
front_holds at k None lt = refl
front_holds at k (Some t) lt = ap (λ (x : List ℕ). Some x) (by (nat_lt k at) refl)
  where
    by : (b : Bool) → b ≡ nat_lt k at → cond b (t k) [] ≡ t k
    by true is = refl
    by false is = absurd (grind (arith, lt, is))

back_holds : (at k n : ℕ) (told : Option Contents) → at + n ≡ k → option_map (λ (c : Contents). c n) (back_told at told) ≡ option_map (λ (c : Contents). c k) told
back_holds at k n None e = refl
back_holds at k n (Some t) e = ap (λ (i : ℕ). Some (t i)) e

sector_is : (a p : Seen) (n k : ℕ) → a.device ≡ p.device → a.start + n ≡ p.start + k → option_map (λ (c : Contents). c n) a.told ≡ option_map (λ (c : Contents). c k) p.told → a.cut ≡ p.cut → a.stop ≡ p.stop → Some (sector_in a n) ≡ Some (sector_in p k)
sector_is a p n k d s h c t = grind (arith, d, s, h, c, t)

in_front : (at : ℕ) (p a b : Seen) (k : ℕ) → IsSplit at p a b → k < at → Some (sector_in a k) ≡ Some (sector_in p k)
in_front at p a b k is lt =
    let e = is.starts.0 in
    sector_is a p k k is.devices.0 (omega (arith, e)) (ap (option_map (λ (c : Contents). c k)) is.front ∙ front_holds at k p.told lt) is.cuts.0 is.stops.0

in_back : (at : ℕ) (p a b : Seen) (k : ℕ) → IsSplit at p a b → at ≤ k → Some (sector_in b (k - at)) ≡ Some (sector_in p k)
in_back at p a b k is le =
    let e = is.starts.1 in
    sector_is b p (k - at) k is.devices.1 (omega (arith, e, le)) (ap (option_map (λ (c : Contents). c (k - at))) is.back ∙ back_holds at k (k - at) p.told (omega (arith, le))) is.cuts.1 is.stops.1

two_at : (at : ℕ) (p a b : Seen) (ps : List Seen) (k : ℕ) → IsSplit at p a b → run_at (a ∷ b ∷ ps) k ≡ run_at (p ∷ ps) k
two_at at p a b ps k is = by (nat_lt k a.sectors) (nat_lt (k - a.sectors) b.sectors) (nat_lt k p.sectors) refl refl refl
  where
    by : (x y z : Bool) → x ≡ nat_lt k a.sectors → y ≡ nat_lt (k - a.sectors) b.sectors → z ≡ nat_lt k p.sectors →
        cond x (Some (sector_in a k)) (cond y (Some (sector_in b (k - a.sectors))) (run_at ps (k - a.sectors - b.sectors))) ≡ cond z (Some (sector_in p k)) (run_at ps (k - p.sectors))
    by true y true ex ey ez = let s = is.sizes.0 in let lt : k < at = grind (arith, ex, s) in in_front at p a b k is lt
    by true y false ex ey ez = let s = is.sizes.0 in let t = is.sizes.1 in absurd (grind (arith, ex, ez, s, t))
    by false true true ex ey ez = let s = is.sizes.0 in let le : at ≤ k = grind (arith, ex, s) in ap (λ (n : ℕ). Some (sector_in b (k - n))) s ∙ in_back at p a b k is le
    by false true false ex ey ez = let s = is.sizes.0 in let t = is.sizes.1 in absurd (grind (arith, ex, ey, ez, s, t))
    by false false true ex ey ez = let s = is.sizes.0 in let t = is.sizes.1 in absurd (grind (arith, ex, ey, ez, s, t))
    by false false false ex ey ez = let s = is.sizes.0 in let t = is.sizes.1 in let e : k - a.sectors - b.sectors ≡ k - p.sectors = omega (arith, s, t) in ap (run_at ps) e

tells_both : (at : ℕ) (told front back : Option Contents) → front ≡ front_told at told → back ≡ back_told at told → Tells told → Tells front × Tells back
tells_both at None front back e f t = absurd t
tells_both at (Some c) front back e f t = (subst Tells (sym e) tt, subst Tells (sym f) tt)

add_on : (b b' b'' : Bool) (m n k rest : ℕ) → b' ≡ b → b'' ≡ b → m + n ≡ k → cond b' m 0 + (cond b'' n 0 + rest) ≡ cond b k 0 + rest
add_on true true true m n k rest e f g = omega (arith, g)
add_on true true false m n k rest e f g = cc
add_on true false b'' m n k rest e f g = cc
add_on false false false m n k rest e f g = omega arith
add_on false false true m n k rest e f g = cc
add_on false true b'' m n k rest e f g = cc

pub same_split : (at : ℕ) (p a b : Seen) (ps : List Seen) → IsSplit at p a b → 0 < at → at < p.sectors → SameRun (p ∷ ps) (a ∷ b ∷ ps)
same_split at p a b ps is low high = record {
  each = λ k. two_at at p a b ps k is;
  sectors = (let s = is.sizes.0 in let t = is.sizes.1 in omega (arith, s, t));
  tells = λ t. let both = tells_both at p.told a.told b.told is.front is.back t.0 in (both.0, (both.1, t.1));
  faults = λ d. add_on (p.device == d) (a.device == d) (b.device == d) a.faults b.faults p.faults _ (ap (λ (n : ℕ). n == d) is.devices.0) (ap (λ (n : ℕ). n == d) is.devices.1) is.faults;
  writes = λ d. add_on (p.device == d) (a.device == d) (b.device == d) a.writes b.writes p.writes _ (ap (λ (n : ℕ). n == d) is.devices.0) (ap (λ (n : ℕ). n == d) is.devices.1) is.writes;
  reads = λ d. add_on (p.device == d) (a.device == d) (b.device == d) a.reads b.reads p.reads _ (ap (λ (n : ℕ). n == d) is.devices.0) (ap (λ (n : ℕ). n == d) is.devices.1) is.reads;
  some = λ h.
      let s = is.sizes.0 in
      let t = is.sizes.1 in
      All-cons HasSome a (b ∷ ps) (omega (arith, s, low)) (All-cons HasSome b ps (omega (arith, s, t, high)) (All-tail HasSome p ps h));
}
