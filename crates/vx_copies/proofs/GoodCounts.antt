-- One disk of the list changes.
use Rattle.std.proofs.Common.{◌≡◌, ℕ, zero, suc, ◌+◌, ◌<◌, ◌≤◌, Bool, true, false, cond, List, [], ◌∷◌, length, map, take, drop, get_or, set, refl, ap, ◌∙◌, arith, inl, inr}
use Rattle.std.specs.Prelude.{IsTrue}
use Rattle.vx_piece.specs.Seen.{Seen}
use Rattle.vx_copies.specs.declared.disk.Disk.{Disk}
use Rattle.vx_copies.specs.Lists.{Each, AllOf, AnyOf}
use Rattle.vx_copies.specs.Disks.{DiskSeen, disk_seen, good_count}

module _ {P : Type 0} (see : P → Seen) where
  pub all_at : (Q : DiskSeen → Type 0) (ds : List (Disk P)) (i : ℕ) (d : Disk P) → i < length ds → AllOf Q (map (disk_seen see) ds) → Q (disk_seen see (get_or ds i d))
  all_at Q [] i d lt all = absurd (omega (arith, lt))
  all_at Q (x ∷ ds) zero d lt all = all.0
  all_at Q (x ∷ ds) (suc i) d lt all = all_at Q ds i d (omega (arith, lt)) all.1

  pub all_set : (Q : DiskSeen → Type 0) (ds : List (Disk P)) (i : ℕ) (d : Disk P) → AllOf Q (map (disk_seen see) ds) → Q (disk_seen see d) → AllOf Q (map (disk_seen see) (set ds i d))
  all_set Q [] i d all is = all
  all_set Q (x ∷ ds) zero d all is = (is, all.1)
  all_set Q (x ∷ ds) (suc i) d all is = (all.0, all_set Q ds i d all.1 is)

  pub all_more : (Q : DiskSeen → Type 0) (ds : List (Disk P)) (i : ℕ) (d : Disk P) → AllOf Q (map (disk_seen see) (take i ds)) → Q (disk_seen see d) → AllOf Q (map (disk_seen see) (take (suc i) (set ds i d)))
  all_more Q [] i d all is = tt
  all_more Q (x ∷ ds) zero d all is = (is, tt)
  all_more Q (x ∷ ds) (suc i) d all is = (all.0, all_more Q ds i d all.1 is)

  pub all_first : (Q : DiskSeen → Type 0) (ds : List (Disk P)) (i : ℕ) (d : Disk P) → i < length ds → AllOf Q (map (disk_seen see) (drop i ds)) → Q (disk_seen see (get_or ds i d))
  all_first Q [] i d lt all = absurd (omega (arith, lt))
  all_first Q (x ∷ ds) zero d lt all = all.0
  all_first Q (x ∷ ds) (suc i) d lt all = all_first Q ds i d (omega (arith, lt)) all

  pub all_rest : (Q : DiskSeen → Type 0) (ds : List (Disk P)) (i : ℕ) (d : Disk P) → AllOf Q (map (disk_seen see) (drop i ds)) → AllOf Q (map (disk_seen see) (drop (suc i) (set ds i d)))
  all_rest Q [] i d all = tt
  all_rest Q (x ∷ ds) zero d all = all.1
  all_rest Q (x ∷ ds) (suc i) d all = all_rest Q ds i d all

  pub go_on : (R : DiskSeen → DiskSeen → Type 0) → ((a b c : DiskSeen) → R a b → R b c → R a c) → (hs : List DiskSeen) (ds : List (Disk P)) (i : ℕ) (d e : Disk P) → i < length ds → Each R hs (map (disk_seen see) ds) → R (disk_seen see (get_or ds i e)) (disk_seen see d) → Each R hs (map (disk_seen see) (set ds i d))
  go_on R trans hs [] i d e lt all is = absurd (omega (arith, lt))
  go_on R trans [] (x ∷ ds) i d e lt all is = absurd all
  go_on R trans (a ∷ hs) (x ∷ ds) zero d e lt all is = (trans a (disk_seen see x) (disk_seen see d) all.0 is, all.1)
  go_on R trans (a ∷ hs) (x ∷ ds) (suc i) d e lt all is = (all.0, go_on R trans hs ds i d e (omega (arith, lt)) all.1 is)

  pub fewer : (ds : List (Disk P)) (i : ℕ) (d e : Disk P) → i < length ds → IsTrue (get_or ds i e).good → d.good ≡ false → good_count (map (disk_seen see) (set ds i d)) < good_count (map (disk_seen see) ds)
  fewer [] i d e lt was is = absurd (omega (arith, lt))
  fewer (x ∷ ds) zero d e lt was is = by x.good d.good was is
    where
      by : (b c : Bool) → IsTrue b → c ≡ false → cond c 1 0 + good_count (map (disk_seen see) ds) < cond b 1 0 + good_count (map (disk_seen see) ds)
      by true true w i = cc
      by true false w i = omega arith
      by false c w i = cc
  fewer (x ∷ ds) (suc i) d e lt was is = let less = fewer ds i d e (omega (arith, lt)) was is in omega (arith, less)

  pub any_set : (Q : DiskSeen → Type 0) (ds : List (Disk P)) (i : ℕ) (d : Disk P) → i < length ds → Q (disk_seen see d) → AnyOf Q (map (disk_seen see) (set ds i d))
  any_set Q [] i d lt is = absurd (omega (arith, lt))
  any_set Q (x ∷ ds) zero d lt is = inl is
  any_set Q (x ∷ ds) (suc i) d lt is = inr (any_set Q ds i d (omega (arith, lt)) is)

-- as many are good where each stays so
pub same_count : (hs bs : List DiskSeen) → Each (λ a b. b.good ≡ a.good) hs bs → good_count bs ≡ good_count hs
same_count [] [] is = refl
same_count [] (b ∷ bs) is = absurd is
same_count (a ∷ hs) [] is = absurd is
same_count (a ∷ hs) (b ∷ bs) is = ap (λ x. cond x 1 0 + good_count bs) is.0 ∙ ap (λ n. cond a.good 1 0 + n) (same_count hs bs is.1)

count_step : (b : Bool) (m n : ℕ) → m ≤ n → cond b 1 0 + m ≤ cond b 1 0 + n
count_step b m n le = omega (arith, le)

-- no more of the first ones are good than of all
pub count_first : (n : ℕ) (hs : List DiskSeen) → good_count (take n hs) ≤ good_count hs
count_first zero hs = omega arith
count_first (suc n) [] = omega arith
count_first (suc n) (h ∷ hs) = count_step h.good _ _ (count_first n hs)
