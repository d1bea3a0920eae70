-- A pass that has done the first disks, and stops at one, or does all.
use Rattle.std.proofs.Common.{◌≡◌, ℕ, zero, suc, ◌<◌, ◌≤◌, List, [], ◌∷◌, length, map, get_or, set, refl, subst, arith}
use Rattle.vx_piece.specs.Seen.{Seen}
use Rattle.vx_copies.specs.declared.disk.Disk.{Disk}
use Rattle.vx_copies.specs.Lists.{Each}
use Rattle.vx_copies.specs.Disks.{DiskSeen, disk_seen}
use Rattle.vx_copies.proofs.StepLaws.{each_refl}

-- the first so many are done, and the others are as before
abbrev pub PassedTo : ℕ → (DiskSeen → DiskSeen → Type 0) → List DiskSeen → List DiskSeen → Type 0
PassedTo zero R old new = new ≡ old
PassedTo (suc i) R [] [] = Unit {0}
PassedTo (suc i) R [] (b ∷ new) = ⊥
PassedTo (suc i) R (a ∷ old) [] = ⊥
PassedTo (suc i) R (a ∷ old) (b ∷ new) = R a b × PassedTo i R old new

module _ {P : Type 0} (see : P → Seen) (D : DiskSeen → DiskSeen → Type 0) where
  pub pass_next : (hs : List DiskSeen) (ds : List (Disk P)) (i : ℕ) (d e : Disk P) → i < length ds → PassedTo i D hs (map (disk_seen see) ds) → D (disk_seen see (get_or ds i e)) (disk_seen see d) → PassedTo (suc i) D hs (map (disk_seen see) (set ds i d))
  pass_next hs [] i d e lt is done = absurd (omega (arith, lt))
  pass_next hs (x ∷ ds) zero d e lt is done = subst (λ ys. PassedTo 1 D ys (disk_seen see d ∷ map (disk_seen see) ds)) is (done, refl)
  pass_next [] (x ∷ ds) (suc i) d e lt is done = absurd is
  pass_next (a ∷ hs) (x ∷ ds) (suc i) d e lt is done = (is.0, pass_next hs ds i d e (omega (arith, lt)) is.1 done)

  pub pass_all : (hs : List DiskSeen) (ds : List (Disk P)) (i : ℕ) → length ds ≤ i → PassedTo i D hs (map (disk_seen see) ds) → Each D hs (map (disk_seen see) ds)
  pass_all hs [] zero le is = subst (λ ys. Each D ys []) is tt
  pass_all hs (x ∷ ds) zero le is = absurd (omega (arith, le))
  pass_all [] [] (suc i) le is = tt
  pass_all [] (x ∷ ds) (suc i) le is = absurd is
  pass_all (a ∷ hs) [] (suc i) le is = absurd is
  pass_all (a ∷ hs) (x ∷ ds) (suc i) le is = (is.0, pass_all hs ds i (omega (arith, le)) is.1)

  pub pass_stop : (R : DiskSeen → DiskSeen → Type 0) → ((a b : DiskSeen) → D a b → R a b) → ((a : DiskSeen) → R a a) → (hs : List DiskSeen) (ds : List (Disk P)) (i : ℕ) (d e : Disk P) → i < length ds → PassedTo i D hs (map (disk_seen see) ds) → R (disk_seen see (get_or ds i e)) (disk_seen see d) → Each R hs (map (disk_seen see) (set ds i d))
  pass_stop R put same hs [] i d e lt is stop = absurd (omega (arith, lt))
  pass_stop R put same hs (x ∷ ds) zero d e lt is stop = subst (λ ys. Each R ys (disk_seen see d ∷ map (disk_seen see) ds)) is (stop, each_refl R same _)
  pass_stop R put same [] (x ∷ ds) (suc i) d e lt is stop = absurd is
  pass_stop R put same (a ∷ hs) (x ∷ ds) (suc i) d e lt is stop = (put a (disk_seen see x) is.0, pass_stop R put same hs ds i d e (omega (arith, lt)) is.1 stop)
