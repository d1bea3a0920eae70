-- Counts of a device among pieces: where there is one, some piece is of the device, and has a sector of it.
use Rattle.std.proofs.Common.{◌≡◌, inl, inr, ℕ, ◌-◌, ◌^◌, ◌<◌, ◌≤◌, ◌==◌, ◌||◌, min, Bool, true, false, cond, List, [], ◌∷◌, refl, sym, ap, ◌∙◌, arith}
use Rattle.std.specs.List.{All, list_any, sum_by}
use Rattle.std.proofs.lemmas.Bool.{and_from, eq-eqb, eqb-true, false≢true, le-leb, lt-ltb, or_cases, or_left, or_right}
use Rattle.std.proofs.lemmas.List.Elements.{All-head, All-tail}
use Rattle.std.proofs.lemmas.List.Sums.{sum_by-cons}
use Rattle.vx_base.specs.Counts.{Rose}
use Rattle.vx_piece.specs.Seen.{Seen, Keeps}
use Rattle.vx_runs.specs.Run.{EachPiece, SomeCut}
use Rattle.vx_carve.specs.Together.{HasSome, covers, cut_of, cut_on, faults_of, faults_on}
use Rattle.vx_fronts.specs.Rests.{is_of}
use Rattle.vx_group_volumes.proofs.Called.{any_kept}

-- ---- some piece is of the device

counts_none : (device : ℕ) (ps : List Seen) → list_any (is_of device) ps ≡ false → sum_by (faults_of device) ps ≡ 0
counts_none device [] none = refl
counts_none device (p ∷ ps) none = by (λ e. counts_none device ps e) (p.device == device) refl none
  where
    by : (list_any (is_of device) ps ≡ false → sum_by (faults_of device) ps ≡ 0) → (b : Bool) → (p.device == device) ≡ b → (b || list_any (is_of device) ps) ≡ false → sum_by (faults_of device) (p ∷ ps) ≡ 0
    by rest true e f = absurd (false≢true (sym f))
    by rest false e f =
        let sum = sum_by-cons (faults_of device) p ps in
        let here : faults_of device p ≡ 0 = ap {B = ℕ} (λ b. cond b p.faults 0) e in
        let later = rest f in
        omega (arith, sum, here, later)

no_rise : (before sum : ℕ) → sum ≡ 0 → Rose before (min sum (2 ^ 64 - 1)) → ⊥
no_rise before sum none rose = omega (arith, none, rose)

-- where the count of a device rose, one of the pieces is of it
pub rose_some : (device : ℕ) (before : ℕ) (ps : List Seen) → Rose before (faults_on device ps) → list_any (is_of device) ps ≡ true
rose_some device before ps rose = by (list_any (is_of device) ps) refl
  where
    by : (b : Bool) → list_any (is_of device) ps ≡ b → list_any (is_of device) ps ≡ true
    by true e = e
    by false e = absurd (no_rise before (sum_by (faults_of device) ps) (counts_none device ps e) rose)

-- and one of those that they were
pub still_of : (device : ℕ) (old new : List Seen) → EachPiece Keeps old new → list_any (is_of device) new ≡ true → list_any (is_of device) old ≡ true
still_of device old new keep some = sym (any_kept (is_of device) (λ p q kept. ap (λ (n : ℕ). n == device) kept.device) old new keep) ∙ some

-- ---- it has a sector

-- a piece that is not empty has its first sector
pub covers_first : (p : Seen) (device : ℕ) → p.device ≡ device → 0 < p.sectors → covers device p.start p ≡ true
covers_first p device is some =
    let none : p.start - p.start ≡ 0 = omega arith in
    and_from _ _ (and_from _ _ (eq-eqb p.device device is) (le-leb p.start p.start (omega arith))) (lt-ltb (p.start - p.start) p.sectors (omega (arith, none, some)))

pub some_covered : (device : ℕ) (ps : List Seen) → All HasSome ps → list_any (is_of device) ps ≡ true → (k : ℕ) × (list_any (covers device k) ps ≡ true)
some_covered device [] all some = absurd (false≢true some)
some_covered device (p ∷ ps) all some = elim (or_cases (p.device == device) (list_any (is_of device) ps) some) [
  | inl here ↦ (p.start, or_left (covers device p.start p) (list_any (covers device p.start) ps) (covers_first p device (eqb-true p.device device here) (All-head HasSome p ps all)))
  | inr there ↦ let r = some_covered device ps (All-tail HasSome p ps all) there in (r.0, or_right (covers device r.0 p) (list_any (covers device r.0) ps) r.1)
]

-- ---- it is cut

-- a device of which some piece is cut
pub record IsCutOn (ps : List Seen) : Type 0 where
  pub device : ℕ
  pub some : list_any (is_of device) ps ≡ true
  pub counts : 1 ≤ sum_by (cut_of device) ps

cut_counted : (p : Seen) → p.cut ≡ true → cut_of p.device p ≡ 1
cut_counted p cut = ap {B = ℕ} (λ b. cond b (cond p.cut 1 0) 0) (eq-eqb p.device p.device refl) ∙ ap {B = ℕ} (λ b. cond b 1 0) cut

cut_in : (ps : List Seen) → SomeCut ps → IsCutOn ps
cut_in [] cut = absurd cut
cut_in (p ∷ ps) (inl here) =
    let sum = sum_by-cons (cut_of p.device) p ps in
    let one = cut_counted p here in
    record { device = p.device; some = or_left (p.device == p.device) (list_any (is_of p.device) ps) (eq-eqb p.device p.device refl); counts = omega (arith, sum, one) }
cut_in (p ∷ ps) (inr there) =
    let r = cut_in ps there in
    let sum = sum_by-cons (cut_of r.device) p ps in
    let rest = r.counts in
    record { device = r.device; some = or_right (p.device == r.device) (list_any (is_of r.device) ps) r.some; counts = omega (arith, sum, rest) }

least : (n : ℕ) → 1 ≤ n → min n 1 ≡ 1
least n some = omega (arith, some)

pub some_cut_on : (ps : List Seen) → SomeCut ps → (device : ℕ) × (list_any (is_of device) ps ≡ true) × (cut_on device ps ≡ 1)
some_cut_on ps cut = let r = cut_in ps cut in (r.device, r.some, least (sum_by (cut_of r.device) ps) r.counts)
