-- Where the sectors that pieces have lie.
use Rattle.std.proofs.Common.{◌≡◌, inl, inr, ℕ, zero, suc, ◌+◌, ◌-◌, ◌<◌, ◌||◌, Bool, true, false, cond, Option, Some, None, List, [], ◌∷◌, length, map, refl, sym, ap, ◌∙◌, arith}
use Rattle.std.specs.Prelude.{slice_index, slice_index_or}
use Rattle.std.specs.List.{flat_map, list_any}
use Rattle.std.proofs.lemmas.Bool.{false≢true, le-ltb, lt-ltb, or_cases}
use Rattle.std.proofs.lemmas.List.Folds.{list_any-append}
use Rattle.vx_piece.specs.Seen.{Seen}
use Rattle.vx_runs.specs.Run.{run_sectors}
use Rattle.vx_carve.specs.Together.{covers}
use Rattle.vx_layout.specs.declared.place.Place.{Place}
use Rattle.vx_layout.specs.declared.strip.Strip.{Strip}
use Rattle.vx_layout.specs.Columns.{place_of}
use Rattle.vx_fronts.proofs.Sectors.{covered}
use Rattle.vx_volume_laws.specs.Places.{LieOn, Spot, spot, spot_at, spot_of}

-- ---- lists

-- what some list of several has
pub any_flat : {X : Type 0} (f : Seen → Bool) (g : X → List Seen) (xs : List X) → list_any f (flat_map g xs) ≡ true → (j : ℕ) × (j < length xs) × (list_any f (slice_index_or (map g xs) j []) ≡ true)
any_flat f g [] any = absurd (false≢true any)
any_flat f g (x ∷ xs) any =
    elim (or_cases (list_any f (g x)) (list_any f (flat_map g xs)) (sym (list_any-append f (g x) (flat_map g xs)) ∙ any)) [
      | inl here ↦ (0, omega arith, here)
      | inr there ↦ let r = any_flat f g xs there in let lt = r.1 in (suc r.0, omega (arith, lt), r.2)
    ]

pub mapped_at : {X : Type 0} (g : X → List Seen) (none : X) (xs : List X) (j : ℕ) → g none ≡ [] → slice_index_or (map g xs) j [] ≡ g (slice_index_or xs j none)
mapped_at g none [] j empty = sym empty
mapped_at g none (x ∷ xs) zero empty = refl
mapped_at g none (x ∷ xs) (suc j) empty = mapped_at g none xs j empty

-- ---- a sector of a run

-- a spot of the run
pub record IsSpotOf (ps : List Seen) (device k : ℕ) : Type 0 where
  pub index : ℕ
  pub low : index < run_sectors ps
  pub at : spot_at ps index ≡ Some (spot device k)

spot_same : (d d' s s' : ℕ) → d ≡ d' → s ≡ s' → Some (spot d s) ≡ Some (spot d' s')
spot_same d d' s s' e f = ap (λ (n : ℕ). Some (spot n s)) e ∙ ap (λ (n : ℕ). Some (spot d' n)) f

pub spot_there : (ps : List Seen) (device k : ℕ) → list_any (covers device k) ps ≡ true → IsSpotOf ps device k
spot_there [] device k any = absurd (false≢true any)
spot_there (p ∷ ps) device k any = by (λ e. spot_there ps device k e) (covers device k p) refl any
  where
    first : covers device k p ≡ true → IsSpotOf (p ∷ ps) device k
    first e =
        let at = covered p.device p.start p.sectors device k e in
        let from = at.1 in
        let below = at.2 in
        let lt : k - p.start < p.sectors = omega (arith, from, below) in
        let place : p.start + (k - p.start) ≡ k = omega (arith, from) in
        record {
          index = k - p.start;
          low = omega (arith, lt);
          at = ap (λ b. cond b (Some (spot p.device (p.start + (k - p.start)))) (spot_at ps (k - p.start - p.sectors))) (lt-ltb (k - p.start) p.sectors lt) ∙ spot_same p.device device (p.start + (k - p.start)) k at.0 place;
        }

    later : IsSpotOf ps device k → IsSpotOf (p ∷ ps) device k
    later r =
        let lt = r.low in
        let place : p.sectors + r.index - p.sectors ≡ r.index = omega arith in
        record {
          index = p.sectors + r.index;
          low = omega (arith, lt);
          at = ap (λ b. cond b (Some (spot p.device (p.start + (p.sectors + r.index)))) (spot_at ps (p.sectors + r.index - p.sectors))) (le-ltb (p.sectors + r.index) p.sectors (omega arith)) ∙ ap (λ i. spot_at ps i) place ∙ r.at;
        }

    by : (list_any (covers device k) ps ≡ true → IsSpotOf ps device k) → (b : Bool) → covers device k p ≡ b → (b || list_any (covers device k) ps) ≡ true → IsSpotOf (p ∷ ps) device k
    by rest true e any = first e
    by rest false e any = later (rest any)

-- ---- blocks

-- a block of the layout lies at the sector of the device
pub record IsAtBlock (numbers : List ℕ) (unit : ℕ) (columns : List (List Strip)) (device k : ℕ) : Type 0 where
  pub block : ℕ
  pub place : Place
  pub at : place_of unit columns block ≡ Some place
  pub number_is : slice_index numbers place.disk ≡ device
  pub place_is : k ≡ 2048 + place.sector

device_in : Option Spot → ℕ
device_in None = 0
device_in (Some s) = s.device

sector_of : Option Spot → ℕ
sector_of None = 0
sector_of (Some s) = s.sector

is_there : Option Spot → Bool
is_there None = false
is_there (Some s) = true

module _ (numbers : List ℕ) (unit : ℕ) (columns : List (List Strip)) (device k block : ℕ) where
  placed : (o : Option Place) → place_of unit columns block ≡ o → spot_of numbers o ≡ Some (spot device k) → IsAtBlock numbers unit columns device k
  unfolding device_in sector_of is_there
  placed None at e = absurd (false≢true (ap is_there e))
  placed (Some place) at e = record { block = block; place = place; at = at; number_is = ap device_in e; place_is = sym (ap sector_of e) }

-- pieces that lie where blocks do, and have as many sectors, have no other
pub on_block : (numbers : List ℕ) (unit : ℕ) (columns : List (List Strip)) (start end : ℕ) (ps : List Seen) → LieOn numbers unit columns start end ps → start + run_sectors ps ≡ end →
    (device k : ℕ) → list_any (covers device k) ps ≡ true → IsAtBlock numbers unit columns device k
on_block numbers unit columns start end ps lie long device k any =
    let r = spot_there ps device k any in
    let lt = r.low in
    placed numbers unit columns device k (start + r.index) (place_of unit columns (start + r.index)) refl (sym (lie r.index (omega (arith, lt, long))) ∙ r.at)
