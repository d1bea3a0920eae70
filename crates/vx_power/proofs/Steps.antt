-- Each step keeps the rule of the board.
use Rattle.std.proofs.Common.{◌≡◌, ℕ, zero, suc, ◌+◌, ◌%◌, ◌^◌, List, [], ◌∷◌, ◌++◌, set, refl, sym, ap, ◌∙◌, get_or-set_other, get_or-set_same, arith}
use Rattle.std.proofs.Math.ListN.{length-set}
use mathlib.Core.Option.{some, some-ne-none, some-injective}
use lib.ListN.{get_elem?}
use Rattle.atomic_table.specs.Table.{Me, keeps, Allows, Splits}
use Rattle.vx_power.specs.declared.views.View.{View}
use Rattle.vx_power.specs.Drawn.{nothing, drawn_once, total, IsSum}

total_set : (views : List View) (id : ℕ) (v w : View) → get_elem? views id ≡ some v → total (set views id w) + v.draws ≡ total views + w.draws
total_set [] id v w at = absurd (some-ne-none v (sym at))
total_set (x ∷ xs) zero v w at = let same : x.draws ≡ v.draws = ap (λ (y : View). y.draws) (some-injective x v at) in omega arith
total_set (x ∷ xs) (suc id) v w at = let rest = total_set xs id v w at in omega arith

total_snoc : (views : List View) (w : View) → total (views ++ w ∷ []) ≡ total views + w.draws
total_snoc [] w = omega arith
total_snoc (x ∷ xs) w = let rest = total_snoc xs w in omega arith

-- a view with as many draws as before keeps the sum
module _ (id slots : ℕ) (me : Me (Unit {0}) View) (w : View) (draws : w.draws ≡ me.0.draws) where
  same_total : (views : List View) → get_elem? views id ≡ some me.0 → total (set views id w) ≡ total views
  same_total views at = let changed = total_set views id me.0 w at in omega arith

  pub keeps_count : Allows IsSum slots id me 0 (λ n. n) (λ n it. it ≡ (w, me.1))
  keeps_count s is homes at low = (w, keeps, tt, record { words = length-set s.words 0 _ ∙ is.words; sum = get_or-set_same s.words 0 _ 0 (omega (arith, is.words)) ∙ is.sum ∙ ap (λ n. n % 2 ^ 64) (sym (same_total s.views at)) }, refl)

  pub keeps_switch : (f : ℕ → ℕ) → Allows IsSum slots id me 1 f (λ n it. it ≡ (w, me.1))
  keeps_switch f s is homes at low = (w, keeps, tt, record { words = length-set s.words 1 _ ∙ is.words; sum = get_or-set_other s.words 1 0 _ 0 (λ e. omega arith) ∙ is.sum ∙ ap (λ n. n % 2 ^ 64) (sym (same_total s.views at)) }, refl)

one_more : (a b : ℕ) → a ≡ b % 2 ^ 64 → (a + 1) % 2 ^ 64 ≡ (b + 1) % 2 ^ 64
one_more a b is = omega arith

-- a draw is counted
pub draws : (id slots : ℕ) (me : Me (Unit {0}) View) → Allows IsSum slots id me 0 (λ n. (n + 1) % 2 ^ 64) (λ n it. it ≡ (drawn_once me.0, me.1))
draws id slots me s is homes at low =
    let changed = total_set s.views id me.0 (drawn_once me.0) at in
    let more : total (set s.views id (drawn_once me.0)) ≡ total s.views + 1 = omega arith in
    (drawn_once me.0, keeps, tt, record { words = length-set s.words 0 _ ∙ is.words; sum = get_or-set_same s.words 0 _ 0 (omega (arith, is.words)) ∙ one_more _ _ is.sum ∙ ap (λ n. n % 2 ^ 64) (sym more) }, refl)

-- a new seat has drawn nothing
pub comes : (id : ℕ) (v : View) → Splits IsSum id v v nothing
comes id v s is at =
    let longer = total_snoc (set s.views id v) nothing in
    let changed = total_set s.views id v v at in
    let same : total (set s.views id v ++ nothing ∷ []) ≡ total s.views = omega arith in
    record { words = is.words; sum = is.sum ∙ ap (λ n. n % 2 ^ 64) (sym same) }
