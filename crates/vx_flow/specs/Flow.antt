-- What a read takes from a source, what a write gives to a sink, and when either may fail.
use Rattle.std.specs.Prelude.{◌≡◌, ℕ, ◌<◌, ◌≤◌, List, [], ◌++◌, length, take, Option, Some, None, Result, Ok, Err, OnOk, OnErr}
use Rattle.vx_base.specs.Counts.{Rose}

-- a fault comes only where the count rose, an Ok call leaves the count, and it never falls
pub record HasCause {T E : Type 0} (before now : ℕ) (result : Result T E) : Type 0 where
  pub later : before ≤ now
  pub failed : OnErr result (Rose before now)
  pub quiet : OnOk result (now ≡ before)

-- how many bytes a read took
abbrev pub count_of : {E : Type 0} → Result ℕ E → ℕ
count_of (Ok n) = n
count_of (Err e) = 0

-- the first n bytes were taken, at least one where one is left and there is room
pub record TakesFirst (old new : List ℕ) (n : ℕ) (into : List ℕ) : Type 0 where
  pub bytes : old ≡ take n into ++ new
  pub goes_on : n ≡ 0 → 0 < length into → new ≡ []

-- a source that tells its bytes goes on telling them, and one that does not goes on telling none
abbrev pub Takes : {E : Type 0} → Option (List ℕ) → Option (List ℕ) → Result ℕ E → List ℕ → Type 0
Takes None None result into = Unit {0}
Takes None (Some new) result into = ⊥
Takes (Some old) None result into = ⊥
Takes (Some old) (Some new) (Ok n) into = TakesFirst old new n into
Takes (Some old) (Some new) (Err e) into = new ≡ old

-- all the bytes, or a front of them where it failed
abbrev pub Gives : {T E : Type 0} → Option (List ℕ) → Option (List ℕ) → Result T E → List ℕ → Type 0
Gives None None result from = Unit {0}
Gives None (Some new) result from = ⊥
Gives (Some old) None result from = ⊥
Gives (Some old) (Some new) (Ok u) from = new ≡ old ++ from
Gives (Some old) (Some new) (Err e) from = (n : ℕ) × (new ≡ old ++ take n from)
