-- The marks of one region on the copies of a log, and what may become of them.
use Rattle.std.specs.Prelude.{◌≡◌, ℕ, ◌&&◌, ◌||◌, not, Bool, true, false, ◌⊎◌}
use Rattle.vx_mask.specs.Mask.{has}

-- `shows n k` tells whether copy n marks map k. `loose` are the marks of which a failed call left open whether a copy shows them.
pub record Marks : Type 0 where
  pub shows : ℕ → ℕ → Bool
  pub loose : ℕ → Bool

-- every copy loses the loose marks, then gains these
pub record AllGain (b : ℕ) (old now : Marks) : Type 0 where
  pub shows : (n k : ℕ) → now.shows n k ≡ ((old.shows n k && not (old.loose k)) || has b k)
  pub loose : (k : ℕ) → now.loose k ≡ false

-- the loose marks go, then every copy loses these
pub record AllLose (b : ℕ) (old now : Marks) : Type 0 where
  pub shows : (n k : ℕ) → now.shows n k ≡ ((old.shows n k && not (old.loose k)) && not (has b k))
  pub loose : (k : ℕ) → now.loose k ≡ false

-- some copies lose parts of the loose marks; `also` are loose beside
pub record SomeLoseLoose (also : ℕ) (old now : Marks) : Type 0 where
  pub shows : (n k : ℕ) → (now.shows n k ≡ old.shows n k) ⊎ ((old.loose k ≡ true) × (now.shows n k ≡ false))
  pub loose : (k : ℕ) → now.loose k ≡ (old.loose k || has also k)

-- every copy loses the loose marks, and then each gains a part of these, which are now the loose ones
pub record SomeGain (b : ℕ) (old now : Marks) : Type 0 where
  pub shows : (n k : ℕ) → (now.shows n k ≡ (old.shows n k && not (old.loose k))) ⊎ ((has b k ≡ true) × (now.shows n k ≡ true))
  pub loose : (k : ℕ) → now.loose k ≡ has b k

-- every copy loses the loose marks, and then each loses a part of these, which are now the loose ones
pub record SomeLose (b : ℕ) (old now : Marks) : Type 0 where
  pub shows : (n k : ℕ) → (now.shows n k ≡ (old.shows n k && not (old.loose k))) ⊎ ((has b k ≡ true) × (now.shows n k ≡ false))
  pub loose : (k : ℕ) → now.loose k ≡ has b k

-- a mark that failed or was cut
abbrev pub MayGain : ℕ → Marks → Marks → Type 0
MayGain b old now = SomeLoseLoose 0 old now ⊎ SomeGain b old now

-- an unmark that failed or was cut
abbrev pub MayLose : ℕ → Marks → Marks → Type 0
MayLose b old now = SomeLoseLoose b old now ⊎ SomeLose b old now

-- a call on another region of the same page, or one that writes the page again
abbrev pub MayTidy : Marks → Marks → Type 0
MayTidy old now = SomeLoseLoose 0 old now ⊎ AllLose 0 old now
