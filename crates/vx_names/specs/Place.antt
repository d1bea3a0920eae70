-- A place in a word: the first byte at which no word of a form goes on, or the word's length.
use Rattle.std.specs.Prelude.{ℕ, ◌+◌, ◌<◌, ◌≤◌, List, ◌++◌, length, take}

-- some word of the form begins with these bytes
abbrev pub Begins : (List ℕ → Type 0) → List ℕ → Type 0
Begins Form bytes = (rest : List ℕ) × Form (bytes ++ rest)

-- up to the place a word of the form goes on; at the place none does, or the word ends
pub record IsPlace (Form : List ℕ → Type 0) (word : List ℕ) (place : ℕ) : Type 0 where
  pub inside : place ≤ length word
  pub before : Begins Form (take place word)
  pub here : place < length word → Begins Form (take (place + 1) word) → ⊥
