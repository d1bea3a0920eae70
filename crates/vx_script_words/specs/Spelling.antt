-- The words of a text, one after the other.
use Rattle.std.specs.Prelude.{◌≡◌, ℕ, ◌<◌, List, [], ◌∷◌, ◌++◌, length}
use Rattle.vx_script_words.specs.Words.{from_word, first_word, past_word}

-- the text begins with these words, and the rest stands behind them
abbrev pub Behind : List ℕ → List (List ℕ) → List ℕ → Type 0
Behind text [] rest = text ≡ rest
Behind text (w ∷ ws) rest = (0 < length (from_word text)) × (first_word (from_word text) ≡ w) × Behind (past_word (from_word text)) ws rest

-- the text has these words and no others
abbrev pub Spells : List ℕ → List (List ℕ) → Type 0
Spells text [] = from_word text ≡ []
Spells text (w ∷ ws) = (0 < length (from_word text)) × (first_word (from_word text) ≡ w) × Spells (past_word (from_word text)) ws

-- each word behind a blank
abbrev pub spelled : List (List ℕ) → List ℕ
spelled [] = []
spelled (w ∷ ws) = 32 ∷ (w ++ spelled ws)

-- the same from the first word on
abbrev pub begun : List (List ℕ) → List ℕ
begun [] = []
begun (w ∷ ws) = w ++ spelled ws
