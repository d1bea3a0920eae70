-- The place of a fault in a line: the first word that no line with the same earlier words has.
use Rattle.std.specs.Prelude.{◌≡◌, ℕ, ◌<◌, Bool, Ok, List, ◌∷◌, ◌++◌, length}
use Rattle.vx_script.specs.Choice.{Choice, choose}
use Rattle.vx_script_forms.specs.declared.kind.Kind.{Kind}
use Rattle.vx_script_words.specs.Spelling.{Behind, Spells}
use Rattle.vx_script_words.specs.Words.{from_word, first_word}

-- the line has the words of one of the kinds
abbrev pub FitsOne : Bool → List Kind → List ℕ → Type 0
FitsOne may_be_cut kinds line = (c : Choice) × (choose may_be_cut kinds line ≡ Ok c)

-- some line that begins with these words fits
pub record Begins (may_be_cut : Bool) (kinds : List Kind) (words : List (List ℕ)) : Type 0 where
  pub line : List ℕ
  pub more : List (List ℕ)
  pub spells : Spells line (words ++ more)
  pub fits : FitsOne may_be_cut kinds line

-- so much of the line is left at its place: lines that fit go on up to there, and none has the next word; where the
-- line ends there, none ends so
pub record IsPlace (may_be_cut : Bool) (kinds : List Kind) (line : List ℕ) (left : ℕ) : Type 0 where
  pub before : List (List ℕ)
  pub rest : List ℕ
  pub behind : Behind line before rest
  pub place : left ≡ length (from_word rest)
  pub begins : Begins may_be_cut kinds before
  pub word : (other : List ℕ) (more : List (List ℕ)) → 0 < left → Spells other (before ++ first_word (from_word rest) ∷ more) → FitsOne may_be_cut kinds other → ⊥
  pub end : (other : List ℕ) → left ≡ 0 → Spells other before → FitsOne may_be_cut kinds other → ⊥
