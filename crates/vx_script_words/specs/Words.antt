-- Words are parted by blanks and tabs.
use Rattle.std.specs.Prelude.{ℕ, ◌==◌, ◌||◌, ◌+◌, Bool, not, List, take, drop}
use Rattle.std.specs.List.{position_or_len}

abbrev pub is_blank : ℕ → Bool
is_blank b = b == 32 || b == 9

abbrev pub is_not_blank : ℕ → Bool
is_not_blank b = not (is_blank b)

-- the text from its first word on
abbrev pub from_word : List ℕ → List ℕ
from_word text = drop (position_or_len is_not_blank text) text

-- the word that the text begins with
abbrev pub first_word : List ℕ → List ℕ
first_word text = take (position_or_len is_blank text) text

-- what follows that word
abbrev pub past_word : List ℕ → List ℕ
past_word text = drop (position_or_len is_blank text) text

-- what stands before the first such byte, and what stands behind it
abbrev pub up_to : ℕ → List ℕ → List ℕ
up_to b text = take (position_or_len (λ x. x == b) text) text

abbrev pub past : ℕ → List ℕ → List ℕ
past b text = drop (position_or_len (λ x. x == b) text + 1) text
