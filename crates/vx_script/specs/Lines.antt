-- A text is lines; bytes outside the alphabet.
use Rattle.std.specs.Prelude.{ℕ, ◌==◌, ◌&&◌, ◌||◌, nat_le, not, Bool, false, if◌then◌else◌, Option, Some, None, List, [], ◌∷◌, ◌++◌, length}
use Rattle.vx_script_words.specs.Words.{is_blank, from_word}

abbrev pub last_line : List ℕ → List (List ℕ)
last_line [] = []
last_line (b ∷ bs) = (b ∷ bs) ∷ []

-- the lines of a text behind the begun one; the last may lack its newline
abbrev pub lines_from : List ℕ → List ℕ → List (List ℕ)
lines_from begun [] = last_line begun
lines_from begun (b ∷ bs) = if b == 10 then begun ∷ lines_from [] bs else lines_from (begun ++ b ∷ []) bs

unfoldable pub lines_of : List ℕ → List (List ℕ)
lines_of text = lines_from [] text

-- neither printing ASCII nor a tab
abbrev pub is_bad : ℕ → Bool
is_bad b = not ((nat_le 32 b && nat_le b 126) || b == 9)

abbrev pub or_here : Option ℕ → ℕ → ℕ
or_here None here = here
or_here (Some word) here = word

-- how much of the line is left from the first word on that has a bad byte
abbrev pub bad_from : Option ℕ → List ℕ → Option ℕ
bad_from word [] = None
bad_from word (b ∷ bs) = if is_blank b then bad_from None bs else (if is_bad b then Some (or_here word (length (b ∷ bs))) else bad_from (Some (or_here word (length (b ∷ bs)))) bs)

unfoldable pub bad_word : List ℕ → Option ℕ
bad_word line = bad_from None line

abbrev pub begins_comment : List ℕ → Bool
begins_comment [] = false
begins_comment (b ∷ bs) = b == 35

-- without words, or a comment
abbrev pub is_passed_over : List ℕ → Bool
is_passed_over line = begins_comment line || length (from_word line) == 0
