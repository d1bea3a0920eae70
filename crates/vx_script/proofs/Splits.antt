-- The first line of a text, and the lines behind it.
use Rattle.std.proofs.Common.{◌≡◌, ◌∙◌, sym, ap, refl, ℕ, ◌+◌, ◌-◌, ◌<◌, ◌≤◌, List, [], ◌∷◌, length, get_or, take, drop, arith, add-one, drop-cons}
use Rattle.std.proofs.lemmas.Grind.{common_steps}
use Rattle.vx_script.specs.Lines.{lines_from, last_line, lines_of}

pub lines_start : (text : List ℕ) → lines_from [] text ≡ lines_of text
unfolding lines_of
lines_start text = refl

pub take_rest : (text : List ℕ) (k : ℕ) → take (length text - k) (drop k text) ≡ drop k text
take_rest text k = grind (arith, common_steps)

pub split_here : (text rest : List ℕ) (n : ℕ) → n < length text → get_or text n 0 ≡ 10 → rest ≡ drop (n + 1) text → lines_from (take n text) (drop n text) ≡ lines_of text → lines_of text ≡ take n text ∷ lines_of rest
unfolding lines_of
split_here text rest n h e r so =
    let split : drop n text ≡ get_or text n 0 ∷ drop (n + 1) text = rw add-one (drop-cons text n 0 h) in
    let here : drop n text ≡ 10 ∷ drop (n + 1) text = split ∙ ap (λ b. b ∷ drop (n + 1) text) e in
    sym so ∙ ap (lines_from (take n text)) here ∙ ap (λ t. take n text ∷ lines_from [] t) (sym r)

whole_line : (text : List ℕ) → 0 < length text → last_line text ≡ text ∷ []
whole_line [] h = absurd (omega arith)
whole_line (b ∷ bs) h = refl

front : (text : List ℕ) (n : ℕ) → length text ≤ n → take n text ≡ text
front text n h = grind (arith, common_steps)

behind : (text : List ℕ) (n : ℕ) → length text ≤ n → drop n text ≡ []
behind text n h = grind (arith, common_steps)

pub split_end : (text rest : List ℕ) (n : ℕ) → 0 < length text → length text ≤ n → rest ≡ [] → lines_from (take n text) (drop n text) ≡ lines_of text → lines_of text ≡ text ∷ lines_of rest
unfolding lines_of
split_end text rest n some h r so =
    sym so ∙ ap (λ t. lines_from t (drop n text)) (front text n h) ∙ ap (lines_from text) (behind text n h) ∙ whole_line text some ∙ ap (λ t. text ∷ lines_from [] t) (sym r)
