-- One more name in the map of those that are known.
use Rattle.std.proofs.Common.{◌≡◌, ℕ, ◌+◌, ◌<◌, Bool, true, false, cond, ◌||◌, Option, Some, is_some, List, [], ◌∷◌, ◌++◌, length, take, get_or, refl, sym, ap, ◌∙◌}
use Rattle.std.proofs.Math.Bool.{or_comm}
use Rattle.std.proofs.lemmas.List.{take_more}
use Rattle.std.proofs.lemmas.List.Recursion.{or_push}
use Rattle.std.proofs.lemmas.Map.Text.{is_eq-slice_cmp}
use Rattle.std.specs.Cmp.Lexicographic.{slice_cmp}
use Rattle.std.specs.Ordering.{nat_cmp, is_eq}
use Rattle.std.specs.Str.{bytes_eq}
use Rattle.vx_base.specs.Named.{Word}
use Rattle.vx_new_volumes.specs.Naming.{is_known}

some_cond : {A : Type 0} (b : Bool) (x : A) (old : Option A) → is_some (cond b (Some x) old) ≡ (b || is_some old)
some_cond true x old = refl
some_cond false x old = refl

known_more : (names : List Word) (i : ℕ) (n name : Word) → i < length names → n ≡ get_or names i n → is_known (take (i + 1) names) name ≡ (bytes_eq n name || is_known (take i names) name)
known_more names i n name lt item =
    ap (λ (ns : List Word). is_known ns name) (take_more names i n lt ∙ ap (λ (x : Word). take i names ++ x ∷ []) (sym item))
    ∙ or_push (λ (ns : List Word). is_known ns name) (λ (x : Word). bytes_eq x name) refl (λ _ _. refl) (take i names) n
    ∙ or_comm (is_known (take i names) name) (bytes_eq n name)

pub finds_more : {A : Type 0} (names : List Word) (i : ℕ) (n name : Word) (x : A) (new old : Option A) → i < length names → n ≡ get_or names i n → new ≡ cond (is_eq (slice_cmp nat_cmp n name)) (Some x) old → is_some old ≡ is_known (take i names) name → is_some new ≡ is_known (take (i + 1) names) name
finds_more names i n name x new old lt item is found =
    ap is_some is
    ∙ some_cond (is_eq (slice_cmp nat_cmp n name)) x old
    ∙ ap (λ (b : Bool). b || is_some old) (is_eq-slice_cmp n name)
    ∙ ap (λ (b : Bool). bytes_eq n name || b) found
    ∙ sym (known_more names i n name lt item)
