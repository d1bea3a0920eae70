-- The number that is set for a disk that has one.
use Rattle.std.proofs.Common.{◌≡◌, ℕ, ◌+◌, ◌<◌, Bool, true, if◌then◌else◌, List, ◌∷◌, ◌++◌, length, take, drop, set, get_or, sym, ap, ◌∙◌}
use Rattle.std.proofs.lemmas.List.{at_drop_more, drop-set, take-append-drop, take-set}
use Rattle.std.specs.Str.{bytes_eq}
use Rattle.vx_base.specs.Named.{Word}
use Rattle.vx_new_volumes.specs.declared.next.Next.{Next}
use Rattle.vx_new_volumes.specs.Laying.{with_next}

set_splits : {X : Type 0} (xs : List X) (i : ℕ) (y : X) → i < length xs → set xs i y ≡ take i xs ++ y ∷ drop (i + 1) xs
set_splits xs i y lt =
    sym (take-append-drop i (set xs i y))
    ∙ ap (λ (front : List _). front ++ drop i (set xs i y)) (take-set xs i y)
    ∙ ap (λ (rest : List _). take i xs ++ rest) (drop-set xs i y lt)

pub set_there : (disk : Word) (number : ℕ) (xs : List Next) (i : ℕ) (n : Next) (all : List Next) → i < length xs → n ≡ get_or xs i n → bytes_eq n.disk disk ≡ true → take i xs ++ with_next disk number (drop i xs) ≡ all → set xs i (record { disk = disk; number = number }) ≡ all
set_there disk number xs i n all lt item same h =
    let new : Next = record { disk = disk; number = number } in
    set_splits xs i new lt
    ∙ sym (ap (λ (rest : List Next). take i xs ++ rest) (
    at_drop_more (with_next disk number) xs i n lt
    ∙ ap (λ (m : Next). with_next disk number (m ∷ drop (i + 1) xs)) (sym item)
    ∙ ap (λ (b : Bool). if b then new ∷ drop (i + 1) xs else n ∷ with_next disk number (drop (i + 1) xs)) same))
    ∙ h
