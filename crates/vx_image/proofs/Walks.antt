-- The loops that take the pieces and the columns one by one.
use Rattle.std.proofs.Common.{◌≡◌, ℕ, suc, ◌+◌, ◌-◌, ◌<◌, List, [], ◌∷◌, ◌++◌, length, take, get_or, add-one, Bool, Option, Some, None, sym, ◌∙◌, ap, arith, ◌&&◌, ◌==◌}
use Rattle.std.specs.List.{find}
use Rattle.std.specs.Option.{option_or}
use Rattle.std.proofs.Math.Seq.{take-suc}
use Rattle.std.proofs.lemmas.List.Folds.{find-append}
use Rattle.std.proofs.lemmas.List.{append_assoc, append-nil}
use Rattle.vx_base.specs.Named.{Word}
use Rattle.vx_layout.specs.declared.strip.Strip.{Strip}
use Rattle.vx_config_parts.specs.declared.subdisk.Subdisk.{Subdisk}
use Rattle.vx_rules.specs.Columns.{is_in_column}
use Rattle.vx_objects.specs.declared.config.Config.{Config}
use Rattle.vx_image.specs.Lies.{strip_of, strip_then, strips_from, columns_from}

one_less : (n k : ℕ) → k < n → n - k ≡ suc (n - (k + 1))
one_less n k lt = omega (arith, lt)

-- no piece begins there
pub strips_stop : (done : List Strip) (n k : ℕ) (c : Config) (name : Word) (col at : ℕ) (all : List Strip) → k < n → find (λ s. is_in_column name col s && s.at == at) c.subdisks ≡ None →
    done ++ strips_from (n - k) c name col at ≡ all → done ≡ all
strips_stop done n k c name col at all lt e h =
    let here : strips_from (n - k) c name col at ≡ [] = ap (λ m. strips_from m c name col at) (one_less n k lt) ∙ ap (λ f. strip_then c.disks f (λ next. strips_from (n - (k + 1)) c name col next)) e in
    sym (append-nil done) ∙ sym (ap (λ r. done ++ r) here) ∙ h

-- a piece begins there
pub strips_more : (done : List Strip) (n k : ℕ) (c : Config) (name : Word) (col at : ℕ) (s : Subdisk) (all : List Strip) → k < n → find (λ s. is_in_column name col s && s.at == at) c.subdisks ≡ Some s →
    done ++ strips_from (n - k) c name col at ≡ all → (done ++ strip_of c.disks s ∷ []) ++ strips_from (n - (k + 1)) c name col (s.at + s.len) ≡ all
strips_more done n k c name col at s all lt e h =
    let here : strips_from (n - k) c name col at ≡ strip_of c.disks s ∷ strips_from (n - (k + 1)) c name col (s.at + s.len) = ap (λ m. strips_from m c name col at) (one_less n k lt) ∙ ap (λ f. strip_then c.disks f (λ next. strips_from (n - (k + 1)) c name col next)) e in
    append_assoc done (strip_of c.disks s ∷ []) (strips_from (n - (k + 1)) c name col (s.at + s.len)) ∙ sym (ap (λ r. done ++ r) here) ∙ h

-- one column more
pub columns_more : (done : List (List Strip)) (n k : ℕ) (c : Config) (name : Word) (column : List Strip) (all : List (List Strip)) → k < n → column ≡ strips_from (length c.subdisks) c name k 0 →
    done ++ columns_from (n - k) c name k ≡ all → (done ++ column ∷ []) ++ columns_from (n - (k + 1)) c name (k + 1) ≡ all
columns_more done n k c name column all lt e h =
    let here : columns_from (n - k) c name k ≡ strips_from (length c.subdisks) c name k 0 ∷ columns_from (n - (k + 1)) c name (k + 1) = ap (λ m. columns_from m c name k) (one_less n k lt) in
    ap (λ x. (done ++ x ∷ []) ++ columns_from (n - (k + 1)) c name (k + 1)) e
    ∙ append_assoc done (strips_from (length c.subdisks) c name k 0 ∷ []) (columns_from (n - (k + 1)) c name (k + 1)) ∙ sym (ap (λ r. done ++ r) here) ∙ h

-- one element more is looked at
pub find_more : {A : Type 0} (test : A → Bool) (xs : List A) (i : ℕ) (x : A) (found old : Option A) → i < length xs → x ≡ get_or xs i x → old ≡ find test (take i xs) → found ≡ option_or old (find test (x ∷ [])) → found ≡ find test (take (i + 1) xs)
find_more test xs i x found old lt is e f =
    let more : take (i + 1) xs ≡ take i xs ++ x ∷ [] = ap (λ k. take k xs) (add-one i) ∙ take-suc xs i x lt ∙ ap (λ y. take i xs ++ y ∷ []) (sym is) in
    f ∙ ap (λ o. option_or o (find test (x ∷ []))) e ∙ sym (find-append test (take i xs) (x ∷ [])) ∙ sym (ap (λ ys. find test ys) more)
