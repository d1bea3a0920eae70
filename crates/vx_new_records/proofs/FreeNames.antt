-- The search for free names, one step further.
use Rattle.std.proofs.Common.{◌≡◌, ℕ, suc, ◌+◌, ◌-◌, ◌<◌, Bool, true, false, if◌then◌else◌, Option, Some, None, List, [], ◌∷◌, ◌++◌, sym, ap, ◌∙◌, arith}
use Rattle.vx_base.specs.Named.{Word}
use Rattle.vx_new_volumes.specs.Naming.{Numbered, and_then, name_at, is_known, free_name, next_name, names_behind}

one_less : (n i : ℕ) → i < n → n - i ≡ suc (n - (i + 1))
one_less n i lt = omega (arith, lt)

abbrev by_test : ℕ → List Word → Word → ℕ → Word → Bool → Option Numbered
by_test n known stem from name b = if b then free_name n known stem (from + 1) else Some (record { name = name; number = from })

turn : (n i : ℕ) (known : List Word) (stem : Word) (from : ℕ) (name : Word) (b : Bool) → i < n → name_at stem from ≡ Some name → is_known known name ≡ b → free_name (n - i) known stem from ≡ by_test (n - (i + 1)) known stem from name b
turn n i known stem from name b lt at is =
    ap (λ (m : ℕ). free_name m known stem from) (one_less n i lt)
    ∙ ap (λ (o : Option Word). and_then o (λ (w : Word). by_test (n - (i + 1)) known stem from w (is_known known w))) at
    ∙ ap (λ (x : Bool). by_test (n - (i + 1)) known stem from name x) is

-- the name is known, and the search goes on
pub taken : (n i : ℕ) (known : List Word) (stem : Word) (from : ℕ) (name : Word) (all : Option Numbered) → i < n → name_at stem from ≡ Some name → is_known known name ≡ true → free_name (n - i) known stem from ≡ all →
    free_name (n - (i + 1)) known stem (from + 1) ≡ all
taken n i known stem from name all lt at is h = sym (turn n i known stem from name true lt at is) ∙ h

pub free : (n i : ℕ) (known : List Word) (stem : Word) (from : ℕ) (name : Word) (all : Option Numbered) → i < n → name_at stem from ≡ Some name → is_known known name ≡ false → free_name (n - i) known stem from ≡ all →
    all ≡ Some (record { name = name; number = from })
free n i known stem from name all lt at is h = sym h ∙ turn n i known stem from name false lt at is

behind : ℕ → List Word → List Word → Word → Numbered → Option (List Word)
behind n done known stem t = names_behind n (done ++ t.name ∷ []) known stem (t.number + 1)

-- one new name more
pub more : (n i : ℕ) (done known : List Word) (stem : Word) (from : ℕ) (t : Numbered) (all : Option (List Word)) → i < n → next_name known stem from ≡ Some t → names_behind (n - i) done known stem from ≡ all →
    names_behind (n - (i + 1)) (done ++ t.name ∷ []) known stem (t.number + 1) ≡ all
unfolding behind
more n i done known stem from t all lt is h =
    sym (ap (λ (m : ℕ). names_behind m done known stem from) (one_less n i lt) ∙ ap (λ (o : Option Numbered). and_then o (behind (n - (i + 1)) done known stem)) is) ∙ h

-- there is no further name
pub stops : (n i : ℕ) (done known : List Word) (stem : Word) (from : ℕ) (all : Option (List Word)) → i < n → next_name known stem from ≡ None → names_behind (n - i) done known stem from ≡ all → all ≡ None
unfolding behind
stops n i done known stem from all lt is h =
    sym h ∙ (ap (λ (m : ℕ). names_behind m done known stem from) (one_less n i lt) ∙ ap (λ (o : Option Numbered). and_then o (behind (n - (i + 1)) done known stem)) is)
