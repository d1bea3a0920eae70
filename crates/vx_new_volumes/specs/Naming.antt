-- New names: a stem, `-`, and a number in at least two digits.
use Rattle.std.specs.Prelude.{ℕ, zero, suc, ◌+◌, nat_lt, nat_le, Bool, if◌then◌else◌, Option, Some, None, List, [], ◌∷◌, ◌++◌, length, decimal}
use Rattle.std.specs.List.{list_any}
use Rattle.std.specs.Str.{bytes_eq}
use Rattle.vx_base.specs.Named.{Word}
use Rattle.vx_names.specs.Form.{is_name}

abbrev pub and_then : {A B : Type 0} → Option A → (A → Option B) → Option B
and_then None next = None
and_then (Some a) next = next a

-- the word, where it is a name
abbrev pub as_name : Word → Option Word
as_name word = if is_name word then Some word else None

abbrev pub two_digits : ℕ → List ℕ
two_digits n = if nat_lt n 10 then 48 ∷ decimal n else decimal n

abbrev pub numbered : Word → ℕ → Word
numbered stem n = stem ++ 45 ∷ two_digits n

-- the name of a number of at most six digits, where it is one
abbrev pub name_at : Word → ℕ → Option Word
name_at stem n = if nat_le n 999999 then as_name (numbered stem n) else None

-- it is one of the names
abbrev pub is_known : List Word → Word → Bool
is_known names name = list_any (λ n. bytes_eq n name) names

-- a name, and the number in it
pub record Numbered : Type 0 where
  pub name : Word
  pub number : ℕ

-- the first of so many numbers from one on whose name is not known
abbrev pub free_name : ℕ → List Word → Word → ℕ → Option Numbered
free_name zero known stem from = None
free_name (suc n) known stem from =
    and_then (name_at stem from) (λ name. if is_known known name then free_name n known stem (from + 1) else Some (record { name = name; number = from }))

-- the first number from one on whose name is not known: one of more numbers than there are names
abbrev pub next_name : List Word → Word → ℕ → Option Numbered
next_name known stem from = free_name (suc (length known)) known stem from

-- so many new names with rising numbers from one on, behind those that there are
abbrev pub names_behind : ℕ → List Word → List Word → Word → ℕ → Option (List Word)
names_behind zero done known stem from = Some done
names_behind (suc n) done known stem from = and_then (next_name known stem from) (λ t. names_behind n (done ++ t.name ∷ []) known stem (t.number + 1))
