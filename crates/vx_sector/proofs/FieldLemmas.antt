-- What is known of fields: their lengths, and that each tells its number.
use Rattle.std.proofs.Common.{◌≡◌, ℕ, ◌^◌, ◌<◌, true, List, [], ◌∷◌, length, get_or, refl, sym, ◌∙◌, ap, zero, suc}
use Rattle.std.specs.Prelude.{◌==◌}
use Rattle.std.specs.List.{list_all}
use Rattle.std.specs.Int.{w32, w64, from_be_bytes}
use Rattle.std.proofs.lemmas.Bool.{and_parts, eqb-true}
use Rattle.std.proofs.lemmas.List.{length-replicate}
use Rattle.std.proofs.lemmas.Nat.{from_be_bytes-to_be_bytes_4, from_be_bytes-to_be_bytes_8}
use Rattle.vx_sector.specs.Fields.{zeros, eight_bytes, four_bytes}

pub zeros_from_all : (xs : List ℕ) → list_all (λ x. x == 0) xs ≡ true → xs ≡ zeros (length xs)
unfolding zeros
zeros_from_all [] all = refl
zeros_from_all (x ∷ xs) all =
    let parts = and_parts (x == 0) (list_all (λ y. y == 0) xs) all in
    ap (λ (y : ℕ). y ∷ xs) (eqb-true x 0 parts.0) ∙ ap (λ (ys : List ℕ). 0 ∷ ys) (zeros_from_all xs parts.1)

zeros_all : (n : ℕ) → list_all (λ x. x == 0) (zeros n) ≡ true
unfolding zeros
zeros_all zero = refl
zeros_all (suc n) = zeros_all n

pub all_from_zeros : (xs : List ℕ) → xs ≡ zeros (length xs) → list_all (λ x. x == 0) xs ≡ true
all_from_zeros xs e = ap (list_all (λ x. x == 0)) e ∙ zeros_all (length xs)

pub length-zeros : (n : ℕ) → length (zeros n) ≡ n
unfolding zeros
length-zeros n = length-replicate n 0

pub get_or-zeros : (n k : ℕ) → get_or (zeros n) k 0 ≡ 0
unfolding zeros
get_or-zeros zero k = refl
get_or-zeros (suc n) zero = refl
get_or-zeros (suc n) (suc k) = get_or-zeros n k

pub length-eight_bytes : (n : ℕ) → length (eight_bytes n) ≡ 8
unfolding eight_bytes
length-eight_bytes n = refl

pub length-four_bytes : (n : ℕ) → length (four_bytes n) ≡ 4
unfolding four_bytes
length-four_bytes n = refl

-- eight bytes tell the number
pub same_eight : (m n : ℕ) → m < 2 ^ 64 → n < 2 ^ 64 → eight_bytes m ≡ eight_bytes n → m ≡ n
unfolding eight_bytes
same_eight m n small small' e = sym (from_be_bytes-to_be_bytes_8 m small) ∙ ap (from_be_bytes w64) e ∙ from_be_bytes-to_be_bytes_8 n small'

pub same_four : (m n : ℕ) → m < 2 ^ 32 → n < 2 ^ 32 → four_bytes m ≡ four_bytes n → m ≡ n
unfolding four_bytes
same_four m n small small' e = sym (from_be_bytes-to_be_bytes_4 m small) ∙ ap (from_be_bytes w32) e ∙ from_be_bytes-to_be_bytes_4 n small'
