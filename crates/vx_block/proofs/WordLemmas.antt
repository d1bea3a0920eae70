-- A word's digits, two by two, and what was printed read back.
use Rattle.std.proofs.Common.{◌≡◌, ℕ, Bool, ◌+◌, ◌*◌, ◌/◌, ◌%◌, ◌<◌, true, false, cond, List, [], ◌∷◌, ◌++◌, length, take, drop, set, get_or, replicate, arith, refl, sym, ◌∙◌, ap, IsTrue, inl, inr, suc}
use Rattle.std.specs.List.{list_all, flat_map, fold}
use Rattle.std.proofs.lemmas.List.{drop_more, take_more_set, append_assoc}
use Rattle.std.proofs.lemmas.List.Folds.{list_all_at}
use Rattle.std.proofs.lemmas.Bool.{true_from_ne_false, both_ways, and_from, and_parts, eqb-true, cases_Bool, cond-true, cond-false, ne_eqb, eq-eqb, and_left, or_left, or_right}
use Rattle.std.proofs.lemmas.Bool.Decides.{nat_tests}
use Rattle.std.specs.Prelude.{◌==◌, ◌&&◌}
use Rattle.vx_block.specs.Word.{hex, hex_digit, block_word}
use Rattle.vx_block.specs.Reading.{is_hex_digit, digit_value, byte_value, bytes_of, is_short_word, is_block_word, spelled_block, AreBytes}

-- the next byte
pub next_byte : (digits out : List ℕ) (i : ℕ) → 2 * i + 1 < length digits → i < length out →
    take i out ++ bytes_of (drop (2 * i) digits) ≡ bytes_of digits →
    take (i + 1) (set out i (byte_value (get_or digits (2 * i) 0) (get_or digits (2 * i + 1) 0))) ++ bytes_of (drop (2 * (i + 1)) digits) ≡ bytes_of digits
next_byte digits out i lt room told =
    let first : drop (2 * i) digits ≡ get_or digits (2 * i) 0 ∷ drop (2 * i + 1) digits = drop_more digits (2 * i) 0 (omega arith) in
    let second : drop (2 * i + 1) digits ≡ get_or digits (2 * i + 1) 0 ∷ drop (2 * i + 1 + 1) digits = drop_more digits (2 * i + 1) 0 lt in
    let place : 2 * i + 1 + 1 ≡ 2 * (i + 1) = omega arith in
    let y : ℕ = byte_value (get_or digits (2 * i) 0) (get_or digits (2 * i + 1) 0) in
    ap (λ (xs : List ℕ). xs ++ bytes_of (drop (2 * (i + 1)) digits)) (take_more_set out i y room)
    ∙ append_assoc (take i out) (y ∷ []) (bytes_of (drop (2 * (i + 1)) digits))
    ∙ ap (λ (n : ℕ). take i out ++ (y ∷ bytes_of (drop n digits))) (sym place)
    ∙ ap (λ (xs : List ℕ). take i out ++ bytes_of (get_or digits (2 * i) 0 ∷ xs)) (sym second)
    ∙ ap (λ (xs : List ℕ). take i out ++ bytes_of xs) (sym first)
    ∙ told

-- each byte of such a word is a digit
pub digit_at : (digits : List ℕ) (i : ℕ) → IsTrue (list_all is_hex_digit digits) → i < length digits → IsTrue (is_hex_digit (get_or digits i 0))
digit_at digits i all lt = true_from_ne_false (is_hex_digit (get_or digits i 0)) (λ wrong. both_ways (list_all is_hex_digit digits) (list_all_at is_hex_digit digits i 0 lt wrong) all)

digit_again : (d : ℕ) → d < 16 → digit_value (hex_digit d) ≡ d
digit_again d lt = grind (arith, nat_tests)

hex_is_digit : (d : ℕ) → d < 16 → is_hex_digit (hex_digit d) ≡ true
hex_is_digit d lt = grind (arith, nat_tests)

-- two digits of a byte give the byte
byte_again : (b : ℕ) → b < 256 → byte_value (hex_digit (b / 16)) (hex_digit (b % 16)) ≡ b
byte_again b lt =
    let high : digit_value (hex_digit (b / 16)) ≡ b / 16 = digit_again (b / 16) (omega arith) in
    let low : digit_value (hex_digit (b % 16)) ≡ b % 16 = digit_again (b % 16) (omega arith) in
    omega (arith, high, low)

bytes_again : (bs : List ℕ) → AreBytes bs → bytes_of (flat_map hex bs) ≡ bs
bytes_again [] h = refl
bytes_again (b ∷ bs) h =
    ap (λ (y : ℕ). y ∷ bytes_of (flat_map hex bs)) (byte_again b (h 0)) ∙ ap (λ (ys : List ℕ). b ∷ ys) (bytes_again bs (λ k. h (suc k)))

all_digits : (bs : List ℕ) → AreBytes bs → list_all is_hex_digit (flat_map hex bs) ≡ true
all_digits [] h = refl
all_digits (b ∷ bs) h =
    let lt : b < 256 = h 0 in
    and_from _ _ (hex_is_digit (b / 16) (omega arith)) (and_from _ _ (hex_is_digit (b % 16) (omega arith)) (all_digits bs (λ k. h (suc k))))

two_each : (bs : List ℕ) → length (flat_map hex bs) ≡ 2 * length bs
two_each [] = refl
two_each (b ∷ bs) = let rest : length (flat_map hex bs) ≡ 2 * length bs = two_each bs in omega arith

same_bytes : (bs : List ℕ) (n b : ℕ) → length bs ≡ n → list_all (λ x. x == b) bs ≡ true → replicate n b ≡ bs
same_bytes [] n b len all = ap (λ (m : ℕ). replicate m b) (sym len)
same_bytes (x ∷ xs) n b len all =
    let parts = and_parts (x == b) (list_all (λ y. y == b) xs) all in
    ap (λ (m : ℕ). replicate m b) (sym len) ∙ ap (λ (ys : List ℕ). b ∷ ys) (same_bytes xs (length xs) b refl parts.1) ∙ ap (λ (y : ℕ). y ∷ xs) (sym (eqb-true x b parts.0))

short_is_word : (b : ℕ) → b < 256 → is_short_word (61 ∷ hex b) ≡ true
short_is_word b lt = and_from _ _ (hex_is_digit (b / 16) (omega arith)) (and_from _ _ (hex_is_digit (b % 16) (omega arith)) refl)

-- the word of equal bytes spells them
short_spells : (b n : ℕ) (word : List ℕ) → b < 256 → word ≡ 61 ∷ hex b →
    cond (is_short_word word) (replicate n (byte_value (get_or word 1 0) (get_or word 2 0))) (bytes_of word) ≡ replicate n b
short_spells b n word lt e =
    ap (λ (w : List ℕ). cond (is_short_word w) (replicate n (byte_value (get_or w 1 0) (get_or w 2 0))) (bytes_of w)) e
    ∙ cond-true _ _ _ (short_is_word b lt) ∙ ap (replicate n) (byte_again b lt)

long_is_not_short : (word : List ℕ) → length word ≡ 1024 → is_short_word word ≡ false
long_is_not_short word len = and_left _ _ (and_left _ _ (ne_eqb (length word) 3 (λ e. omega (arith, len, e))))

-- a block of equal bytes, and any other
equal_again : (block : List ℕ) → length block ≡ 512 → AreBytes block → list_all (λ x. x == get_or block 0 0) block ≡ true →
    (is_block_word (block_word block) ≡ true) × (spelled_block (block_word block) ≡ block)
equal_again block len h all =
    let is : block_word block ≡ 61 ∷ hex (get_or block 0 0) = cond-true _ _ _ all in (
      or_left _ _ (ap is_short_word is ∙ short_is_word (get_or block 0 0) (h 0)),
      short_spells (get_or block 0 0) 512 (block_word block) (h 0) is ∙ same_bytes block 512 (get_or block 0 0) len all,
    )

other_again : (block : List ℕ) → length block ≡ 512 → AreBytes block → list_all (λ x. x == get_or block 0 0) block ≡ false →
    (is_block_word (block_word block) ≡ true) × (spelled_block (block_word block) ≡ block)
other_again block len h all =
    let is : block_word block ≡ flat_map hex block = cond-false _ _ _ all in
    let size : length (block_word block) ≡ 1024 = ap length is ∙ two_each block ∙ omega (arith, len) in (
      or_right _ _ (and_from _ _ (eq-eqb _ _ size) (ap (list_all is_hex_digit) is ∙ all_digits block h)),
      cond-false _ _ _ (long_is_not_short (block_word block) size) ∙ ap bytes_of is ∙ bytes_again block h,
    )

-- what was printed is a word, and spells the block
pub word_again : (block : List ℕ) → length block ≡ 512 → AreBytes block → (is_block_word (block_word block) ≡ true) × (spelled_block (block_word block) ≡ block)
word_again block len h = elim (cases_Bool (list_all (λ x. x == get_or block 0 0) block)) [
  | inl all ↦ equal_again block len h all
  | inr not_all ↦ other_again block len h not_all
]

-- a word that was printed is read as its block
pub read_again : (word block out : List ℕ) → length block ≡ 512 → AreBytes block → word ≡ block_word block → out ≡ spelled_block word → out ≡ block
read_again word block out len h e is = is ∙ ap spelled_block e ∙ (word_again block len h).1

-- no word that was printed is refused
pub is_word_again : (word block : List ℕ) → length block ≡ 512 → AreBytes block → word ≡ block_word block → is_block_word word ≡ false → ⊥
is_word_again word block len h e refused = both_ways (is_block_word word) refused (ap is_block_word e ∙ (word_again block len h).0)

all_from : (byte : ℕ) (same : Bool) (bytes : List ℕ) → fold (λ s x. s && (x == byte)) same bytes ≡ (same && list_all (λ x. x == byte) bytes)
all_from byte true [] = refl
all_from byte false [] = refl
all_from byte true (x ∷ xs) = all_from byte (x == byte) xs
all_from byte false (x ∷ xs) = all_from byte false xs

-- a fold that has no early end answers the same
pub all_folded : (byte : ℕ) (bytes : List ℕ) → fold (λ same x. same && (x == byte)) true bytes ≡ list_all (λ x. x == byte) bytes
all_folded byte bytes = all_from byte true bytes
