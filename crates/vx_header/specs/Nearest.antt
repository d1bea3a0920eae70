-- The header and the toggle that have most in common with a sector.
use Rattle.std.specs.Prelude.{◌≡◌, ℕ, ◌^◌, ◌<◌, ◌≤◌, IsTrue, List, length, take, drop, slice_index}
use Rattle.vx_sector.specs.Fields.{eight_bytes, four_bytes}
use Rattle.vx_header.specs.Sectors.{is_short_name}

-- where the field begins with a short name, this is the longest
abbrev pub IsLongestName : List ℕ → List ℕ → Type 0
IsLongestName field longest =
    (name : List ℕ) → IsTrue (is_short_name name) → take (length name) field ≡ name
    → (length name ≤ length longest) × (longest ≡ take (length longest) field)

-- each field that some header could have there
pub record IsNearestHeader (sector group disk : List ℕ) (slot sectors : ℕ) : Type 0 where
  pub of_group : IsLongestName (drop 8 sector) group
  pub of_disk : IsLongestName (drop 40 sector) disk
  pub of_slot : slice_index sector 72 < 32 → slot ≡ slice_index sector 72
  pub of_sectors : (n : ℕ) → 2048 < n → n ≤ 2 ^ 40 → eight_bytes n ≡ take 8 (drop 80 sector) → sectors ≡ n

-- each field that some toggle could have there
pub record IsNearestToggle (sector : List ℕ) (sequence half text good : ℕ) : Type 0 where
  pub of_sequence : (n : ℕ) → 0 < n → n < 2 ^ 64 → eight_bytes n ≡ take 8 (drop 8 sector) → sequence ≡ n
  pub of_half : slice_index sector 16 < 2 → half ≡ slice_index sector 16
  pub of_text : (n : ℕ) → n ≤ 522240 → four_bytes n ≡ take 4 (drop 20 sector) → text ≡ n
  pub of_good : (n : ℕ) → n < 2 ^ 32 → four_bytes n ≡ take 4 (drop 24 sector) → good ≡ n
