-- Names and disks as they are kept: the bytes of each name, and a byte 0 behind it.
use Rattle.std.specs.Prelude.{◌≡◌, ℕ, ◌==◌, true, if◌then◌else◌, List, [], ◌∷◌, ◌++◌}
use Rattle.std.specs.List.{list_all, flat_map}
use Rattle.vx_names.specs.Form.{is_name}
use Rattle.vx_script_words.specs.declared.value.DiskAt.{DiskAt}

-- the names up to each byte 0, the first of them begun
abbrev pub names_from : List ℕ → List ℕ → List (List ℕ)
names_from begun [] = []
names_from begun (b ∷ bs) = if b == 0 then begun ∷ names_from [] bs else names_from (begun ++ b ∷ []) bs

unfoldable pub names_in : List ℕ → List (List ℕ)
names_in bytes = names_from [] bytes

abbrev pub packed_name : List ℕ → List ℕ
packed_name name = name ++ 0 ∷ []

abbrev pub packed : List (List ℕ) → List ℕ
packed names = flat_map packed_name names

-- the bytes are names with a byte 0 behind each, and nothing else
abbrev pub ArePacked : List ℕ → Type 0
ArePacked bytes = (packed (names_in bytes) ≡ bytes) × (list_all is_name (names_in bytes) ≡ true)

-- each name and the one behind it
abbrev pub paired : List (List ℕ) → List DiskAt
paired [] = []
paired (disk ∷ []) = []
paired (disk ∷ device ∷ names) = record { disk = disk; device = device } ∷ paired names

abbrev pub both_names : DiskAt → List (List ℕ)
both_names d = d.disk ∷ d.device ∷ []

-- there is no name without its other one
abbrev pub ArePaired : List (List ℕ) → Type 0
ArePaired names = flat_map both_names (paired names) ≡ names
