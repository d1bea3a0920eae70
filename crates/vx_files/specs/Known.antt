-- The devices that a shelf of files knows, of which some are held, and how often they have failed.
use Rattle.std.specs.Prelude.{◌≡◌, ◌<◌, ℕ, Option, Some, None}
use Rattle.std.specs.BTreeMap.{BTreeMap, get, btree_map_len}
use Rattle.std.specs.Cmp.Lexicographic.{slice_cmp}
use Rattle.std.specs.Ordering.{nat_cmp}
use Rattle.vx_base.specs.Named.{Word}
use Rattle.vx_shelf.specs.Shelf.{Held}
use Rattle.vx_files.specs.declared.known.Known.{Known}

abbrev pub held_with : ℕ → Option ℕ → Option Held
held_with device None = None
held_with device (Some sectors) = Some (record { device = device; sectors = sectors })

abbrev pub held_by : Option Known → Option Held
held_by None = None
held_by (Some k) = held_with k.device k.held

-- what is held under a name
abbrev pub held_in : BTreeMap Word Known → Word → Option Held
held_in known name = held_by (get (slice_cmp nat_cmp) known name)

abbrev pub counted_by : Option Known → ℕ
counted_by None = 0
counted_by (Some k) = k.faults

-- how often calls of the device of a name had failed when it last came back
abbrev pub counted_in : BTreeMap Word Known → Word → ℕ
counted_in known name = counted_by (get (slice_cmp nat_cmp) known name)

abbrev pub number_by : Option Known → ℕ → ℕ
number_by None next = next
number_by (Some k) next = k.device

-- the number of the device of a name, or how many devices are known where it is new
abbrev pub number_in : BTreeMap Word Known → Word → ℕ
number_in known name = number_by (get (slice_cmp nat_cmp) known name) (btree_map_len known)

-- each number is below the count, and no two names have one
pub record IsNumbered (count : ℕ) (known : Word → Option Known) : Type 0 where
  pub below : (name : Word) (k : Known) → known name ≡ Some k → k.device < count
  pub apart : (a b : Word) (x y : Known) → known a ≡ Some x → known b ≡ Some y → x.device ≡ y.device → a ≡ b

-- the numbers are below the count of the devices that are known, and differ
abbrev pub AreNumbered : BTreeMap Word Known → Type 0
AreNumbered known = IsNumbered (btree_map_len known) (get (slice_cmp nat_cmp) known)
