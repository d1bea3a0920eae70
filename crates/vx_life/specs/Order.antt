-- The order of a history, whatever the order in which its entries are listed.
use Rattle.std.specs.Prelude.{◌≡◌, ◌⊎◌, ℕ, ◌<◌, ◌≤◌, ◌==◌, ◌&&◌, nat_lt, nat_le, Bool, if◌then◌else◌, List, Contains, count_by}
use Rattle.vx_life.specs.Entry.{Entry}

-- how many of the entries are of the region
abbrev pub entries_in : ℕ → List Entry → ℕ
entries_in region es = count_by (λ e. e.part.region == region) es

-- how many of the entries have this number in the region
abbrev pub entries_at : ℕ → ℕ → List Entry → ℕ
entries_at region number es = count_by (λ e. e.part.region == region && e.part.number == number) es

-- the number is one of 1 to n
abbrev pub is_counted : ℕ → ℕ → Bool
is_counted n number = nat_lt 0 number && nat_le number n

-- in each region the numbers are 1 to n, each once
abbrev pub AreNumbered : List Entry → Type 0
AreNumbered es = (region number : ℕ) → entries_at region number es ≡ (if is_counted (entries_in region es) number then 1 else 0)

-- the first stands before the second in their session: by place, and then by part
abbrev pub IsBefore : Entry → Entry → Type 0
IsBefore d e = (d.place < e.place) ⊎ ((d.place ≡ e.place) × (d.part.region < e.part.region))

pub record AreInOrder (d e : Entry) : Type 0 where
  -- as numbers rise in a region, epochs never fall
  pub in_region : d.part.region ≡ e.part.region → d.part.number < e.part.number → d.part.epoch ≤ e.part.epoch
  -- over the parts of one session epochs never fall
  pub epochs : d.session ≡ e.session → IsBefore d e → d.part.epoch ≤ e.part.epoch
  -- and in one region numbers rise
  pub numbers : d.session ≡ e.session → IsBefore d e → d.part.region ≡ e.part.region → d.part.number < e.part.number

-- the entries of one life keep the order of a history
pub record IsInOrder (es : List Entry) : Type 0 where
  pub numbered : AreNumbered es
  pub pairs : (d e : Entry) → Contains es d → Contains es e → AreInOrder d e
