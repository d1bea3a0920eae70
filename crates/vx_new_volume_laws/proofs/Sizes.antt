-- The sizes of columns and logs: some sectors, as many as the volume takes.
use Rattle.std.proofs.Common.{◌≡◌, ℕ, ◌+◌, ◌-◌, ◌*◌, ◌/◌, ◌%◌, ◌<◌, ◌≤◌, ◌==◌, Bool, true, false, cond, refl, ap, ◌∙◌, inl, inr, arith}
use Rattle.std.proofs.Math.Nat.{le-div_iff_mul-le, lt-div-mul-add, mul-mod_right, mul_assoc, mul_comm}
use Rattle.std.proofs.lemmas.Bool.{cases_lt, eqb-false}
use Rattle.std.proofs.lemmas.Nat.{mul-le}
use Rattle.vx_block.specs.Regions.{region_count}
use Rattle.vx_mapfmt.specs.Sizes.{map_bytes_of, parts_of, plex_bytes_of}
use Rattle.vx_rules.specs.Sizes.{log_length}
use Rattle.vx_new_volumes.specs.declared.request.Request.{Request}
use Rattle.vx_new_volumes.specs.Rule.{column_length}
use Rattle.vx_new_volume_laws.proofs.Plans.{column_size}

-- the parts hold all
parts_cover : (size n : ℕ) → 0 < size → n ≤ parts_of size n * size
parts_cover size n pos =
    let more : n + (size - 1) < (n + (size - 1)) / size * size + size = lt-div-mul-add {a = n + (size - 1)} {b = size} pos in
    omega (arith, more, pos)

parts_some : (size n : ℕ) → 0 < size → 0 < n → 1 ≤ parts_of size n
parts_some size n pos some = elim (cases_lt 0 (parts_of size n)) [
  | inl lt ↦ omega (arith, lt)
  | inr none ↦
      let cover = parts_cover size n pos in
      let low = mul-le (parts_of size n) size 0 size none (omega arith) in
      absurd (omega (arith, cover, low, some))
]

module _ (r : Request) (columns : 1 ≤ r.ncol) (unit : 1 ≤ r.unit) (some : 0 < r.length) where
  row : 0 < r.ncol * r.unit
  row = let le = mul-le 1 1 r.ncol r.unit columns unit in omega (arith, le)

  striped_cover : r.length ≤ r.ncol * column_length r
  striped_cover =
      let cover = parts_cover (r.ncol * r.unit) r.length row in
      let turned : parts_of (r.ncol * r.unit) r.length * (r.ncol * r.unit) ≡ r.ncol * r.unit * parts_of (r.ncol * r.unit) r.length = mul_comm (parts_of (r.ncol * r.unit) r.length) (r.ncol * r.unit) in
      let same : r.ncol * r.unit * parts_of (r.ncol * r.unit) r.length ≡ r.ncol * (r.unit * parts_of (r.ncol * r.unit) r.length) = mul_assoc r.ncol r.unit (parts_of (r.ncol * r.unit) r.length) in
      omega (arith, cover, turned, same)

  -- together they hold the volume
  pub column_cover : r.length ≤ r.ncol * column_size r
  column_cover = by (r.ncol == 1) refl
    where
      by : (b : Bool) → (r.ncol == 1) ≡ b → r.length ≤ r.ncol * cond b r.length (column_length r)
      by true one = let le = mul-le 1 r.length r.ncol r.length columns (omega arith) in omega (arith, le)
      by false several = striped_cover

  -- a column has a sector
  pub column_some : 0 < column_size r
  column_some = elim (cases_lt 0 (column_size r)) [
    | inl lt ↦ lt
    | inr none ↦
        let cover = column_cover in
        let low = mul-le r.ncol (column_size r) r.ncol 0 (omega arith) none in
        absurd (omega (arith, cover, low, some))
  ]

  -- one of several has whole units
  pub column_units : (r.ncol == 1) ≡ false → column_size r % r.unit ≡ 0
  column_units several =
      ap (λ (b : Bool). cond b r.length (column_length r) % r.unit) several ∙ mul-mod_right r.unit (parts_of (r.ncol * r.unit) r.length)

  pub unit_within : (r.ncol == 1) ≡ false → r.unit ≤ column_size r
  unit_within several =
      let parts = parts_some (r.ncol * r.unit) r.length row some in
      let le = mul-le r.unit 1 r.unit (parts_of (r.ncol * r.unit) r.length) (omega arith) parts in
      let is : column_size r ≡ r.unit * parts_of (r.ncol * r.unit) r.length = ap (λ (b : Bool). cond b r.length (column_length r)) several in
      omega (arith, le, is)

pub several_columns : (n : ℕ) → 1 ≤ n → (n == 1) ≡ false → 2 ≤ n
several_columns n some other = elim (cases_lt 1 n) [
  | inl lt ↦ omega (arith, lt)
  | inr le ↦ absurd (eqb-false n 1 other (omega (arith, some, le)))
]

pub log_some : (length region : ℕ) → 0 < log_length length region
log_some length region =
    let parts = parts_some 8192 (512 + parts_of 8 (region_count length region)) (omega arith) (omega arith) in
    let bytes : 8192 ≤ map_bytes_of (region_count length region) = mul-le 1 8192 (parts_of 8192 (512 + parts_of 8 (region_count length region))) 8192 parts (omega arith) in
    let whole : 512 ≤ plex_bytes_of 32 (map_bytes_of (region_count length region)) = omega (arith, bytes) in
    let one : 1 ≤ plex_bytes_of 32 (map_bytes_of (region_count length region)) / 512 = (le-div_iff_mul-le {k = 512} {x = 1} {y = plex_bytes_of 32 (map_bytes_of (region_count length region))} (omega arith)).1 (omega (arith, whole)) in
    omega (arith, one)
