-- The numbers of a request are small.
use Rattle.std.proofs.Common.{◌≡◌, ℕ, ◌+◌, ◌-◌, ◌*◌, ◌/◌, ◌^◌, ◌<◌, ◌≤◌, ◌==◌, nat_le, nat_lt, true, inl, inr, arith, ◌&&◌, ◌||◌}
use Rattle.std.proofs.lemmas.Bool.{and_parts, or_cases, cases_lt, leb-true, eqb-true}
use Rattle.std.proofs.lemmas.Nat.{mul-le}
use Rattle.std.proofs.Math.Nat.{div-lt_iff_lt-mul, mul_comm}
use Rattle.vx_block.specs.Geometry.{is_region_size, is_geometry}
use Rattle.vx_new_volumes.specs.declared.request.Request.{Request}
use Rattle.vx_new_volumes.specs.Rule.{is_request}

at_most : (n k : ℕ) → (n == k) ≡ true → k ≤ 2048 → n ≤ 2048
at_most n k e le = let same = eqb-true n k e in omega (arith, same, le)

region_most : (n : ℕ) → is_region_size n ≡ true → n ≤ 2048
region_most n h = elim (or_cases (n == 32 || n == 64 || n == 128 || n == 256 || n == 512 || n == 1024) (n == 2048) h) [
  | inr e ↦ at_most n 2048 e (omega arith)
  | inl h ↦ elim (or_cases (n == 32 || n == 64 || n == 128 || n == 256 || n == 512) (n == 1024) h) [
    | inr e ↦ at_most n 1024 e (omega arith)
    | inl h ↦ elim (or_cases (n == 32 || n == 64 || n == 128 || n == 256) (n == 512) h) [
      | inr e ↦ at_most n 512 e (omega arith)
      | inl h ↦ elim (or_cases (n == 32 || n == 64 || n == 128) (n == 256) h) [
        | inr e ↦ at_most n 256 e (omega arith)
        | inl h ↦ elim (or_cases (n == 32 || n == 64) (n == 128) h) [
          | inr e ↦ at_most n 128 e (omega arith)
          | inl h ↦ elim (or_cases (n == 32) (n == 64) h) [
            | inr e ↦ at_most n 64 e (omega arith)
            | inl e ↦ at_most n 32 e (omega arith)
          ]
        ]
      ]
    ]
  ]
]

pub record Small (r : Request) : Type 0 where
  pub valid : is_geometry r.length r.region ≡ true
  pub length : r.length ≤ 2 ^ 30
  pub some : 1 ≤ r.ncol
  pub few : r.ncol ≤ 16
  pub unit : 1 ≤ r.unit
  pub short : r.unit ≤ 2 ^ 40
  pub mirrors : r.mirrors ≤ 8

pub small : (r : Request) → is_request r ≡ true → Small r
small r h =
    let a = and_parts (is_geometry r.length r.region) (nat_le 1 r.ncol && (nat_le r.ncol 16 && (nat_le 1 r.unit && (nat_le r.unit (2 ^ 40) && (nat_le r.mirrors 8 && nat_le r.logs 2))))) h in
    let b = and_parts (nat_le 1 r.ncol) (nat_le r.ncol 16 && (nat_le 1 r.unit && (nat_le r.unit (2 ^ 40) && (nat_le r.mirrors 8 && nat_le r.logs 2)))) a.1 in
    let c = and_parts (nat_le r.ncol 16) (nat_le 1 r.unit && (nat_le r.unit (2 ^ 40) && (nat_le r.mirrors 8 && nat_le r.logs 2))) b.1 in
    let d = and_parts (nat_le 1 r.unit) (nat_le r.unit (2 ^ 40) && (nat_le r.mirrors 8 && nat_le r.logs 2)) c.1 in
    let e = and_parts (nat_le r.unit (2 ^ 40)) (nat_le r.mirrors 8 && nat_le r.logs 2) d.1 in
    let f = and_parts (nat_le r.mirrors 8) (nat_le r.logs 2) e.1 in
    let g = and_parts (is_region_size r.region && nat_lt 0 r.length) (nat_le r.length (262144 * r.region)) a.0 in
    let most = region_most r.region (and_parts (is_region_size r.region) (nat_lt 0 r.length) g.0).0 in
    let long = leb-true r.length (262144 * r.region) g.1 in
    record {
      valid = a.0;
      length = omega (arith, most, long);
      some = leb-true 1 r.ncol b.0;
      few = leb-true r.ncol 16 c.0;
      unit = leb-true 1 r.unit d.0;
      short = leb-true r.unit (2 ^ 40) e.0;
      mirrors = leb-true r.mirrors 8 f.0;
    }

-- a row has some sectors, and not too many
pub row_some : (r : Request) → is_request r ≡ true → 0 < r.ncol * r.unit
row_some r h = let s = small r h in let le = mul-le 1 1 r.ncol r.unit s.some s.unit in omega (arith, le)

pub row_most : (r : Request) → is_request r ≡ true → r.ncol * r.unit ≤ 2 ^ 44
row_most r h = let s = small r h in let le = mul-le r.ncol r.unit 16 (2 ^ 40) s.few s.short in omega (arith, le)

whole : (a k : ℕ) → 0 < k → a / k * k ≤ a
whole a k pos = elim (cases_lt a (a / k * k)) [
  | inl lt ↦ let less : a / k < a / k = (div-lt_iff_lt-mul {k = k} {x = a} {y = a / k} pos).1 lt in absurd (omega (arith, less))
  | inr le ↦ le
]

-- the sectors of a column are below 2 ^ 45
pub column_most : (r : Request) → is_request r ≡ true → r.unit * ((r.length + (r.ncol * r.unit - 1)) / (r.ncol * r.unit)) ≤ 2 ^ 45
column_most r h =
    let s = small r h in
    let length = s.length in
    let some = row_some r h in
    let most = row_most r h in
    let units = (r.length + (r.ncol * r.unit - 1)) / (r.ncol * r.unit) in
    let wide = mul-le 1 r.unit r.ncol r.unit s.some (omega arith) in
    let more : r.unit * units ≤ r.ncol * r.unit * units = mul-le r.unit units (r.ncol * r.unit) units (omega (arith, wide)) (omega arith) in
    let back = whole (r.length + (r.ncol * r.unit - 1)) (r.ncol * r.unit) some in
    let turned : units * (r.ncol * r.unit) ≡ r.ncol * r.unit * units = mul_comm units (r.ncol * r.unit) in
    omega (arith, more, back, turned, most, length)
