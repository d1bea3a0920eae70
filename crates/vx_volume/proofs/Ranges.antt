-- The parts of a range, and the regions in which they lie.
use Rattle.std.proofs.Common.{◌≡◌, ℕ, ◌+◌, ◌-◌, ◌*◌, ◌/◌, ◌≤◌, ◌<◌, min, Option, None, ap, ◌∙◌, inl, inr, arith}
use Rattle.std.specs.Prelude.{IsSome, IsTrue}
use Rattle.std.proofs.Math.Nat.{div-mul-le_self, le-div_iff_mul-le, lt-div-mul-add, mul-le-mul_left, mul-le-mul_right, add-mul}
use Rattle.std.proofs.lemmas.Bool.{cases_lt}
use Rattle.std.proofs.lemmas.Bool.Decides.{nat_tests}
use Rattle.vx_block.specs.declared.geometry.Geometry.{Geometry}
use Rattle.vx_block.specs.declared.geometry.Span.{Span}
use Rattle.vx_block.specs.Geometry.{is_geometry}
use Rattle.vx_block.specs.Parts.{IsPartAt, reached}
use Rattle.vx_block.specs.Regions.{part_at}
use Rattle.vx_block.proofs.PartLemmas.{part_past, part_there}
use Rattle.vx_cell.specs.Calls.{IsInSpan}
use Rattle.vx_volume.specs.Calls.{IsInRegion, parts_in}
use Rattle.vx_volume.specs.Volume.{VolumeSeen}

-- the blocks lie in the cell of their region
pub in_span : (v : VolumeSeen) (span : Span) (r start size bytes : ℕ) → IsInRegion span v → r ≡ span.start / v.region → start ≡ r * v.region → size ≡ min v.region (v.length - r * v.region) → bytes ≡ 512 * span.count → IsInSpan start size span.start bytes
in_span v span r start size bytes one is begins long count =
    let low : span.start / v.region * v.region ≤ span.start = div-mul-le_self span.start v.region in
    let first : start ≡ span.start / v.region * v.region = begins ∙ ap (λ n. n * v.region) is in
    let blocks : size ≡ min v.region (v.length - span.start / v.region * v.region) = long ∙ ap (λ n. min v.region (v.length - n * v.region)) is in
    record {
      from = omega (arith, first, low);
      range = record {
        some = omega (arith, count, one.some);
        whole = omega (arith, count);
        inside = omega (arith, count, first, blocks, low, one.one, one.inside);
      };
    }

module _ (size start count : ℕ) (sized : 0 < size) (some : 0 < count) where
  first_first : start / size ≤ (start + count - 1) / size
  first_first = (le-div_iff_mul-le sized).1 (omega (arith, div-mul-le_self start size, some))

  some_not : (o : Option Span) → o ≡ None → IsSome o → ⊥
  some_not o is some = cc

  -- the parts are as many as there are
  pub part_total : (total : ℕ) → ((index : ℕ) → index < total → IsSome (part_at size start count index)) → part_at size start count total ≡ None → total ≡ parts_in size start count
  part_total total each end =
      elim (cases_lt total (parts_in size start count)) [
        | inl fewer ↦ absurd (some_not _ end (part_there size start count total sized some (omega (arith, fewer, first_first)) first_first))
        | inr more ↦
            elim (cases_lt (parts_in size start count) total) [
              | inl past ↦ absurd (some_not _ (part_past size start count (parts_in size start count) sized some (omega (arith, first_first))) (each (parts_in size start count) past))
              | inr same ↦ omega (arith, more, same)
            ]
      ]

  -- how many they are at most
  pub parts_few : 32 ≤ size → parts_in size start count ≤ count / 32 + 2
  parts_few long =
      let last : (start + count - 1) / size * size ≤ start + count - 1 = div-mul-le_self (start + count - 1) size in
      let next : start < start / size * size + size = lt-div-mul-add sized in
      elim (cases_lt (start / size + 1) ((start + count - 1) / size)) [
        | inl many ↦
            let more : ℕ = (start + count - 1) / size - (start / size + 1) in
            let sum : (start + count - 1) / size ≡ (start / size + 1) + more = omega (arith, many) in
            let wide : (start + count - 1) / size * size ≡ (start / size + 1) * size + more * size = ap (λ n. n * size) sum ∙ add-mul (start / size + 1) more size in
            let one : (start / size + 1) * size ≡ start / size * size + 1 * size = add-mul (start / size) 1 size in
            let least : more * 32 ≤ more * size = mul-le-mul_left more long in
            let within : more ≤ count / 32 = (le-div_iff_mul-le {k = 32} {x = more} {y = count} (omega arith)).1 (omega (arith, least, wide, one, last, next)) in
            omega (arith, within, sum, many)
        | inr few ↦ omega (arith, few)
      ]

  -- the parts before one end where it begins
  reached_more : (i j : ℕ) → i ≤ j → reached size start count i ≤ reached size start count j
  reached_more i j le =
      let low : (start / size + i) * size ≤ (start / size + j) * size = mul-le-mul_right size (omega (arith, le)) in
      omega (arith, low)

  pub ends_before : (i j : ℕ) (s t : Span) → i < j → IsPartAt size start count i s → IsPartAt size start count j t → s.start + s.count ≤ t.start
  ends_before i j s t lt first then = omega (arith, first.ends, then.begins, reached_more (i + 1) j (omega (arith, lt)))

next_first : (first index size : ℕ) → (first + (index + 1)) * size ≡ (first + index) * size + size
next_first first index size =
    let sum : first + (index + 1) ≡ first + index + 1 = omega arith in
    ap (λ n. n * size) sum ∙ add-mul (first + index) 1 size ∙ omega arith

-- a part lies in one region of the volume
pub part_inside : (v : VolumeSeen) (size blocks start count index : ℕ) (span : Span) → v.region ≡ size → v.length ≡ blocks → 0 < size → start + count ≤ blocks → IsPartAt size start count index span → IsInRegion span v
part_inside v size blocks start count index span sized long some inside place =
    let first : start < start / size * size + size = lt-div-mul-add some in
    let wide : (start / size + (index + 1)) * size ≡ (start / size + index) * size + size = next_first (start / size) index size in
    let low : start / size * size ≤ (start / size + index) * size = mul-le-mul_right size (omega arith) in
    let place_is : span.start / v.region * v.region ≡ (start / size + index) * size = ap (λ n. span.start / n * n) sized ∙ ap (λ n. n * size) place.region in
    record {
      some = place.some;
      one = omega (arith, place.ends, wide, first, low, place_is, sized);
      inside = omega (arith, place.to, inside, long);
    }

-- ---- the same in a geometry

module _ (geometry : Geometry) where
  long_region : (length region : ℕ) → IsTrue (is_geometry length region) → 32 ≤ region
  long_region length region valid = grind (arith, nat_tests)

  pub region_long : 32 ≤ geometry.region
  region_long = long_region geometry.length geometry.region geometry.valid

  pub region_some : 0 < geometry.region
  region_some = omega (arith, region_long)

  module _ (start count total : ℕ) (some : 0 < count) (each : (index : ℕ) → index < total → IsSome (part_at geometry.region start count index)) (end : part_at geometry.region start count total ≡ None) where
    pub parts_all : total ≡ parts_in geometry.region start count
    parts_all = part_total geometry.region start count region_some some total each end

    pub parts_within : total ≤ count / 32 + 2
    parts_within = omega (arith, parts_all, parts_few geometry.region start count region_some some region_long)
