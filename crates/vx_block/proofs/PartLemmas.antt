-- The parts of a range: how many there are, and how one follows the other.
use Rattle.std.proofs.Common.{◌≡◌, ℕ, ◌+◌, ◌-◌, ◌*◌, ◌/◌, ◌<◌, ◌≤◌, max, min, Some, None, refl, ap, ◌∙◌, inl, inr, arith}
use Rattle.std.specs.Prelude.{IsSome}
use Rattle.std.proofs.Math.Nat.{le-div_iff_mul-le, lt-div-mul-add, div-mul-le_self, mul-le-mul_right, add-mul}
use Rattle.std.proofs.lemmas.Nat.{div-mul-add}
use Rattle.std.proofs.lemmas.Bool.{lt-ltb, le-ltb, cond-true, cond-false, cases_lt}
use Rattle.vx_block.specs.declared.geometry.Span.{Span}
use Rattle.vx_block.specs.Parts.{reached, IsPartAt}
use Rattle.vx_block.specs.Regions.{part_at}

module _ (size start count index : ℕ) (sized : 0 < size) (some : 0 < count) where
  next : (start / size + (index + 1)) * size ≡ (start / size + index) * size + size
  next =
      let place : start / size + (index + 1) ≡ (start / size + index) + 1 = omega arith in
      let more = add-mul (start / size + index) 1 size in
      ap (λ r. r * size) place ∙ more ∙ omega arith

  first : (start / size * size ≤ start) × (start < start / size * size + size) × (start / size * size ≤ (start / size + index) * size)
  first = (div-mul-le_self start size, lt-div-mul-add sized, mul-le-mul_right size (omega arith))

  -- a part begins and ends as its region and the range allow
  pub part_some : max start ((start / size + index) * size) < min (start + count) ((start / size + index) * size + size) → part_at size start count index ≡ Some (record { start = max start ((start / size + index) * size); count = min (start + count) ((start / size + index) * size + size) - max start ((start / size + index) * size) })
  part_some lt = cond-true _ _ _ (lt-ltb _ _ lt)

  pub part_none : min (start + count) ((start / size + index) * size + size) ≤ max start ((start / size + index) * size) → part_at size start count index ≡ None
  part_none le = cond-false _ _ _ (le-ltb _ _ le)

  -- there is a part up to the region of the last block, and none past it
  pub part_there : index ≤ (start + count - 1) / size - start / size → start / size ≤ (start + count - 1) / size → IsSome (part_at size start count index)
  part_there le least =
      let last : start / size + index ≤ (start + count - 1) / size = omega (arith, le, least) in
      let below : (start / size + index) * size ≤ start + count - 1 = (le-div_iff_mul-le sized).0 last in
      let f = first in
      rw (part_some (omega (arith, below, f.0, f.1, f.2, sized, some))) refl

  pub part_past : (start + count - 1) / size < start / size + index → part_at size start count index ≡ None
  part_past lt =
      let past : (start + count - 1) < (start + count - 1) / size * size + size = lt-div-mul-add sized in
      let more : ((start + count - 1) / size + 1) * size ≤ (start / size + index) * size = mul-le-mul_right size (omega arith) in
      let one = add-mul ((start + count - 1) / size) 1 size in
      part_none (omega (arith, past, more, one, some))

  pub part_is : (span : Span) → part_at size start count index ≡ Some span → IsPartAt size start count index span
  part_is span e =
      elim (cases_lt (max start ((start / size + index) * size)) (min (start + count) ((start / size + index) * size + size))) [
        | inl lt ↦
            let f = first in
            let n = next in
            let is : (let it : Span = record { start = max start ((start / size + index) * size); count = min (start + count) ((start / size + index) * size + size) - max start ((start / size + index) * size) } in it) ≡ span = cc (part_some lt, e) in
            let begin : max start ((start / size + index) * size) ≡ span.start = ap (λ s. s.start) is in
            let long : min (start + count) ((start / size + index) * size + size) - max start ((start / size + index) * size) ≡ span.count = ap (λ s. s.count) is in
            let rest : span.start ≡ (start / size + index) * size + (span.start - (start / size + index) * size) = omega (arith, begin) in
            record {
              some = omega (arith, long, lt);
              begins = omega (arith, begin, lt, f.0, f.1, f.2);
              ends = omega (arith, begin, long, lt, n, f.0, f.1, f.2);
              from = omega (arith, begin);
              to = omega (arith, begin, long, lt);
              few = omega (arith, long, lt);
              region = ap (λ s. s / size) rest ∙ div-mul-add (start / size + index) size (span.start - (start / size + index) * size) (omega (arith, begin, lt, f.1, f.2));
            }
        | inr le ↦ cc (part_none le, e)
      ]

  -- the parts before the last end where the range ends
  pub all_reached : part_at size start count index ≡ None → reached size start count index ≡ start + count
  all_reached e =
      elim (cases_lt (max start ((start / size + index) * size)) (min (start + count) ((start / size + index) * size + size))) [
        | inl lt ↦ cc (part_some lt, e)
        | inr le ↦ let f = first in omega (arith, le, f.0, f.1, f.2, some, sized)
      ]

pub none_reached : (size start count : ℕ) → 0 < size → reached size start count 0 ≡ start
none_reached size start count sized =
    let place : start / size + 0 ≡ start / size = omega arith in
    ap (λ r. max start (min (start + count) (r * size))) place ∙ omega (arith, div-mul-le_self start size)
