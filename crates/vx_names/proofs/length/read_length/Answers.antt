use Rattle.std.specs.Prelude.{Ok}
use Rattle.std.proofs.Common.{◌≡◌, ◌*◌, ℕ, true, sym, ap, ◌∙◌, arith}
use Rattle.std.proofs.lemmas.Bool.{false≢true}
use Rattle.vx_names.specs.Number.{digits_value, is_numeral}
use Rattle.vx_names.proofs.Lengths.{HasParts, length_place_is, measured_parts, measures_parts, whole_place, capped_product, in_bounds}
use Rattle.vx_names.proofs.Numbers.{numeral_parts}
use Rattle.vx_names.proofs.length.read_length.Goals as goal
use Rattle.vx_names.proofs.length.read_length.Goals.{then-not-is_numeral-via-then-not-is_numeral, then-not-is_numeral-via-else-not-is_numeral+then-each-eq0, then-sectors-eq0-via-then-sectors-eq0, then-sectors-eq0-via-else-sectors-eq0+then-sectors-gt-CAP}

pub capped_value-requires : goal.capped_value-requires
capped_value-requires c = (numeral_parts c.split_at.result.0.now (sym c.is_numeral.ensures ∙ c.if-not-is_numeral.false)).digits

pub returns-clause-measured : goal.returns-clause-measured
returns-clause-measured c =
    let digits : is_numeral c.split_at.result.0.now ≡ true = sym c.is_numeral.ensures ∙ c.if-not-is_numeral.false in
    let value : digits_value c.split_at.result.0.now ≡ c.capped_value.result = capped_product c.capped_value.result (digits_value c.split_at.result.0.now) c.unit_sectors-each.result c.capped_value.ensures (omega arith) (omega arith) in
    measures_parts c.args.word.now c.split_at.result.0.now c.split_at.result.1.now c.numeral_front-front.result c.unit_sectors-each.result (c.capped_value.result * c.unit_sectors-each.result)
    c.split_at.ensures.front c.split_at.ensures.back c.unit_sectors-each.ensures digits (omega arith) (ap (λ (n : ℕ). n * c.unit_sectors-each.result) (sym value)) (omega arith) (omega arith)

pub returns-clause-only : goal.returns-clause-only
returns-clause-only c = λ sectors m.
    let value : digits_value c.split_at.result.0.now ≡ c.capped_value.result = capped_product c.capped_value.result (digits_value c.split_at.result.0.now) c.unit_sectors-each.result c.capped_value.ensures (omega arith) (omega arith) in
    let parts : HasParts c.split_at.result.0.now c.unit_sectors-each.result sectors = measured_parts c.args.word.now c.split_at.result.0.now c.split_at.result.1.now c.numeral_front-front.result c.unit_sectors-each.result sectors c.numeral_front-front.ensures.bytes c.split_at.ensures.front c.split_at.ensures.back c.unit_sectors-each.ensures m in
    ap Ok (ap (λ (n : ℕ). n * c.unit_sectors-each.result) (sym value) ∙ sym parts.value)

pub returns-then-not-is_numeral-clause-place : goal.returns-then-not-is_numeral-clause-place
returns-then-not-is_numeral-clause-place c = rw c.length_place.ensures (length_place_is c.args.word.now)

pub returns-then-sectors-eq0-clause-place : goal.returns-then-sectors-eq0-clause-place
returns-then-sectors-eq0-clause-place c =
    let digits : is_numeral c.split_at.result.0.now ≡ true = sym c.is_numeral.ensures ∙ c.if-not-is_numeral.false in
    whole_place c.args.word.now c.split_at.result.0.now c.split_at.result.1.now c.numeral_front-front.result c.unit_sectors-each.result
    c.split_at.ensures.front c.split_at.ensures.back c.unit_sectors-each.ensures digits (omega arith)

pub returns-then-not-is_numeral-clause-only : goal.returns-then-not-is_numeral-clause-only
returns-then-not-is_numeral-clause-only c = λ sectors m.
    let parts : HasParts c.split_at.result.0.now c.unit_sectors-each.result sectors = measured_parts c.args.word.now c.split_at.result.0.now c.split_at.result.1.now c.numeral_front-front.result c.unit_sectors-each.result sectors c.numeral_front-front.ensures.bytes c.split_at.ensures.front c.split_at.ensures.back c.unit_sectors-each.ensures m in
    elim c.then-not-is_numeral.branch [
      | then-not-is_numeral-via-then-not-is_numeral w ↦ absurd (false≢true (sym w.if-not-is_numeral.true ∙ c.is_numeral.ensures ∙ parts.digits))
      | then-not-is_numeral-via-else-not-is_numeral+then-each-eq0 w ↦ absurd (omega (arith, parts.unit, w.if-each-eq0.true))
    ]

pub returns-then-sectors-eq0-clause-only : goal.returns-then-sectors-eq0-clause-only
returns-then-sectors-eq0-clause-only c = λ sectors m.
    let parts : HasParts c.split_at.result.0.now c.unit_sectors-each.result sectors = measured_parts c.args.word.now c.split_at.result.0.now c.split_at.result.1.now c.numeral_front-front.result c.unit_sectors-each.result sectors c.numeral_front-front.ensures.bytes c.split_at.ensures.front c.split_at.ensures.back c.unit_sectors-each.ensures m in
    let bounds = in_bounds c.capped_value.result (digits_value c.split_at.result.0.now) c.unit_sectors-each.result sectors c.capped_value.ensures parts.unit parts.value m.some m.most in
    elim c.then-sectors-eq0.branch [
      | then-sectors-eq0-via-then-sectors-eq0 w ↦ absurd (omega (arith, bounds.0, w.if-sectors-eq0.true))
      | then-sectors-eq0-via-else-sectors-eq0+then-sectors-gt-CAP w ↦ absurd (omega (arith, bounds.1, w.if-sectors-gt-CAP.true))
    ]
