use Rattle.std.proofs.Common.{◌≡◌, ◌+◌, ◌^◌, take, min}
use Rattle.vx_names.specs.Number.{digits_value}
use Rattle.vx_names.proofs.number.capped_value.Given as goal

abbrev pub invariant-loop-digit : goal.invariant-loop-digit
invariant-loop-digit l = l.value ≡ min (digits_value (take l.digit-index l.digits)) (2 ^ 40 + 1)
