use Rattle.std.proofs.Common.{◌≡◌, Ok, drop}
use Rattle.vx_script_words.specs.Row.{items}
use Rattle.vx_script_words.proofs.line.items.Given as goal

abbrev pub invariant-loop-part : goal.invariant-loop-part
invariant-loop-part l = items (drop l.part-index l.form) (Ok (record { values = l.values.items; rest = l.rest })) ≡ items l.form (Ok (record { values = l.fn.values.items; rest = l.fn.text }))
