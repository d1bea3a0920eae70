use Rattle.std.proofs.Common.{sym, ◌∙◌}
use Rattle.vx_names.proofs.Attributes.{name_value_place}
use Rattle.vx_names.proofs.attr.read_value.Goals as goal

pub returns-in-Err-clause-place : goal.returns-in-Err-clause-place
returns-in-Err-clause-place c = rw c.name_front.ensures.bytes (name_value_place c.args.word.now (sym c.begins_with.ensures ∙ c.if-begins_with.false))
