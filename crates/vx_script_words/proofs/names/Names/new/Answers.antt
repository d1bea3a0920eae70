use Rattle.std.proofs.Common.{◌∙◌, ap, sym, subst}
use Rattle.vx_script_words.specs.Packed.{names_in, ArePacked}
use Rattle.vx_script_words.proofs.Packs.{no_names}
use Rattle.vx_script_words.proofs.names.Names.new.Goals as goal

pub invariant_of-result : goal.invariant_of-result
invariant_of-result c = subst ArePacked (sym c.new-bytes.ensures.items) no_names.1

pub returns : goal.returns
returns c = ap names_in c.new-bytes.ensures.items ∙ no_names.0
