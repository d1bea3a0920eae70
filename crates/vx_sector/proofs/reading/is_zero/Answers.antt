use Rattle.std.proofs.Common.{◌∙◌, sym}
use Rattle.vx_sector.proofs.FieldLemmas.{zeros_from_all, all_from_zeros}
use Rattle.vx_sector.proofs.reading.is_zero.Goals as goal

pub returns : goal.returns
returns c =
    (λ yes. zeros_from_all _ (sym c.are_all_zero.ensures ∙ yes), λ same. c.are_all_zero.ensures ∙ all_from_zeros _ same)
