-- Answers that tell of no refusal, fault or loss.
use Rattle.std.specs.Prelude.{Bool, true, false, ◌&&◌, not, List}
use Rattle.std.specs.List.{list_all}
use Rattle.vx_answers.specs.declared.answer.Answer.{Answer}
use Rattle.vx_answers.specs.declared.answer.Answer.TheVariants.{One, Block}
use Rattle.vx_answers.specs.declared.answer.BlockLine.{BlockLine}
use Rattle.vx_answers.specs.declared.answer.End.{End}
use Rattle.vx_answers.specs.declared.answer.End.TheVariants as ends

-- all was done
abbrev pub is_done : End → Bool
is_done (ends.Done copied parts blocks) = true
is_done other = false

abbrev pub is_line_fine : BlockLine → Bool
is_line_fine line = is_done line.end

-- all was done that the command says, or each line of the block
abbrev pub is_fine : Answer → Bool
is_fine (One views end) = is_done end
is_fine (Block lines lost) = not lost && list_all is_line_fine lines

abbrev pub are_fine : List Answer → Bool
are_fine answers = list_all is_fine answers
