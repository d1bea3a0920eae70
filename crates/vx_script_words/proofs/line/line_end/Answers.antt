use Rattle.vx_script_words.proofs.line.line_end.Goals as goal

pub returns-then-may_be_cut : goal.returns-then-may_be_cut
returns-then-may_be_cut c = λ values. rw c.if-may_be_cut.true (c.may_cut.ensures values)
