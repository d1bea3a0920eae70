use Rattle.vx_script_words.proofs.Numbers.{number_is}
use Rattle.vx_script_words.proofs.number.number_of.Goals as goal

pub returns : goal.returns
returns c = number_is c.read_number.result c.args.word.now c.read_number.ensures.form c.read_number.ensures.spelled c.read_number.ensures.below
