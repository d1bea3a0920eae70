use Rattle.std.proofs.Common.{sym}
use Rattle.vx_script_words.proofs.Numbers.{length_is, no_length}
use Rattle.vx_script_words.proofs.number.length_of.Goals as goal

pub returns-in-Ok : goal.returns-in-Ok
returns-in-Ok c = sym (length_is c.args.word.now c.in-Ok.sectors c.in-Ok.ensures.measured)

pub returns-in-Err : goal.returns-in-Err
returns-in-Err c = sym (no_length c.args.word.now (λ n m. let e = c.in-Err.ensures.only n m in cc))
