use Rattle.std.proofs.Common.{refl, sym}
use Rattle.std.proofs.lemmas.Bool.{eqb-true}
use Rattle.vx_objects.proofs.Fields.{one_spelled}
use Rattle.vx_objects.proofs.printed.of_group.Goals as goal

pub returns : goal.returns
returns c = rw (c.in_ok-attrs.ensures, c.word.ensures, eqb-true c.args.group.now.version 1 c.requires, sym one_spelled) refl
