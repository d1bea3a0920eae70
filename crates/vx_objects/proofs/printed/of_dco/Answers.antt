use Rattle.std.proofs.Common.{refl, sym}
use Rattle.std.proofs.lemmas.Bool.{eqb-true}
use Rattle.vx_objects.proofs.Fields.{two_spelled}
use Rattle.vx_objects.proofs.printed.of_dco.Goals as goal

pub returns : goal.returns
returns c = rw (c.in_ok-attrs.ensures, c.value.ensures, c.word.ensures, eqb-true c.args.dco.now.maps 32 c.requires, sym two_spelled) refl
