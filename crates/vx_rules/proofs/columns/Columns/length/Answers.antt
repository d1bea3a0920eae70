use Rattle.std.proofs.Common.{◌<◌, sym, subst}
use Rattle.vx_rules.specs.Pieces.{end_of}
use Rattle.vx_rules.proofs.columns.Columns.length.Goals as goal

pub returns-in-Some-clause-small : goal.returns-in-Some-clause-small
returns-in-Some-clause-small c = λ small. subst (λ o. end_of o < 36893488147419103232) (sym c.in-Some.ensures.value) (small (c.args.plex.now, c.args.col))
