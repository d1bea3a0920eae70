use Rattle.std.proofs.Common.{◌<◌, sym, subst}
use Rattle.vx_rules.specs.Pieces.{end_of}
use Rattle.vx_rules.proofs.columns.column_with.Goals as goal

pub with-requires : goal.with-requires
with-requires c = subst (λ o. end_of o < 36893488147419103232) (sym c.in-Some.ensures.value) (c.requires (c.args.piece.now.plex, c.args.piece.now.col))
