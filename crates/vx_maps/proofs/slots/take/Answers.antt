use Rattle.std.proofs.Common.{rules, ◌≡◌, Some, ◌∙◌, sym, subst}
use Rattle.std.specs.Option.{IsSome}
use Rattle.vx_maps.proofs.Moves.{moved_out, has_piece}
use Rattle.vx_maps.proofs.slots.take.Goals as goal

pub unwrap-requires : goal.unwrap-requires
unwrap-requires g c = subst IsSome (sym c.take.ensures.value) (has_piece g.P.LocalPiece.seen c.args.slots.now.items c.args.at c.index_mut.result.now c.requires.inside c.index_mut.ensures.value c.requires.there)

pub returns : goal.returns
returns g c =
    let some : c.take.result ≡ Some c.unwrap.result = search rules in
    moved_out g.P.LocalPiece.seen c.args.slots.now.items c.args.at c.index_mut.result.now c.take.new.self c.unwrap.result c.requires.inside c.index_mut.ensures.value (sym c.take.ensures.value ∙ some) c.take.ensures.after
