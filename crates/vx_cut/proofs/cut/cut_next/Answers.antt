use Rattle.std.proofs.Common.{rules, arith, ◌≡◌, ◌∷◌, ◌++◌, [], sym, subst}
use Rattle.vx_cut.specs.Same.{HasSome}
use Rattle.vx_cut.proofs.Same.{same_is}
use Rattle.vx_cut.proofs.Parts.{same_moved, same_put_back, same_halved, some_left, some_push, less_moved, less_halved}
use Rattle.vx_cut.proofs.cut.cut_next.Goals as goal

pub returns-then-sectors-eq1-clause-same : goal.returns-then-sectors-eq1-clause-same
returns-then-sectors-eq1-clause-same g c =
    let items : c.args.left.now.items ≡ c.pop.new.self.items ++ c.unwrap-piece.result ∷ [] = search rules in
    same_is _ _ (same_moved g.P.Piece.seen c.args.left.now.items c.pop.new.self.items c.args.singles.now.items c.push_reserved.new.self.items c.unwrap-piece.result items c.push_reserved.ensures.items)

pub returns-then-sectors-eq1-clause-some : goal.returns-then-sectors-eq1-clause-some
returns-then-sectors-eq1-clause-some g c =
    let items : c.args.left.now.items ≡ c.pop.new.self.items ++ c.unwrap-piece.result ∷ [] = search rules in
    (some_left g.P.Piece.seen HasSome c.args.left.now.items c.pop.new.self.items c.unwrap-piece.result items c.requires.some).0

pub returns-then-sectors-eq1-clause-progress : goal.returns-then-sectors-eq1-clause-progress
returns-then-sectors-eq1-clause-progress g c =
    let items : c.args.left.now.items ≡ c.pop.new.self.items ++ c.unwrap-piece.result ∷ [] = search rules in
    less_moved g.P.Piece.seen c.args.left.now.items c.pop.new.self.items c.unwrap-piece.result items

pub returns-in-Ok-clause-same : goal.returns-in-Ok-clause-same
returns-in-Ok-clause-same g c =
    let items : c.args.left.now.items ≡ c.pop.new.self.items ++ c.unwrap-piece.result ∷ [] = search rules in
    let had = some_left g.P.Piece.seen HasSome c.args.left.now.items c.pop.new.self.items c.unwrap-piece.result items c.requires.some in
    let one = c.if-sectors-eq1.false in
    let n = c.sectors-sectors.ensures in
    let some = had.1 in
    same_halved g.P.Piece.seen _ c.args.left.now.items c.pop.new.self.items c.push_reserved-in-Ok.new.self.items c.push_reserved-in-Ok-2.new.self.items c.args.singles.now.items c.unwrap-piece.result c.in-Ok.front c.in-Ok.behind items c.push_reserved-in-Ok.ensures.items c.push_reserved-in-Ok-2.ensures.items c.in-Ok.ensures.parts (grind (arith, one, n, some)) (grind (arith, one, n, some))

pub returns-in-Ok-clause-some : goal.returns-in-Ok-clause-some
returns-in-Ok-clause-some g c =
    let items : c.args.left.now.items ≡ c.pop.new.self.items ++ c.unwrap-piece.result ∷ [] = search rules in
    let had = some_left g.P.Piece.seen HasSome c.args.left.now.items c.pop.new.self.items c.unwrap-piece.result items c.requires.some in
    let one = c.if-sectors-eq1.false in
    let n = c.sectors-sectors.ensures in
    let s = c.in-Ok.ensures.parts.sizes.0 in
    let t = c.in-Ok.ensures.parts.sizes.1 in
    let some = had.1 in
    some_push g.P.Piece.seen HasSome c.push_reserved-in-Ok.new.self.items c.push_reserved-in-Ok-2.new.self.items c.in-Ok.front c.push_reserved-in-Ok-2.ensures.items
    (some_push g.P.Piece.seen HasSome c.pop.new.self.items c.push_reserved-in-Ok.new.self.items c.in-Ok.behind c.push_reserved-in-Ok.ensures.items had.0 (grind (arith, one, n, s, t, some)))
    (grind (arith, one, n, s, t, some))

pub returns-in-Ok-clause-progress : goal.returns-in-Ok-clause-progress
returns-in-Ok-clause-progress g c =
    let items : c.args.left.now.items ≡ c.pop.new.self.items ++ c.unwrap-piece.result ∷ [] = search rules in
    let had = some_left g.P.Piece.seen HasSome c.args.left.now.items c.pop.new.self.items c.unwrap-piece.result items c.requires.some in
    let one = c.if-sectors-eq1.false in
    let n = c.sectors-sectors.ensures in
    let some = had.1 in
    less_halved g.P.Piece.seen _ c.args.left.now.items c.pop.new.self.items c.push_reserved-in-Ok.new.self.items c.push_reserved-in-Ok-2.new.self.items c.unwrap-piece.result c.in-Ok.front c.in-Ok.behind items c.push_reserved-in-Ok.ensures.items c.push_reserved-in-Ok-2.ensures.items c.in-Ok.ensures.parts (grind (arith, one, n, some)) (grind (arith, one, n, some))

pub returns-in-Err-clause-same : goal.returns-in-Err-clause-same
returns-in-Err-clause-same g c =
    let items : c.args.left.now.items ≡ c.pop.new.self.items ++ c.unwrap-piece.result ∷ [] = search rules in
    same_is _ _ (same_put_back g.P.Piece.seen c.args.left.now.items c.pop.new.self.items c.push_reserved-in-Err.new.self.items c.args.singles.now.items c.unwrap-piece.result c.in-Err.piece items c.push_reserved-in-Err.ensures.items c.in-Err.ensures.kept)

pub returns-in-Err-clause-some : goal.returns-in-Err-clause-some
returns-in-Err-clause-some g c =
    let items : c.args.left.now.items ≡ c.pop.new.self.items ++ c.unwrap-piece.result ∷ [] = search rules in
    let had = some_left g.P.Piece.seen HasSome c.args.left.now.items c.pop.new.self.items c.unwrap-piece.result items c.requires.some in
    some_push g.P.Piece.seen HasSome c.pop.new.self.items c.push_reserved-in-Err.new.self.items c.in-Err.piece c.push_reserved-in-Err.ensures.items had.0 (subst HasSome (sym c.in-Err.ensures.kept) had.1)
