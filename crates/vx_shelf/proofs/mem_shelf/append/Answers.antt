use Rattle.std.proofs.Common.{◌≡◌, ◌++◌, [], ◌∷◌, rules}
use Rattle.vx_shelf.proofs.mem_shelf.append.Goals as goal

pub returns-clause-more : goal.returns-clause-more
returns-clause-more c =
    let piece = c.in_ok-piece.piece in
    let more : c.push.new.self.items ≡ c.args.places.now.items ++ (c.args.name, piece) ∷ [] = c.in_ok-push.ensures.items in
    record { piece = piece; blank = c.in_ok-piece.ensures.zeros; numbered = search rules; behind = more }
