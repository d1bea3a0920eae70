-- A life that goes on is a legal history.
use Rattle.std.proofs.Common.{List, [], ◌∷◌, ◌++◌, subst, ap}
use Rattle.vx_life.specs.Entry.{Entry, IsLegal}
use Rattle.vx_life.specs.Life.{Life, IsNext, GoesOn, life_after}

pub goes_on_legal : (old new : Life) (es : List Entry) → GoesOn old es new → IsLegal old.candidates es
goes_on_legal old new [] h = tt
goes_on_legal old new (e ∷ es) h = (h.0.reads, goes_on_legal (life_after e old) new es h.1)

-- the life goes on by one entry more
pub goes_on_more : (old mid : Life) (es : List Entry) (e : Entry) → GoesOn old es mid → IsNext mid e → GoesOn old (es ++ e ∷ []) (life_after e mid)
goes_on_more old mid [] e h next = (subst (λ l. IsNext l e) h next, ap (life_after e) h)
goes_on_more old mid (d ∷ es) e h next = (h.0, goes_on_more (life_after d old) mid es e h.1 next)
