use Rattle.std.proofs.Common.{◌≡◌, Bool, true, false, ℕ, Option, Some, None}
use Rattle.std.specs.Prelude.{is_some, not}
use Rattle.std.specs.Option.{MatchOption}
use Rattle.vx_pages.proofs.Repairs.{held_as}
use Rattle.vx_pages.proofs.copies.is_held.Goals as goal

-- there was no difference
none_then : (P : Type 0) (Q : ℕ → Type 0) (o : Option ℕ) (b : Bool) → is_some o ≡ not b → b ≡ true → MatchOption o P Q → P
none_then P Q None b e t h = h
none_then P Q (Some k) true e t h = cc
none_then P Q (Some k) false e t h = cc

pub returns-in-Ok-clause-held : goal.returns-in-Ok-clause-held
returns-in-Ok-clause-held g c same = held_as c.args.sector.now c.requires.whole c.read.new.into (g.P.LocalPiece.seen c.args.piece.now) c.read.auto.into (none_then _ _ c.first_difference.result c.is_none.result c.is_none.ensures same c.first_difference.ensures) c.in-Ok.ensures.ok
