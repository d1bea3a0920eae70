use Rattle.std.proofs.Common.{◌∙◌, ap, ℕ, Bool, arith, lit<}
use Rattle.vx_map_rows.proofs.Masks.{map_below}
use Rattle.vx_map_rows.proofs.rows.unmark.Goals as goal

pub unmark-requires : goal.unmark-requires
unmark-requires c =
    record { known = c.requires.region; maps = λ k there. let few = c.requires.maps in let lt = map_below 40 32 k (lit< tt) there in omega (arith, few, lt); some = λ e. absurd (omega (arith, e)) }

pub returns-clause-region : goal.returns-clause-region
returns-clause-region c = ap (λ (f : ℕ → Bool). f 7) c.unmark.ensures.kept.has_region ∙ c.requires.region
