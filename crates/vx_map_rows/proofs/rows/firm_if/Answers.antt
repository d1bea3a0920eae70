use Rattle.std.proofs.Common.{◌∙◌, ap, ℕ, Bool}
use Rattle.vx_map_rows.proofs.rows.firm_if.Goals as goal

pub returns-then-asked : goal.returns-then-asked
returns-then-asked c = ap (λ (f : ℕ → Bool). f 7) c.firm.ensures.kept.has_region ∙ c.requires
