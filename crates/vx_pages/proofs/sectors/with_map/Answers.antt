use Rattle.std.proofs.Common.{ℕ, Bool, sym, ◌∙◌, ap}
use Rattle.std.specs.Prelude.{◌==◌, ◌&&◌, ◌||◌}
use Rattle.vx_mask.specs.Mask.{has, union}
use Rattle.vx_pages.proofs.Masks.{put_in, left_out}
use Rattle.vx_pages.proofs.sectors.with_map.Goals as goal

pub returns-then-there : goal.returns-then-there
returns-then-there c other =
    ap (λ (m : ℕ). has m other) (c.with.ensures ∙ ap (λ (m : ℕ). union c.args.marks m) c.of.ensures) ∙ put_in c.args.marks c.args.map other c.requires
    ∙ ap (λ (b : Bool). has c.args.marks other || ((other == c.args.map) && b)) (sym c.if-there.true)

pub returns-else-there : goal.returns-else-there
returns-else-there c other = left_out c.args.marks c.args.map other ∙ ap (λ (b : Bool). has c.args.marks other || ((other == c.args.map) && b)) (sym c.if-there.false)
