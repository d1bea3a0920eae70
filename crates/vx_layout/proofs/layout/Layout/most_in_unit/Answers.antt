use Rattle.std.proofs.Common.{◌≡◌, ◌-◌, ◌%◌, ℕ, min, sym, subst, arith}
use Rattle.vx_layout.specs.Runs.{IsInUnit}
use Rattle.vx_layout.proofs.PlaceLemmas.{unit_places}
use Rattle.vx_layout.proofs.ValidLemmas.{parts_of_layout}
use Rattle.vx_layout.proofs.layout.Layout.most_in_unit.Goals as goal

pub returns-else-len-eq1 : goal.returns-else-len-eq1
returns-else-len-eq1 c =
    let self = c.args.self.now in
    let InUnit : ℕ → Type 0 = λ n. IsInUnit self.unit self.columns c.args.block c.args.most n in
    let value : c.min.result ≡ min c.args.most (self.unit - c.args.block % self.unit) = omega arith in
    subst InUnit (sym value)
    (unit_places self.unit self.columns c.args.block c.args.most (λ one. omega (arith, one)) (parts_of_layout self.unit self.columns self.valid).unit_some c.requires)
