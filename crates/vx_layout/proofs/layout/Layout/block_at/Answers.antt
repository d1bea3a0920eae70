use Rattle.std.proofs.Common.{◌≡◌, List, Some, sym, ◌∙◌, ap, arith}
use Rattle.vx_layout.specs.declared.strip.Strip.{Strip}
use Rattle.vx_layout.specs.Columns.{column_at, sector_at}
use Rattle.vx_layout.proofs.NumberLemmas.{number_lies, number_alone, never_nothing, result_is}
use Rattle.vx_layout.proofs.ValidLemmas.{parts_of_layout}
use Rattle.vx_layout.proofs.layout.Layout.block_at.Goals as goal

pub returns-in-Some-clause-there : goal.returns-in-Some-clause-there
returns-in-Some-clause-there c =
    let self = c.args.self.now in
    let found : sector_at (column_at self.columns c.loop-column.column) c.args.place ≡ Some c.in-Some.sector =
    ap (λ (xs : List Strip). sector_at xs c.args.place) (sym c.strips.ensures) ∙ sym c.sector_at.ensures ∙ c.in-Some.is in
    number_lies self.unit self.columns (parts_of_layout self.unit self.columns self.valid) c.loop-column.column c.in-Some.sector c.args.place (omega arith) found c.block_of.result c.block_of.ensures.fits

pub returns-in-Some-clause-only : goal.returns-in-Some-clause-only
returns-in-Some-clause-only c block small inside at =
    let self = c.args.self.now in
    let found : sector_at (column_at self.columns c.loop-column.column) c.args.place ≡ Some c.in-Some.sector =
    ap (λ (xs : List Strip). sector_at xs c.args.place) (sym c.strips.ensures) ∙ sym c.sector_at.ensures ∙ c.in-Some.is in
    result_is c.block_of.result _ block c.block_of.ensures.fits c.block_of.ensures.large
    (number_alone self.unit self.columns (parts_of_layout self.unit self.columns self.valid) c.loop-column.column c.in-Some.sector c.args.place block (omega arith) found inside at) small

pub returns-clause-only : goal.returns-clause-only
returns-clause-only c block small inside at =
    let self = c.args.self.now in
    absurd (never_nothing self.unit self.columns (parts_of_layout self.unit self.columns self.valid) c.args.place block inside at (λ k lt. c.loop-column.invariant k (omega arith)))
