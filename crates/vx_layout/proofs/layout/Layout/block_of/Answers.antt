use Rattle.std.proofs.Common.{rules, ◌≡◌, ◌≤◌, ◌+◌, ◌*◌, ◌/◌, ◌^◌, length, arith}
use Rattle.vx_layout.specs.Columns.{block_number}
use Rattle.vx_layout.proofs.NumberLemmas.{large_number, if_none}
use Rattle.vx_layout.proofs.ValidLemmas.{parts_of_layout}
use Rattle.vx_layout.proofs.layout.Layout.block_of.Goals as goal

pub returns-in_err-checked_add-clause-large : goal.returns-in_err-checked_add-clause-large
returns-in_err-checked_add-clause-large c =
    let self = c.args.self.now in
    let row : c.in_ok-row.row ≡ c.args.sector / self.unit * length self.columns = search rules in
    let sum : 2 ^ 64 ≤ c.in_ok-row.row + c.args.column = search rules in
    let less = large_number self.unit self.columns (parts_of_layout self.unit self.columns self.valid) c.args.column c.args.sector (λ one. omega (arith, one)) in
    let large : 2 ^ 64 ≤ block_number self.unit self.columns c.args.column c.args.sector = omega (arith, row, sum, less) in
    if_none _ _ large
