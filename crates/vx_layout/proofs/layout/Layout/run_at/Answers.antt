use Rattle.std.proofs.Common.{◌≡◌, List, Option, Some, IsSome, min, sym, ◌∙◌, ap, subst, arith}
use Rattle.vx_layout.specs.declared.strip.Strip.{Strip}
use Rattle.vx_layout.specs.Columns.{column_of, sector_of, column_at, rest_in}
use Rattle.vx_layout.proofs.ColumnLemmas.{rest_some}
use Rattle.vx_layout.proofs.PlaceLemmas.{sector_inside}
use Rattle.vx_layout.proofs.RunLemmas.{run_from}
use Rattle.vx_layout.proofs.ValidLemmas.{parts_of_layout}
use Rattle.vx_layout.proofs.layout.Layout.run_at.Goals as goal

pub unwrap-rest-requires : goal.unwrap-rest-requires
unwrap-rest-requires c =
    let self = c.args.self.now in
    let strips : c.at.result.now ≡ column_at self.columns (column_of self.unit self.columns c.args.block) = c.at.ensures ∙ ap (column_at self.columns) c.column_of-column.ensures in
    let is : rest_in (column_at self.columns (column_of self.unit self.columns c.args.block)) (sector_of self.unit self.columns c.args.block) ≡ c.rest_in.result =
    ap (λ (xs : List Strip). rest_in xs (sector_of self.unit self.columns c.args.block)) (sym strips) ∙ ap (rest_in c.at.result.now) (sym c.sector_of-sector.ensures) ∙ sym c.rest_in.ensures in
    let There : Option Strip → Type 0 = λ o. IsSome o in
    subst There is (rest_some _ _ (sector_inside self.unit self.columns c.args.block (parts_of_layout self.unit self.columns self.valid) c.requires.block))

pub returns-clause-run : goal.returns-clause-run
returns-clause-run c =
    let self = c.args.self.now in
    let strips : c.at.result.now ≡ column_at self.columns (column_of self.unit self.columns c.args.block) = c.at.ensures ∙ ap (column_at self.columns) c.column_of-column.ensures in
    let is : rest_in (column_at self.columns (column_of self.unit self.columns c.args.block)) (sector_of self.unit self.columns c.args.block) ≡ Some c.unwrap-rest.result =
    ap (λ (xs : List Strip). rest_in xs (sector_of self.unit self.columns c.args.block)) (sym strips) ∙ ap (rest_in c.at.result.now) (sym c.sector_of-sector.ensures) ∙ sym c.rest_in.ensures ∙ c.unwrap-rest.ensures in
    let least : c.min.result ≡ min c.most_in_unit.result c.unwrap-rest.result.count = omega arith in
    run_from self.unit self.columns c.args.block c.args.most c.most_in_unit.result c.min.result c.unwrap-rest.result c.most_in_unit.ensures is least
