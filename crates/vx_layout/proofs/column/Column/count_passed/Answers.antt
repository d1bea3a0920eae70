use Rattle.std.proofs.Common.{rules, of_calls, leb, sym, ◌∙◌, subst, ℕ, List}
use Rattle.std.specs.List.Sorted.{IsPartitionedBy}
use Rattle.std.proofs.lemmas.List.Sorted.{IsPartitionPoint-from_clause}
use Rattle.vx_layout.specs.declared.strip.Strip.{Strip}
use Rattle.vx_layout.specs.Ends.{ArePassed}
use Rattle.vx_layout.proofs.EndLemmas.{passed_first, are_passed}
use Rattle.vx_layout.proofs.column.Column.count_passed.Goals as goal

pub returns : goal.returns
returns c =
    let ends = c.as_slice.ensures.value ∙ c.self.inside.summed in
    let P : List ℕ → Type 0 = λ es. IsPartitionedBy (λ (end : ℕ). leb end c.args.sector) es in
    let Of : List Strip → Type 0 = λ strips. ArePassed strips c.args.sector c.partition_point.result in
    let first : P c.as_slice.result.now = subst P (sym ends) (passed_first c.self.inside.strips.items c.args.sector) in
    subst Of c.self.view_is (are_passed c.self.inside.strips.items c.as_slice.result.now c.args.sector c.partition_point.result ends c.partition_point.ensures.bound
    (IsPartitionPoint-from_clause (λ (end : ℕ). leb end c.args.sector) c.as_slice.result.now c.partition_point.result c.partition_point.ensures.partitioned first (λ a r f k. search (rules, of_calls))))
