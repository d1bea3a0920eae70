use Rattle.std.proofs.Common.{◌≡◌, sym, ap, ◌∙◌, subst, None, true}
use Rattle.std.specs.List.Sorted.{IsPermutation}
use Rattle.vx_rules.specs.Extents.{extents, names_rise}
use Rattle.vx_rules.specs.Overlap.{overlap_of}
use Rattle.vx_rules.proofs.FirstOverlap.{clash_is_first}
use Rattle.vx_rules.proofs.overlap.overlap_fault.Goals as goal

pub returns-then-all_have_sectors : goal.returns-then-all_have_sectors
returns-then-all_have_sectors c =
    let moved : IsPermutation (extents c.args.all.now) c.deref-then-all_have_sectors.result.now =
    subst (λ l. IsPermutation (extents c.args.all.now) l) (sym c.deref-then-all_have_sectors.ensures.value) (subst (λ l. IsPermutation l c.sort_by_key.new.self.items) c.in_ok-extents.ensures c.in_ok-sort_by_key.ensures.permutation)
    in
    let rise : names_rise None c.deref-then-all_have_sectors.result.now ≡ true = cc in
    c.overlap_of.ensures ∙ ap overlap_of (c.in_ok-first.ensures ∙ clash_is_first c.args.all.now c.deref-then-all_have_sectors.result.now moved rise)
