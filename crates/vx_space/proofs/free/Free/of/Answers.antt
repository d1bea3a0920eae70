use Rattle.std.proofs.Common.{◌≡◌, true, ap, sym, subst, ◌∙◌}
use Rattle.std.specs.List.{list_all}
use Rattle.std.specs.List.Sorted.{IsPermutation}
use Rattle.vx_image.proofs.Plexes.{config_valid}
use Rattle.vx_space.specs.Gaps.{ends_in, all_gaps}
use Rattle.vx_space.specs.Small.{AreSmall}
use Rattle.vx_space.specs.Free.{AreFree}
use Rattle.vx_space.proofs.Subdisks.{all_moved, ends}
use Rattle.vx_space.proofs.Whole.{free_is, small_is}
use Rattle.vx_space.proofs.free.Free.of.Goals as goal

pub all_gaps-requires : goal.all_gaps-requires
all_gaps-requires c =
    let config = c.args.config.now in
    let same = subst (λ l. IsPermutation l c.in_ok-subdisks.subdisks.items) c.as_slice.ensures c.in_ok-subdisks.ensures.same in
    subst (λ l. list_all ends_in l ≡ true) (sym c.deref-2.ensures.value) (all_moved ends_in config.subdisks c.in_ok-subdisks.subdisks.items same (ends config (config_valid config)))

pub invariant_of-result : goal.invariant_of-result
invariant_of-result c =
    let config = c.args.config.now in
    let same = subst (λ l. IsPermutation l c.in_ok-subdisks.subdisks.items) c.as_slice.ensures c.in_ok-subdisks.ensures.same in
    let is = c.in_ok-extents.ensures ∙ ap (λ ss. all_gaps ss c.deref.result.now) c.deref-2.ensures.value ∙ ap (λ ds. all_gaps c.in_ok-subdisks.subdisks.items ds) c.deref.ensures.value in
    subst (λ es. AreSmall es) (sym is) (small_is config (config_valid config) c.args.good c.in_ok-disks.disks.items c.in_ok-subdisks.subdisks.items c.in_ok-disks.ensures same)

pub returns : goal.returns
returns c =
    let config = c.args.config.now in
    let same = subst (λ l. IsPermutation l c.in_ok-subdisks.subdisks.items) c.as_slice.ensures c.in_ok-subdisks.ensures.same in
    let is = c.in_ok-extents.ensures ∙ ap (λ ss. all_gaps ss c.deref.result.now) c.deref-2.ensures.value ∙ ap (λ ds. all_gaps c.in_ok-subdisks.subdisks.items ds) c.deref.ensures.value in
    subst (λ es. AreFree config c.args.good es) (sym is) (free_is config (config_valid config) c.args.good c.in_ok-disks.disks.items c.in_ok-subdisks.subdisks.items c.in_ok-disks.ensures same c.in_ok-subdisks.ensures.order)
