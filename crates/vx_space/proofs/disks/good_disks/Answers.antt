use Rattle.std.proofs.Common.{rules, ◌≡◌, ap, subst, ◌∙◌, arith}
use Rattle.std.specs.List.{filter}
use Rattle.std.specs.List.Sorted.{IsPermutation}
use Rattle.std.proofs.lemmas.Fn.{always_returns_same}
use Rattle.vx_config_parts.specs.declared.disk.Disk.{Disk}
use Rattle.vx_image.proofs.Plexes.{config_valid}
use Rattle.vx_space.specs.Disks.{is_good}
use Rattle.vx_space.proofs.GoodDisks.{good_disks}
use Rattle.vx_space.proofs.disks.good_disks.Goals as goal

pub returns : goal.returns
returns c =
    let config = c.args.config.now in
    let moved : IsPermutation (filter (is_good c.args.good) config.disks) c.sort_by_key.new.self.items =
    subst (λ l. IsPermutation l c.sort_by_key.new.self.items) (c.in_ok-found.ensures ∙ ap (λ ds. filter (is_good c.args.good) ds) c.as_slice.ensures) c.in_ok-sort_by_key.ensures.permutation
    in
    good_disks config (config_valid config) c.args.good c.sort_by_key.new.self.items moved
    (λ k e lt. c.in_ok-sort_by_key.ensures.sorted (λ (d : Disk). d.name) (always_returns_same _ (λ a r. r ≡ a.0.now.name) _ (λ a r q k. search rules)) k e (omega arith) lt)
