use Rattle.std.proofs.Common.{◌≡◌, ◌==◌, ◌&&◌, ◌++◌, ◌-◌, ℕ, length}
use Rattle.std.specs.BTreeMap.{get}
use Rattle.std.specs.List.{find}
use Rattle.std.specs.Ordering.{nat_cmp}
use Rattle.vx_base.specs.Named.{Word}
use Rattle.vx_rules.specs.Columns.{is_in_column}
use Rattle.vx_image.specs.Lies.{strips_from}
use Rattle.vx_image.proofs.strips.strips_of.Given as goal

abbrev pub invariant-loop : goal.invariant-loop
invariant-loop l =
    (name : Word) (col : ℕ) → ((at : ℕ) → get nat_cmp l.pieces at ≡ find (λ s. is_in_column name col s && s.at == at) l.config.subdisks) →
    l.strips.items ++ strips_from (length l.config.subdisks - l.counter) l.config name col l.at ≡ strips_from (length l.config.subdisks) l.config name col 0
