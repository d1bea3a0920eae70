use Rattle.std.proofs.Common.{◌≡◌, ◌==◌, ◌&&◌, ℕ, take}
use Rattle.std.specs.BTreeMap.{get}
use Rattle.std.specs.List.{find}
use Rattle.std.specs.Ordering.{nat_cmp}
use Rattle.vx_rules.specs.Columns.{is_in_column}
use Rattle.vx_image.proofs.strips.pieces_of.Given as goal

abbrev pub invariant-loop-subdisk : goal.invariant-loop-subdisk
invariant-loop-subdisk l = (at : ℕ) → get nat_cmp l.pieces at ≡ find (λ s. is_in_column l.plex l.col s && s.at == at) (take l.subdisk-index l.subdisks)
