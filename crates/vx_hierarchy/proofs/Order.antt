-- The rows are printed in order.
use Rattle.std.specs.Prelude.{OnOk}
use Rattle.std.specs.List.{filter, flat_map}
use Rattle.std.specs.List.Sorted.{IsPermutation, IsSorted}
use Rattle.std.proofs.Common.{◌≡◌, ℕ, Bool, Option, Result, Ok, Err, List, ◌++◌, ◌∙◌, ap, subst}
use Rattle.vx_base.specs.Named.{Word}
use Rattle.vx_config_parts.specs.declared.plex.Plex.{Plex}
use Rattle.vx_objects.specs.declared.config.Config.{Config}
use Rattle.vx_hierarchy.specs.Hierarchy.{IsHierarchy}
use Rattle.vx_hierarchy.specs.Lines.{row_line}
use Rattle.vx_hierarchy.specs.Rows.{by_place, is_asked, rows}
use Rattle.vx_hierarchy.specs.declared.row.Row.{Row}

pub printed : {E : Type 0} (r : Result (Unit {0}) E) (config : Config) (held : Plex → Bool) (started : Word → Bool) (only : Option Word) (old new : List ℕ) (all asked sorted now : List Row) →
    all ≡ rows config held started → asked ≡ filter (is_asked only) all → IsPermutation asked sorted → IsSorted by_place sorted → now ≡ sorted → OnOk r (new ≡ old ++ flat_map row_line now) → OnOk r (IsHierarchy config held started only old new)
printed (Ok u) config held started only old new all asked sorted now made chosen moved ordered e text = record {
  shown = sorted;
  same = subst (λ (rs : List Row). IsPermutation rs sorted) (chosen ∙ ap (λ (rs : List Row). filter (is_asked only) rs) made) moved;
  ordered = ordered;
  text = text ∙ ap (λ (rs : List Row). old ++ flat_map row_line rs) e;
}
printed (Err x) config held started only old new all asked sorted now made chosen moved ordered e text = tt
