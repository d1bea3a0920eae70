-- The records are printed in order.
use Rattle.std.specs.Prelude.{OnOk}
use Rattle.std.specs.List.{filter}
use Rattle.std.specs.List.Sorted.{IsPermutation, IsSorted}
use Rattle.std.proofs.Common.{◌≡◌, ℕ, Option, Result, Ok, Err, List, ◌++◌, map, ◌∙◌, ap, subst}
use Rattle.vx_base.specs.Named.{Word}
use Rattle.vx_config_parts.specs.declared.object.Object.{Object}
use Rattle.vx_record.specs.Content.{Content}
use Rattle.vx_record.specs.Grammar.{AreRecords, records_text}
use Rattle.vx_objects.specs.Printed.{record_of}
use Rattle.vx_print.specs.Shown.{IsPrinted, by_kind, is_shown}

pub printed : {E : Type 0} (r : Result (Unit {0}) E) (only : Option Word) (all : List Object) (old new : List ℕ) (unsorted sorted now : List Content) → unsorted ≡ map record_of (filter (λ o. is_shown only all o) all) → IsPermutation unsorted sorted → IsSorted by_kind sorted → now ≡ sorted → OnOk r (new ≡ old ++ records_text now) → OnOk r (AreRecords now) → OnOk r (IsPrinted only all old new)
printed (Ok u) only all old new unsorted sorted now made moved ordered e text valid = record {
  shown = sorted;
  same = subst (λ (cs : List Content). IsPermutation cs sorted) made moved;
  ordered = ordered;
  valid = subst AreRecords e valid;
  text = text ∙ ap (λ (cs : List Content). old ++ records_text cs) e;
}
printed (Err x) only all old new unsorted sorted now made moved ordered e text valid = tt
