-- What a layout's invariant says, part by part.
use Rattle.std.proofs.Common.{◌≡◌, ℕ, ◌%◌, ◌<◌, true, List, [], length, ◌^◌}
use Rattle.std.specs.Prelude.{◌==◌, ◌||◌}
use Rattle.std.specs.List.{list_all, flat_map}
use Rattle.std.proofs.lemmas.Bool.{and_parts, ltb-true, eqb-true, true_from_ne_false, both_ways}
use Rattle.std.proofs.lemmas.List.Folds.{list_all_at}
use Rattle.vx_layout.specs.declared.strip.Strip.{Strip}
use Rattle.vx_layout.specs.Columns.{column_length, column_at}
use Rattle.vx_layout.specs.Valid.{is_strip, is_column, is_layout, are_apart}

pub record Parts (unit : ℕ) (columns : List (List Strip)) : Type 0 where
  pub some : 0 < length columns
  pub unit_some : 0 < unit
  pub sectors : 0 < column_length (column_at columns 0)
  pub each : list_all (is_column (column_length (column_at columns 0))) columns ≡ true
  pub whole : (length columns == 1 || column_length (column_at columns 0) % unit == 0) ≡ true
  pub apart : are_apart (flat_map (λ strips. strips) columns) ≡ true
  pub small : column_length (column_at columns 0) < 2 ^ 64

pub parts_of_layout : (unit : ℕ) (columns : List (List Strip)) → is_layout unit columns ≡ true → Parts unit columns
parts_of_layout unit columns valid =
    let p8 = and_parts _ _ valid in
    let p7 = and_parts _ _ p8.0 in
    let p6 = and_parts _ _ p7.0 in
    let p5 = and_parts _ _ p6.0 in
    let p4 = and_parts _ _ p5.0 in
    let p3 = and_parts _ _ p4.0 in
    let p2 = and_parts _ _ p3.0 in
    record {
      some = ltb-true 0 (length columns) p2.0;
      unit_some = ltb-true 0 unit p2.1;
      sectors = ltb-true 0 (column_length (column_at columns 0)) p4.1;
      each = p5.1;
      whole = p6.1;
      apart = p7.1;
      small = ltb-true (column_length (column_at columns 0)) (2 ^ 64) p8.1;
    }

-- each column is one
pub column_is_one : (unit : ℕ) (columns : List (List Strip)) (c : ℕ) → Parts unit columns → c < length columns →
    (column_length (column_at columns c) ≡ column_length (column_at columns 0)) × (list_all is_strip (column_at columns c) ≡ true)
column_is_one unit columns c parts lt =
    let size : ℕ = column_length (column_at columns 0) in
    let is : is_column size (column_at columns c) ≡ true =
    true_from_ne_false (is_column size (column_at columns c)) (λ wrong. both_ways (list_all (is_column size) columns) (list_all_at (is_column size) columns c [] lt wrong) parts.each) in
    let two = and_parts (column_length (column_at columns c) == size) (list_all is_strip (column_at columns c)) is in
    (eqb-true (column_length (column_at columns c)) size two.0, two.1)
