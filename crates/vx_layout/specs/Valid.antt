-- What is a layout.
use Rattle.std.specs.Prelude.{ℕ, ◌+◌, ◌%◌, ◌^◌, ◌==◌, ◌&&◌, ◌||◌, not, nat_lt, nat_le, Bool, true, List, [], ◌∷◌, length}
use Rattle.std.specs.List.{list_all, flat_map}
use Rattle.vx_layout.specs.declared.strip.Strip.{Strip}
use Rattle.vx_layout.specs.Columns.{column_length, column_at}

-- some sectors, up to 2^40 at most
abbrev pub is_strip : Strip → Bool
is_strip strip = nat_lt 0 strip.count && nat_le (strip.start + strip.count) (2 ^ 40)

-- no sector is in both
abbrev pub is_apart : Strip → Strip → Bool
is_apart a b = not (a.disk == b.disk) || nat_le (a.start + a.count) b.start || nat_le (b.start + b.count) a.start

abbrev pub are_apart : List Strip → Bool
are_apart [] = true
are_apart (strip ∷ strips) = list_all (is_apart strip) strips && are_apart strips

-- strips of this length together
abbrev pub is_column : ℕ → List Strip → Bool
is_column size strips = column_length strips == size && list_all is_strip strips

-- columns of one length, in whole units where there are several, whose strips do not overlap
abbrev pub is_layout : ℕ → List (List Strip) → Bool
is_layout unit columns =
    nat_lt 0 (length columns) && nat_lt 0 unit && nat_le unit (2 ^ 40) && nat_lt 0 (column_length (column_at columns 0))
    && list_all (is_column (column_length (column_at columns 0))) columns
    && (length columns == 1 || column_length (column_at columns 0) % unit == 0)
    && are_apart (flat_map (λ strips. strips) columns)
    && nat_lt (column_length (column_at columns 0)) (2 ^ 64)
