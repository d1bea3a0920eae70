-- The columns of a plex: without holes, of one length, and as its layout wants them.
use Rattle.std.specs.Prelude.{ℕ, ◌+◌, ◌*◌, ◌%◌, max, Bool, true, List, ◌==◌, ◌&&◌, ◌||◌, nat_le, nat_lt, if◌then◌else◌}
use Rattle.std.specs.List.{list_any, list_all, count_by, fold}
use Rattle.vx_base.specs.Named.{Word}
use Rattle.vx_config_parts.specs.declared.subdisk.Subdisk.{Subdisk}
use Rattle.vx_config_parts.specs.declared.plex.Plex.{Plex}
use Rattle.vx_config_parts.specs.declared.plex.PlexLayout.{PlexLayout}
use Rattle.vx_config_parts.specs.declared.plex.PlexLayout.TheVariants.{Concat, Stripe}
use Rattle.vx_config_parts.specs.declared.object.Object.{Object}
use Rattle.vx_config_parts.specs.declared.object.Object.TheVariants.{SubdiskRecord}
use Rattle.vx_config_parts.specs.Objects.{is_subdisk, refers}
use Rattle.vx_rules.specs.Below.{all_below}

-- a piece of the column of the plex
abbrev pub is_in_column : Word → ℕ → Subdisk → Bool
is_in_column plex col s = refers s.plex plex && s.col == col

-- some piece of the column begins at its first sector
abbrev pub column_begins : List Object → Word → ℕ → Bool
column_begins all plex col = list_any (λ o. is_subdisk (λ s. is_in_column plex col s && s.at == 0) o) all

-- the piece begins the column, or where another piece of it ends, and none begins with it
abbrev pub piece_follows : List Object → Word → Subdisk → Bool
piece_follows all plex s =
    (s.at == 0 || list_any (λ o. is_subdisk (λ t. is_in_column plex s.col t && t.at + t.len == s.at) o) all)
    && nat_le (count_by (λ o. is_subdisk (λ t. is_in_column plex s.col t && t.at == s.at) o) all) 1

-- a piece of the plex is in one of its columns and follows the others there
abbrev pub piece_is_good : List Object → Plex → Subdisk → Bool
piece_is_good all p s = if refers s.plex p.name then nat_lt s.col p.ncol && piece_follows all p.name s else true

-- other records are no pieces
abbrev pub all_pieces_good : List Object → Plex → Object → Bool
all_pieces_good all p (SubdiskRecord s) = piece_is_good all p s
all_pieces_good all p _ = true

-- the later of an end and that of a piece of the column
abbrev pub end_with : Word → ℕ → ℕ → Object → ℕ
end_with plex col end (SubdiskRecord s) = if is_in_column plex col s then max end (s.at + s.len) else end
end_with plex col end _ = end

-- where the last piece of the column ends
abbrev pub column_length : List Object → Word → ℕ → ℕ
column_length all plex col = fold (end_with plex col) 0 all

-- each column has pieces, and as many sectors as the first
abbrev pub columns_are_equal : List Object → Plex → Bool
columns_are_equal all p = all_below p.ncol (λ c. column_begins all p.name c && column_length all p.name c == column_length all p.name 0)

-- concat has one column and unit 128; stripe has 2 to 16 columns of whole units
abbrev pub layout_is_good : List Object → Plex → PlexLayout → Bool
layout_is_good all p Concat = p.ncol == 1 && p.unit == 128
layout_is_good all p Stripe = nat_le 2 p.ncol && nat_le p.ncol 16 && nat_lt 0 p.unit && column_length all p.name 0 % p.unit == 0

-- the sectors of a plex
abbrev pub plex_length : List Object → Plex → ℕ
plex_length all p = p.ncol * column_length all p.name 0

-- the plex has the columns that its layout wants, of one length, and its pieces lie in them without holes
abbrev pub columns_are_good : List Object → Plex → Bool
columns_are_good all p = layout_is_good all p p.layout && columns_are_equal all p && list_all (λ o. all_pieces_good all p o) all
