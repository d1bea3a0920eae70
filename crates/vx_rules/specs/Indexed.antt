-- The columns of all plexes, by plex and number.
use Rattle.std.specs.Prelude.{◌≡◌, ℕ, ◌<◌, Bool, true, List, ◌&&◌, nat_le, is_some, if◌then◌else◌}
use Rattle.std.specs.List.{list_any, list_all}
use Rattle.std.specs.BTreeMap.{BTreeMap, get}
use Rattle.vx_base.specs.Named.{Word}
use Rattle.vx_config_parts.specs.declared.object.Object.{Object}
use Rattle.vx_config_parts.specs.declared.object.Object.TheVariants.{SubdiskRecord}
use Rattle.vx_config_parts.specs.Objects.{is_subdisk, refers}
use Rattle.vx_rules.specs.declared.column.Column.{Column}
use Rattle.vx_rules.specs.Keys.{Key, key_cmp}
use Rattle.vx_rules.specs.Columns.{is_in_column, column_begins, piece_follows, column_length}
use Rattle.vx_rules.specs.Pieces.{end_of, whole_of}

-- if it is a piece of the column, it follows the others
abbrev pub follows_in : List Object → Word → ℕ → Object → Bool
follows_in all plex col (SubdiskRecord s) = if is_in_column plex col s then piece_follows all plex s else true
follows_in all plex col _ = true

-- the column begins, and each of its pieces follows the others
abbrev pub column_is_whole : List Object → Word → ℕ → Bool
column_is_whole all plex col = column_begins all plex col && list_all (follows_in all plex col) all

-- the column has a piece
abbrev pub column_is_there : List Object → Word → ℕ → Bool
column_is_there all plex col = list_any (λ o. is_subdisk (λ s. is_in_column plex col s) o) all

-- the plex has a piece in that column or behind it
abbrev pub has_piece_from : List Object → Word → ℕ → Bool
has_piece_from all plex col = list_any (λ o. is_subdisk (λ s. refers s.plex plex && nat_le col s.col) o) all

-- the map holds the columns that have pieces
pub record IsIndexed (all : List Object) (columns : BTreeMap Key Column) : Type 0 where
  pub ends : (plex : Word) (col : ℕ) → end_of (get key_cmp columns (plex, col)) ≡ column_length all plex col
  pub wholes : (plex : Word) (col : ℕ) → whole_of (get key_cmp columns (plex, col)) ≡ column_is_whole all plex col
  pub there : (plex : Word) (col : ℕ) → is_some (get key_cmp columns (plex, col)) ≡ column_is_there all plex col
  pub small : (q : Key) → end_of (get key_cmp columns q) < 36893488147419103232
