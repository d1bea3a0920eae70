-- How far a text goes on as records.
use Rattle.std.specs.Prelude.{◌≡◌, ℕ, ◌+◌, ◌-◌, ◌==◌, ◌&&◌, ◌⊎◌, nat_le, if◌then◌else◌, Bool, IsTrue, Option, None, Some, List, [], ◌∷◌, ◌++◌, length, map, drop, codes, slice_index}
use Rattle.std.specs.Str.{bytes_eq}
use Rattle.std.specs.List.{list_all}
use Rattle.vx_names.specs.Form.{is_name}
use Rattle.vx_names.specs.Attribute.{is_attr}
use Rattle.vx_names.specs.declared.attr.Attr.{Attr}
use Rattle.vx_record.specs.Table.{columns, attr_fits, attrs_fit}
use Rattle.vx_record.specs.Grammar.{head_line, attr_line, lines as text_lines}
use Rattle.vx_record.specs.declared.kind.Kind.{Kind}
use Rattle.vx_record.specs.declared.kind.Kind.TheVariants as kinds
use Rattle.vx_record.specs.declared.column.Column.{Column}
use Rattle.vx_record.specs.declared.fault.RecordFault.{RecordFault}
use Rattle.vx_record.specs.declared.fault.RecordFault.TheVariants as faults

-- the kind that the word names
abbrev pub kind_of : List ℕ → Option Kind
kind_of word =
    if bytes_eq (codes "dg") word then Some kinds.Dg else (
    if bytes_eq (codes "dm") word then Some kinds.Dm else (
    if bytes_eq (codes "sd") word then Some kinds.Sd else (
    if bytes_eq (codes "plex") word then Some kinds.Plex else (
    if bytes_eq (codes "vol") word then Some kinds.Vol else (
    if bytes_eq (codes "dco") word then Some kinds.Dco else (
    if bytes_eq (codes "snap") word then Some kinds.Snap else None))))))

-- the byte stands first, and a newline last
abbrev pub is_enclosed : ℕ → List ℕ → Bool
is_enclosed first word = nat_le 2 (length word) && slice_index word 0 == first && slice_index word (length word - 1) == 10

-- the line is no head of a record
abbrev pub IsNoHead : List ℕ → Type 0
IsNoHead line = (kind : Kind) (name : List ℕ) → IsTrue (is_name name) → line ≡ head_line kind name → ⊥

-- the line is no attribute of the column
abbrev pub IsNoAttr : Column → List ℕ → Type 0
IsNoAttr column line = (a : Attr) → IsTrue (is_attr a) → IsTrue (attr_fits column a) → line ≡ attr_line a → ⊥

-- the first line is an attribute of the column, which was added
pub record AddsAttr (old new : List Attr) (column : Column) (text : List ℕ) (used : ℕ) : Type 0 where
  pub attr : Attr
  pub added : new ≡ old ++ attr ∷ []
  pub names : IsTrue (is_attr attr)
  pub fits : IsTrue (attr_fits column attr)
  pub lines : text_lines text ≡ attr_line attr ∷ text_lines (drop used text)

-- the fault names the line, which is no attribute of the column, or is not there
abbrev pub IsLineFault : ℕ → Column → List (List ℕ) → RecordFault → Type 0
IsLineFault from column all (faults.BadRecord line) = ((first : List ℕ) (more : List (List ℕ)) → all ≡ first ∷ more → IsNoAttr column first) × (line ≡ from)
IsLineFault from column all faults.OutOfMemory = Unit {0}

-- these lines are attributes up to one that does not fit its column, or is not there
pub record StopsInAttrs (table : List Column) (all : List (List ℕ)) (count : ℕ) : Type 0 where
  pub attrs : List Attr
  pub rest : List (List ℕ)
  pub before : List Column
  pub column : Column
  pub behind : List Column
  pub lines : all ≡ map attr_line attrs ++ rest
  pub names : IsTrue (list_all is_attr attrs)
  pub fit : IsTrue (attrs_fit before attrs)
  pub columns : table ≡ before ++ column ∷ behind
  pub at : count ≡ length attrs
  pub stops : (line : List ℕ) (more : List (List ℕ)) → rest ≡ line ∷ more → IsNoAttr column line

-- the first line is no head
pub record StopsAtHead (all : List (List ℕ)) (count : ℕ) : Type 0 where
  pub line : List ℕ
  pub more : List (List ℕ)
  pub lines : all ≡ line ∷ more
  pub no_head : IsNoHead line
  pub at : count ≡ 0

-- the first line is a head, and the attributes behind it stop
pub record StopsBehindHead (all : List (List ℕ)) (count : ℕ) : Type 0 where
  pub kind : Kind
  pub name : List ℕ
  pub named : IsTrue (is_name name)
  pub rest : List (List ℕ)
  pub lines : all ≡ head_line kind name ∷ rest
  pub behind : ℕ
  pub stops : StopsInAttrs (columns kind) rest behind
  pub at : count ≡ behind + 1

abbrev pub Stops : List (List ℕ) → ℕ → Type 0
Stops all count = StopsAtHead all count ⊎ StopsBehindHead all count

-- the fault names the line at which these lines, numbered from there, stop
abbrev pub IsAttrsFault : ℕ → List Column → List (List ℕ) → RecordFault → Type 0
IsAttrsFault from table all (faults.BadRecord line) = (count : ℕ) × StopsInAttrs table all count × (line ≡ from + count)
IsAttrsFault from table all faults.OutOfMemory = Unit {0}

abbrev pub IsRecordFault : ℕ → List (List ℕ) → RecordFault → Type 0
IsRecordFault from all (faults.BadRecord line) = (count : ℕ) × Stops all count × (line ≡ from + count)
IsRecordFault from all faults.OutOfMemory = Unit {0}
