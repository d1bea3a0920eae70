-- The attribute at a place of a record, as its column says.
use Rattle.std.specs.Prelude.{◌≡◌, ◌+◌, ◌∷◌, ℕ, Option, List, drop, get_or}
use Rattle.vx_base.specs.Named.{Word}
use Rattle.vx_names.specs.declared.attr.Attr.{Attr}
use Rattle.vx_record.specs.Table.{column, columns}
use Rattle.vx_record.specs.declared.column.Column.{Column}
use Rattle.vx_record.specs.declared.column.Form.TheVariants as forms
use Rattle.vx_record.specs.declared.kind.Kind.{Kind}
use Rattle.vx_record.specs.declared.label.Label.TheVariants as labels
use Rattle.vx_objects.specs.Printed.{attr}

abbrev pub column_at : Kind → ℕ → Column
column_at kind index = get_or (columns kind) index (column labels.Version forms.Version)

-- the attribute there has this value
abbrev pub HasValue : Kind → List Attr → ℕ → Option Word → Type 0
HasValue kind attrs index value = drop index attrs ≡ attr (column_at kind index).label value ∷ drop (index + 1) attrs
