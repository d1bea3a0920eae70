-- What a record says.
use Rattle.std.specs.Prelude.{ℕ, IsTrue, List}
use Rattle.vx_names.specs.declared.attr.Attr.{Attr}
use Rattle.vx_record.specs.Table.{columns, attrs_fit}
use Rattle.vx_record.specs.declared.kind.Kind.{Kind}

pub record Content : Type 0 where
  pub kind : Kind
  pub name : List ℕ
  pub attrs : List Attr

-- its attributes are those of its kind
abbrev pub HasForm : Kind → List Attr → Type 0
HasForm kind attrs = IsTrue (attrs_fit (columns kind) attrs)
