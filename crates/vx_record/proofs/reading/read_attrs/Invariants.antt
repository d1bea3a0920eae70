use Rattle.std.proofs.Common.{◌≡◌, ◌≤◌, ◌++◌, true, length, map, take, drop}
use Rattle.std.specs.List.{list_all}
use Rattle.vx_names.specs.Attribute.{is_attr}
use Rattle.vx_record.specs.Grammar.{attr_line, lines}
use Rattle.vx_record.specs.Table.{attrs_fit}
use Rattle.vx_record.proofs.reading.read_attrs.Given as goal

abbrev pub invariant-loop-index : goal.invariant-loop-index
invariant-loop-index l = record {
  inside : l.used ≤ length l.text;
  lines : lines l.text ≡ map attr_line l.attrs.items ++ lines (drop l.used l.text);
  names : list_all is_attr l.attrs.items ≡ true;
  fit : attrs_fit (take l.index l.columns) l.attrs.items ≡ true;
  count : length l.attrs.items ≡ l.index;
}
