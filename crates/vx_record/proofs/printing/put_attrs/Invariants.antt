use Rattle.std.proofs.Common.{◌≡◌, ◌++◌, true, take}
use Rattle.std.specs.List.{list_all, flat_map}
use Rattle.vx_names.specs.Attribute.{is_attr}
use Rattle.vx_record.specs.Grammar.{attr_line}
use Rattle.vx_record.proofs.printing.put_attrs.Given as goal

abbrev pub invariant-loop-attr : goal.invariant-loop-attr
invariant-loop-attr l = record {
  text : l.out.items ≡ l.fn.out.items ++ flat_map attr_line (take l.attr-index l.attrs);
  form : list_all is_attr (take l.attr-index l.attrs) ≡ true;
}
