use Rattle.std.proofs.Common.{◌≡◌, drop, true}
use Rattle.std.specs.List.{flat_map}
use Rattle.vx_script.specs.Choice.{are_apart, choose}
use Rattle.vx_script_forms.specs.Table.{kinds_of}
use Rattle.vx_script.proofs.choice.choose.Given as goal

abbrev pub invariant-loop-head : goal.invariant-loop-head
invariant-loop-head l = record {
  same : choose l.may_be_cut (flat_map kinds_of (drop l.head-index l.heads)) l.text ≡ choose l.may_be_cut (flat_map kinds_of l.heads) l.text;
  apart : are_apart (drop l.head-index l.heads) ≡ true;
}
