use Rattle.std.proofs.Common.{◌≡◌, drop}
use Rattle.vx_objects.specs.Edits.{edited_by, refusal_of}
use Rattle.vx_objects.proofs.config.applied.Given as goal

abbrev pub invariant-loop-edit : goal.invariant-loop-edit
invariant-loop-edit l = record {
  made : edited_by (drop l.edit-index l.edits) l.all.items ≡ edited_by l.edits l.fn.all.items;
  refused : refusal_of (drop l.edit-index l.edits) l.all.items ≡ refusal_of l.edits l.fn.all.items;
}
