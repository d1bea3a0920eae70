use Rattle.std.proofs.Common.{◌∙◌, refl, sym}
use Rattle.vx_stage_dissociation.proofs.PartedForms.{first_goes, none_goes}
use Rattle.vx_stage_dissociation.proofs.forms.part_form.Goals as goal

pub returns-in-Some : goal.returns-in-Some
returns-in-Some c =
    let maps = c.args.form.now.maps.items in
    let found = rw c.as_slice.ensures.value at c.in-Some.ensures in
    record {
      shape = c.shape_without-form.ensures;
      maps = c.remove.ensures.items ∙ first_goes c.args.map maps maps c.in-Some.index found.1 refl;
      layouts = c.remove-in-Some.ensures.items ∙ first_goes c.args.map maps c.args.form.now.layouts.items c.in-Some.index found.1 (sym c.requires.many);
      logs = refl;
    }

pub returns-in-None : goal.returns-in-None
returns-in-None c =
    let maps = c.args.form.now.maps.items in
    let none = rw c.as_slice.ensures.value at c.in-None.ensures in
    record {
      shape = c.shape_without-form.ensures;
      maps = sym (none_goes c.args.map maps maps none);
      layouts = sym (none_goes c.args.map maps c.args.form.now.layouts.items none);
      logs = refl;
    }
