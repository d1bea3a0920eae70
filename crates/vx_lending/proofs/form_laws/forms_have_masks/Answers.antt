use Rattle.vx_lending.proofs.Bits.{low, maps, masks}
use Rattle.vx_lending.proofs.form_laws.forms_have_masks.Goals as goal

pub returns-clause-masks : goal.returns-clause-masks
returns-clause-masks c = λ config good v fresh form of is log for some. (masks config good v of form.shape is.shape_is log for some, maps config good v of form.shape is.shape_is form.maps.items is.maps)

pub returns-clause-low : goal.returns-clause-low
returns-clause-low c = λ config good v fresh form of is. low config good v of form.shape is.shape_is
