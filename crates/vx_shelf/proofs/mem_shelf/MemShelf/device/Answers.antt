use Rattle.std.proofs.Common.{◌∙◌, ap, sym}
use Rattle.vx_shelf.specs.MemShelf.{free_by}
use Rattle.vx_shelf.proofs.Places.{shown_at, shown_none}
use Rattle.vx_shelf.proofs.Holds.{is_free, not_free}
use Rattle.vx_shelf.proofs.mem_shelf.MemShelf.device.Goals as goal

pub returns-in-None : goal.returns-in-None
returns-in-None c = let missing = rw c.as_slice.ensures.value at c.in-None.ensures in shown_none free_by c.args.name.now c.args.self.now.places.items missing

pub returns-then-is_empty : goal.returns-then-is_empty
returns-then-is_empty c =
    let found = rw c.as_slice.ensures.value at c.in-Some.ensures in
    let place = c.index-place.result.now in
    shown_at free_by c.args.name.now c.args.self.now.places.items c.in-Some.i place found.1 ∙ ap (λ p. free_by p.1) (sym c.index-place.ensures) ∙ not_free place.1 (sym c.is_empty.ensures ∙ c.if-is_empty.true)

pub returns-else-is_empty : goal.returns-else-is_empty
returns-else-is_empty c =
    let found = rw c.as_slice.ensures.value at c.in-Some.ensures in
    let place = c.index-place.result.now in
    shown_at free_by c.args.name.now c.args.self.now.places.items c.in-Some.i place found.1 ∙ ap (λ p. free_by p.1) (sym c.index-place.ensures) ∙ is_free place.1 (sym c.is_empty.ensures ∙ c.if-is_empty.false)
