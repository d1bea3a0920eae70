use Rattle.std.proofs.Common.{◌≡◌, true, take}
use Rattle.std.specs.List.{list_all}
use Rattle.vx_shelf.specs.MemShelf.{is_numbered_below}
use Rattle.vx_shelf.proofs.mem_shelf.number_above.Given as goal

abbrev pub invariant-loop-place : goal.invariant-loop-place
invariant-loop-place l = list_all (is_numbered_below l.next) (take l.place-index l.places) ≡ true
