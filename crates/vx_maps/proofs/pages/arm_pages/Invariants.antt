use Rattle.std.proofs.Common.{◌≡◌, [], length}
use Rattle.vx_pages.specs.Arming.{armed_sectors}
use Rattle.vx_pages.specs.Pages.{grid_seen}
use Rattle.vx_pages.proofs.Rounds.{Went}
use Rattle.vx_maps.specs.Going.{places_of}
use Rattle.vx_maps.proofs.pages.arm_pages.Given as goal

abbrev pub invariant-loop-index : goal.invariant-loop-index
invariant-loop-index g l = record {
  went : Went [] (λ k a b. b ≡ armed_sectors l.stop a) l.index (grid_seen g.P.LocalPiece.seen l.fn.pages.items) (grid_seen g.P.LocalPiece.seen l.pages.items);
  size : length l.pages.items ≡ length l.fn.pages.items;
  places : places_of l.pages.items ≡ places_of l.fn.pages.items;
}
