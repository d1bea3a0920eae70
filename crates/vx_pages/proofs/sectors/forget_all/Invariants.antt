use Rattle.std.proofs.Common.{◌≡◌, length}
use Rattle.vx_pages.specs.Sector.{NoneLoose, Turns}
use Rattle.vx_pages.specs.Page.{sectors_seen}
use Rattle.vx_pages.specs.Writes.{IsShut}
use Rattle.vx_pages.proofs.Loops.{Went}
use Rattle.vx_pages.proofs.sectors.forget_all.Given as goal

abbrev pub invariant-loop-map : goal.invariant-loop-map
invariant-loop-map g l = record {
  went : Went (λ map. Turns NoneLoose) l.map (sectors_seen g.P.LocalPiece.seen l.fn.sectors.items) (sectors_seen g.P.LocalPiece.seen l.sectors.items);
  size : length l.sectors.items ≡ length l.fn.sectors.items;
  shut : Went (λ map old new. IsShut new) l.map (sectors_seen g.P.LocalPiece.seen l.fn.sectors.items) (sectors_seen g.P.LocalPiece.seen l.sectors.items);
}
