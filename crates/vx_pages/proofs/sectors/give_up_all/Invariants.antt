use Rattle.std.proofs.Common.{◌≡◌, ◌-◌, length, map, take, vec_len, vec_capacity}
use Rattle.vx_pages.specs.Page.{sectors_seen}
use Rattle.vx_pages.specs.Parting.{only_sector, pieces_on}
use Rattle.vx_pages.proofs.Loops.{Went}
use Rattle.vx_pages.proofs.sectors.give_up_all.Given as goal

abbrev pub invariant-loop-map : goal.invariant-loop-map
invariant-loop-map g l = record {
  went : Went (λ map a b. b ≡ only_sector (1 - l.copy) a) l.map (sectors_seen g.P.LocalPiece.seen l.fn.sectors.items) (sectors_seen g.P.LocalPiece.seen l.sectors.items);
  size : length l.sectors.items ≡ length l.fn.sectors.items;
  gone : map g.P.LocalPiece.seen l.gone.items ≡ pieces_on l.copy (take l.map (sectors_seen g.P.LocalPiece.seen l.fn.sectors.items));
  count : vec_len l.gone ≡ l.map;
  capacity : vec_capacity l.gone ≡ vec_capacity l.fn.gone;
}
