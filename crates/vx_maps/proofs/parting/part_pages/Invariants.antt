use Rattle.std.proofs.Common.{◌≡◌, ◌≤◌, ◌-◌, ◌/◌, [], length, take, vec_capacity}
use Rattle.vx_pages.specs.Pages.{grid_seen}
use Rattle.vx_pages.specs.Parting.{only_sectors}
use Rattle.vx_maps.specs.Going.{places_of}
use Rattle.vx_maps.specs.Slots.{HasCut, slots_seen, whole_of}
use Rattle.vx_maps.proofs.Partings.{Back}
use Rattle.vx_maps.proofs.parting.part_pages.Given as goal

abbrev pub invariant-parting : goal.invariant-parting
invariant-parting g l = record {
  low : l.index ≤ length l.pages.items;
  size : length l.pages.items ≡ length l.fn.pages.items;
  back : Back [] (λ a b. b ≡ only_sectors (1 - l.copy) a) l.index (grid_seen g.P.LocalPiece.seen l.fn.pages.items) (grid_seen g.P.LocalPiece.seen l.pages.items);
  places : places_of l.pages.items ≡ places_of l.fn.pages.items;
  cut : HasCut (l.shape.map_bytes / 512) l.copy (take l.index (grid_seen g.P.LocalPiece.seen l.fn.pages.items)) (whole_of (l.shape.map_bytes / 512) l.copy (grid_seen g.P.LocalPiece.seen l.fn.pages.items) (slots_seen g.P.LocalPiece.seen l.fn.slots.items)) (slots_seen g.P.LocalPiece.seen l.slots.items);
  empty : l.room.items ≡ [];
  capacity : vec_capacity l.room ≡ vec_capacity l.fn.room;
}

abbrev pub decreases-parting : goal.decreases-parting
decreases-parting g l = l.index
