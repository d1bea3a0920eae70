use Rattle.std.proofs.Common.{◌≡◌, ℕ, length, Ok}
use Rattle.vx_pages.specs.Firm.{FirmsStore}
use Rattle.vx_maps.specs.Store.{PageGoes, no_page, pages_faults, pages_seen}
use Rattle.vx_pages.proofs.Rounds.{Went}
use Rattle.vx_pages.specs.Pages.{grid_seen}
use Rattle.vx_pages.specs.Sector.{KeepsPiece}
use Rattle.vx_maps.specs.Going.{GridGoes, places_of}
use Rattle.vx_maps.proofs.pages.firm_pages.Given as goal

abbrev pub invariant-loop-index : goal.invariant-loop-index
invariant-loop-index g l = record {
  went : Went no_page (λ i. PageGoes (FirmsStore {T = Unit {0}} (Ok tt))) l.index (pages_seen g.P.LocalPiece.seen l.fn.pages.items) (pages_seen g.P.LocalPiece.seen l.pages.items);
  size : length l.pages.items ≡ length l.fn.pages.items;
  places : places_of l.pages.items ≡ places_of l.fn.pages.items;
  rows : GridGoes KeepsPiece (grid_seen g.P.LocalPiece.seen l.fn.pages.items) (grid_seen g.P.LocalPiece.seen l.pages.items);
  quiet : (copy device : ℕ) → pages_faults (pages_seen g.P.LocalPiece.seen l.pages.items) copy device ≡ pages_faults (pages_seen g.P.LocalPiece.seen l.fn.pages.items) copy device;
}
