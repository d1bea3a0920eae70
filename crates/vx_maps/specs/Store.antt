-- The pages of a store, and what they show together as one log of marks.
use Rattle.std.specs.Prelude.{◌≡◌, ℕ, ◌+◌, ◌/◌, ◌<◌, ◌&&◌, ◌||◌, nat_lt, Bool, true, false, is_some, if◌then◌else◌, List, [], ◌∷◌, length, map, Option, Some, None, Result, Ok, Err}
use Rattle.vx_mask.specs.Marks.{Marks}
use Rattle.vx_piece.specs.Seen.{Seen}
use Rattle.vx_mapfmt.specs.Sizes.{page_count}
use Rattle.vx_pages.specs.declared.local_piece.LocalPiece.{Ghosts}
use Rattle.vx_marks.specs.Log.{LogSeen, KeepsLog, OnMarks}
use Rattle.vx_marks.specs.declared.marker.MarkFault.{MarkFault}
use Rattle.vx_pages.specs.Firm.{FirmsStore}
use Rattle.vx_pages.specs.declared.page.Page.{Page}
use Rattle.vx_pages.specs.Items.{item_at, EachItem}
use Rattle.vx_pages.specs.Page.{has_region, page_log}
use Rattle.vx_pages.specs.Sector.{SectorSeen}
use Rattle.vx_pages.specs.Page.{AreAll, ArePaired}
use Rattle.vx_maps.specs.Slots.{row_at}
use Rattle.vx_pages.specs.Pages.{page_seen}

abbrev pub pages_seen : {P : Type 0} {ghosts : Ghosts P} → (P → Seen) → List (Page P ghosts) → List LogSeen
pages_seen seen pages = map (page_seen seen) pages

-- no page: it has no region, no marks and no pieces
abbrev pub no_page : LogSeen
no_page = record {
  there = true;
  has_region = λ region. false;
  maps = 32;
  copies = 0;
  lent = false;
  claims = λ region map. false;
  told = None;
  faults = λ copy device. 0;
  cut = false;
}

-- the page at an index
abbrev pub page_at : List LogSeen → ℕ → LogSeen
page_at pages index = item_at no_page pages index

-- nothing is shown, and nothing is loose
abbrev pub no_marks : Marks
no_marks = record { shows = λ n map. false; loose = λ map. false }

-- the marks of a region, where they are told
abbrev pub marks_in : Option (ℕ → Marks) → ℕ → Marks
marks_in None region = no_marks
marks_in (Some marks) region = marks region

-- each page tells its marks
abbrev pub pages_tell : List LogSeen → Bool
pages_tell [] = true
pages_tell (p ∷ ps) = is_some p.told && pages_tell ps

-- how often calls on a copy's pieces of pages have failed, by the device
abbrev pub pages_faults : List LogSeen → ℕ → ℕ → ℕ
pages_faults [] copy device = 0
pages_faults (p ∷ ps) copy device = p.faults copy device + pages_faults ps copy device

-- the power of some page is gone
abbrev pub pages_cut : List LogSeen → Bool
pages_cut [] = false
pages_cut (p ∷ ps) = p.cut || pages_cut ps

-- there is a page for each 4,096 of these regions, in order, with 32 maps and kept by itself
pub record ArePages (regions : ℕ) (pages : List LogSeen) : Type 0 where
  pub count : length pages ≡ page_count regions
  pub place : (index region : ℕ) → index < length pages → (page_at pages index).has_region region ≡ has_region index regions region
  pub maps : (index : ℕ) → index < length pages → (page_at pages index).maps ≡ 32
  pub there : (index : ℕ) → index < length pages → (page_at pages index).there ≡ true
  pub lent : (index : ℕ) → index < length pages → (page_at pages index).lent ≡ false

-- what contracts see of a store as a log of marks: of each region what its page shows
abbrev pub store_log : ℕ → List LogSeen → LogSeen
store_log regions pages = record {
  there = true;
  has_region = λ region. nat_lt region regions;
  maps = 32;
  copies = (page_at pages 0).copies;
  lent = false;
  claims = λ region map. (page_at pages (region / 4096)).claims region map;
  told = if pages_tell pages then Some (λ region. marks_in (page_at pages (region / 4096)).told region) else None;
  faults = pages_faults pages;
  cut = pages_cut pages;
}

-- a page was written again, and nothing else became of it
pub record PageGoes (fact : (ℕ → Marks) → (ℕ → Marks) → Type 0) (old new : LogSeen) : Type 0 where
  pub kept : KeepsLog old new
  pub told : OnMarks fact old.told new.told
  pub claims : (region map : ℕ) → new.claims region map ≡ old.claims region map

-- at Ok every page is firm, and else the marks of each region are at most tidied
abbrev pub ArePagesFirmed : {T : Type 0} → Result T MarkFault → List LogSeen → List LogSeen → Type 0
ArePagesFirmed (Ok u) old new = EachItem no_page (λ index. PageGoes (FirmsStore {T = Unit {0}} (Ok tt))) old new
ArePagesFirmed (Err fault) old new = EachItem no_page (λ index. PageGoes (FirmsStore {T = Unit {0}} (Err fault))) old new

-- each page has its sectors on so many copies
abbrev pub AreOnCopies : ℕ → List LogSeen → Type 0
AreOnCopies copies pages = (i : ℕ) → i < length pages → (page_at pages i).copies ≡ copies

-- These are logs of pages of these sectors, in order, and of each sector this holds. All have a second copy, or none has.
pub record AreLogsOf (regions : ℕ) (pair : Bool) (fact : SectorSeen → Type 0) (grid : List (List SectorSeen)) (logs : List LogSeen) : Type 0 where
  pub count : length logs ≡ length grid
  pub each : (i : ℕ) → i < length grid → page_at logs i ≡ page_log i regions (row_at grid i)
  pub rows : (i : ℕ) → i < length grid → length (row_at grid i) ≡ 32
  pub pairs : (i : ℕ) → i < length grid → ArePaired pair (row_at grid i)
  pub facts : (i : ℕ) → i < length grid → AreAll fact (row_at grid i)
