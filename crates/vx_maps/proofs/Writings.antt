-- What copies are that were written from the images of one of them, by how far that came.
use Rattle.std.proofs.Common.{◌≡◌, inl, inr, ℕ, ◌<◌, Bool, true, refl, sym, ◌∙◌, ap, subst, arith, List}
use Rattle.std.specs.Prelude.{if◌then◌else◌}
use Rattle.vx_sector.specs.Fields.{zeros}
use Rattle.vx_runs.specs.Part.{told_or}
use Rattle.vx_pages.specs.Sector.{Copies, SectorSeen, held, tells}
use Rattle.vx_maps.specs.Going.{ReadsPiece, SheetsGo}
use Rattle.vx_maps.specs.Loading.{GridMaySettle, GridReads, GridSettled}
use Rattle.vx_maps.specs.Slots.{SheetsSeen}
use Rattle.vx_maps.specs.Written.{AreWritten, AreWrittenFrom, MayBlank, MayHold, heads_of}
use Rattle.vx_maps.proofs.FirstSectors.{blank_kept, blank_stands, heads_go, heads_pair}
use Rattle.vx_maps.proofs.Steps.{reads_same}

module _ (header : List ℕ) (from : ℕ) (rows : List (List (List ℕ))) (asked : Bool) (heads blanked : Copies) (bad : zeros 512 ≡ header → ⊥) (apart : asked ≡ true → from ≡ 0 → ⊥) (blank : MayBlank asked heads blanked) where
  -- no page was written
  pub written_none : (grid : List (List SectorSeen)) → AreWrittenFrom header from rows heads blanked grid grid
  written_none grid = λ at told tell. record { stands = inl (blank_stands asked heads blanked blank told from at apart); each = λ n i m lt is low in'. inr (blank_kept asked heads blanked header blank told bad n lt is, refl) }

  -- a part of the pages
  pub written_part : (grid grid' : List (List SectorSeen)) → GridMaySettle rows grid grid' → AreWrittenFrom header from rows heads blanked grid grid'
  written_part grid grid' may = λ at told tell.
      record {
        stands = inl (blank_stands asked heads blanked blank told from at apart);
        each = λ n i m lt is low in'. elim (((may.each i low).each m in').holds (tell i m low in') n) [ inl e ↦ inr (blank_kept asked heads blanked header blank told bad n lt is, e) | inr e ↦ inl e ];
      }

  -- all pages
  pub written_all : (heads' : Copies) (grid grid' : List (List SectorSeen)) → GridSettled rows grid grid' → MayHold header blanked heads' → tells blanked ≡ tells heads → AreWrittenFrom header from rows heads heads' grid grid'
  written_all heads' grid grid' settled may same = λ at told tell.
      record {
        stands = elim (may (same ∙ told) from) [ inl e ↦ inl (e ∙ blank_stands asked heads blanked blank told from at apart) | inr e ↦ inr e ];
        each = λ n i m lt is low in'. inl (((settled.each i low).each m in').holds (tell i m low in') n);
      }

-- what was only read before it was written
pub written_back : (header : List ℕ) (from : ℕ) (rows : List (List (List ℕ))) (a b : SheetsSeen) (heads' : Copies) (grid grid' grid'' : List (List SectorSeen)) → SheetsGo ReadsPiece a b → GridReads grid grid' → AreWritten header from rows (heads_of b) heads' grid' grid'' →
    AreWritten header from rows (heads_of a) heads' grid grid''
written_back header from rows a b heads' grid grid' grid'' go reads w =
    record {
      stands = elim w.stands [ inl e ↦ inl (e ∙ head from) | inr e ↦ inr e ];
      each = λ n i m lt is low in'.
          let row = reads.each i low in
          let size = reads.size in
          let long = row.size in
          elim (w.each n i m (subst (λ (t : Bool). n < (if t then 2 else 1)) (sym (heads_pair ReadsPiece reads_same a b go)) lt) is (omega (arith, size, low)) (omega (arith, long, in'))) [
            | inl e ↦ inl e
            | inr e ↦ inr (sym (head n) ∙ e.0, e.1 ∙ ap (λ t. told_or t 0) ((row.each m in').copies.told n))
          ];
    }
  where
    head : (n : ℕ) → held (heads_of b) n ≡ held (heads_of a) n
    head n = ap (λ t. told_or t 0) (heads_go ReadsPiece reads_same a b go n).told
