-- That what a call keeps of pieces is kept by no call, and by one after another.
use Rattle.std.specs.Prelude.{ℕ, ◌<◌, List, refl}
use Rattle.std.proofs.Common.{◌∙◌, sym, subst}
use Rattle.std.proofs.Math.Nat.{le_refl, le_trans}
use Rattle.vx_piece.specs.Seen.{Seen}
use Rattle.vx_pages.specs.declared.local_piece.LocalPiece.{Ghosts}
use Rattle.vx_pages.specs.declared.page.Page.{Page}
use Rattle.vx_pages.specs.Pages.{PageStays, RowGoes}
use Rattle.vx_pages.specs.Sector.{KeepsPiece, SectorSeen}

pub piece_same : (p : Seen) → KeepsPiece p p
piece_same p = record { kept = record { device = refl; start = refl; sectors = refl; stop = refl; faults = le_refl p.faults; cut = λ h. h }; tells = refl }

pub piece_then : (a b c : Seen) → KeepsPiece a b → KeepsPiece b c → KeepsPiece a c
piece_then a b c first last =
    let one = first.kept in
    let two = last.kept in
    record {
      kept =
          record {
            device = two.device ∙ one.device;
            start = two.start ∙ one.start;
            sectors = two.sectors ∙ one.sectors;
            stop = two.stop ∙ one.stop;
            faults = le_trans one.faults two.faults;
            cut = λ cut. two.cut (one.cut cut);
          };
      tells = last.tells ∙ first.tells;
    }

pub row_same : (xs : List SectorSeen) → RowGoes KeepsPiece xs xs
row_same xs = record { size = refl; each = λ m lt. record { pair = refl; each = λ n. piece_same _ } }

pub row_then : (xs ys zs : List SectorSeen) → RowGoes KeepsPiece xs ys → RowGoes KeepsPiece ys zs → RowGoes KeepsPiece xs zs
row_then xs ys zs one two =
    record {
      size = two.size ∙ one.size;
      each = λ m lt.
          let a = one.each m lt in
          let b = two.each m (subst (λ (n : ℕ). m < n) (sym one.size) lt) in record { pair = b.pair ∙ a.pair; each = λ n. piece_then _ _ _ (a.each n) (b.each n) };
    }

pub page_same : {P : Type 0} {ghosts : Ghosts P} (x : Page P ghosts) → PageStays ghosts.seen x x
page_same x = record { place = record { index = refl; regions = refl }; pieces = row_same _ }

pub page_then : {P : Type 0} {ghosts : Ghosts P} (x y z : Page P ghosts) → PageStays ghosts.seen x y → PageStays ghosts.seen y z → PageStays ghosts.seen x z
page_then x y z one two = record { place = record { index = two.place.index ∙ one.place.index; regions = two.place.regions ∙ one.place.regions }; pieces = row_then _ _ _ one.pieces two.pieces }
