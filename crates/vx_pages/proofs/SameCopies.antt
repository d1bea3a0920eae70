-- What calls keep of a piece.
use Rattle.std.proofs.Common.{refl, ◌∙◌, arith}
use Rattle.vx_pages.specs.Stays.{piece_same, piece_then}
use Rattle.vx_pages.specs.Sector.{Copies, KeepsCopies, copy_of}

pub copies_same : (c : Copies) → KeepsCopies c c
copies_same c = record { each = λ n. piece_same (copy_of c n); sectors = λ h. h; pair = refl; tells = refl; faults = λ copy device. omega arith; cut = λ h. h }

pub copies_then : (a b c : Copies) → KeepsCopies a b → KeepsCopies b c → KeepsCopies a c
copies_then a b c first last =
    record {
      each = λ n. piece_then _ _ _ (first.each n) (last.each n);
      sectors = λ h. last.sectors (first.sectors h);
      pair = last.pair ∙ first.pair;
      tells = last.tells ∙ first.tells;
      faults = λ copy device. let low = first.faults copy device in let high = last.faults copy device in omega (arith, low, high);
      cut = λ cut. last.cut (first.cut cut);
    }
