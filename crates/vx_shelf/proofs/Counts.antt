-- The counts of the names on a shelf in memory, as one place changes or a device joins.
use Rattle.std.proofs.Common.{◌≡◌, ◌∙◌, ℕ, Bool, true, false, cond, List, get_or, Option, Some, sym, ap, refl}
use Rattle.std.specs.Option.{unwrap_or}
use Rattle.std.specs.Str.{bytes_eq}
use Rattle.std.proofs.Math.ListN.{set}
use Rattle.vx_base.specs.Named.{Word}
use Rattle.vx_base.proofs.NamedLemmas.{bytes_eq_same}
use Rattle.vx_piece.specs.MemPiece.{mem_seen}
use Rattle.vx_piece.specs.declared.mem_piece.MemPiece.{MemPiece}
use Rattle.vx_shelf.specs.Shelf.{SameCounts, put_count}
use Rattle.vx_shelf.specs.MemShelf.{Place, shown_under, counted_in, IsFirst, IsMissing, IsAppended}
use Rattle.vx_shelf.proofs.Places.{shown_none, shown_at, shown_set, shown_push}

picked : (b : Bool) (count : ℕ) (old : Option ℕ) → unwrap_or (cond b (Some count) old) 0 ≡ cond b count (unwrap_or old 0)
picked true count old = refl
picked false count old = refl

-- a count that is put where it stands changes nothing
pub put_there : (name : Word) (count : ℕ) (old : Word → ℕ) → old name ≡ count → SameCounts old (put_count name count old)
put_there name count old is other = by_test (bytes_eq name other) refl
  where
    by_test : (b : Bool) → bytes_eq name other ≡ b → cond b count (old other) ≡ old other
    by_test true e = sym is ∙ ap old (bytes_eq_same name other e)
    by_test false e = refl

module _ (ps : List Place) (name : Word) (i : ℕ) (place d : Place) (first : IsFirst name ps i) (is : place ≡ get_or ps i d) where
  pub counted_here : counted_in ps name ≡ (mem_seen place.1).faults
  counted_here = ap (λ o. unwrap_or o 0) (shown_at (λ p. Some (mem_seen p).faults) name ps i d first) ∙ ap (λ p. (mem_seen p.1).faults) (sym is)

  -- another piece stands in the place
  pub counted_set : (piece : MemPiece) → SameCounts (put_count name (mem_seen piece).faults (counted_in ps)) (counted_in (set ps i (place.0, piece)))
  counted_set piece other =
      ap (λ o. unwrap_or o 0) (shown_set (λ p. Some (mem_seen p).faults) ps name i (place.0, piece) d first (ap (λ q. q.0) is) other)
      ∙ picked (bytes_eq name other) (mem_seen piece).faults (shown_under (λ p. Some (mem_seen p).faults) ps other)

  -- a piece with the same count
  pub counted_same : (piece : MemPiece) → (mem_seen piece).faults ≡ (mem_seen place.1).faults → SameCounts (counted_in ps) (counted_in (set ps i (place.0, piece)))
  counted_same piece same other = counted_set piece other ∙ put_there name (mem_seen piece).faults (counted_in ps) (counted_here ∙ sym same) other

-- a device that no call has met joins, under a name that no other has
pub counted_made : (name : Word) (count number : ℕ) (ps more : List Place) → IsMissing name ps → IsAppended name count number ps more → SameCounts (counted_in ps) (counted_in more)
counted_made name count number ps more missing has other =
    ap (λ xs. counted_in xs other) has.behind
    ∙ ap (λ o. unwrap_or o 0) (shown_push (λ p. Some (mem_seen p).faults) ps name has.piece missing other)
    ∙ picked (bytes_eq name other) (mem_seen has.piece).faults (shown_under (λ p. Some (mem_seen p).faults) ps other)
    ∙ put_there name (mem_seen has.piece).faults (counted_in ps) (ap (λ o. unwrap_or o 0) (shown_none (λ p. Some (mem_seen p).faults) name ps missing) ∙ sym has.blank.faults) other
