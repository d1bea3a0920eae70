-- A sector that gave up one of its two copies is formed, and a page of such is one of pages.
use Rattle.std.proofs.Common.{◌≡◌, ℕ, zero, suc, ◌+◌, ◌<◌, true, false, refl, sym, ◌∙◌, ap, subst, arith, List, [], ◌∷◌, ◌++◌, length, map, get_or, take, Option, Some, None}
use Rattle.std.specs.Prelude.{◌&&◌, not, is_some}
use Rattle.std.proofs.lemmas.List.{map_push, take_more}
use Rattle.vx_piece.specs.Seen.{Seen}
use Rattle.vx_pages.specs.Items.{item_at}
use Rattle.vx_pages.specs.Page.{ArePairedAlike, no_sector, sector_at}
use Rattle.vx_pages.specs.Parting.{only_of, only_sector, only_sectors, pieces_on}
use Rattle.vx_pages.specs.Pieces.{sector_of}
use Rattle.vx_pages.specs.Sector.{SectorSeen, IsFormed, copy_of, copy_tells, is_loose, is_sure, shown}

-- ---- a sector

only_formed : (kept : ℕ) (s : SectorSeen) → IsFormed s → IsFormed (only_sector kept s)
only_formed kept s formed = record { sectors = sectors; sure = formed.sure; loose = formed.loose; shows = shows }
  where
    sectors : (n : ℕ) → (copy_of (only_of kept s.copies) n).sectors ≡ 1
    sectors zero = formed.sectors kept
    sectors (suc n) = formed.sectors kept

    shows : (n : ℕ) → copy_tells (only_of kept s.copies) n ≡ true → (region : ℕ) → (shown (only_of kept s.copies) n region && not (is_loose s region)) ≡ is_sure s region
    shows zero tells region = formed.shows kept tells region
    shows (suc n) tells region = formed.shows kept tells region

module _ {P : Type 0} (see : P → Seen) (sure loose : List ℕ) (first : P) (second left : Option P) (p : P) (has : second ≡ Some p) (gone : left ≡ None) (formed : IsFormed (sector_of see first second sure loose)) where
  both : IsFormed (sector_of see first (Some p) sure loose)
  both = subst (λ (o : Option P). IsFormed (sector_of see first o sure loose)) has formed

  pub first_stays : IsFormed (sector_of see first left sure loose)
  first_stays = subst (λ (o : Option P). IsFormed (sector_of see first o sure loose)) (sym gone) (only_formed 0 (sector_of see first (Some p) sure loose) both)

  pub second_stays : (q : P) → q ≡ p → IsFormed (sector_of see q left sure loose)
  second_stays q is =
      subst (λ (o : Option P). IsFormed (sector_of see q o sure loose)) (sym gone)
      (subst (λ (x : P). IsFormed (sector_of see x None sure loose)) (sym is) (only_formed 1 (sector_of see first (Some p) sure loose) both))

-- ---- the sectors of a page

only_paired : (kept : ℕ) (xs : List SectorSeen) (m : ℕ) → is_some (sector_at (only_sectors kept xs) m).copies.second ≡ false
only_paired kept [] m = refl
only_paired kept (x ∷ xs) zero = refl
only_paired kept (x ∷ xs) (suc m) = only_paired kept xs m

pub only_alike : (kept : ℕ) (xs : List SectorSeen) → ArePairedAlike (only_sectors kept xs)
only_alike kept xs m lt = only_paired kept xs m ∙ sym (only_paired kept xs 0)

item_got : (xs : List SectorSeen) (k : ℕ) (d : SectorSeen) → k < length xs → get_or xs k d ≡ item_at no_sector xs k
item_got [] k d lt = absurd (omega arith)
item_got (x ∷ xs) zero d lt = refl
item_got (x ∷ xs) (suc k) d lt = item_got xs k d (omega arith)

pub one_more : {P : Type 0} (see : P → Seen) (copy : ℕ) (xs : List SectorSeen) (k : ℕ) (s : SectorSeen) (gone gone' : List P) (p : P) → k < length xs → s ≡ item_at no_sector xs k → gone' ≡ gone ++ p ∷ [] → see p ≡ copy_of s.copies copy →
    map see gone ≡ pieces_on copy (take k xs) → map see gone' ≡ pieces_on copy (take (k + 1) xs)
one_more see copy xs k s gone gone' p lt is e piece before =
    ap (map see) e ∙ map_push see gone p ∙ ap (λ (ys : List Seen). ys ++ see p ∷ []) before
    ∙ ap (λ (q : Seen). pieces_on copy (take k xs) ++ q ∷ []) (piece ∙ ap (λ (x : SectorSeen). copy_of x.copies copy) (is ∙ sym (item_got xs k s lt)))
    ∙ sym (ap (pieces_on copy) (take_more xs k s lt) ∙ map_push (λ (x : SectorSeen). copy_of x.copies copy) (take k xs) (get_or xs k s))
