-- A log that goes on tells what it holds just where it did, so that after it was made firm nothing is loose.
use Rattle.std.proofs.Common.{◌≡◌, ◌∙◌, ℕ, suc, Bool, true, false, List, [], ◌∷◌, Option, Some, None, Ok, refl, sym, ap, arith}
use Rattle.std.specs.Prelude.{◌&&◌, ◌/◌, is_some, if◌then◌else◌}
use Rattle.std.proofs.lemmas.Bool.{false≢true}
use Rattle.vx_mask.specs.Marks.{Marks}
use Rattle.vx_piece.specs.Seen.{Seen}
use Rattle.vx_marks.specs.Log.{OnMarks}
use Rattle.vx_pages.specs.declared.local_piece.LocalPiece.{Ghosts}
use Rattle.vx_pages.specs.declared.page.Page.{Page}
use Rattle.vx_pages.specs.Firm.{FirmsStore}
use Rattle.vx_pages.specs.Page.{all_tell, marks_of, sectors_seen}
use Rattle.vx_pages.specs.Pages.{PiecesGo, RowGoes, grid_seen}
use Rattle.vx_pages.specs.Sector.{Copies, KeepsPiece, SectorSeen, or_first, second_tells, tells}
use Rattle.vx_maps.specs.Going.{GridGoes}
use Rattle.vx_maps.specs.Store.{marks_in, page_at, pages_seen, pages_tell}
use Rattle.vx_cell.specs.Region.{marks_or}
use Rattle.vx_volume.specs.declared.log.VolumeLog.{VolumeLog}
use Rattle.vx_volume.specs.declared.log.VolumeLog.TheVariants.{Absent, Maps}
use Rattle.vx_volume.specs.Log.{LogGoes, log_seen}
use Rattle.vx_volume.specs.Switching.{Firms, IsTight}
use Rattle.vx_volume.specs.Volume.{VolumeSeen}

some_if : {X : Type 0} (b : Bool) (x : X) → is_some (if b then Some x else None) ≡ b
some_if true x = refl
some_if false x = refl

-- ---- a sector

second_same : (f f' : Seen) (x y : Option Seen) → is_some y ≡ is_some x → is_some (or_first f' y).told ≡ is_some (or_first f x).told → second_tells y ≡ second_tells x
second_same f f' None None e t = refl
second_same f f' None (Some q) e t = absurd (false≢true (sym e))
second_same f f' (Some p) None e t = absurd (false≢true e)
second_same f f' (Some p) (Some q) e t = t

copies_tell : (a b : Copies) → PiecesGo KeepsPiece a b → tells b ≡ tells a
copies_tell a b goes =
    let one : is_some b.first.told ≡ is_some a.first.told = (goes.each 0).tells in
    let two : second_tells b.second ≡ second_tells a.second = second_same a.first b.first a.second b.second goes.pair (goes.each 1).tells in
    ap (λ x. x && second_tells b.second) one ∙ ap (λ x. is_some a.first.told && x) two

-- ---- a page, and all pages

row_tells : (xs ys : List SectorSeen) → RowGoes KeepsPiece xs ys → all_tell ys ≡ all_tell xs
row_tells [] [] goes = refl
row_tells [] (y ∷ ys) goes = absurd (let e = goes.size in cc)
row_tells (x ∷ xs) [] goes = absurd (let e = goes.size in cc)
row_tells (x ∷ xs) (y ∷ ys) goes =
    let size = goes.size in
    let rest = row_tells xs ys (record { size = omega (arith, size); each = λ i lt. goes.each (suc i) (omega (arith, lt)) }) in
    ap (λ b. b && all_tell ys) (copies_tell x.copies y.copies (goes.each 0 (omega arith))) ∙ ap (λ b. tells x.copies && b) rest

module _ {P : Type 0} {ghosts : Ghosts P} where
  pages_same : (ps qs : List (Page P ghosts)) → GridGoes KeepsPiece (grid_seen ghosts.seen ps) (grid_seen ghosts.seen qs) → pages_tell (pages_seen ghosts.seen qs) ≡ pages_tell (pages_seen ghosts.seen ps)
  pages_same [] [] goes = refl
  pages_same [] (q ∷ qs) goes = absurd (let e = goes.size in cc)
  pages_same (p ∷ ps) [] goes = absurd (let e = goes.size in cc)
  pages_same (p ∷ ps) (q ∷ qs) goes =
      let size = goes.size in
      let rest = pages_same ps qs (record { size = omega (arith, size); each = λ i lt. goes.each (suc i) (omega (arith, lt)) }) in
      let before = sectors_seen ghosts.seen p.sectors.items in
      let after = sectors_seen ghosts.seen q.sectors.items in
      let one = some_if (all_tell after) (marks_of q.index q.regions after) ∙ row_tells before after (goes.each 0 (omega arith)) ∙ sym (some_if (all_tell before) (marks_of p.index p.regions before)) in
      ap (λ b. b && pages_tell (pages_seen ghosts.seen qs)) one ∙ ap (λ b. is_some (if all_tell before then Some (marks_of p.index p.regions before) else None) && b) rest

  -- the log tells just where it did
  pub log_tells : (x y : VolumeLog P ghosts) → LogGoes ghosts.seen x y → is_some (log_seen ghosts.seen y).told ≡ is_some (log_seen ghosts.seen x).told
  log_tells Absent Absent goes = refl
  log_tells Absent (Maps y) goes = absurd goes
  log_tells (Maps x) Absent goes = absurd goes
  log_tells (Maps x) (Maps y) goes =
      let before = pages_seen ghosts.seen x.pages.items in
      let after = pages_seen ghosts.seen y.pages.items in
      some_if (pages_tell after) (λ (region : ℕ). marks_in (page_at after (region / 4096)).told region)
      ∙ pages_same x.pages.items y.pages.items goes.0.grid
      ∙ sym (some_if (pages_tell before) (λ (region : ℕ). marks_in (page_at before (region / 4096)).told region))

-- ---- nothing is loose

tight_by : (a b : Option (ℕ → Marks)) → is_some b ≡ is_some a → OnMarks (FirmsStore {T = Unit {0}} (Ok tt)) a b → (r k : ℕ) → (marks_or b r).loose k ≡ false
tight_by None None e fact r k = refl
tight_by None (Some y) e fact r k = absurd (false≢true (sym e))
tight_by (Some x) None e fact r k = absurd fact
tight_by (Some x) (Some y) e fact r k = (fact r).loose k

pub firm_tight : (old new : VolumeSeen) → Firms (Ok tt) old new → is_some new.log.told ≡ is_some old.log.told → IsTight new
firm_tight old new firms same r k lt = tight_by old.log.told new.log.told same firms.told r k
