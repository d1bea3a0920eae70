-- Why there is no log, by all pieces of its copies.
use Rattle.std.proofs.Common.{◌≡◌, ℕ, ◌<◌, List, length, true, false, refl, inl, inr}
use Rattle.std.specs.List.{All}
use Rattle.vx_base.specs.Counts.{Rose}
use Rattle.vx_piece.specs.Seen.{Seen}
use Rattle.vx_carve.specs.Together.{HasSome, cut_on, faults_on}
use Rattle.vx_pages.specs.Sector.{KeepsPiece}
use Rattle.vx_pages.specs.declared.local_piece.LocalPiece.{Ghosts}
use Rattle.vx_maps.specs.Creating.{copies_cut}
use Rattle.vx_maps.specs.Going.{CutCopiesGo}
use Rattle.vx_maps.specs.Loading.{IsNotLoaded, IsPassed, copy_at}
use Rattle.vx_maps.specs.Spares.{copies_seen}
use Rattle.vx_maps.specs.Wholes.{copy_faults}
use Rattle.vx_maps.specs.declared.fault.StoreFault.{StoreFault}
use Rattle.vx_maps.specs.declared.fault.StoreFault.TheVariants.{OutOfMemory, NoCopy, Failed, PowerLost}
use Rattle.vx_lending.specs.Left.{IsNotFresh, left_copies, left_cut, left_faults}
use Rattle.vx_lending.specs.Pieces.{copy_pieces}
use Rattle.vx_lending.proofs.Goings.{cut_go}
use Rattle.vx_lending.specs.declared.left.LogLeft.{LogLeft}
use Rattle.vx_lending.specs.declared.left.LogLeft.TheVariants.{Copies, Store}
use Rattle.vx_group_start.specs.Logs.{AreOn, IsPassedOver, SomeCut}
use Rattle.vx_group_start.specs.Steps.{IsNoLog, left_fault, start_fault}
use Rattle.vx_group_start.proofs.Rises.{copies_are_cut, copy_on, cut_own, on_copies, rose_in}

module _ (header : List ℕ) (old new : List (List Seen)) (all : All HasSome (copy_pieces old)) (go : CutCopiesGo KeepsPiece old new) where
  passed_over : (n : ℕ) → IsPassed header (copy_faults old) (copy_faults new) old n → IsPassedOver header (copy_pieces old) (copy_pieces new) (copy_at old n)
  passed_over n (inl x) = inl (x.0, copy_on x.0 n old go.cut new all go.same go.goes x.1, rose_in x.0 n old go.cut new go.same go.goes x.1)
  passed_over n (inr x) = inr x

  failed : (copy device : ℕ) → Rose (copy_faults old copy device) (copy_faults new copy device) → AreOn device (copy_pieces old) × Rose (faults_on device (copy_pieces old)) (faults_on device (copy_pieces new))
  failed copy device rose = (on_copies device copy old (copy_on device copy old go.cut new all go.same go.goes rose), rose_in device copy old go.cut new go.same go.goes rose)

  power_lost : SomeCut (copy_pieces new) → (device : ℕ) × AreOn device (copy_pieces old) × (cut_on device (copy_pieces new) ≡ 1)
  power_lost some = (some.0, cut_own some.0 (copy_pieces old) (copy_pieces new) (cut_go old new all go) all some.1, some.1)

  pub not_loaded : (f : StoreFault) → 0 < length old → IsNotLoaded header f old new → IsNoLog false header old new (start_fault f)
  not_loaded OutOfMemory some h = tt
  not_loaded NoCopy some h = (refl, some, λ n lt. passed_over n (h n lt))
  not_loaded (Failed copy device) some h = failed copy device h.1
  not_loaded PowerLost some h = power_lost (copies_are_cut new h)

  not_new : (f : StoreFault) → IsNotFresh f old new (copy_faults new) (copies_cut new) → IsNoLog true header old new (start_fault f)
  not_new OutOfMemory h = tt
  not_new NoCopy h = absurd h
  not_new (Failed copy device) h = failed copy device h
  not_new PowerLost h = power_lost (copies_are_cut new h)

pub not_fresh : {P : Type 0} {ghosts : Ghosts P} (header : List ℕ) (f : StoreFault) (old : List (List Seen)) (left : LogLeft P ghosts) → All HasSome (copy_pieces old) → CutCopiesGo KeepsPiece old (left_copies ghosts.seen left) →
    IsNotFresh f old (left_copies ghosts.seen left) (left_faults ghosts.seen left) (left_cut ghosts.seen left) → IsNoLog true header old (left_copies ghosts.seen left) (left_fault f left)
not_fresh {ghosts = ghosts} header f old (Copies copies) all go h = not_new header old (copies_seen ghosts.seen copies.items) all go f h
not_fresh header f old (Store store) all go h = tt
