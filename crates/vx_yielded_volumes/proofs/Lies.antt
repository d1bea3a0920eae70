-- A volume whose log gave up a copy lies where its new form says.
use Rattle.std.proofs.Common.{◌≡◌, ℕ, zero, suc, ◌-◌, ◌<◌, List, [], ◌∷◌, length, refl, sym, ◌∙◌, ap, subst, arith}
use Rattle.std.specs.Prelude.{slice_index_or}
use Rattle.std.specs.List.{remove}
use Rattle.vx_block.specs.declared.geometry.Geometry.{Geometry}
use Rattle.vx_piece.specs.Seen.{Seen}
use Rattle.vx_runs.specs.Run.{run_sectors}
use Rattle.vx_layout.specs.declared.layout.Layout.{Layout}
use Rattle.vx_pages.specs.declared.local_piece.LocalPiece.{Ghosts}
use Rattle.vx_maps.specs.Loading.{copy_at}
use Rattle.vx_cell.specs.Changes.{CellSeen}
use Rattle.vx_volume.specs.declared.log.VolumeLog.{VolumeLog}
use Rattle.vx_volume.specs.declared.log.VolumeLog.TheVariants.{Absent, Maps}
use Rattle.vx_volume.specs.declared.volume.VolumeShape.{VolumeShape}
use Rattle.vx_volume.specs.Opening.{count_of}
use Rattle.vx_volume.specs.Volume.{VolumeSeen, cell_at}
use Rattle.vx_volume.specs.Yielding.{PartsLog, SameShape, YieldsCopy, log_copies as copies_of_log}
use Rattle.vx_lending.specs.RegionsTaken.{AreTakenRegions}
use Rattle.vx_lending.specs.declared.form.VolumeForm.{VolumeForm}
use Rattle.vx_lending.specs.Left.{region_plexes}
use Rattle.vx_lending.specs.Logs.{log_copies}
use Rattle.vx_lending.specs.Taken.{log_sectors}
use Rattle.vx_volume_laws.specs.Lying.{HasMasksOf, IsLogFor, IsLogOver, LiesAs}
use Rattle.vx_volume_laws.specs.Places.{LieOn, LieOnLogs}
use Rattle.vx_yielded_volumes.specs.Yielded.{IsFormYielded}

-- ---- the copies of its log

lone_lies : (numbers : List ℕ) (l : Layout) (count : ℕ) (run : List Seen) → run_sectors run ≡ count → LieOn numbers l.unit l.columns 0 count run → LieOnLogs numbers (l ∷ []) count (run ∷ [])
lone_lies numbers l count run long lies = record { long = refl; sectors = sectors_of; each = each_of }
  where
    sectors_of : (k : ℕ) → k < length (l ∷ []) → run_sectors (slice_index_or (run ∷ []) k []) ≡ count
    sectors_of zero lt = long
    sectors_of (suc k) lt = absurd (omega (arith, lt))

    each_of : (k : ℕ) (d : Layout) → k < length (l ∷ []) → LieOn numbers (slice_index_or (l ∷ []) k d).unit (slice_index_or (l ∷ []) k d).columns 0 count (slice_index_or (run ∷ []) k [])
    each_of zero d lt = lies
    each_of (suc k) d lt = absurd (omega (arith, lt))

-- of two copies the one that is left lies on the layout that is left
pub copy_left : (numbers : List ℕ) (count : ℕ) (logs : List Layout) (copies : List (List Seen)) (copy : ℕ) → LieOnLogs numbers logs count copies → length copies ≡ 2 → copy < length logs →
    LieOnLogs numbers (remove logs copy) count (copy_at copies (1 - copy) ∷ [])
copy_left numbers count [] copies copy lie two lt = absurd (omega (arith, lt))
copy_left numbers count (a ∷ []) copies copy lie two lt = let long = lie.long in absurd (omega (arith, long, two))
copy_left numbers count (a ∷ b ∷ []) [] copy lie two lt = absurd (omega (arith, two))
copy_left numbers count (a ∷ b ∷ []) (x ∷ []) copy lie two lt = absurd (omega (arith, two))
copy_left numbers count (a ∷ b ∷ []) (x ∷ y ∷ []) zero lie two lt = lone_lies numbers b count y (lie.sectors 1 (omega arith)) (lie.each 1 b (omega arith))
copy_left numbers count (a ∷ b ∷ []) (x ∷ y ∷ []) (suc zero) lie two lt = lone_lies numbers a count x (lie.sectors 0 (omega arith)) (lie.each 0 a (omega arith))
copy_left numbers count (a ∷ b ∷ []) (x ∷ y ∷ []) (suc (suc copy)) lie two lt = absurd (omega (arith, lt))
copy_left numbers count (a ∷ b ∷ []) (x ∷ y ∷ z ∷ copies) copy lie two lt = absurd (omega (arith, two))
copy_left numbers count (a ∷ b ∷ d ∷ logs) copies copy lie two lt = let long = lie.long in absurd (omega (arith, long, two))

-- ---- the log of the code

module _ {P : Type 0} {ghosts : Ghosts P} (see : P → Seen) where
  same_copies : (log : VolumeLog P ghosts) → copies_of_log see log ≡ log_copies see log
  same_copies Absent = refl
  same_copies (Maps store) = refl

  pub copies_left : (copy : ℕ) (gone : List Seen) (old new : VolumeLog P ghosts) → PartsLog see copy gone old new → log_copies see new ≡ copy_at (log_copies see old) (1 - copy) ∷ []
  copies_left copy gone old new parts = sym (same_copies new) ∙ parts.left ∙ ap (λ (xs : List (List Seen)). copy_at xs (1 - copy) ∷ []) (same_copies old)

  pub still_for : (geometry : Geometry) (old new : VolumeLog P ghosts) → SameShape old new → IsLogFor geometry old → IsLogFor geometry new
  still_for geometry Absent Absent same was = tt
  still_for geometry Absent (Maps new) same was = absurd same
  still_for geometry (Maps old) Absent same was = absurd same
  still_for geometry (Maps old) (Maps new) same was = ap (λ shape. shape.geometry) same ∙ was

-- ---- the volume

module _ (numbers : List ℕ) (form form' : VolumeForm) (copy : ℕ) (is : IsFormYielded copy form form') (old new : VolumeSeen) (yields : YieldsCopy copy old new) (copies copies' : List (List Seen)) (lies : LiesAs numbers form old copies)
    (lie : LieOnLogs numbers form'.logs.items (log_sectors form'.shape.geometry) copies') (over : IsLogOver new.log (count_of form'.shape) copies') where
  cells : (r : ℕ) → cell_at new r ≡ cell_at old r
  cells r = ap (λ (v : VolumeSeen). cell_at v r) yields.same

  regions_now : AreTakenRegions numbers form'.maps.items form'.layouts.items form'.shape.geometry.length form'.shape.geometry.region (region_plexes new.cells)
  regions_now =
      subst (λ (w : VolumeSeen). AreTakenRegions numbers form'.maps.items form'.layouts.items form'.shape.geometry.length form'.shape.geometry.region (region_plexes w.cells)) (sym yields.same)
      (subst (λ (s : VolumeShape). AreTakenRegions numbers form'.maps.items form'.layouts.items s.geometry.length s.geometry.region (region_plexes old.cells)) (sym is.shape)
      (subst (λ (ls : List Layout). AreTakenRegions numbers form'.maps.items ls form.shape.geometry.length form.shape.geometry.region (region_plexes old.cells)) (sym is.layouts)
      (subst (λ (ms : List ℕ). AreTakenRegions numbers ms form.layouts.items form.shape.geometry.length form.shape.geometry.region (region_plexes old.cells)) (sym is.maps) lies.regions)))

  masks_now : (r : ℕ) → r < length new.cells → HasMasksOf form'.shape new.log.there (cell_at new r).stage
  masks_now r lt =
      let had = lies.masks r (subst (λ (w : VolumeSeen). r < length w.cells) yields.same lt) in
      let cell = cells r in
      record {
        on = ap (λ (x : CellSeen). x.stage.on) cell ∙ had.on ∙ sym (ap (λ (s : VolumeShape). s.on) is.shape);
        off = ap (λ (x : CellSeen). x.stage.off) cell ∙ had.off ∙ sym (ap (λ (s : VolumeShape). s.off) is.shape);
        snaps = ap (λ (x : CellSeen). x.stage.snaps) cell ∙ had.snaps ∙ sym (ap (λ (s : VolumeShape). s.snaps) is.shape);
        logged_is = ap (λ (x : CellSeen). x.stage.logged) cell ∙ had.logged_is ∙ sym yields.gives.there;
      }

  pub lies_yielded : LiesAs numbers form' new copies'
  lies_yielded = record {
    length_is = ap (λ (w : VolumeSeen). w.length) yields.same ∙ lies.length_is ∙ sym (ap (λ (s : VolumeShape). s.geometry.length) is.shape);
    region_is = ap (λ (w : VolumeSeen). w.region) yields.same ∙ lies.region_is ∙ sym (ap (λ (s : VolumeShape). s.geometry.region) is.shape);
    regions = regions_now;
    masks = masks_now;
    logs = lie;
    log = over;
  }
