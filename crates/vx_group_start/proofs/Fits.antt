-- The log that is made of copies is one for the volume.
use Rattle.std.proofs.Common.{◌≡◌, ℕ, ◌<◌, Bool, true, false, List, [], ◌∷◌, length, Option, Some, None, refl, sym, ap, ◌∙◌, subst, arith}
use Rattle.std.specs.Prelude.{is_some, nat_lt}
use Rattle.std.proofs.lemmas.Bool.Decides.{nat_tests}
use Rattle.vx_block.specs.Regions.{region_count}
use Rattle.vx_block.specs.declared.geometry.Geometry.{Geometry}
use Rattle.vx_mapfmt.specs.declared.shape.DcoShape.{DcoShape}
use Rattle.vx_piece.specs.Seen.{Seen}
use Rattle.vx_pages.specs.Sector.{KeepsPiece}
use Rattle.vx_pages.specs.declared.local_piece.LocalPiece.{Ghosts}
use Rattle.vx_maps.specs.Copies.{SameRuns, copies_list}
use Rattle.vx_maps.specs.Going.{CopiesGo, CutCopiesGo}
use Rattle.vx_maps.specs.Stores.{shape_of}
use Rattle.vx_maps.specs.Wholes.{store_copies}
use Rattle.vx_maps.specs.declared.store.MapStore.{MapStore}
use Rattle.vx_config_parts.specs.declared.vol.Vol.{Vol}
use Rattle.vx_volume.specs.declared.log.VolumeLog.{VolumeLog}
use Rattle.vx_volume.specs.declared.log.VolumeLog.TheVariants.{Absent, Maps}
use Rattle.vx_volume.specs.declared.volume.VolumeShape.{VolumeShape}
use Rattle.vx_volume.specs.Log.{log_seen}
use Rattle.vx_lending.specs.FormLaws.{IsLogFor}
use Rattle.vx_lending.specs.Going.{GoTogether}
use Rattle.vx_lending.specs.Logs.{log_copies, log_pieces}
use Rattle.vx_lending.specs.Pieces.{copy_pieces}
use Rattle.vx_group_start.specs.Fresh.{is_fresh}
use Rattle.vx_group_start.specs.Logs.{IsLogOf}
use Rattle.vx_group_start.specs.Steps.{IsLogOver}

-- ---- a store is made of copies

listed : (first : List Seen) (second : Option (List Seen)) → CopiesGo KeepsPiece [] (copies_list first second) → ⊥
listed first None go = go
listed first (Some second) go = go

not_none : {P : Type 0} {ghosts : Ghosts P} (copies cut : List (List Seen)) (store : MapStore P ghosts) → SameRuns copies cut → CopiesGo KeepsPiece cut (store_copies ghosts.seen store) → nat_lt 0 (length copies) ≡ true
not_none [] [] store same go = absurd (listed _ _ go)
not_none [] (y ∷ ys) store same go = absurd same
not_none (x ∷ xs) cut store same go = grind (arith, nat_tests)

below : (r n m : ℕ) → n ≡ m → r < m → nat_lt r n ≡ true
below r n m e lt = grind (arith, nat_tests)

store_regions : (shape : DcoShape) (geometry : Geometry) (len region r : ℕ) → shape.geometry ≡ geometry → geometry.length ≡ len → geometry.region ≡ region → r < region_count len region → nat_lt r shape.regions ≡ true
store_regions shape geometry len region r e f h lt =
    below r shape.regions (region_count len region)
    (shape.counted ∙ ap (λ (g : Geometry). region_count g.length g.region) e ∙ ap (λ n. region_count n geometry.region) f ∙ ap (region_count len) h) lt

store_geometry : {P : Type 0} {ghosts : Ghosts P} (fresh : Bool) (shape : VolumeShape) (copies : List (List Seen)) (store : MapStore P ghosts) → IsLogOf ghosts.seen fresh shape copies (Maps store) → (shape_of store).geometry ≡ shape.geometry
store_geometry true shape copies store is = is.geometry_is
store_geometry false shape copies store is = is.0

no_copies : {P : Type 0} (ghosts : Ghosts P) (fresh : Bool) (shape : VolumeShape) (copies : List (List Seen)) → IsLogOf {P = P} {ghosts = ghosts} ghosts.seen fresh shape copies Absent → copies ≡ []
no_copies ghosts true shape copies is = is
no_copies ghosts false shape copies is = is

log_for : {P : Type 0} {ghosts : Ghosts P} (v : Vol) (fresh : Bool) (shape : VolumeShape) (copies : List (List Seen)) (log : VolumeLog P ghosts) → IsLogOf ghosts.seen fresh shape copies log → CutCopiesGo KeepsPiece copies (log_copies ghosts.seen log) →
    shape.geometry.length ≡ v.len → shape.geometry.region ≡ v.region → is_some v.dco ≡ nat_lt 0 (length copies) → IsLogFor v (log_seen ghosts.seen log)
log_for {ghosts = ghosts} v fresh shape copies Absent is go e f dco =
    record {
      there = sym (dco ∙ ap (λ (xs : List (List Seen)). nat_lt 0 (length xs)) (no_copies ghosts fresh shape copies is));
      regions = λ r lt. refl;
      maps = λ there. omega arith;
    }
log_for v fresh shape copies (Maps store) is go e f dco =
    record {
      there = sym (dco ∙ not_none copies go.cut store go.same go.goes);
      regions = λ r lt. store_regions (shape_of store) shape.geometry v.len v.region r (store_geometry fresh shape copies store is) e f lt;
      maps = λ there. omega arith;
    }

pub log_over : {P : Type 0} {ghosts : Ghosts P} (v : Vol) (fresh : Bool) (shape : VolumeShape) (copies : List (List Seen)) (log : VolumeLog P ghosts) → fresh ≡ is_fresh v.state → IsLogOf ghosts.seen fresh shape copies log → CutCopiesGo KeepsPiece copies (log_copies ghosts.seen log) →
    GoTogether (copy_pieces copies) (log_pieces ghosts.seen log) → shape.geometry.length ≡ v.len → shape.geometry.region ≡ v.region → is_some v.dco ≡ nat_lt 0 (length copies) → IsLogOver ghosts.seen v shape copies log
log_over {ghosts = ghosts} v fresh shape copies log same is go goes e f dco = record {
  log_is = subst (λ b. IsLogOf ghosts.seen b shape copies log) same is;
  fits = log_for v fresh shape copies log is go e f dco;
  cut = go;
  goes = goes;
}
