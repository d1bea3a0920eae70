-- A log that was loaded, or made new: what its copies have become.
use Rattle.std.proofs.Common.{ℕ, Bool, true, false, List, [], subst, sym, arith}
use Rattle.std.proofs.lemmas.Bool.{false≢true}
use Rattle.vx_piece.specs.Seen.{Seen}
use Rattle.vx_pages.specs.declared.local_piece.LocalPiece.{Ghosts}
use Rattle.vx_volume.specs.declared.log.VolumeLog.{VolumeLog}
use Rattle.vx_volume.specs.declared.log.VolumeLog.TheVariants.{Absent, Maps}
use Rattle.vx_volume.specs.declared.volume.VolumeShape.{VolumeShape}
use Rattle.vx_block.specs.Regions.{region_count}
use Rattle.vx_maps.specs.Narrowing.{AreNarrowed, IsCounted}
use Rattle.vx_lending.specs.Logs.{IsLoadedLog, log_copies, log_header}
use Rattle.vx_group_start.specs.Logs.{IsLogOf}
use Rattle.vx_group_start.specs.Together.{ComeNearer}

none_counted : (header : List ℕ) (n : ℕ) → IsCounted header [] n → ⊥
none_counted header n is = let inside = is.inside in absurd (omega (arith, inside))

-- no copies are no others
nothing : (header : List ℕ) (regions : ℕ) → AreNarrowed header regions [] []
nothing header regions = record {
  stays = λ n is. absurd (none_counted header n is);
  stood = λ n is. absurd (none_counted header n is);
  all = λ map region each n is. absurd (none_counted header n is);
  some = λ map region any. absurd (none_counted header any.0 any.1);
}

loaded : {P : Type 0} {ghosts : Ghosts P} (shape : VolumeShape) (copies : List (List Seen)) (log : VolumeLog P ghosts) → IsLoadedLog ghosts.seen shape.geometry copies log → ComeNearer false shape.geometry copies (log_copies ghosts.seen log)
loaded shape copies Absent none = λ old tells.
    subst (λ (xs : List (List Seen)). AreNarrowed (log_header shape.geometry) (region_count shape.geometry.length shape.geometry.region) xs []) (sym none)
    (nothing (log_header shape.geometry) (region_count shape.geometry.length shape.geometry.region))
loaded shape copies (Maps store) is = λ old tells. is.1.narrowed tells

pub log_nearer : {P : Type 0} {ghosts : Ghosts P} (fresh : Bool) (shape : VolumeShape) (copies : List (List Seen)) (log : VolumeLog P ghosts) → IsLogOf ghosts.seen fresh shape copies log → ComeNearer fresh shape.geometry copies (log_copies ghosts.seen log)
log_nearer true shape copies log is = λ old. absurd (false≢true (sym old))
log_nearer false shape copies log is = loaded shape copies log is
