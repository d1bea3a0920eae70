-- The pieces of a volume whose log gives up a copy, and of that copy.
use Rattle.std.proofs.Common.{◌≡◌, ◌∙◌, ℕ, zero, suc, ◌<◌, ◌-◌, List, [], ◌∷◌, ◌++◌, length, refl, sym, ap, subst, arith, append_assoc}
use Rattle.std.proofs.lemmas.List.{append-nil}
use Rattle.vx_piece.specs.Seen.{Seen}
use Rattle.vx_pages.specs.declared.local_piece.LocalPiece.{Ghosts}
use Rattle.vx_carve.specs.Together.{SameSectors}
use Rattle.vx_carve.proofs.Same.{same_beside, same_refl, same_trans}
use Rattle.vx_fronts.proofs.Behind.{turned}
use Rattle.vx_maps.specs.Loading.{copy_at}
use Rattle.vx_volume.specs.declared.log.VolumeLog.{VolumeLog}
use Rattle.vx_volume.specs.declared.log.VolumeLog.TheVariants.{Absent, Maps}
use Rattle.vx_volume.specs.declared.volume.Volume.{Volume}
use Rattle.vx_volume.specs.Volume.{VolumeSeen, log_of, volume_seen}
use Rattle.vx_volume.specs.Yielding.{PartsLog, log_copies as copies_of}
use Rattle.vx_lending.specs.Left.{held_pieces, region_plexes}
use Rattle.vx_lending.specs.Logs.{log_copies, log_pieces}
use Rattle.vx_lending.specs.Pieces.{copy_pieces}
use Rattle.vx_lending.specs.RegionPieces.{all_pieces}
use Rattle.vx_yielded_volumes.specs.Yielded.{HasYielded}
use Rattle.vx_stage_dissociation.proofs.PartPieces.{ahead, put_aside}

-- ---- pieces beside others

joined_left : (a b c : List Seen) → (a ++ b) ++ c ≡ a ++ (b ++ c)
joined_left a b c = simp append_assoc

turn : (a b c : List Seen) → SameSectors (a ++ (b ++ c)) (b ++ (a ++ c))
turn a b c = subst (λ xs. SameSectors xs (b ++ (a ++ c))) (joined_left a b c) (turned a b c)

-- what one of the volumes is without lies beside what lay still
pub moved : (O N G H K F T : List Seen) → SameSectors H (G ++ K) → SameSectors (copy_pieces (G ∷ []) ++ O) N → SameSectors (O ++ (F ++ (H ++ T))) (N ++ (F ++ (K ++ T)))
moved O N G H K F T parts together =
    same_trans (O ++ (F ++ (H ++ T))) (O ++ (F ++ ((G ++ K) ++ T))) (N ++ (F ++ (K ++ T)))
    (ahead O (F ++ (H ++ T)) (F ++ ((G ++ K) ++ T)) (ahead F (H ++ T) ((G ++ K) ++ T) (same_beside T H (G ++ K) parts)))
    (same_trans (O ++ (F ++ ((G ++ K) ++ T))) ((G ++ O) ++ (F ++ (K ++ T))) (N ++ (F ++ (K ++ T)))
    (put_aside G O F K T)
    (same_beside (F ++ (K ++ T)) (G ++ O) N (subst (λ xs. SameSectors (xs ++ O) N) (append-nil G) together)))

-- ---- the copies of a log

split : (copy : ℕ) (gone : List Seen) (xs ys : List (List Seen)) → copy < 2 → length xs ≡ 2 → gone ≡ copy_at xs copy → ys ≡ copy_at xs (1 - copy) ∷ [] → SameSectors (copy_pieces xs) (gone ++ copy_pieces ys)
split copy gone [] ys lt two out left = absurd (omega (arith, two))
split copy gone (x ∷ []) ys lt two out left = absurd (omega (arith, two))
split copy gone (x ∷ y ∷ z ∷ xs) ys lt two out left = absurd (omega (arith, two))
split zero gone (x ∷ y ∷ []) ys lt two out left =
    subst (λ (g : List Seen). SameSectors (x ++ (y ++ [])) (g ++ copy_pieces ys)) (sym out)
    (subst (λ (zs : List (List Seen)). SameSectors (x ++ (y ++ [])) (x ++ copy_pieces zs)) (sym left) (same_refl (x ++ (y ++ []))))
split (suc zero) gone (x ∷ y ∷ []) ys lt two out left =
    subst (λ (g : List Seen). SameSectors (x ++ (y ++ [])) (g ++ copy_pieces ys)) (sym out)
    (subst (λ (zs : List (List Seen)). SameSectors (x ++ (y ++ [])) (y ++ copy_pieces zs)) (sym left) (turn x y []))
split (suc (suc n)) gone (x ∷ y ∷ []) ys lt two out left = absurd (omega (arith, lt))

module _ {P : Type 0} {ghosts : Ghosts P} (see : P → Seen) where
  pub same_copies : (log : VolumeLog P ghosts) → copies_of see log ≡ log_copies see log
  same_copies Absent = refl
  same_copies (Maps store) = refl

  log_split : (copy : ℕ) (gone : List Seen) (old new : VolumeLog P ghosts) → copy < 2 → length (log_copies see old) ≡ 2 → PartsLog see copy gone old new → SameSectors (log_pieces see old) (gone ++ log_pieces see new)
  log_split copy gone old new lt two parts =
      let was : copies_of see old ≡ log_copies see old = same_copies old in
      let is : copies_of see new ≡ log_copies see new = same_copies new in
      split copy gone (log_copies see old) (log_copies see new) lt two (parts.out ∙ ap (λ xs. copy_at xs copy) was) (sym is ∙ parts.left ∙ ap (λ xs. copy_at xs (1 - copy) ∷ []) was)

  -- ---- the volume

  -- the pieces of the copy, and what the volume has then, are together what it had
  pub held_split : (copy : ℕ) (before after : Volume P ghosts) (y : HasYielded see copy before after) → copy < 2 → length (log_copies see (log_of before)) ≡ 2 → SameSectors (held_pieces see before) (y.gone ++ held_pieces see after)
  held_split copy before after y lt two =
      let R = all_pieces (region_plexes (volume_seen see before).cells) in
      let L = log_pieces see (log_of before) in
      let M = log_pieces see (log_of after) in
      let regions : all_pieces (region_plexes (volume_seen see after).cells) ≡ R = ap (λ (v : VolumeSeen). all_pieces (region_plexes v.cells)) y.yields.same in
      subst (λ xs. SameSectors (R ++ L) (y.gone ++ (xs ++ M))) (sym regions)
      (same_trans (R ++ L) (R ++ (y.gone ++ M)) (y.gone ++ (R ++ M)) (ahead R L (y.gone ++ M) (log_split copy y.gone (log_of before) (log_of after) lt two y.parts)) (turn R y.gone M))
