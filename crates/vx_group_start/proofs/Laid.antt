-- The pieces of a group where a volume is put back, kept or taken to be put back.
use Rattle.std.proofs.Common.{◌≡◌, ◌∙◌, List, [], ◌∷◌, ◌++◌, sym, ap, subst}
use Rattle.std.specs.List.{flat_map}
use Rattle.vx_piece.specs.Seen.{Seen}
use Rattle.vx_pages.specs.declared.local_piece.LocalPiece.{Ghosts}
use Rattle.vx_carve.specs.Together.{SameSectors}
use Rattle.vx_carve.proofs.Same.{same_beside}
use Rattle.vx_volume.specs.Volume.{IsVolume, volume_seen}
use Rattle.vx_lending.specs.Left.{held_pieces}
use Rattle.vx_lending.specs.declared.public.Public.{Public}
use Rattle.vx_lending.specs.declared.public.Running.{Running}
use Rattle.vx_lending.specs.Public.{lent_pieces, running_pieces, still_pieces, stuck_pieces}
use Rattle.vx_group_start.specs.Closed.{IsSameRunning}
use Rattle.vx_group_start.specs.Laying.{public_pieces}
use Rattle.vx_group_start.proofs.Closings.{same_held}
use Rattle.vx_group_start.proofs.OneByOne.{kept_back}
use Rattle.vx_group_start.proofs.Stills.{still_put}

-- what comes back is a volume
pub still_volume : {P : Type 0} {ghosts : Ghosts P} (old new : Running P ghosts) → IsSameRunning ghosts.seen old new → IsVolume (volume_seen ghosts.seen old.volume) → IsVolume (volume_seen ghosts.seen new.volume)
still_volume old new same whole = subst IsVolume (sym same.volume_is.seen_is) whole

module _ {P : Type 0} {ghosts : Ghosts P} (old new : Public P ghosts) (running : new.running ≡ old.running) (stuck : new.stuck ≡ old.stuck) where
  same_lent : lent_pieces ghosts.seen new ≡ lent_pieces ghosts.seen old
  same_lent =
      ap (λ m. flat_map (running_pieces ghosts.seen) m.entries ++ flat_map (stuck_pieces ghosts.seen) new.stuck.items) running ∙ ap (λ s. flat_map (running_pieces ghosts.seen) old.running.entries ++ flat_map (stuck_pieces ghosts.seen) s.items) stuck

  -- the pieces that lie still alone have moved
  pub still_moved : SameSectors (still_pieces ghosts.seen old) (still_pieces ghosts.seen new) → SameSectors (public_pieces ghosts.seen old) (public_pieces ghosts.seen new)
  still_moved kept = subst (λ (zs : List Seen). SameSectors (public_pieces ghosts.seen old) (still_pieces ghosts.seen new ++ zs)) (sym same_lent) (same_beside (lent_pieces ghosts.seen old) (still_pieces ghosts.seen old) (still_pieces ghosts.seen new) kept)

  -- a volume is put back
  pub volume_put : (xs : List Seen) → SameSectors (xs ++ still_pieces ghosts.seen old) (still_pieces ghosts.seen new) → SameSectors (xs ++ public_pieces ghosts.seen old) (public_pieces ghosts.seen new)
  volume_put xs put = subst (λ (zs : List Seen). SameSectors (xs ++ public_pieces ghosts.seen old) (still_pieces ghosts.seen new ++ zs)) (sym same_lent) (still_put xs (still_pieces ghosts.seen old) (still_pieces ghosts.seen new) (lent_pieces ghosts.seen old) put)

  -- a volume that comes back is kept
  pub volume_kept : (now : List (Running P ghosts)) (r back : Running P ghosts) → IsSameRunning ghosts.seen r back → now ≡ new.stuck.items ++ back ∷ [] → SameSectors (still_pieces ghosts.seen old) (still_pieces ghosts.seen new) →
      SameSectors (held_pieces ghosts.seen r.volume ++ public_pieces ghosts.seen old) (still_pieces ghosts.seen new ++ (flat_map (running_pieces ghosts.seen) new.running.entries ++ flat_map (stuck_pieces ghosts.seen) now))
  volume_kept now r back same e kept =
      subst (λ m. SameSectors (held_pieces ghosts.seen r.volume ++ public_pieces ghosts.seen old) (still_pieces ghosts.seen new ++ (flat_map (running_pieces ghosts.seen) m.entries ++ flat_map (stuck_pieces ghosts.seen) now))) (sym running)
      (kept_back (stuck_pieces ghosts.seen) old.stuck.items now back (held_pieces ghosts.seen r.volume) (still_pieces ghosts.seen old) (still_pieces ghosts.seen new) (flat_map (running_pieces ghosts.seen) old.running.entries)
      (same_held r.volume back.volume same.volume_is) (e ∙ ap (λ s. s.items ++ back ∷ []) stuck) kept)
