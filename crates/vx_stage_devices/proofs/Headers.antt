-- The stage that looks for the header of the only device in hand.
use Rattle.std.proofs.Common.{◌≡◌, ◌⊎◌, List, [], ◌∷◌, map, None, Ok, Err, Result, sym, ap, subst, inl, inr}
use Rattle.std.specs.Prelude.{IsSome}
use Rattle.vx_pages.specs.declared.local_piece.LocalPiece.{Ghosts}
use Rattle.vx_header.specs.Named.{header_of}
use Rattle.vx_piece.specs.Seen.{Seen}
use Rattle.vx_copies.specs.Lists.{Each}
use Rattle.vx_script_words.specs.declared.value.DiskAt.{DiskAt}
use Rattle.vx_answers.specs.declared.answer.End.{End}
use Rattle.vx_answers.specs.declared.refusal.Refusal.TheVariants.{NotInitialised}
use Rattle.vx_moments.specs.Moment.{Moment}
use Rattle.vx_stages.specs.Ends.{refused}
use Rattle.vx_stages.specs.Stages.{HasHeader, HasNoHeader, DeviceEnds, ReadsEach, ReadsAtMost, OnlyReads, IsDone, Stops, Wants}
use Rattle.vx_stages.specs.declared.stage.Stage.TheVariants as stage
use Rattle.vx_house.specs.Goes.{Goes, StageGoes, IsBlankSeen}
use Rattle.vx_house.specs.Holders.{holders, hand_names, AreHeld}
use Rattle.vx_house.specs.Scene.{Shelved, IsBlamed}
use Rattle.vx_house.specs.View.{at, scene, IsMoment, KeepsHouse}
use Rattle.vx_house.specs.declared.house.House.{House}
use Rattle.vx_house.specs.declared.house.Taken.{Taken}
use Rattle.vx_house.specs.declared.stop.Stop.{Stop}
use Rattle.vx_house.specs.declared.stop.Stop.TheVariants.{Ended, OutOfMemory}
use Rattle.vx_house.proofs.Ends.{keeps_ended, goes_ended}
use Rattle.vx_house.proofs.Moments.{moment_at}
use Rattle.vx_stage_devices.specs.Looks.{IsOnlyRead, IsReadOnce, EndsBy, LooksHeaded}
use Rattle.vx_stage_devices.proofs.Blanks.{of_world, ends_counted, ends_blamed, once_keeps, once_faults, once_goes, once_still, most_keeps, most_faults, most_goes}
use Rattle.vx_house.proofs.OnlyInHand.{IsOneCalled, held_before, held_behind, one_in_world}
use Rattle.vx_house.proofs.Hands.{after}

module _ {P : Type 0} {ghosts : Ghosts P} (see : P → Seen) (h k : House P ghosts) (t u : Taken P) (was : h.hand.items ≡ t ∷ []) (is : k.hand.items ≡ u ∷ []) (shelf : Shelved) (are : AreHeld shelf.held (holders see h)) (keeps : KeepsHouse see h) where
  each_one : (R : Taken P → Taken P → Type 0) → R t u → Each R h.hand.items k.hand.items
  each_one R goes = subst (λ ts. Each R ts k.hand.items) (sym was) (subst (λ us. Each R (t ∷ []) us) (sym is) (goes, tt))

  named : hand_names h ≡ t.device ∷ []
  named = ap (map (λ x. x.device)) was

  once_here : IsReadOnce see t u → Goes see (λ m n. HasHeader m.world t.device × (n.world ≡ m.world) × ReadsEach (hand_names h) m.counts n.counts) (at shelf h) (at shelf (after h k)) → Goes see (λ m n. HasHeader m.world t.device × (n.world ≡ m.world) × ReadsEach (t.device ∷ []) m.counts n.counts) (at shelf h) (at shelf (after h k))
  once_here once goes = subst (λ ns. Goes see (λ m n. HasHeader m.world t.device × (n.world ≡ m.world) × ReadsEach ns m.counts n.counts) (at shelf h) (at shelf (after h k))) named goes

  called : IsOnlyRead see t u → IsOneCalled see h k t u shelf
  called read = record { was = was; is = is; device = read.device; kept = read.kept; are = are; keeps = keeps }

  headed_ends : (end : End) → IsOnlyRead see t u → (IsBlankSeen (see t.piece) × (end ≡ refused (NotInitialised t.device))) ⊎ EndsBy see t end u → (m : Moment) → IsMoment see (at shelf h) m → (HasNoHeader m.world t.device × (end ≡ refused (NotInitialised t.device))) ⊎ DeviceEnds t.device m end (moment_at m.world (scene see (at shelf (after h k))))
  headed_ends end read (inl (blank, end_is)) m moment = inl (of_world m.world t.device (see t.piece) (λ c. header_of (c 0) ≡ None) (one_in_world (called read) m moment) blank, end_is)
  headed_ends end read (inr ends) m moment = inr (ends_counted see shelf (holders see h) (holders see (after h k)) t u read.device (held_before (called read)) (held_behind (called read)) m end (moment.counts.faults t.device) ends)

  headed_blamed : (end : End) → IsOnlyRead see t u → (IsBlankSeen (see t.piece) × (end ≡ refused (NotInitialised t.device))) ⊎ EndsBy see t end u → IsBlamed end (scene see (at shelf h)) (scene see (at shelf (after h k)))
  headed_blamed end read (inl (blank, end_is)) = subst (λ e. IsBlamed e (scene see (at shelf h)) (scene see (at shelf (after h k)))) (sym end_is) tt
  headed_blamed end read (inr ends) = ends_blamed see shelf (holders see h) (holders see (after h k)) t u read.device (held_before (called read)) (held_behind (called read)) end ends

  pub headed_look : (disks : List DiskAt) (result : Result (Unit {0}) Stop) → LooksHeaded see t result u → StageGoes see (stage.LookHeaded t.device) disks result (at shelf h) (at shelf (after h k))
  headed_look disks (Ok v) (once, headed) = record {
    keeps = once_keeps see h k shelf are keeps (each_one (IsReadOnce see) once);
    goes = once_here once (once_goes see h k shelf are keeps (each_one (IsReadOnce see) once) (λ w. HasHeader w t.device) (λ m moment. of_world m.world t.device (see t.piece) (λ c. IsSome (header_of (c 0))) (one_in_world (called once.read) m moment) headed));
    gives = tt;
    still = λ _. once_still see h k shelf are keeps (each_one (IsReadOnce see) once);
    faults = once_faults see h k shelf are keeps (each_one (IsReadOnce see) once);
    blamed = tt;
  }
  headed_look disks (Err (Ended end)) (read, ends) = record {
    keeps = keeps_ended see end (at shelf (after h k)) (most_keeps see h k shelf are keeps (each_one (IsOnlyRead see) read));
    goes = goes_ended see (IsDone (stage.LookHeaded t.device) disks) (Stops (stage.LookHeaded t.device) disks) (Wants (stage.LookHeaded t.device)) end (at shelf h) (at shelf (after h k))
        (subst (λ ns. Goes see (λ m n. OnlyReads (ReadsAtMost ns) m n × ((HasNoHeader m.world t.device × (end ≡ refused (NotInitialised t.device))) ⊎ DeviceEnds t.device m end n)) (at shelf h) (at shelf (after h k))) named
        (most_goes see h k shelf are keeps (each_one (IsOnlyRead see) read) end (λ m e n. (HasNoHeader m.world t.device × (e ≡ refused (NotInitialised t.device))) ⊎ DeviceEnds t.device m e n) (headed_ends end read ends)));
    gives = tt;
    still = λ _. tt;
    faults = most_faults see h k shelf are keeps (each_one (IsOnlyRead see) read);
    blamed = headed_blamed end read ends;
  }
  headed_look disks (Err OutOfMemory) never = absurd never
