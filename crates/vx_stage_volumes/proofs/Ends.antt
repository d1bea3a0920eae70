-- How the stop of a volume of a group ends, by how each step of it did.
use Rattle.std.proofs.Common.{◌≡◌, ℕ, List, [], Ok, Err, refl, sym, subst, inl, inr}
use Rattle.vx_pages.specs.declared.local_piece.LocalPiece.{Ghosts}
use Rattle.vx_base.specs.Named.{Word}
use Rattle.vx_piece.specs.Seen.{Seen}
use Rattle.vx_copies.specs.declared.disk.Disk.{Disk}
use Rattle.vx_objects.specs.declared.config.Config.{Config}
use Rattle.vx_answers.specs.declared.answer.End.{End}
use Rattle.vx_answers.specs.declared.answer.End.TheVariants as ends
use Rattle.vx_answers.specs.declared.refusal.Refusal.{Refusal}
use Rattle.vx_state_edits.specs.Edits.{stop_edits}
use Rattle.vx_volume.specs.declared.fault.IoFault.{IoFault}
use Rattle.vx_volume.specs.declared.fault.IoFault.TheVariants.{Fault, PowerLost, Range}
use Rattle.vx_house.specs.declared.house.Imported.{Imported}
use Rattle.vx_house.specs.declared.stop.Stop.{Stop}
use Rattle.vx_house.specs.declared.stop.Stop.TheVariants as stops
use Rattle.vx_stage_changes.specs.Committing.{IsFinished}
use Rattle.vx_stage_changes.specs.Changing.{IsMeant}
use Rattle.vx_stage_volumes.specs.Laying.{IsLaid}
use Rattle.vx_stage_volumes.specs.Resting.{IsFaultTold}
use Rattle.vx_stage_volumes.specs.Stopping.{IsRested, IsStoppedIn, IsUnready, IsUnrested, RecordEnds, StopEnds}

-- ---- a test refuses it

refused_end : {P : Type 0} {ghosts : Ghosts P} (name : Word) (g : Imported P ghosts) (end : End) → IsUnready name g (stops.Ended end) → (r : Refusal) × (end ≡ ends.Refused r)
refused_end name g end (inl (r, is, same)) = (r, same)
refused_end name g end (inr (v, found, passes, long)) = (_, long.2.3)

pub unready_ends : {P : Type 0} {ghosts : Ghosts P} (see : P → Seen) (name : Word) (g : Imported P ghosts) (stop : Stop) → IsUnready name g stop → StopEnds see name (Err stop) g g
unready_ends see name g stops.OutOfMemory is = inl refl
unready_ends see name g (stops.Ended (ends.Refused r)) is = (refl, is)
unready_ends see name g (stops.Ended ends.GroupLost) is = let e = (refused_end name g ends.GroupLost is).1 in absurd cc
unready_ends see name g (stops.Ended (ends.Lost parts)) is = let e = (refused_end name g (ends.Lost parts) is).1 in absurd cc
unready_ends see name g (stops.Ended (ends.Done copied parts blocks)) is = let e = (refused_end name g (ends.Done copied parts blocks) is).1 in absurd cc
unready_ends see name g (stops.Ended (ends.Fault told device parts)) is = let e = (refused_end name g (ends.Fault told device parts) is).1 in absurd cc
unready_ends see name g (stops.Ended ends.ShelfFailed) is = let e = (refused_end name g ends.ShelfFailed is).1 in absurd cc

-- ---- it was not brought to rest

-- what is told then is a fault, or that the power is gone
never_told : {P : Type 0} (see : P → Seen) (ds : List (Disk P)) (fault : IoFault) (stop : Stop) → IsFaultTold see ds fault stop → ((told device : Word) → stop ≡ stops.Ended (ends.Fault told device []) → ⊥) → (stop ≡ stops.Ended (ends.Lost []) → ⊥) → ⊥
never_told see ds (Fault place) stop (told, device, same, any) fault lost = fault told device same
never_told see ds PowerLost stop told fault lost = lost told
never_told see ds Range stop told fault lost = told

pub unrested_ends : {P : Type 0} {ghosts : Ghosts P} (see : P → Seen) (name : Word) (g g' : Imported P ghosts) (stop : Stop) → IsUnrested see name stop g g' → StopEnds see name (Err stop) g g'
unrested_ends see name g g' stops.OutOfMemory is = absurd (never_told see is.room.base.disks.items is.fault stops.OutOfMemory is.told (λ told device e. cc) (λ e. cc))
unrested_ends see name g g' (stops.Ended ends.GroupLost) is = absurd (never_told see is.room.base.disks.items is.fault (stops.Ended ends.GroupLost) is.told (λ told device e. cc) (λ e. cc))
unrested_ends see name g g' (stops.Ended (ends.Lost parts)) is = inl is
unrested_ends see name g g' (stops.Ended (ends.Refused r)) is = absurd (never_told see is.room.base.disks.items is.fault (stops.Ended (ends.Refused r)) is.told (λ told device e. cc) (λ e. cc))
unrested_ends see name g g' (stops.Ended (ends.Done copied parts blocks)) is = is
unrested_ends see name g g' (stops.Ended (ends.Fault told device parts)) is = is
unrested_ends see name g g' (stops.Ended ends.ShelfFailed) is = is

-- ---- it was

module _ {P : Type 0} {ghosts : Ghosts P} (see : P → Seen) (name : Word) (g mid g' : Imported P ghosts) (rested : IsRested see name g mid) (same : mid.config ≡ g.config) where
  meant_first : (next : Config) (text : List ℕ) → IsMeant (stop_edits mid.config rested.of rested.marks) mid.config next text → IsMeant (stop_edits g.config rested.of rested.marks) g.config next text
  meant_first next text meant = subst (λ (c : Config). IsMeant (stop_edits c rested.of rested.marks) c next text) same meant

  pub recorded_ends : (stop : Stop) → RecordEnds see (stop_edits mid.config rested.of rested.marks) (Err stop) mid g' → StopEnds see name (Err stop) g g'
  recorded_ends stops.OutOfMemory is = inr (inr (subst (IsRested see name g) (sym is) rested))
  recorded_ends (stops.Ended ends.GroupLost) (public, (next, text, meant, tried, risen)) =
      (record { mid = mid; rested = rested; next = next; text = text; meant = meant_first next text meant; tried = tried; public = public }, risen)
  recorded_ends (stops.Ended (ends.Lost parts)) (none, public, (next, text, meant, tried, cut)) =
      inr (none, record { mid = mid; rested = rested; next = next; text = text; meant = meant_first next text meant; tried = tried; public = public }, cut)
  recorded_ends (stops.Ended (ends.Refused r)) is = absurd is
  recorded_ends (stops.Ended (ends.Done copied parts blocks)) is = absurd is
  recorded_ends (stops.Ended (ends.Fault told device parts)) is = absurd is
  recorded_ends (stops.Ended ends.ShelfFailed) is = absurd is

  -- its states are committed, and it was laid down then
  pub laid_ends : (now : Imported P ghosts) → RecordEnds see (stop_edits mid.config rested.of rested.marks) (Ok tt) mid now → g'.config ≡ now.config → g'.base ≡ now.base → IsLaid see name now.public g'.public → IsStoppedIn see name g g'
  laid_ends now (public, (text, meant, finished)) config base laid = record {
    mid = mid;
    rested = rested;
    text = text;
    meant = subst (λ (c : Config). IsMeant (stop_edits g.config rested.of rested.marks) g.config c text) (sym config) (meant_first now.config text meant);
    finished = subst (IsFinished see text mid.base) (sym base) finished;
    laid = subst (λ p. IsLaid see name p g'.public) public laid;
  }
