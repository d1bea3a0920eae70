-- The stage that wipes out the header of the only device in hand.
use Rattle.std.proofs.Common.{◌≡◌, ◌∙◌, ℕ, Bool, true, false, List, [], ◌∷◌, Option, Some, None, Ok, Err, Result, refl, sym, ap, subst, arith}
use Rattle.vx_pages.specs.declared.local_piece.LocalPiece.{Ghosts}
use Rattle.vx_base.specs.Blocks.{Contents, written, IsTorn}
use Rattle.vx_base.specs.Counts.{later_count}
use Rattle.vx_piece.specs.Seen.{Seen, Writes, count_after}
use Rattle.vx_piece.specs.declared.piece.PieceFault.{PieceFault}
use Rattle.vx_script_words.specs.declared.value.DiskAt.{DiskAt}
use Rattle.vx_answers.specs.declared.answer.End.{End}
use Rattle.vx_moments.specs.World.{Device}
use Rattle.vx_moments.specs.Moment.{Moment, Counts}
use Rattle.vx_stages.specs.Stages.{WritesOne, WritesAtMost, IsDone, Stops, Wants}
use Rattle.vx_stages.specs.declared.stage.Stage.TheVariants as stage
use Rattle.vx_house.specs.Goes.{Goes, StageGoes}
use Rattle.vx_house.specs.Holders.{holders, AreHeld}
use Rattle.vx_house.specs.Scene.{Shelved, count_in, counts_of}
use Rattle.vx_house.specs.View.{at, scene, IsMoment, KeepsHouse}
use Rattle.vx_house.specs.declared.house.House.{House}
use Rattle.vx_house.specs.declared.house.Taken.{Taken}
use Rattle.vx_house.specs.declared.stop.Stop.{Stop}
use Rattle.vx_house.specs.declared.stop.Stop.TheVariants.{Ended, OutOfMemory}
use Rattle.vx_house.proofs.Ends.{keeps_ended, goes_ended}
use Rattle.vx_house.proofs.Moments.{moment_at}
use Rattle.vx_stage_devices.specs.Looks.{EndsBy}
use Rattle.vx_stage_devices.specs.Wipes.{zero_sector, all_written, not_written, IsWiped, IsPartlyWiped, Wipes}
use Rattle.vx_stage_devices.proofs.Blanks.{ends_counted, ends_blamed}
use Rattle.vx_house.proofs.OnlyInHand.{IsOneCalled, held_before, held_behind, one_keeps, one_faults, one_later, one_in_world, seen_before, seen_now, seen_other, faults_before, faults_now, faults_other, changed, changed_moment}
use Rattle.vx_house.proofs.Steps.{each_name}
use Rattle.vx_house.proofs.Hands.{after}

-- with power all that was handed over is counted
pub counted_with_power : (cut : Bool) (old new : ℕ) → (cut ≡ true → ⊥) → new ≡ count_after cut old zero_sector → new ≡ later_count old 1
counted_with_power true old new power counted = absurd (power refl)
counted_with_power false old new power counted = counted

-- what was told is told as it is now
pub record IsToldOver (R : Contents → Contents → Type 0) (old : Contents) (new : Option Contents) : Type 0 where
  pub contents : Contents
  pub told : new ≡ Some contents
  pub goes : R old contents

told_done : (a b : Option Contents) (c : Contents) → a ≡ Some c → Writes 0 zero_sector a b all_written → IsToldOver (λ c d. (k : ℕ) → d k ≡ written 0 zero_sector c k) c b
told_done None b c is writes = cc
told_done (Some x) None c is writes = absurd writes
told_done (Some x) (Some y) c is writes = record { contents = y; told = refl; goes = let same : x ≡ c = cc in subst (λ (z : Contents). (k : ℕ) → y k ≡ written 0 zero_sector z k) same writes }

told_torn : (fault : PieceFault) (a b : Option Contents) (c : Contents) → a ≡ Some c → Writes 0 zero_sector a b (not_written fault) → IsToldOver (IsTorn 0 zero_sector) c b
told_torn fault None b c is writes = cc
told_torn fault (Some x) None c is writes = absurd writes
told_torn fault (Some x) (Some y) c is writes = record { contents = y; told = refl; goes = let same : x ≡ c = cc in subst (λ (z : Contents). IsTorn 0 zero_sector z y) same writes }

module _ {P : Type 0} {ghosts : Ghosts P} (see : P → Seen) (h k : House P ghosts) (t u : Taken P) (was : h.hand.items ≡ t ∷ []) (is : k.hand.items ≡ u ∷ []) (shelf : Shelved) (are : AreHeld shelf.held (holders see h)) (keeps : KeepsHouse see h) where
  wiped_called : IsWiped see t u → IsOneCalled see h k t u shelf
  wiped_called wiped = record { was = was; is = is; device = wiped.device; kept = wiped.kept; are = are; keeps = keeps }

  torn_called : IsPartlyWiped see t u → IsOneCalled see h k t u shelf
  torn_called torn = record { was = was; is = is; device = torn.device; kept = torn.kept; are = are; keeps = keeps }

  module _ (wiped : IsWiped see t u) (m : Moment) (moment : IsMoment see (at shelf h) m) where
    abbrev new_counts : Counts
    new_counts = counts_of (scene see (at shelf (after h k)))

    writes_one : WritesOne t.device m.counts new_counts
    writes_one = record {
      this = ap (count_in (λ seen. seen.writes) 0) (seen_now (wiped_called wiped)) ∙ wiped.once
          ∙ ap (λ n. later_count n 1) (sym (moment.counts.writes t.device ∙ ap (count_in (λ seen. seen.writes) 0) (seen_before (wiped_called wiped))));
      others = λ name e. ap (count_in (λ seen. seen.writes) 0) (seen_other (wiped_called wiped) name e) ∙ sym (moment.counts.writes name);
      reads = each_name t.device (λ name. new_counts.reads name ≡ m.counts.reads name)
          (ap (count_in (λ seen. seen.reads) 0) (seen_now (wiped_called wiped)) ∙ wiped.reads
          ∙ sym (moment.counts.reads t.device ∙ ap (count_in (λ seen. seen.reads) 0) (seen_before (wiped_called wiped))))
          (λ name e. ap (count_in (λ seen. seen.reads) 0) (seen_other (wiped_called wiped) name e) ∙ sym (moment.counts.reads name));
      quiet = record {
        devices = each_name t.device (λ name. new_counts.faults name ≡ m.counts.faults name)
            (faults_now (wiped_called wiped) ∙ wiped.quiet ∙ sym (moment.counts.faults t.device ∙ faults_before (wiped_called wiped)))
            (λ name e. faults_other (wiped_called wiped) name e ∙ sym (moment.counts.faults name));
        shelf = sym moment.counts.shelf;
      };
    }

  wiped_goes : (wiped : IsWiped see t u) (disks : List DiskAt) → Goes see (IsDone (stage.Wipe t.device) disks) (at shelf h) (at shelf (after h k))
  wiped_goes wiped disks m moment =
      let there = one_in_world (wiped_called wiped) m moment in
      let over = told_done (see t.piece).told (see u.piece).told there.device.contents there.told wiped.told in
      let d : Device = record { sectors = there.device.sectors; contents = over.contents } in (
        moment_at (changed (wiped_called wiped) m moment d over.told (there.sectors ∙ sym wiped.kept.sectors)) (scene see (at shelf (after h k))),
        changed_moment (wiped_called wiped) m moment d over.told (there.sectors ∙ sym wiped.kept.sectors),
        one_later (wiped_called wiped) m moment,
        (record { device = there.device; contents = over.contents; was = there.was; goes = over.goes; is = refl }, writes_one wiped m moment),
      )

  module _ (torn : IsPartlyWiped see t u) (m : Moment) (moment : IsMoment see (at shelf h) m) where
    abbrev torn_counts : Counts
    torn_counts = counts_of (scene see (at shelf (after h k)))

    writes_most : WritesAtMost t.device m.counts torn_counts
    writes_most = record {
      this =
          let a : torn_counts.writes t.device ≡ (see u.piece).writes = ap (count_in (λ seen. seen.writes) 0) (seen_now (torn_called torn)) in
          let b : m.counts.writes t.device ≡ (see t.piece).writes = moment.counts.writes t.device ∙ ap (count_in (λ seen. seen.writes) 0) (seen_before (torn_called torn)) in
          omega (arith, a, b, torn.most);
      others = λ name e. ap (count_in (λ seen. seen.writes) 0) (seen_other (torn_called torn) name e) ∙ sym (moment.counts.writes name);
      reads = each_name t.device (λ name. torn_counts.reads name ≡ m.counts.reads name)
          (ap (count_in (λ seen. seen.reads) 0) (seen_now (torn_called torn)) ∙ torn.reads
          ∙ sym (moment.counts.reads t.device ∙ ap (count_in (λ seen. seen.reads) 0) (seen_before (torn_called torn))))
          (λ name e. ap (count_in (λ seen. seen.reads) 0) (seen_other (torn_called torn) name e) ∙ sym (moment.counts.reads name));
    }

  torn_goes : (torn : IsPartlyWiped see t u) (end : End) → EndsBy see t end u → (disks : List DiskAt) → Goes see (λ m n. Stops (stage.Wipe t.device) disks m end n) (at shelf h) (at shelf (after h k))
  torn_goes torn end ends disks m moment =
      let there = one_in_world (torn_called torn) m moment in
      let over = told_torn torn.fault (see t.piece).told (see u.piece).told there.device.contents there.told torn.told in
      let d : Device = record { sectors = there.device.sectors; contents = over.contents } in (
        moment_at (changed (torn_called torn) m moment d over.told (there.sectors ∙ sym torn.kept.sectors)) (scene see (at shelf (after h k))),
        changed_moment (torn_called torn) m moment d over.told (there.sectors ∙ sym torn.kept.sectors),
        one_later (torn_called torn) m moment,
        (
          record { device = there.device; contents = over.contents; was = there.was; goes = over.goes; is = refl },
          writes_most torn m moment,
          ends_counted see shelf (holders see h) (holders see (after h k)) t u torn.device (held_before (torn_called torn)) (held_behind (torn_called torn)) m end (moment.counts.faults t.device) ends,
        ),
      )

  pub wipe_stage : (disks : List DiskAt) (result : Result (Unit {0}) Stop) → Wipes see t result u → StageGoes see (stage.Wipe t.device) disks result (at shelf h) (at shelf (after h k))
  wipe_stage disks (Ok v) wiped = record {
    keeps = one_keeps (wiped_called wiped);
    goes = wiped_goes wiped disks;
    gives = tt;
    still = λ e. cc;
    faults = one_faults (wiped_called wiped);
    blamed = tt;
  }
  wipe_stage disks (Err (Ended end)) (torn, ends) = record {
    keeps = keeps_ended see end (at shelf (after h k)) (one_keeps (torn_called torn));
    goes = goes_ended see (IsDone (stage.Wipe t.device) disks) (Stops (stage.Wipe t.device) disks) (Wants (stage.Wipe t.device)) end (at shelf h) (at shelf (after h k)) (torn_goes torn end ends disks);
    gives = tt;
    still = λ e. tt;
    faults = one_faults (torn_called torn);
    blamed = ends_blamed see shelf (holders see h) (holders see (after h k)) t u torn.device (held_before (torn_called torn)) (held_behind (torn_called torn)) end ends;
  }
  wipe_stage disks (Err OutOfMemory) never = absurd never
