-- What was called of a group as a volume was not opened: nothing, or copies of its log, which are the volume's own.
use Rattle.std.proofs.Common.{◌≡◌, inl, inr, ℕ, ◌^◌, List, [], ◌++◌, map, sym, ap, subst}
use Rattle.std.specs.Global.{Vec}
use Rattle.std.proofs.lemmas.Bool.{false≢true}
use Rattle.std.proofs.lemmas.List.{append-nil}
use Rattle.vx_pages.specs.declared.local_piece.LocalPiece.{Ghosts}
use Rattle.vx_base.specs.Named.{Word}
use Rattle.vx_piece.specs.Seen.{Seen}
use Rattle.vx_carve.specs.Together.{SameSectors}
use Rattle.vx_carve.proofs.Same.{same_beside, same_refl, same_trans}
use Rattle.vx_config_parts.specs.declared.disk.Disk.{Disk}
use Rattle.vx_config_parts.specs.declared.vol.Vol.{Vol}
use Rattle.vx_confdb.specs.Groups.{members}
use Rattle.vx_image.proofs.Members.{is_in}
use Rattle.vx_lending.specs.Form.{IsFormOf}
use Rattle.vx_lending.specs.FormLaws.{good_disks}
use Rattle.vx_lending.specs.declared.form.VolumeForm.{VolumeForm}
use Rattle.vx_lending.specs.Pieces.{copy_pieces}
use Rattle.vx_lending.specs.Public.{lent_pieces, still_pieces}
use Rattle.vx_lending.specs.declared.public.Running.{Running}
use Rattle.vx_lending.proofs.Goings.{go_same}
use Rattle.vx_group_start.specs.Fresh.{is_fresh}
use Rattle.vx_group_start.specs.Laying.{AreStuckVolumes}
use Rattle.vx_group_start.specs.Together.{ComeBack, GoByLog}
use Rattle.vx_group_volumes.specs.Places.{IsSlotOf}
use Rattle.vx_group_volumes.proofs.Taken.{sector_own as taken_sector}
use Rattle.vx_house.specs.Runs.{IsNumbered}
use Rattle.vx_house.specs.View.{IsGroupKept, member_of}
use Rattle.vx_house.specs.declared.house.Imported.{Imported}
use Rattle.vx_house.specs.declared.stop.Stop.{Stop}
use Rattle.vx_stage_volumes.specs.Opening.{AreSlotNumbers, IsUnopenedIn, SameButStill, good_of}
use Rattle.vx_stage_volumes.specs.Touching.{AreOwnSectors, IsTouchedIn, behind_of}
use Rattle.vx_stage_volumes.proofs.Slots.{slot_is_good, slot_numbered}
use Rattle.vx_stage_volumes.proofs.TouchedBy.{all_still, cut_same, cuts, own_from, touched_to}

-- Pieces of the group were called, of which each sector is the volume's, by the numbers of these disks; they are disks of the group.
pub record TouchesVolume {P : Type 0} {ghosts : Ghosts P} (see : P → Seen) (name : Word) (old new : Imported P ghosts) : Type 0 where
  pub pieces : List Seen
  pub later : List Seen
  pub touched : IsTouchedIn see pieces later old new.public
  pub disks : List Disk
  pub numbers : List ℕ
  pub own : AreOwnSectors old.config name disks numbers pieces
  pub opened : (slot : ℕ) → IsSlotOf disks slot → IsNumbered numbers (members see old.base) (map member_of old.base.disks.items) slot

module _ {P : Type 0} {ghosts : Ghosts P} (see : P → Seen) (old : Imported P ghosts) (kept : IsGroupKept see old) where
  -- the disks that are good have the numbers of their slots
  pub opened_by : (numbers : List ℕ) → AreSlotNumbers see old numbers → (slot : ℕ) → IsSlotOf (good_disks (good_of see old) old.config.disks) slot → IsNumbered numbers (members see old.base) (map member_of old.base.disks.items) slot
  opened_by numbers are slot on =
      slot_numbered see old.base.disks.items kept.carries.alive.ready numbers (2 ^ 32) are slot
      (slot_is_good (good_of see old) old.config.disks slot on)

  module _ (v : Vol) (new : Imported P ghosts) (same : SameButStill old new) where
    running : new.public.running.entries ≡ old.public.running.entries
    running i = (same.running i).entries

    stuck : new.public.stuck.items ≡ old.public.stuck.items
    stuck = ap (λ (s : Vec (Running P ghosts)). s.items) same.stuck

    stuck_kept : AreStuckVolumes see new.public.stuck.items
    stuck_kept = subst (AreStuckVolumes see) (sym stuck) kept.whole.stuck

    there : SameSectors (still_pieces see new.public ++ lent_pieces see old.public) (behind_of see new.public)
    there = all_still see old new.public running stuck

    -- nothing was called
    untouched : SameSectors (still_pieces see old.public) (still_pieces see new.public) → TouchesVolume see v.name old new
    untouched still = record {
      pieces = [];
      later = [];
      touched = record {
        running = running;
        stuck = stuck_kept;
        others = behind_of see old.public;
        were = subst (λ ps. SameSectors (behind_of see old.public) ps) (sym (append-nil (behind_of see old.public)))
            (same_refl (behind_of see old.public));
        are = subst (λ ps. SameSectors ps (behind_of see new.public)) (sym (append-nil (behind_of see old.public)))
            (same_trans _ _ _
            (same_beside (lent_pieces see old.public) (still_pieces see old.public) (still_pieces see new.public) still) there);
        called = record { each = tt; goes = go_same [] };
        tells = λ tells. tells;
      };
      disks = [];
      numbers = [];
      own = λ device k any. absurd (false≢true any);
      opened = λ slot on. absurd (is_in [] on.0 on.1);
    }

    -- copies of the log were called
    by_log : (numbers : List ℕ) → AreSlotNumbers see old numbers → (form : VolumeForm) → IsFormOf old.config (good_of see old) v (is_fresh v.state) form → GoByLog numbers form (is_fresh v.state) (still_pieces see old.public) (still_pieces see new.public) → TouchesVolume see v.name old new
    by_log numbers are form is log = record {
      pieces = cuts see old log.copies (still_pieces see new.public) log.go;
      later = copy_pieces log.go.later;
      touched = touched_to see old log.copies (still_pieces see new.public) log.go new.public running stuck_kept there;
      disks = good_disks (good_of see old) old.config.disks;
      numbers = numbers;
      own = own_from old.config v.name (good_disks (good_of see old) old.config.disks) numbers (copy_pieces log.copies)
          (cuts see old log.copies (still_pieces see new.public) log.go)
          (cut_same see old log.copies (still_pieces see new.public) log.go)
          (taken_sector old.config (good_of see old) v (is_fresh v.state) form is numbers log.copies log.are);
      opened = opened_by numbers are;
    }

    touches_by : (numbers : List ℕ) → AreSlotNumbers see old numbers → ComeBack old.config (good_of see old) v numbers (still_pieces see old.public) (still_pieces see new.public) → TouchesVolume see v.name old new
    touches_by numbers are (inl still) = untouched still
    touches_by numbers are (inr (form, is, log)) = by_log numbers are form is log

  pub unopened_touches : (v : Vol) (new : Imported P ghosts) (stop : Stop) → IsUnopenedIn see v old new stop → TouchesVolume see v.name old new
  unopened_touches v new stop is = elim is.cause [
    | inl (wants, same) ↦ untouched v new is.same
        (subst (λ ps. SameSectors (still_pieces see old.public) ps) (sym same) (same_refl (still_pieces see old.public)))
    | inr (fault, told, refused) ↦ touches_by v new is.same refused.numbers refused.are refused.comes
  ]
