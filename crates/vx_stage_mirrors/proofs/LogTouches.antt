-- What was called of a group as an empty log was made for a volume of its next configuration, or was not: nothing, or copies of the log, which
-- are the volume's own by that configuration.
use Rattle.std.proofs.Common.{◌≡◌, ◌⊎◌, inl, inr, ℕ, ◌^◌, true, false, List, [], ◌++◌, map, sym, ap, subst}
use Rattle.std.specs.Global.{Vec}
use Rattle.std.proofs.lemmas.Bool.{false≢true}
use Rattle.std.proofs.lemmas.List.{append-nil}
use Rattle.vx_pages.specs.declared.local_piece.LocalPiece.{Ghosts}
use Rattle.vx_base.specs.Named.{Word}
use Rattle.vx_piece.specs.Seen.{Seen}
use Rattle.vx_carve.specs.Together.{SameSectors}
use Rattle.vx_carve.proofs.Same.{same_beside, same_refl, same_trans}
use Rattle.vx_layout.specs.declared.layout.Layout.{Layout}
use Rattle.vx_config_parts.specs.declared.disk.Disk.{Disk}
use Rattle.vx_config_parts.specs.declared.vol.Vol.{Vol}
use Rattle.vx_objects.specs.declared.config.Config.{Config}
use Rattle.vx_confdb.specs.Groups.{members}
use Rattle.vx_image.proofs.Members.{is_in}
use Rattle.vx_lending.specs.FormLaws.{good_disks}
use Rattle.vx_lending.specs.Pieces.{copy_pieces}
use Rattle.vx_lending.specs.Public.{lent_pieces, still_pieces}
use Rattle.vx_lending.specs.declared.public.Running.{Running}
use Rattle.vx_lending.proofs.Goings.{go_same}
use Rattle.vx_group_start.specs.Laying.{AreStuckVolumes}
use Rattle.vx_group_start.specs.Together.{GoByLog}
use Rattle.vx_group_volumes.specs.Places.{IsSlotOf}
use Rattle.vx_group_volumes.proofs.Taken.{sector_own as taken_sector}
use Rattle.vx_house.specs.Runs.{IsNumbered}
use Rattle.vx_house.specs.View.{IsGroupKept, member_of}
use Rattle.vx_house.specs.declared.house.Imported.{Imported}
use Rattle.vx_house.specs.declared.stop.Stop.{Stop}
use Rattle.vx_stage_volumes.specs.Opening.{AreSlotNumbers, SameButStill, good_of}
use Rattle.vx_stage_volumes.specs.Touching.{AreOwnSectors, IsTouchedIn, behind_of}
use Rattle.vx_stage_volumes.proofs.Slots.{slot_is_good, slot_numbered}
use Rattle.vx_stage_volumes.proofs.TouchedBy.{all_still, cut_same, cuts, own_from, touched_to}
use Rattle.vx_stage_mirrors.specs.Making.{IsFormNext, IsUnmadeIn, MakesIn}

-- ---- what was called

-- copies of the log that the volume has by the configuration were called, to be made a new one
pub record IsLogCalled {P : Type 0} {ghosts : Ghosts P} (see : P → Seen) (c : Config) (v : Vol) (old new : Imported P ghosts) : Type 0 where
  pub form_next : IsFormNext see old c v
  pub log : GoByLog form_next.numbers form_next.form true (still_pieces see old.public) (still_pieces see new.public)

-- they were, or nothing was
abbrev pub IsLogTried : {P : Type 0} {ghosts : Ghosts P} → (P → Seen) → Config → Vol → Imported P ghosts → Imported P ghosts → Type 0
IsLogTried see c v old new = SameSectors (still_pieces see old.public) (still_pieces see new.public) ⊎ IsLogCalled see c v old new

-- where the log was made, ..
abbrev pub made_log : {P : Type 0} {ghosts : Ghosts P} (see : P → Seen) (c : Config) (v : Vol) (layouts : List Layout) (old new : Imported P ghosts) → (is : MakesIn see c v layouts old new) → GoByLog is.by.numbers is.by.form true (still_pieces see old.public) (still_pieces see new.public)
made_log see c v layouts old new is = record { copies = is.made.copies; are = is.made.are; go = is.made.go; nearer = λ loaded. absurd (false≢true (sym loaded)) }

pub made_called : {P : Type 0} {ghosts : Ghosts P} (see : P → Seen) (c : Config) (v : Vol) (layouts : List Layout) (old new : Imported P ghosts) → MakesIn see c v layouts old new → IsLogCalled see c v old new
made_called see c v layouts old new is = record { form_next = is.by; log = made_log see c v layouts old new is }

-- .. and where not
pub unmade_tried : {P : Type 0} {ghosts : Ghosts P} (see : P → Seen) (c : Config) (v : Vol) (stop : Stop) (old new : Imported P ghosts) → IsUnmadeIn see c v stop old new → IsLogTried see c v old new
unmade_tried see c v stop old new is = elim is.cause [
  | inl (wants, same) ↦ inl (subst (λ ps. SameSectors (still_pieces see old.public) ps) (sym same) (same_refl (still_pieces see old.public)))
  | inr (fault, told, unmade) ↦ elim unmade.back [
    | inl still ↦ inl still
    | inr log ↦ inr (record { form_next = unmade.by; log = log })
  ]
]

-- ---- of which volume it is

-- Pieces of the group were called, of which each sector is the volume's by the configuration, and by the numbers of these disks; they are disks
-- of the group.
pub record TouchesBy {P : Type 0} {ghosts : Ghosts P} (see : P → Seen) (c : Config) (name : Word) (old new : Imported P ghosts) : Type 0 where
  pub pieces : List Seen
  pub later : List Seen
  pub touched : IsTouchedIn see pieces later old new.public
  pub disks : List Disk
  pub numbers : List ℕ
  pub own : AreOwnSectors c name disks numbers pieces
  pub opened : (slot : ℕ) → IsSlotOf disks slot → IsNumbered numbers (members see old.base) (map member_of old.base.disks.items) slot

module _ {P : Type 0} {ghosts : Ghosts P} (see : P → Seen) (old : Imported P ghosts) (kept : IsGroupKept see old) (c : Config) where
  -- the disks of the configuration that are good have the numbers of their slots
  pub opened_by : (numbers : List ℕ) → AreSlotNumbers see old numbers → (slot : ℕ) → IsSlotOf (good_disks (good_of see old) c.disks) slot → IsNumbered numbers (members see old.base) (map member_of old.base.disks.items) slot
  opened_by numbers are slot on =
      slot_numbered see old.base.disks.items kept.carries.alive.ready numbers (2 ^ 32) are slot
      (slot_is_good (good_of see old) c.disks slot on)

  module _ (v : Vol) (new : Imported P ghosts) (same : SameButStill old new) where
    running : new.public.running.entries ≡ old.public.running.entries
    running i = (same.running i).entries

    stuck : new.public.stuck.items ≡ old.public.stuck.items
    stuck = ap (λ (s : Vec (Running P ghosts)). s.items) same.stuck

    stuck_kept : AreStuckVolumes see new.public.stuck.items
    stuck_kept = subst (AreStuckVolumes see) (sym stuck) kept.whole.stuck

    there : SameSectors (still_pieces see new.public ++ lent_pieces see old.public) (behind_of see new.public)
    there = all_still see old new.public running stuck

    -- nothing was called
    untouched : SameSectors (still_pieces see old.public) (still_pieces see new.public) → TouchesBy see c v.name old new
    untouched still = record {
      pieces = [];
      later = [];
      touched = record {
        running = running;
        stuck = stuck_kept;
        others = behind_of see old.public;
        were = subst (λ ps. SameSectors (behind_of see old.public) ps) (sym (append-nil (behind_of see old.public)))
            (same_refl (behind_of see old.public));
        are = subst (λ ps. SameSectors ps (behind_of see new.public)) (sym (append-nil (behind_of see old.public)))
            (same_trans _ _ _
            (same_beside (lent_pieces see old.public) (still_pieces see old.public) (still_pieces see new.public) still) there);
        called = record { each = tt; goes = go_same [] };
        tells = λ tells. tells;
      };
      disks = [];
      numbers = [];
      own = λ device k any. absurd (false≢true any);
      opened = λ slot on. absurd (is_in [] on.0 on.1);
    }

    -- copies of the log were
    by_log : IsLogCalled see c v old new → TouchesBy see c v.name old new
    by_log is = record {
      pieces = cuts see old is.log.copies (still_pieces see new.public) is.log.go;
      later = copy_pieces is.log.go.later;
      touched = touched_to see old is.log.copies (still_pieces see new.public) is.log.go new.public running stuck_kept there;
      disks = good_disks (good_of see old) c.disks;
      numbers = is.form_next.numbers;
      own = own_from c v.name (good_disks (good_of see old) c.disks) is.form_next.numbers (copy_pieces is.log.copies)
          (cuts see old is.log.copies (still_pieces see new.public) is.log.go)
          (cut_same see old is.log.copies (still_pieces see new.public) is.log.go)
          (taken_sector c (good_of see old) v false is.form_next.form is.form_next.form_is is.form_next.numbers is.log.copies is.log.are);
      opened = opened_by is.form_next.numbers is.form_next.are;
    }

    pub touches : IsLogTried see c v old new → TouchesBy see c v.name old new
    touches (inl still) = untouched still
    touches (inr log) = by_log log
