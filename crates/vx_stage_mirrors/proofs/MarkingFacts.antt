-- The marking of a free map is a pass on one running volume of the group.
use Rattle.std.proofs.Common.{◌≡◌, ℕ, List, [], ◌∷◌, map, Result, Err, Some, sym, subst, inl, inr}
use Rattle.std.specs.Prelude.{is_some}
use Rattle.std.specs.List.{All}
use Rattle.vx_pages.specs.declared.local_piece.LocalPiece.{Ghosts}
use Rattle.vx_base.specs.Named.{Word}
use Rattle.vx_piece.specs.Seen.{Seen}
use Rattle.vx_copies.specs.Disks.{disk_seen}
use Rattle.vx_copies.specs.Lists.{AnyOf}
use Rattle.vx_copies.specs.declared.disk.Disk.{Disk}
use Rattle.vx_confdb.specs.Groups.{members}
use Rattle.vx_fronts.specs.Parted.{IsOfSome}
use Rattle.vx_marks.specs.declared.marker.MarkFault.{MarkFault}
use Rattle.vx_volume.specs.declared.fault.IoFault.{IoFault}
use Rattle.vx_volume.specs.declared.fault.IoFault.TheVariants.{Fault, PowerLost, Range}
use Rattle.vx_volume.specs.Changing.{IsFreeIn}
use Rattle.vx_volume.specs.Volume.{IsVolume, volume_seen}
use Rattle.vx_lending.specs.Left.{held_pieces}
use Rattle.vx_lending.specs.Public.{running_at}
use Rattle.vx_volume_laws.specs.Lying.{LiesIn}
use Rattle.vx_lending.specs.declared.public.Running.{Running}
use Rattle.vx_group_calls.specs.Ending.{device_of}
use Rattle.vx_group_calls.proofs.Sources.{tell_still}
use Rattle.vx_group_volumes.specs.Laws.{GoesOn}
use Rattle.vx_group_volumes.specs.RestLaws.{RestHasReason}
use Rattle.vx_house.specs.Scene.{Shelved}
use Rattle.vx_house.specs.View.{IsGroupKept, IsGroupWhole, Keeps, at}
use Rattle.vx_house.specs.declared.house.House.{House}
use Rattle.vx_house.specs.declared.house.Imported.{Imported}
use Rattle.vx_house_calls.specs.Passes.{IsCalledIn}
use Rattle.vx_house_calls.proofs.Counts.{of_kept}
use Rattle.vx_house_calls.proofs.Groups.{kept_now, of_disks}
use Rattle.vx_house_calls.proofs.Houses.{disk_of, rose_there}
use Rattle.vx_stage_volumes.specs.Resting.{HasFaultDisk}
use Rattle.vx_stage_mirrors.specs.MarkingLaws.{EachMarkingRests, RestsMarked}
use Rattle.vx_stage_mirrors.specs.Marking.{MarksIn, MayMark, as_io}
use Rattle.vx_stage_mirrors.specs.declared.marking.Unmarked.{Unmarked}
use Rattle.vx_stage_mirrors.specs.declared.marking.Unmarked.TheVariants as unmarked
use Rattle.vx_stage_mirrors.proofs.MarkingMoments.{PassFacts, pass_blamed, pass_house, pass_stops, rested_at}
use Rattle.vx_stage_mirrors.proofs.MarkedVolume.{SettingLaws, exact_on, fault_reason, goes_on, runs_on}

pub any_disk : {P : Type 0} (see : P → Seen) (number : ℕ) (ds : List (Disk P)) → AnyOf (λ h. h.seen.device ≡ number) (map (disk_seen see) ds) → AnyOf (λ d. (see d.piece).device ≡ number) ds
any_disk see number [] any = any
any_disk see number (d ∷ ds) (inl is) = inl is
any_disk see number (d ∷ ds) (inr more) = inr (any_disk see number ds more)

module _ {P : Type 0} {ghosts : Ghosts P} (alike : (p q : P) → is_some (ghosts.seen p).told ≡ is_some (ghosts.seen q).told) (laws : SettingLaws) (g now : Imported P ghosts) (name : Word) (k : ℕ) (result : Result (Unit {0}) Unmarked)
    (may : MayMark ghosts.seen k (running_at g.public name)) (marks : MarksIn ghosts.seen name k result g now) where
  abbrev see : P → Seen
  see = ghosts.seen

  abbrev before : Running P ghosts
  before = marks.runs.before

  abbrev after : Running P ghosts
  after = marks.runs.after

  was_free : IsVolume (volume_seen see before.volume) × IsFreeIn k (volume_seen see before.volume)
  was_free = subst (MayMark see k) marks.runs.was may

  mark_goes : GoesOn see before.volume after.volume
  mark_goes = goes_on laws k result before.volume after.volume marks.runs.marks was_free.0 was_free.1 marks.runs.follows

  abbrev mark_called : IsCalledIn see name g now
  mark_called = record {
    before = before;
    after = after;
    was = marks.runs.was;
    entries = marks.runs.entries;
    puts = marks.runs.puts;
    same = marks.same;
    called = record { each = mark_goes.together.stays; goes = mark_goes.together.goes };
    tells = tell_still before.volume after.volume alike mark_goes.together.stays;
    whole = marks.runs.whole;
    form = marks.runs.form;
    shape = marks.runs.shape;
    lies = λ numbers was. subst (λ f. LiesIn see numbers f after.volume) (sym marks.runs.form) (mark_goes.lies numbers before.form was);
    dead = mark_goes.cut;
  }

  -- the group is kept
  pub mark_keeps : IsGroupKept see g → IsGroupKept see now
  mark_keeps kept = subst (λ x. (is : IsCalledIn see name g x) → IsGroupKept see x) (sym marks.same) (λ is. kept_now see name g now.public.running is kept) mark_called

  abbrev facts : PassFacts see name g now
  facts = record {
    called = mark_called;
    goes = mark_goes;
    follows = marks.runs.follows;
    runs = λ plexes w run owners failed fit told. runs_on laws k result before.volume after.volume marks.runs.marks was_free.0 was_free.1 marks.runs.follows plexes w run owners failed fit;
    exact = λ plexes w run well exact. exact_on laws k result before.volume after.volume marks.runs.marks was_free.0 was_free.1 marks.runs.follows run.told well exact;
  }

  reason : (fault : MarkFault) → result ≡ Err (unmarked.Fault fault) → RestHasReason see (Err (as_io fault)) before.volume after.volume
  reason fault is = fault_reason laws k result before.volume after.volume marks.runs.marks was_free.0 was_free.1 marks.runs.follows fault is

  -- a device of the log that failed is that of one of the disks
  pub mark_fault_disk : (fault : MarkFault) → result ≡ Err (unmarked.Fault fault) → IsGroupWhole see g → HasFaultDisk see g.base.disks.items (as_io fault)
  mark_fault_disk fault is whole = by (as_io fault) (reason fault is)
    where
      disks : All (IsOfSome (members see g.base)) (held_pieces see before.volume)
      disks = subst (λ x. (is : IsCalledIn see name g x) → All (IsOfSome (members see g.base)) (held_pieces see is.before.volume)) (sym marks.same) (λ is. of_disks see name g now.public.running is whole) mark_called

      by : (f : IoFault) → RestHasReason see (Err f) before.volume after.volume → HasFaultDisk see g.base.disks.items f
      by (Fault place) rose =
          let held = held_pieces see before.volume in
          let held' = held_pieces see after.volume in
          any_disk see (device_of place) g.base.disks.items
          (disk_of (members see g.base) held (device_of place) disks (rose_there held held' (device_of place) (of_kept held held' (device_of place) mark_goes.together.stays) rose))
      by PowerLost rose = tt
      by Range rose = absurd rose

  module _ (shelf : Shelved) (h : House P ghosts) (has_group : h.group ≡ Some g) (keeps : Keeps see (at shelf h)) where
    pub rests_marked : RestsMarked see shelf h name k result g now marks
    rests_marked = record {
      keeps = (pass_house shelf h g now has_group name facts keeps).keeps;
      faults = (pass_house shelf h g now has_group name facts keeps).faults;
      moments = λ m is. rested_at shelf h g now has_group name facts keeps m is;
      ended = λ fault is end told m at_m. pass_stops shelf h g now has_group name facts keeps m at_m (as_io fault) (reason fault is) end told;
      blamed = λ fault is end told. pass_blamed shelf h g now has_group name facts keeps (as_io fault) (reason fault is) end told;
    }

pub marking_rests : {P : Type 0} {ghosts : Ghosts P} → SettingLaws → (h : House P ghosts) (old new : Imported P ghosts) → EachMarkingRests ghosts.seen h old new
marking_rests laws h old new shelf name k result alike has_group may marks keeps = rests_marked alike laws old new name k result may marks shelf h has_group keeps
