-- Coming to rest with a firm log is a pass on one running volume of the group.
use Rattle.std.proofs.Common.{◌≡◌, ◌∙◌, cond, Some, Result, Ok, Err, sym, ap, subst}
use Rattle.std.specs.Prelude.{is_some}
use Rattle.std.specs.List.{All}
use Rattle.vx_pages.specs.declared.local_piece.LocalPiece.{Ghosts}
use Rattle.vx_base.specs.Named.{Word}
use Rattle.vx_base.proofs.NamedLemmas.{bytes_eq_self}
use Rattle.vx_piece.specs.Seen.{Seen}
use Rattle.vx_confdb.specs.Groups.{members}
use Rattle.vx_fronts.specs.Parted.{IsOfSome}
use Rattle.vx_volume.specs.declared.fault.IoFault.{IoFault}
use Rattle.vx_volume.specs.declared.fault.IoFault.TheVariants.{Fault, PowerLost, Range}
use Rattle.vx_volume.specs.Switching.{IsSettled, IsTight}
use Rattle.vx_volume.specs.Volume.{IsVolume, volume_seen}
use Rattle.vx_lending.specs.Left.{held_pieces}
use Rattle.vx_lending.specs.Public.{running_at}
use Rattle.vx_lending.specs.declared.public.Running.{Running}
use Rattle.vx_volume_laws.specs.Lying.{LiesIn}
use Rattle.vx_group_calls.specs.Ending.{device_of}
use Rattle.vx_group_calls.proofs.Sources.{tell_still}
use Rattle.vx_group_volumes.specs.Laws.{GoesOn}
use Rattle.vx_group_volumes.specs.RestLaws.{RestHasReason}
use Rattle.vx_house.specs.View.{IsGroupKept, IsGroupWhole}
use Rattle.vx_house.specs.declared.house.Imported.{Imported}
use Rattle.vx_house_calls.specs.Passes.{IsCalledIn}
use Rattle.vx_house_calls.proofs.Counts.{of_kept}
use Rattle.vx_house_calls.proofs.Groups.{kept_now, of_disks}
use Rattle.vx_house_calls.proofs.Houses.{disk_of, rose_there}
use Rattle.vx_stage_volumes.specs.Resting.{HasFaultDisk, MayRest}
use Rattle.vx_stage_mirrors.specs.Settling.{SettlesIn}
use Rattle.vx_stage_mirrors.proofs.MarkingFacts.{any_disk}
use Rattle.vx_stage_mirrors.proofs.MarkingMoments.{PassFacts}
use Rattle.vx_stage_mirrors.proofs.Settlings.{FirmLaws, all_settled, come_exact, come_goes, come_reason, come_runs}

module _ {P : Type 0} {ghosts : Ghosts P} (alike : (p q : P) → is_some (ghosts.seen p).told ≡ is_some (ghosts.seen q).told) (g now : Imported P ghosts) (name : Word) (result : Result (Unit {0}) IoFault)
    (may : MayRest ghosts.seen (running_at g.public name)) (settles : SettlesIn ghosts.seen name result g now) where
  abbrev see : P → Seen
  see = ghosts.seen

  abbrev before : Running P ghosts
  before = settles.runs.before

  abbrev after : Running P ghosts
  after = settles.runs.after

  pub was_whole : IsVolume (volume_seen see before.volume)
  was_whole = subst (MayRest see) settles.runs.was may

  pub settle_goes : GoesOn see before.volume after.volume
  settle_goes = come_goes before.volume after.volume result settles.runs.comes settles.runs.follows was_whole settles.runs.whole

  abbrev pub settle_called : IsCalledIn see name g now
  settle_called = record {
    before = before;
    after = after;
    was = settles.runs.was;
    entries = settles.runs.entries;
    puts = settles.runs.puts;
    same = settles.same;
    called = record { each = settle_goes.together.stays; goes = settle_goes.together.goes };
    tells = tell_still before.volume after.volume alike settle_goes.together.stays;
    whole = settles.runs.whole;
    form = settles.runs.form;
    shape = settles.runs.shape;
    lies = λ numbers was. subst (λ f. LiesIn see numbers f after.volume) (sym settles.runs.form) (settle_goes.lies numbers before.form was);
    dead = settle_goes.cut;
  }

  -- the group is kept
  pub settle_keeps : IsGroupKept see g → IsGroupKept see now
  settle_keeps kept = subst (λ x. (is : IsCalledIn see name g x) → IsGroupKept see x) (sym settles.same) (λ is. kept_now see name g now.public.running is kept) settle_called

  abbrev pub settle_facts : FirmLaws → PassFacts see name g now
  settle_facts laws = record {
    called = settle_called;
    goes = settle_goes;
    follows = settles.runs.follows;
    runs = λ plexes w run owners failed fit told. come_runs before.volume after.volume result settles.runs.comes settles.runs.follows was_whole settles.runs.whole laws plexes w run owners failed fit told;
    exact = λ plexes w run well exact. come_exact before.volume after.volume result settles.runs.comes settles.runs.follows was_whole settles.runs.whole plexes w run well exact;
  }

  pub settle_reason : (fault : IoFault) → result ≡ Err fault → RestHasReason see (Err fault) before.volume after.volume
  settle_reason fault is = come_reason before.volume after.volume result settles.runs.comes settles.runs.follows was_whole settles.runs.whole fault is

  -- a device that failed is that of one of the disks
  pub settle_fault_disk : (fault : IoFault) → result ≡ Err fault → IsGroupWhole see g → HasFaultDisk see g.base.disks.items fault
  settle_fault_disk fault is whole = by fault (settle_reason fault is)
    where
      disks : All (IsOfSome (members see g.base)) (held_pieces see before.volume)
      disks = subst (λ x. (is : IsCalledIn see name g x) → All (IsOfSome (members see g.base)) (held_pieces see is.before.volume)) (sym settles.same) (λ is. of_disks see name g now.public.running is whole) settle_called

      by : (f : IoFault) → RestHasReason see (Err f) before.volume after.volume → HasFaultDisk see g.base.disks.items f
      by (Fault place) rose =
          let held = held_pieces see before.volume in
          let held' = held_pieces see after.volume in
          any_disk see (device_of place) g.base.disks.items
          (disk_of (members see g.base) held (device_of place) disks (rose_there held held' (device_of place) (of_kept held held' (device_of place) settle_goes.together.stays) rose))
      by PowerLost rose = tt
      by Range rose = absurd rose

  -- the running volume then
  pub settled_there : running_at now.public name ≡ Some after
  settled_there = settles.runs.puts name ∙ ap (λ b. cond b (Some after) (running_at g.public name)) (bytes_eq_self name)

-- where nothing failed all regions are settled, and nothing is loose
module _ {P : Type 0} {ghosts : Ghosts P} (see : P → Seen) (g now : Imported P ghosts) (name : Word) (settles : SettlesIn see name (Ok tt) g now) where
  pub is_tight : IsTight (volume_seen see settles.runs.after.volume)
  is_tight = settles.runs.comes.1

  pub is_settled : FirmLaws → IsVolume (volume_seen see settles.runs.before.volume) → IsSettled (volume_seen see settles.runs.after.volume)
  is_settled laws whole = all_settled (Ok tt) (volume_seen see settles.runs.before.volume) (volume_seen see settles.runs.after.volume) settles.runs.comes.0 whole laws
