-- What coming to rest leaves of a group: one running volume of it was called.
use Rattle.std.proofs.Common.{◌≡◌, ℕ, List, [], ◌∷◌, map, Result, Err, sym, subst, inl, inr}
use Rattle.std.specs.Prelude.{is_some}
use Rattle.std.specs.List.{All}
use Rattle.vx_pages.specs.declared.local_piece.LocalPiece.{Ghosts}
use Rattle.vx_base.specs.Counts.{Rose}
use Rattle.vx_base.specs.Named.{Word}
use Rattle.vx_piece.specs.Seen.{Seen}
use Rattle.vx_carve.specs.Together.{HasSome, faults_on}
use Rattle.vx_copies.specs.Disks.{disk_seen}
use Rattle.vx_copies.specs.Lists.{AnyOf}
use Rattle.vx_copies.specs.declared.disk.Disk.{Disk}
use Rattle.vx_confdb.specs.Groups.{members}
use Rattle.vx_fronts.specs.Parted.{IsOfSome}
use Rattle.vx_volume.specs.declared.fault.IoFault.{IoFault}
use Rattle.vx_volume.specs.declared.fault.IoFault.TheVariants.{Fault, PowerLost, Range}
use Rattle.vx_lending.specs.Left.{held_pieces}
use Rattle.vx_volume_laws.specs.Lying.{LiesIn}
use Rattle.vx_lending.specs.declared.public.Running.{Running}
use Rattle.vx_group_calls.specs.Ending.{device_of}
use Rattle.vx_group_calls.proofs.Sources.{tell_still}
use Rattle.vx_group_volumes.specs.Laws.{GoesOn}
use Rattle.vx_group_volumes.specs.RestLaws.{RestHasReason}
use Rattle.vx_group_volumes.proofs.Passes.{rest_goes_on}
use Rattle.vx_group_volumes.proofs.Reasons.{rest_reason}
use Rattle.vx_house.specs.View.{IsGroupKept, IsGroupWhole}
use Rattle.vx_house.specs.declared.house.Imported.{Imported}
use Rattle.vx_house_calls.specs.Passes.{IsCalledIn}
use Rattle.vx_house_calls.proofs.Counts.{of_kept}
use Rattle.vx_house_calls.proofs.Groups.{kept_now, of_disks, some}
use Rattle.vx_house_calls.proofs.Houses.{disk_of, rose_there}
use Rattle.vx_stage_volumes.specs.Resting.{HasFaultDisk, RestsIn}

any_disk : {P : Type 0} (see : P → Seen) (number : ℕ) (ds : List (Disk P)) → AnyOf (λ h. h.seen.device ≡ number) (map (disk_seen see) ds) → AnyOf (λ d. (see d.piece).device ≡ number) ds
any_disk see number [] any = any
any_disk see number (d ∷ ds) (inl is) = inl is
any_disk see number (d ∷ ds) (inr more) = inr (any_disk see number ds more)

module _ {P : Type 0} {ghosts : Ghosts P} (alike : (p q : P) → is_some (ghosts.seen p).told ≡ is_some (ghosts.seen q).told) (g now : Imported P ghosts) (name : Word) (result : Result ℕ IoFault) (rests : RestsIn ghosts.seen name result g now) where
  abbrev see : P → Seen
  see = ghosts.seen

  abbrev before : Running P ghosts
  before = rests.runs.before

  abbrev after : Running P ghosts
  after = rests.runs.after

  pub rest_goes : GoesOn see before.volume after.volume
  rest_goes = rest_goes_on before.volume after.volume result rests.runs.rests rests.runs.follows

  abbrev pub rest_called : IsCalledIn see name g now
  rest_called = record {
    before = before;
    after = after;
    was = rests.runs.was;
    entries = rests.runs.entries;
    puts = rests.runs.puts;
    same = rests.same;
    called = record { each = rest_goes.together.stays; goes = rest_goes.together.goes };
    tells = tell_still before.volume after.volume alike rest_goes.together.stays;
    whole = rests.runs.whole;
    form = rests.runs.form;
    shape = rests.runs.shape;
    lies = λ numbers was. subst (λ f. LiesIn see numbers f after.volume) (sym rests.runs.form) (rest_goes.lies numbers before.form was);
    dead = rest_goes.cut;
  }

  -- the group is kept
  pub rest_keeps : IsGroupKept see g → IsGroupKept see now
  rest_keeps kept = subst (λ x. IsCalledIn see name g x → IsGroupKept see x) (sym rests.same) (λ is. kept_now see name g now.public.running is kept) rest_called

  -- no piece of it is empty, and each is on a disk of the group
  pub rest_some : IsGroupWhole see g → All HasSome (held_pieces see before.volume)
  rest_some whole = subst (λ x. (is : IsCalledIn see name g x) → All HasSome (held_pieces see is.before.volume)) (sym rests.same) (λ is. some see name g now.public.running is whole) rest_called

  rest_disks : IsGroupWhole see g → All (IsOfSome (members see g.base)) (held_pieces see before.volume)
  rest_disks whole = subst (λ x. (is : IsCalledIn see name g x) → All (IsOfSome (members see g.base)) (held_pieces see is.before.volume)) (sym rests.same) (λ is. of_disks see name g now.public.running is whole) rest_called

  pub rest_has_reason : RestHasReason see result before.volume after.volume
  rest_has_reason = rest_reason before.volume after.volume result rests.runs.rests rests.runs.follows

-- a device that failed is that of one of the disks
pub rest_fault_disk : {P : Type 0} {ghosts : Ghosts P} (alike : (p q : P) → is_some (ghosts.seen p).told ≡ is_some (ghosts.seen q).told) (g now : Imported P ghosts) (name : Word) (fault : IoFault) (rests : RestsIn ghosts.seen name (Err fault) g now) → IsGroupWhole ghosts.seen g →
    HasFaultDisk ghosts.seen g.base.disks.items fault
rest_fault_disk {ghosts = ghosts} alike g now name (Fault place) rests whole =
    let see = ghosts.seen in
    let held = held_pieces see rests.runs.before.volume in
    let held' = held_pieces see rests.runs.after.volume in
    let rose : Rose (faults_on (device_of place) held) (faults_on (device_of place) held') = rest_has_reason alike g now name (Err (Fault place)) rests in
    let stays = (rest_goes alike g now name (Err (Fault place)) rests).together.stays in
    any_disk see (device_of place) g.base.disks.items
    (disk_of (members see g.base) held (device_of place) (rest_disks alike g now name (Err (Fault place)) rests whole)
    (rose_there held held' (device_of place) (of_kept held held' (device_of place) stays) rose))
rest_fault_disk alike g now name PowerLost rests whole = tt
rest_fault_disk alike g now name Range rests whole = rest_has_reason alike g now name (Err Range) rests
