-- The steps of a stop, on the group: there is room, the volume comes to rest, and it is recorded so.
use Rattle.std.proofs.Common.{◌≡◌, ℕ, List, Option, Some, None, true, Result, Ok, Err, refl, sym, subst}
use Rattle.std.specs.Prelude.{is_some}
use Rattle.std.specs.BTreeMap.{BTreeMap}
use Rattle.std.specs.Global.{Vec}
use Rattle.vx_pages.specs.declared.local_piece.LocalPiece.{Ghosts}
use Rattle.vx_base.specs.Named.{Word}
use Rattle.vx_piece.specs.Seen.{Seen}
use Rattle.vx_copies.specs.declared.disk.Disk.{Disk}
use Rattle.vx_config_parts.specs.declared.vol.Vol.{Vol}
use Rattle.vx_state_edits.specs.Edits.{stop_edits}
use Rattle.vx_volume.specs.declared.fault.IoFault.{IoFault}
use Rattle.vx_volume.specs.Volume.{IsVolume, volume_seen}
use Rattle.vx_lending.specs.declared.public.Public.{Public}
use Rattle.vx_lending.specs.declared.public.Running.{Running}
use Rattle.vx_lending.specs.Public.{running_at}
use Rattle.vx_group_start.specs.Laying.{AreRunningVolumes}
use Rattle.vx_house.specs.View.{IsGroupKept}
use Rattle.vx_house.specs.declared.house.Imported.{Imported}
use Rattle.vx_house.specs.declared.stop.Stop.{Stop}
use Rattle.vx_house.proofs.AllLaws.{found_by_one}
use Rattle.vx_stage_volumes.specs.Laying.{IsLaid}
use Rattle.vx_stage_volumes.specs.Resting.{HasFaultDisk, IsFaultTold, MayRest, RestsIn, RestsOne}
use Rattle.vx_stage_volumes.specs.Stopping.{HasRoom, IsReadyToStop, IsRested, IsStoppedIn, RecordEnds, StopEnds}
use Rattle.vx_stage_volumes.proofs.Ends.{laid_ends, recorded_ends, unrested_ends}
use Rattle.vx_stage_volumes.proofs.Rested.{rest_fault_disk, rest_keeps}
use Rattle.vx_stage_volumes.proofs.Room.{room_kept}

-- what runs under the name is a volume
pub may_rest : {P : Type 0} {ghosts : Ghosts P} (see : P → Seen) (public : Public P ghosts) (name : Word) → AreRunningVolumes see public.running.entries → is_some (running_at public name) ≡ true → MayRest see (running_at public name)
may_rest {P = P} {ghosts = ghosts} see public name volumes some = by (running_at public name) refl some
  where
    by : (o : Option (Running P ghosts)) → running_at public name ≡ o → is_some o ≡ true → MayRest see o
    by None e some = absurd cc
    by (Some r) e some =
        found_by_one (λ (x : Word × Running P ghosts). IsVolume (volume_seen see x.1.volume)) public.running.entries name r e volumes
        (λ x key value is. subst (λ (y : Running P ghosts). IsVolume (volume_seen see y.volume)) value is)

module _ {P : Type 0} {ghosts : Ghosts P} (g : Imported P ghosts) (alike : (p q : P) → is_some (ghosts.seen p).told ≡ is_some (ghosts.seen q).told) (name : Word) (kept : IsGroupKept ghosts.seen g) (stuck : Vec (Running P ghosts)) (same : stuck.items ≡ g.public.stuck.items) where
  abbrev see : P → Seen
  see = ghosts.seen

  -- the group with room
  abbrev room : Imported P ghosts
  room = record g { public = record g.public { stuck = stuck } }

  has_room : HasRoom g room
  has_room = record { same = refl; items = same }

  -- and with these running volumes
  abbrev pub rested : BTreeMap Word (Running P ghosts) → Imported P ghosts
  rested running = record g { public = record g.public { running = running; stuck = stuck } }

  module _ (running : BTreeMap Word (Running P ghosts)) (result : Result ℕ IoFault) (rests : RestsOne see name result g.public.running running) where
    rests_in : RestsIn see name result room (rested running)
    rests_in = record { runs = rests; same = refl }

    pub rested_kept : IsGroupKept see (rested running)
    rested_kept = rest_keeps alike room (rested running) name result rests_in (room_kept see g room has_room kept)

  -- a device that failed is that of one of the disks
  pub fault_disk : (running : BTreeMap Word (Running P ghosts)) (fault : IoFault) → RestsOne see name (Err fault) g.public.running running → (ds : List (Disk P)) → ds ≡ g.base.disks.items → HasFaultDisk see ds fault
  fault_disk running fault rests ds are =
      subst (λ (xs : List (Disk P)). HasFaultDisk see xs fault) (sym are)
      (rest_fault_disk alike room (rested running) name fault (rests_in running (Err fault) rests) (room_kept see g room has_room kept).whole)

  module _ (of : Vol) (ready : IsReadyToStop name g of) where
    pub unrested_so : (running : BTreeMap Word (Running P ghosts)) (fault : IoFault) → RestsOne see name (Err fault) g.public.running running → (ds : List (Disk P)) → ds ≡ g.base.disks.items → (stop : Stop) → IsFaultTold see ds fault stop →
        StopEnds see name (Err stop) g (rested running)
    unrested_so running fault rests ds are stop told = unrested_ends see name g (rested running) stop (record {
      of = of;
      ready = ready;
      room = room;
      has_room = has_room;
      fault = fault;
      rests = rests_in running (Err fault) rests;
      told = subst (λ (xs : List (Disk P)). IsFaultTold see xs fault stop) are told;
    })

    module _ (running : BTreeMap Word (Running P ghosts)) (marks : ℕ) (rests : RestsOne see name (Ok marks) g.public.running running) where
      abbrev is_rested : IsRested see name g (rested running)
      is_rested = record { of = of; ready = ready; room = room; has_room = has_room; marks = marks; rests = rests_in running (Ok marks) rests }

      pub recorded_so : (g' : Imported P ghosts) (stop : Stop) → RecordEnds see (stop_edits g.config of marks) (Err stop) (rested running) g' → StopEnds see name (Err stop) g g'
      recorded_so g' stop is = recorded_ends see name g (rested running) g' is_rested refl stop is

      -- each that runs is a volume still
      pub volumes_then : (now : Imported P ghosts) → RecordEnds see (stop_edits g.config of marks) (Ok tt) (rested running) now → AreRunningVolumes see now.public.running.entries
      volumes_then now is = subst (λ (p : Public P ghosts). AreRunningVolumes see p.running.entries) (sym is.0) (rested_kept running (Ok marks) rests).whole.volumes

      pub stopped_so : (now : Imported P ghosts) → RecordEnds see (stop_edits g.config of marks) (Ok tt) (rested running) now → (public : Public P ghosts) → IsLaid see name now.public public → IsStoppedIn see name g (record now { public = public })
      stopped_so now is public laid = laid_ends see name g (rested running) (record now { public = public }) is_rested refl now is refl refl laid
