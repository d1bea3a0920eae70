-- How the start of a volume ends, on its group, by the step that it ends in.
use Rattle.std.proofs.Common.{◌≡◌, inl, inr, ℕ, Bool, true, false, Some, None, Result, Ok, Err, refl, subst}
use Rattle.std.specs.Prelude.{is_err, is_some, IsSome, OnOk}
use Rattle.vx_pages.specs.declared.local_piece.LocalPiece.{Ghosts}
use Rattle.vx_base.specs.Named.{Word}
use Rattle.vx_base.specs.declared.memory.OutOfMemory.{OutOfMemory}
use Rattle.vx_piece.specs.Seen.{Seen}
use Rattle.vx_config_parts.specs.declared.vol.Vol.{Vol}
use Rattle.vx_answers.specs.declared.answer.End.TheVariants as ends
use Rattle.vx_answers.specs.declared.refusal.Refusal.TheVariants as refusal
use Rattle.vx_image.specs.UsedPlexes.{IsVolOf}
use Rattle.vx_lending.specs.declared.public.Running.{Running}
use Rattle.vx_lending.specs.Public.{running_at}
use Rattle.vx_group_start.specs.Fresh.{is_fresh}
use Rattle.vx_group_start.specs.Laying.{AreRunningVolumes}
use Rattle.vx_stages.specs.Tests.{volume_in}
use Rattle.vx_house.specs.Idle.{EachIdleVolumeIsFree}
use Rattle.vx_house.specs.View.{IsGroupKept}
use Rattle.vx_house.specs.declared.house.Imported.{Imported}
use Rattle.vx_house.specs.declared.stop.Stop.{Stop}
use Rattle.vx_house.specs.declared.stop.Stop.TheVariants as stops
use Rattle.vx_stage_changes.specs.declared.planning.NextConfig.{NextConfig}
use Rattle.vx_stage_volumes.specs.Disks.{have_disks}
use Rattle.vx_stage_volumes.specs.Opening.{IsFreeIn, IsUnopenedIn, OpensIn, good_of}
use Rattle.vx_stage_volumes.specs.Parting.{IsReadyToOpen, PartsGroup}
use Rattle.vx_stage_volumes.specs.Recording.{IsHeldIn, IsRecordedIn, IsResynchronised}
use Rattle.vx_stage_volumes.specs.Starting.{IsPlannedStart, IsPrepared, IsRefusedStart, StartEnds}
use Rattle.vx_stage_volumes.proofs.Absent.{not_running}
use Rattle.vx_stage_volumes.proofs.PartedGroup.{parts_self}
use Rattle.vx_stage_volumes.proofs.OpenedGroup.{free_parted, idle_opened, of_parted, runs_there, volumes_there}

-- what is not refused was done
pub was_done : {X E : Type 0} (Q : Type 0) (r : Result X E) (refused : Bool) → OnOk r Q → refused ≡ is_err r → refused ≡ false → Q
was_done Q (Ok x) refused done is negative = done
was_done Q (Err e) refused done is negative = absurd (let wrong : false ≡ true = cc in cc)

module _ {P : Type 0} {ghosts : Ghosts P} (see : P → Seen) (name : Word) (g : Imported P ghosts) (kept : IsGroupKept see g) where
  -- ---- nothing was parted

  module _ (alike : (p q : P) → is_some (see p).told ≡ is_some (see q).told) where
    same : PartsGroup see g g
    same = parts_self see alike g kept

    -- there is no volume of the name
    pub no_object : volume_in name g.config.volumes ≡ None → StartEnds see name (stops.Ended (ends.Refused (refusal.NoObject name))) g g
    no_object none = inl (same, inl (none, refl))

    -- a test refuses it
    pub refused_start : (v : Vol) → volume_in name g.config.volumes ≡ Some v → (good : ℕ) → good ≡ good_of see g → (stop : Stop) → IsRefusedStart g.config good v stop → StartEnds see name stop g g
    refused_start v found good good_is stop is = inl (same, inr (v, found, subst (λ n. IsRefusedStart g.config n v stop) good_is is))

  -- ---- the group was parted

  pub prepared_by : {v : Vol} {next : NextConfig} {mid : Imported P ghosts} (good : ℕ) → good ≡ good_of see g → IsPlannedStart g.config good v next → volume_in name g.config.volumes ≡ Some v → PartsGroup see g mid →
      (result : Result (Unit {0}) OutOfMemory) → OnOk result (IsReadyToOpen see mid) → (refused : Bool) → refused ≡ is_err result → refused ≡ false → IsPrepared see name v next g mid
  prepared_by {v = v} {next = next} {mid = mid} good good_is planned found parts result ready refused is no_error = record {
    found = found;
    planned = subst (λ n. IsPlannedStart g.config n v next) good_is planned;
    parts = parts;
    ready = was_done (IsReadyToOpen see mid) result refused ready is no_error;
  }

  module _ {v : Vol} {next : NextConfig} {mid : Imported P ghosts} (prepared : IsPrepared see name v next g mid) where
    absent : running_at g.public name ≡ None
    absent = not_running see g kept name v prepared.found prepared.planned.may

    pub of_mid : IsVolOf mid.config v
    of_mid = of_parted see name g kept prepared.found absent prepared.parts

    -- its sectors lie in the pool
    pub free_mid : EachIdleVolumeIsFree see mid → have_disks mid.base.disks.items (good_of see mid) mid.config.disks ≡ true → IsFreeIn see mid v
    free_mid = free_parted see name g kept prepared.found absent prepared.parts prepared.ready

    -- it was not opened
    pub ends_unopened : {new : Imported P ghosts} {stop : Stop} → IsUnopenedIn see v mid new stop → StartEnds see name stop g new
    ends_unopened is = inr (inr (inl (record { volume = v; next = next; mid = mid; prepared = prepared; unopened = is })))

    -- ---- it was opened

    module _ {opened : Imported P ghosts} {running : Running P ghosts} (opens : OpensIn see v mid opened running) where
      pub absent_opened : running_at opened.public name ≡ None
      absent_opened = idle_opened see name g kept prepared.found absent prepared.parts opens

      -- .. and not recorded
      pub ends_unrecorded : {new : Imported P ghosts} {stop : Stop} → IsHeldIn see running next stop opened new → StartEnds see name stop g new
      ends_unrecorded held = inr (inr (inr (inl (record { volume = v; next = next; mid = mid; prepared = prepared; running = running; opened = opened; opens = opens; held = held }))))

      -- ---- it was recorded

      module _ {recorded : Imported P ghosts} (records : IsRecordedIn see name running next opened recorded) where
        pub runs_recorded : IsSome (running_at recorded.public name)
        runs_recorded = runs_there see name g kept prepared.found absent prepared.parts opens records

        pub volumes_recorded : AreRunningVolumes see recorded.public.running.entries
        volumes_recorded = volumes_there see name g kept prepared.found absent prepared.parts opens records

        -- it was copied to
        pub ends_running : {new : Imported P ghosts} {stop : Stop} {fresh : Bool} → fresh ≡ is_fresh v.state → IsResynchronised see name fresh stop recorded new → StartEnds see name stop g new
        ends_running {new = new} {stop = stop} fresh_is copied = inr (inr (inr (inr (record {
          volume = v;
          next = next;
          mid = mid;
          prepared = prepared;
          running = running;
          opened = opened;
          opens = opens;
          recorded = recorded;
          records = records;
          copied = subst (λ fresh. IsResynchronised see name fresh stop recorded new) fresh_is copied;
        }))))
