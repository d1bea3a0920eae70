-- A volume of the group that does not run is opened, once its devices are parted, and then recorded: what these calls ask for, by a start or as a
-- recovery ends.
use Rattle.std.proofs.Common.{◌≡◌, ◌∙◌, true, Some, None, refl, sym, ap, subst, cond}
use Rattle.std.specs.Prelude.{IsSome}
use Rattle.std.specs.BTreeMap.{BTreeMap, get}
use Rattle.std.specs.Cmp.Lexicographic.{slice_cmp}
use Rattle.std.specs.Ordering.{nat_cmp}
use Rattle.vx_pages.specs.declared.local_piece.LocalPiece.{Ghosts}
use Rattle.vx_base.specs.Named.{Word}
use Rattle.vx_base.proofs.NamedLemmas.{bytes_eq_self}
use Rattle.vx_piece.specs.Seen.{Seen}
use Rattle.vx_config_parts.specs.declared.vol.Vol.{Vol}
use Rattle.vx_image.specs.UsedPlexes.{IsVolOf}
use Rattle.vx_volume.specs.Volume.{IsVolume, volume_seen}
use Rattle.vx_lending.specs.declared.public.Running.{Running}
use Rattle.vx_lending.specs.Public.{running_at}
use Rattle.vx_group_start.specs.Laying.{AreRunningVolumes}
use Rattle.vx_stages.specs.Tests.{volume_in}
use Rattle.vx_house.specs.Idle.{EachIdleVolumeIsFree}
use Rattle.vx_house.specs.View.{IsGroupKept}
use Rattle.vx_house.specs.declared.house.Imported.{Imported}
use Rattle.vx_stage_changes.specs.declared.planning.NextConfig.{NextConfig}
use Rattle.vx_stage_volumes.specs.Disks.{have_disks}
use Rattle.vx_stage_volumes.specs.Opening.{IsFreeIn, OpensIn, good_of}
use Rattle.vx_stage_volumes.specs.Parting.{IsReadyToOpen, PartsGroup}
use Rattle.vx_stage_volumes.specs.Recording.{IsRecordedIn}
use Rattle.vx_stage_volumes.proofs.Entries.{all_inserted}
use Rattle.vx_stage_volumes.proofs.Free.{free_here}
use Rattle.vx_stage_volumes.proofs.Named.{found_name, found_of}

module _ {P : Type 0} {ghosts : Ghosts P} (see : P → Seen) (name : Word) (g : Imported P ghosts) (kept : IsGroupKept see g) {v : Vol} {mid : Imported P ghosts}
    (found : volume_in name g.config.volumes ≡ Some v) (absent : running_at g.public name ≡ None) (parts : PartsGroup see g mid) where
  pub of_parted : IsVolOf mid.config v
  of_parted = subst (λ c. IsVolOf c v) (sym parts.config) (found_of g.config name v found)

  pub idle : running_at mid.public name ≡ None
  idle = ap (λ (m : BTreeMap Word (Running P ghosts)). get (slice_cmp nat_cmp) m name) parts.running ∙ absent

  idle_named : running_at mid.public v.name ≡ None
  idle_named = subst (λ n. running_at mid.public n ≡ None) (sym (found_name g.config name v found)) idle

  -- its sectors lie in the pool
  pub free_parted : IsReadyToOpen see mid → EachIdleVolumeIsFree see mid → have_disks mid.base.disks.items (good_of see mid) mid.config.disks ≡ true → IsFreeIn see mid v
  free_parted ready law have = free_here see mid law parts.kept ready.open_group ready.left ready.stuck v idle_named have

  -- ---- it was opened

  module _ {opened : Imported P ghosts} {running : Running P ghosts} (opens : OpensIn see v mid opened running) where
    pub idle_opened : running_at opened.public name ≡ None
    idle_opened = ap (λ (m : BTreeMap Word (Running P ghosts)). get (slice_cmp nat_cmp) m name) opens.same.running ∙ idle

    -- ---- it was recorded

    module _ {next : NextConfig} {recorded : Imported P ghosts} (records : IsRecordedIn see name running next opened recorded) where
      -- it runs
      pub runs_as : running_at recorded.public name ≡ Some running
      runs_as = records.puts name ∙ ap (λ b. cond b (Some running) (running_at opened.public name)) (bytes_eq_self name)

      pub runs_there : IsSome (running_at recorded.public name)
      runs_there = subst IsSome (sym runs_as) refl

      -- all that run are volumes
      volumes_opened : AreRunningVolumes see opened.public.running.entries
      volumes_opened = subst (λ (m : BTreeMap Word (Running P ghosts)). AreRunningVolumes see m.entries) (sym (opens.same.running ∙ parts.running)) kept.whole.volumes

      pub volumes_there : AreRunningVolumes see recorded.public.running.entries
      volumes_there = subst (AreRunningVolumes see) (sym records.entries)
          (all_inserted (λ r. IsVolume (volume_seen see r.volume)) name running opened.public.running.entries volumes_opened opens.started.whole)
