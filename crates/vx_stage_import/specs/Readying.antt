-- A configuration that can be committed, and the disks that can take it.
use Rattle.std.specs.Prelude.{◌≡◌, ◌≤◌, ℕ, true, List, length, None}
use Rattle.std.specs.Str.{bytes_eq}
use Rattle.vx_base.specs.Named.{Word}
use Rattle.vx_header.specs.Named.{Label}
use Rattle.vx_piece.specs.Seen.{Seen}
use Rattle.vx_copies.specs.Lists.{AllOf}
use Rattle.vx_copies.specs.Disks.{IsReady, IsBelow}
use Rattle.vx_copies.specs.declared.disk.Disk.{Disk}
use Rattle.vx_confdb.specs.Groups.{IsMemberOf}
use Rattle.vx_objects.specs.declared.config.Config.{Config}
use Rattle.vx_objects.specs.Config.{objects_of}
use Rattle.vx_moments.specs.Copies.{IsTextOf}
use Rattle.vx_stages.specs.Finding.{import_records}
use Rattle.vx_house.specs.View.{AreSized, HaveSlots}
use Rattle.vx_stage_import.specs.Judging.{stray_in}
use Rattle.vx_stage_import.specs.Giving.{seen_disks}

-- A configuration that can be committed, with its text: it was read of the group's devices, has the group's name and
-- records each disk whose slot is good.
pub record IsReadied (dg : Word) (good : ℕ) (labels : List Label) (after : Config) (text : List ℕ) : Type 0 where
  pub config : Config
  pub named : bytes_eq config.group dg ≡ true
  pub recorded : stray_in config.disks good labels ≡ None
  pub made : objects_of after ≡ import_records config
  pub printed : IsTextOf after text
  pub fits : length text ≤ 522240

-- The disks can take the commit of a group of this name.
pub record AreCommittable {P : Type 0} (see : P → Seen) (dg : Word) (sequence : ℕ) (ds : List (Disk P)) : Type 0 where
  pub ready : AllOf IsReady (seen_disks see ds)
  pub headed : AllOf (IsMemberOf dg) (seen_disks see ds)
  pub below : AllOf (IsBelow dg sequence) (seen_disks see ds)
  pub sized : AreSized (seen_disks see ds)
  pub slots : HaveSlots ds
