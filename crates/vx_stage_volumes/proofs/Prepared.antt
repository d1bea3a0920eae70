-- A volume of the group that does not run may be opened, by a start or as a recovery ends: what is to be recorded of it is planned, and the devices
-- of the group are parted.
use Rattle.std.proofs.Common.{◌≡◌, ◌≢◌, ◌∙◌, ℕ, true, List, Some, None, sym, ap, subst}
use Rattle.vx_pages.specs.declared.local_piece.LocalPiece.{Ghosts}
use Rattle.vx_base.specs.Named.{Word}
use Rattle.vx_piece.specs.Seen.{Seen}
use Rattle.vx_config_parts.specs.declared.state.VolState.{VolState}
use Rattle.vx_config_parts.specs.declared.state.VolState.TheVariants as vol
use Rattle.vx_config_parts.specs.declared.vol.Vol.{Vol}
use Rattle.vx_objects.specs.declared.config.Config.{Config}
use Rattle.vx_objects.specs.declared.edit.Edit.{Edit}
use Rattle.vx_objects.specs.Applied.{IsEdited}
use Rattle.vx_image.specs.UsedPlexes.{IsVolOf}
use Rattle.vx_moments.specs.World.{Group}
use Rattle.vx_group_edits.specs.Stays.{EachStays}
use Rattle.vx_group_start.specs.Fresh.{is_fresh}
use Rattle.vx_volume_laws.specs.Keeping.{ChangesStates}
use Rattle.vx_lending.specs.Public.{running_at}
use Rattle.vx_stages.specs.Starting.{may_start, refusal_at_once}
use Rattle.vx_stages.specs.Tests.{volume_in}
use Rattle.vx_house.specs.declared.house.Imported.{Imported}
use Rattle.vx_stage_changes.specs.Changing.{IsMeant}
use Rattle.vx_stage_changes.specs.Planning.{IsPlanned}
use Rattle.vx_stage_changes.specs.declared.planning.NextConfig.{NextConfig}
use Rattle.vx_stage_volumes.specs.Early.{refusal_here}
use Rattle.vx_stage_volumes.specs.Opening.{good_of, may_open}
use Rattle.vx_stage_volumes.specs.Parting.{IsReadyToOpen, PartsGroup}
use Rattle.vx_stage_volumes.proofs.HeldStart.{world_of}
use Rattle.vx_stage_volumes.proofs.Named.{found_name, found_of}

-- what may be started may be opened
pub start_opens : (s : VolState) → may_start s ≡ true → may_open s ≡ true
start_opens vol.Empty may = may
start_opens vol.Clean may = may
start_opens vol.Active may = may
start_opens vol.NeedSync may = absurd cc
start_opens vol.Sync may = absurd cc

-- The volume of the name does not run, and may be opened by its state, the configuration and the good disks. These edits are planned, which record it
-- as active, change nothing else but states, and keep each other volume. The devices of the group are parted.
pub record IsOpenable {P : Type 0} {ghosts : Ghosts P} (see : P → Seen) (edits : List Edit) (name : Word) (v : Vol) (next : NextConfig) (g mid : Imported P ghosts) : Type 0 where
  pub found : volume_in name g.config.volumes ≡ Some v
  pub may : may_open v.state ≡ true
  pub early : refusal_here g.config (good_of see g) v ≡ None
  pub absent : running_at g.public name ≡ None
  pub planned : IsPlanned edits g.config next
  pub parts : PartsGroup see g mid
  pub ready : IsReadyToOpen see mid
  pub named : next.config.group ≡ g.config.group
  pub disks : next.config.disks ≡ g.config.disks
  pub keeps : EachStays (λ u. u.name ≢ v.name) g.config next.config
  pub changes : (c : Config) → IsEdited edits g.config c → (good : ℕ) →
      IsVolOf c (record v { state = vol.Active }) × ChangesStates g.config good v (is_fresh v.state) c good (record v { state = vol.Active })

some_group : (a b : Group) → Some a ≡ Some b → a ≡ b
some_group a b e = cc

-- ---- so it is by the group that is parted

module _ {P : Type 0} {ghosts : Ghosts P} {see : P → Seen} {edits : List Edit} {name : Word} {v : Vol} {next : NextConfig} {g mid : Imported P ghosts} (openable : IsOpenable see edits name v next g mid) where
  pub v_name : v.name ≡ name
  v_name = found_name g.config name v openable.found

  -- the group of the world is the same
  pub mid_world : world_of see mid ≡ world_of see g
  mid_world = some_group _ _ openable.parts.group

  pub of_v : IsVolOf mid.config v
  of_v = subst (λ c. IsVolOf c v) (sym openable.parts.config) (found_of g.config name v openable.found)

  pub untested : refusal_at_once (world_of see mid) v ≡ None
  untested = ap (λ (w : Group). refusal_at_once w v) mid_world ∙ openable.early

  pub meant : IsMeant edits mid.config next.config next.text.items
  meant = subst (λ c. IsMeant edits c next.config next.text.items) (sym openable.parts.config) (record { edited = openable.planned.0; printed = openable.planned.1 })

  pub named : next.config.group ≡ mid.config.group
  named = openable.named ∙ sym (ap (λ (c : Config). c.group) openable.parts.config)

  pub same_disks : next.config.disks ≡ mid.config.disks
  same_disks = openable.disks ∙ sym (ap (λ (c : Config). c.disks) openable.parts.config)

  pub others_stay : EachStays (λ u. u.name ≢ v.name) mid.config next.config
  others_stay = subst (λ c. EachStays (λ u. u.name ≢ v.name) c next.config) (sym openable.parts.config) openable.keeps

  pub changes_states : (c : Config) → IsEdited edits mid.config c → (good : ℕ) →
      IsVolOf c (record v { state = vol.Active }) × ChangesStates mid.config good v (is_fresh v.state) c good (record v { state = vol.Active })
  changes_states = subst (λ old. (c : Config) → IsEdited edits old c → (good : ℕ) → IsVolOf c (record v { state = vol.Active }) × ChangesStates old good v (is_fresh v.state) c good (record v { state = vol.Active }))
      (sym openable.parts.config) openable.changes
