-- The longest text of the commits that the command makes.
use Rattle.std.specs.Prelude.{◌≡◌, ◌⊎◌, ℕ, max, Option, Some, None, List, [], length}
use Rattle.vx_base.specs.Named.{Word}
use Rattle.vx_config_parts.specs.declared.state.VolState.TheVariants as vol
use Rattle.vx_config_parts.specs.declared.vol.Vol.{Vol}
use Rattle.vx_objects.specs.declared.config.Config.{Config}
use Rattle.vx_objects.specs.declared.edit.Edit.{Edit}
use Rattle.vx_objects.specs.Applied.{IsEdited}
use Rattle.vx_moments.specs.Copies.{IsTextOf}
use Rattle.vx_stages.specs.Tests.{volume_in}
use Rattle.vx_state_edits.specs.Edits.{recovered_edits, recovery_edits, start_edits}
use Rattle.vx_recovery.specs.Edits.{AreCommits, IsLongest}
use Rattle.vx_recovery.specs.Going.{Need, Pass, Begin, Heal, need_by}
use Rattle.vx_stage_recovery.specs.declared.texts.Reached.{Reached}

-- the number is that of the longest text of the commits of volumes of these names, or there is none
abbrev pub IsLongestOf : List Word → Config → ℕ → Type 0
IsLongestOf names c bytes = (configs : List Config) × AreCommits names c configs × (((configs ≡ []) × (bytes ≡ 0)) ⊎ IsLongest configs bytes)

-- the configuration that was reached, or the first one
abbrev pub config_by : Config → Option Config → Config
config_by c None = c
config_by c (Some now) = now

abbrev pub config_of : Config → Reached → Config
config_of c reached = config_by c reached.config

-- the text of the configuration has so many bytes
abbrev pub HasLength : Config → ℕ → Type 0
HasLength c bytes = (text : List ℕ) × IsTextOf c text × (bytes ≡ length text)

-- one more commit, of these edits, was reached, and the longest text may be its
pub record IsReachedFrom (edits : List Edit) (now : Config) (most : ℕ) (reached : Reached) : Type 0 where
  pub next : Config
  pub config_is : reached.config ≡ Some next
  pub edited : IsEdited edits now next
  pub bytes : ℕ
  pub has : HasLength next bytes
  pub most_is : reached.most ≡ max most bytes

-- two more, of a recovery
abbrev pub IsReachedTwice : Config → Vol → ℕ → Reached → Type 0
IsReachedTwice now v most reached = (mid : Reached) × IsReachedFrom (recovery_edits now v) now most mid × IsReachedFrom (recovered_edits (config_of now mid) (record v { state = vol.Sync }) 0) (config_of now mid) mid.most reached

-- those of a volume that needs this
abbrev pub IsReachedOf : Need → Config → Vol → Reached → Reached → Type 0
IsReachedOf Pass now v old new = new ≡ old
IsReachedOf Begin now v old new = IsReachedFrom (start_edits now v) now old.most new
IsReachedOf Heal now v old new = IsReachedTwice now v old.most new

abbrev pub IsReachedIn : Option Vol → Config → Reached → Reached → Type 0
IsReachedIn None now old new = new ≡ old
IsReachedIn (Some v) now old new = IsReachedOf (need_by v.state) now v old new

-- those of the volume of one more name
abbrev pub IsReachedBy : Word → Config → Reached → Reached → Type 0
IsReachedBy name c old new = IsReachedIn (volume_in name (config_of c old).volumes) (config_of c old) old new
