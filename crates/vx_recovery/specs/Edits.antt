-- What the commits of `vxrecover` record, of one volume after the other, and the longest of their texts.
use Rattle.std.specs.Prelude.{◌≡◌, ℕ, ◌<◌, ◌≤◌, MatchOption, List, [], ◌∷◌, length, Contains}
use Rattle.vx_base.specs.Named.{Word}
use Rattle.vx_config_parts.specs.declared.state.VolState.{VolState}
use Rattle.vx_config_parts.specs.declared.state.VolState.TheVariants as vol
use Rattle.vx_config_parts.specs.declared.vol.Vol.{Vol}
use Rattle.vx_objects.specs.declared.config.Config.{Config}
use Rattle.vx_objects.specs.Applied.{IsEdited}
use Rattle.vx_moments.specs.Copies.{IsTextOf}
use Rattle.vx_stages.specs.Tests.{volume_in}
use Rattle.vx_state_edits.specs.Edits.{recovered_edits, recovery_edits, start_edits}

-- ---- the texts

-- of one that is recovered: the two of its recovery, where no map has marks at the end
abbrev pub AreRecovered : Vol → (Config → List Config → Type 0) → Config → List Config → Type 0
AreRecovered v Rest c cs =
    (mid : Config) × (end : Config) × (rest : List Config) × (cs ≡ mid ∷ end ∷ rest)
    × IsEdited (recovery_edits c v) c mid × IsEdited (recovered_edits mid (record v { state = vol.Sync }) 0) mid end × Rest end rest

-- of one that is clean: that of its start
abbrev pub AreStarted : Vol → (Config → List Config → Type 0) → Config → List Config → Type 0
AreStarted v Rest c cs = (next : Config) × (rest : List Config) × (cs ≡ next ∷ rest) × IsEdited (start_edits c v) c next × Rest next rest

-- of one in this state
abbrev pub AreOfState : VolState → Vol → (Config → List Config → Type 0) → Config → List Config → Type 0
AreOfState vol.Empty v Rest c cs = Rest c cs
AreOfState vol.Clean v Rest c cs = AreStarted v Rest c cs
AreOfState vol.Active v Rest c cs = Rest c cs
AreOfState vol.NeedSync v Rest c cs = AreRecovered v Rest c cs
AreOfState vol.Sync v Rest c cs = AreRecovered v Rest c cs

-- These are the configurations that the commits record, of volumes of these names and one after the other.
abbrev pub AreCommits : List Word → Config → List Config → Type 0
AreCommits [] c cs = cs ≡ []
AreCommits (name ∷ names) c cs = MatchOption (volume_in name c.volumes) (AreCommits names c cs) (λ v. AreOfState v.state v (AreCommits names) c cs)

-- the longest text of these configurations has so many bytes
pub record IsLongest (cs : List Config) (bytes : ℕ) : Type 0 where
  pub one : (c : Config) × (text : List ℕ) × Contains cs c × IsTextOf c text × (length text ≡ bytes)
  pub most : (c : Config) (text : List ℕ) → Contains cs c → IsTextOf c text → length text ≤ bytes

-- the longest text of the commits of these volumes is too long
pub record AreTooLong (names : List Word) (c : Config) (bytes : ℕ) : Type 0 where
  pub configs : List Config
  pub commits : AreCommits names c configs
  pub longest : IsLongest configs bytes
  pub long : 522240 < bytes

-- each text of the commits of these volumes is short enough
pub record AreShort (names : List Word) (c : Config) : Type 0 where
  pub configs : List Config
  pub commits : AreCommits names c configs
  pub short : (next : Config) (text : List ℕ) → Contains configs next → IsTextOf next text → length text ≤ 522240
