-- `vxplex det` and `vxplex att`: the tests in their order, what is changed in the group, and why the commands are refused.
use Rattle.std.specs.Prelude.{◌≡◌, ◌⊎◌, ℕ, ◌&&◌, Bool, true, false, if◌then◌else◌, is_some, Option, Some, None, List, [], ◌∷◌}
use Rattle.std.specs.Str.{bytes_eq}
use Rattle.vx_base.specs.Named.{Word}
use Rattle.vx_config_parts.specs.declared.plex.Plex.{Plex}
use Rattle.vx_config_parts.specs.declared.state.PlexState.{PlexState}
use Rattle.vx_config_parts.specs.declared.state.PlexState.TheVariants as plex_state
use Rattle.vx_config_parts.specs.declared.vol.Vol.{Vol}
use Rattle.vx_config_parts.specs.Objects.{is_data_plex_of}
use Rattle.vx_objects.specs.declared.config.Config.{Config}
use Rattle.vx_objects.specs.declared.edit.Edit.{Edit}
use Rattle.vx_objects.specs.declared.edit.Edit.TheVariants.{SetPlex}
use Rattle.vx_image.specs.Bytes.{is_held}
use Rattle.vx_answers.specs.declared.answer.End.{End}
use Rattle.vx_answers.specs.declared.refusal.Refusal.{Refusal}
use Rattle.vx_answers.specs.declared.refusal.Refusal.TheVariants as refusal
use Rattle.vx_moments.specs.World.{Group}
use Rattle.vx_stages.specs.Logging.{AreEditsRefused}
use Rattle.vx_stages.specs.Mirroring.{RefusedFor}
use Rattle.vx_stages.specs.Tests.{is_data, unless, volume_in}

-- ---- one plex

-- the plex of the name in a list of them
abbrev pub plex_in : Word → List Plex → Option Plex
plex_in name [] = None
plex_in name (p ∷ ps) = if bytes_eq p.name name then Some p else plex_in name ps

-- the plex gets this state, and stays where it is
abbrev pub state_edits : Word → Plex → PlexState → List Edit
state_edits vol p state = SetPlex p.name (Some vol) state p.map ∷ []

-- ---- out of use

-- a plex in this state goes out of use
abbrev pub is_in_use : PlexState → Bool
is_in_use plex_state.Active = true
is_in_use other = false

-- The tests of a plex that is to go out of use, where volumes of some names run: it has a volume, which runs, and it is a data plex in such
-- a state.
abbrev pub detach_refusal_of : (Word → Bool) → Plex → Option Word → Option Refusal
detach_refusal_of runs p None = Some (refusal.PlexState p.state)
detach_refusal_of runs p (Some vol) = if runs vol then unless (is_data p.kind && is_in_use p.state) (refusal.PlexState p.state) else Some (refusal.NotStarted vol)

-- .. or there is none of the name
abbrev pub found_to_detach : (Word → Bool) → Word → Option Plex → Option Refusal
found_to_detach runs name None = Some (refusal.NoObject name)
found_to_detach runs name (Some p) = detach_refusal_of runs p p.vol

-- the first test that refuses that the plex of the name goes out of use
abbrev pub detach_refusal : (Word → Bool) → Config → Word → Option Refusal
detach_refusal runs c name = found_to_detach runs name (plex_in name c.plexes)

-- The plex of the name may go out of use: it is this one, of this volume.
pub record MayDetach (runs : Word → Bool) (c : Config) (name : Word) (v : Vol) (p : Plex) : Type 0 where
  pub found : plex_in name c.plexes ≡ Some p
  pub fits : detach_refusal runs c name ≡ None
  pub volume : volume_in v.name c.volumes ≡ Some v
  pub own : p.vol ≡ Some v.name

-- It is refused in a group: a test refuses it, or the configuration does not take its state.
abbrev pub IsDetachRefused : (Word → Bool) → Group → Word → End → Type 0
IsDetachRefused runs g name end =
    RefusedFor (λ r. detach_refusal runs g.config name ≡ Some r) end
    ⊎ ((v : Vol) × (p : Plex) × MayDetach runs g.config name v p × AreEditsRefused g.config (state_edits v.name p plex_state.Stale) end)

-- ---- into use

-- a plex in this state may be put into use, or copied to
abbrev pub may_be_used : PlexState → Bool
may_be_used plex_state.Stale = true
may_be_used plex_state.IoFail = true
may_be_used plex_state.Active = true
may_be_used other = false

-- it is a data plex of the volume in such a state, and all its disks are good
abbrev pub is_attachable : Config → ℕ → Word → Plex → Bool
is_attachable c good vol p = is_data_plex_of vol p && (may_be_used p.state && is_held c good p)

-- The tests of a plex that is to be put into use: there is one of the name, its volume runs, and it is such a plex.
abbrev pub found_to_attach : Bool → Config → ℕ → Word → Word → Option Plex → Option Refusal
found_to_attach runs c good vol name None = Some (refusal.NoObject name)
found_to_attach runs c good vol name (Some p) = if runs then unless (is_attachable c good vol p) (refusal.PlexState p.state) else Some (refusal.NotStarted vol)

-- .. and before them, there is a volume of the name
abbrev pub attach_refusal : Bool → Config → ℕ → Word → Word → Option Refusal
attach_refusal runs c good vol name =
    if is_some (volume_in vol c.volumes) then found_to_attach runs c good vol name (plex_in name c.plexes) else Some (refusal.NoObject vol)

-- The plex of the name may be put into use in the volume.
pub record MayAttach (runs : Bool) (c : Config) (good : ℕ) (vol name : Word) (v : Vol) (p : Plex) : Type 0 where
  pub volume : volume_in vol c.volumes ≡ Some v
  pub found : plex_in name c.plexes ≡ Some p
  pub fits : attach_refusal runs c good vol name ≡ None

-- It is refused in a group: a test refuses it, or the configuration does not take its state.
abbrev pub IsAttachRefused : (runs : Bool) → Group → (vol name : Word) → End → Type 0
IsAttachRefused runs g vol name end =
    RefusedFor (λ r. attach_refusal runs g.config g.good vol name ≡ Some r) end
    ⊎ ((v : Vol) × (p : Plex) × MayAttach runs g.config g.good vol name v p × AreEditsRefused g.config (state_edits v.name p plex_state.Active) end)
