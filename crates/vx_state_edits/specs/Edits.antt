-- What a start, a stop and a recovery record of a volume, as edits of its configuration.
use Rattle.std.specs.Prelude.{ℕ, Bool, true, false, if◌then◌else◌, Option, Some, None, List, ◌∷◌, map}
use Rattle.std.specs.List.{filter}
use Rattle.vx_base.specs.Named.{Word}
use Rattle.vx_mask.specs.Mask.{has}
use Rattle.vx_config_parts.specs.declared.plex.Plex.{Plex}
use Rattle.vx_config_parts.specs.declared.plex.PlexKind.{PlexKind}
use Rattle.vx_config_parts.specs.declared.plex.PlexKind.TheVariants.{Data, Log}
use Rattle.vx_config_parts.specs.declared.state.PlexState.{PlexState}
use Rattle.vx_config_parts.specs.declared.state.PlexState.TheVariants as plex
use Rattle.vx_config_parts.specs.declared.state.VolState.{VolState}
use Rattle.vx_config_parts.specs.declared.state.VolState.TheVariants as vol
use Rattle.vx_config_parts.specs.declared.vol.PolicyKind.{PolicyKind}
use Rattle.vx_config_parts.specs.declared.vol.PolicyKind.TheVariants as kind
use Rattle.vx_config_parts.specs.declared.vol.PolicyName.{PolicyName}
use Rattle.vx_config_parts.specs.declared.vol.PolicyName.TheVariants as policy
use Rattle.vx_config_parts.specs.declared.vol.Vol.{Vol}
use Rattle.vx_config_parts.specs.Objects.{refers}
use Rattle.vx_objects.specs.declared.config.Config.{Config}
use Rattle.vx_objects.specs.declared.edit.Edit.{Edit}
use Rattle.vx_objects.specs.declared.edit.Edit.TheVariants.{SetPlex, SetVol}
use Rattle.vx_states.specs.Table.{plex_recovered, plex_started, plex_stopped}

-- the plexes of a volume, data and log plexes, in the order of the configuration
abbrev pub plexes_of : Config → Word → List Plex
plexes_of c vol = filter (λ p. refers p.vol vol) c.plexes

-- ---- states

-- the volume was never started
abbrev pub is_new : VolState → Bool
is_new vol.Empty = true
is_new other = false

-- a log plex that is new becomes active at the first start of its volume, which makes it, and stays what it is else
abbrev pub log_started : Bool → PlexState → PlexState
log_started first plex.Empty = if first then plex.Active else plex.Empty
log_started first other = other

abbrev pub started_as : Bool → PlexKind → PlexState → PlexState
started_as first Data now = plex_started now
started_as first Log now = log_started first now

-- the plex after a start of its volume, which is the first or not
abbrev pub started : Bool → Plex → PlexState
started first p = started_as first p.kind p.state

-- the plex misses something: its map has a mark; that of the plex of a volume without a log is 0
abbrev pub is_marked : ℕ → Option ℕ → Bool
is_marked marks None = has marks 0
is_marked marks (Some m) = has marks m

abbrev pub stopped_as : PlexKind → Bool → PlexState → PlexState
stopped_as Data marked now = plex_stopped marked now
stopped_as Log marked now = now

-- the plex after a stop of its volume, where these maps have marks
abbrev pub stopped : ℕ → Plex → PlexState
stopped marks p = stopped_as p.kind (is_marked marks p.map) p.state

abbrev pub recovered_as : PlexKind → Bool → PlexState → PlexState
recovered_as Data marked now = plex_recovered marked now
recovered_as Log marked now = now

-- the plex after a recovery of its volume, where these maps have marks still
abbrev pub recovered : ℕ → Plex → PlexState
recovered marks p = recovered_as p.kind (is_marked marks p.map) p.state

-- ---- edits

-- the policy of a volume; one that prefers a plex names it
abbrev pub policy_of : PolicyKind → Option Word → PolicyName
policy_of kind.Round prefer = policy.Round
policy_of kind.Prefer (Some plex) = policy.Prefer plex
policy_of kind.Prefer None = policy.Round
policy_of kind.Select prefer = policy.Select

-- the volume gets this state, and keeps its policy
abbrev pub vol_edit : VolState → Vol → Edit
vol_edit next v = SetVol v.name next (policy_of v.rdpol v.prefer)

-- the plex gets the state that it has afterwards, and keeps its volume and its map
abbrev pub plex_edit : (Plex → PlexState) → Plex → Edit
plex_edit after p = SetPlex p.name p.vol (after p) p.map

-- the volume gets this state, and then each of its plexes the one that it has afterwards
abbrev pub state_edits : VolState → (Plex → PlexState) → Config → Vol → List Edit
state_edits next after c v = vol_edit next v ∷ map (plex_edit after) (plexes_of c v.name)

-- what a start records
abbrev pub start_edits : Config → Vol → List Edit
start_edits c v = state_edits vol.Active (started (is_new v.state)) c v

-- what a stop records, where these maps have marks
abbrev pub stop_edits : Config → Vol → ℕ → List Edit
stop_edits c v marks = state_edits vol.Clean (stopped marks) c v

-- what a recovery records as it begins: its plexes stay as they are
abbrev pub recovery_edits : Config → Vol → List Edit
recovery_edits c v = state_edits vol.Sync (λ p. p.state) c v

-- what it records at its end, where these maps have marks still
abbrev pub recovered_edits : Config → Vol → ℕ → List Edit
recovered_edits c v marks = state_edits vol.Active (recovered marks) c v
