-- What each action makes of the kept states of a volume and of one of its data plexes.
use Rattle.std.specs.Prelude.{Bool, if◌then◌else◌, Option, Some, None, Result, Ok, Err, true, false}
use Rattle.vx_config_parts.specs.declared.state.VolState.{VolState}
use Rattle.vx_config_parts.specs.declared.state.VolState.TheVariants as vol
use Rattle.vx_config_parts.specs.declared.state.PlexState.{PlexState}
use Rattle.vx_config_parts.specs.declared.state.PlexState.TheVariants as plex
use Rattle.vx_states.specs.declared.action.Action.{Action}
use Rattle.vx_states.specs.declared.action.Action.TheVariants.{Start, Stop, Import, RecoverBegin, RecoverEnd, Detach, Attach, Dissociate, Add, Added, Mirror, Restore, BreakOff}
use Rattle.vx_states.specs.declared.action.WrongState.{WrongState}
use Rattle.vx_states.specs.declared.action.WrongState.TheVariants as wrong

-- only an active volume
abbrev pub if_active : VolState → Option VolState
if_active vol.Active = Some vol.Active
if_active other = None

-- the volume afterwards; there is none where the action does not exist for its state
abbrev pub vol_after : Action → VolState → Option VolState
vol_after Start vol.Empty = Some vol.Active
vol_after Start vol.Clean = Some vol.Active
vol_after Start other = None
vol_after (Stop marked) vol.Active = Some vol.Clean
vol_after (Stop marked) other = None
vol_after Import vol.Active = Some vol.NeedSync
vol_after Import vol.Sync = Some vol.NeedSync
vol_after Import other = Some other
vol_after RecoverBegin vol.NeedSync = Some vol.Sync
vol_after RecoverBegin vol.Sync = Some vol.Sync
vol_after RecoverBegin other = None
vol_after (RecoverEnd marked) vol.Sync = Some vol.Active
vol_after (RecoverEnd marked) other = None
vol_after Detach now = if_active now
vol_after Attach now = if_active now
vol_after Dissociate now = Some now
vol_after Add now = if_active now
vol_after Added now = if_active now
vol_after Mirror now = if_active now
vol_after Restore now = if_active now
vol_after BreakOff now = if_active now

-- this, where the action exists
abbrev pub only : Bool → PlexState → Option PlexState
only exists after = if exists then Some after else None

-- a start makes active what was in order, or only failed
abbrev pub plex_started : PlexState → PlexState
plex_started plex.Empty = plex.Active
plex_started plex.Clean = plex.Active
plex_started plex.IoFail = plex.Active
plex_started other = other

-- a stop tells the active plexes that miss something from those that do not
abbrev pub plex_stopped : Bool → PlexState → PlexState
plex_stopped marked plex.Active = if marked then plex.IoFail else plex.Clean
plex_stopped marked other = other

-- a recovery ends the copy to a plex that will be a snapshot, unless it misses something still
abbrev pub plex_recovered : Bool → PlexState → PlexState
plex_recovered marked plex.SnapAtt = if marked then plex.SnapAtt else plex.SnapDone
plex_recovered marked plex.IoFail = plex.Active
plex_recovered marked other = other

abbrev pub is_active : PlexState → Bool
is_active plex.Active = true
is_active other = false

-- it is to be a snapshot, and being copied; or complete
abbrev pub is_copied : PlexState → Bool
is_copied plex.SnapAtt = true
is_copied other = false

abbrev pub is_complete : PlexState → Bool
is_complete plex.SnapDone = true
is_complete other = false

abbrev pub may_attach : PlexState → Bool
may_attach plex.Stale = true
may_attach plex.IoFail = true
may_attach plex.Active = true
may_attach other = false

-- the plex afterwards; there is none where the action does not exist for its state
abbrev pub plex_after : Action → PlexState → Option PlexState
plex_after Start now = Some (plex_started now)
plex_after (Stop marked) now = Some (plex_stopped marked now)
plex_after Import now = Some now
plex_after RecoverBegin now = Some now
plex_after (RecoverEnd marked) now = Some (plex_recovered marked now)
plex_after Detach now = only (is_active now) plex.Stale
plex_after Attach now = only (may_attach now) plex.Active
plex_after Dissociate now = Some plex.Empty
plex_after Add now = Some plex.SnapAtt
plex_after Added now = only (is_copied now) plex.SnapDone
plex_after Mirror now = Some plex.Active
plex_after Restore now = Some plex.SnapDone
plex_after BreakOff now = only (is_complete now) plex.Active

-- the plex with the volume afterwards, where the action exists for it
abbrev pub with_plex : VolState → PlexState → Option PlexState → Result (VolState × Option PlexState) WrongState
with_plex vol before None = Err (wrong.Plex before)
with_plex vol before (Some after) = Ok (vol, Some after)

abbrev pub with_vol : Action → VolState → Option PlexState → Option VolState → Result (VolState × Option PlexState) WrongState
with_vol action now plex None = Err (wrong.Vol now)
with_vol action now None (Some after) = Ok (after, None)
with_vol action now (Some plex) (Some after) = with_plex after plex (plex_after action plex)

-- both afterwards, or the state for which the action does not exist: the volume's first
abbrev pub next_state : Action → VolState → Option PlexState → Result (VolState × Option PlexState) WrongState
next_state action now plex = with_vol action now plex (vol_after action now)
