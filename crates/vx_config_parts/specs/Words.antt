-- The words by which record text says what is not a name or a number.
use Rattle.std.specs.Prelude.{ℕ, List, codes}
use Rattle.vx_config_parts.specs.declared.plex.PlexKind.{PlexKind}
use Rattle.vx_config_parts.specs.declared.plex.PlexKind.TheVariants as kind
use Rattle.vx_config_parts.specs.declared.plex.PlexLayout.{PlexLayout}
use Rattle.vx_config_parts.specs.declared.plex.PlexLayout.TheVariants as layout
use Rattle.vx_config_parts.specs.declared.state.PlexState.{PlexState}
use Rattle.vx_config_parts.specs.declared.state.PlexState.TheVariants as plex
use Rattle.vx_config_parts.specs.declared.state.VolState.{VolState}
use Rattle.vx_config_parts.specs.declared.state.VolState.TheVariants as vol
use Rattle.vx_config_parts.specs.declared.vol.PolicyKind.{PolicyKind}
use Rattle.vx_config_parts.specs.declared.vol.PolicyKind.TheVariants as policy

abbrev pub plex_kind_word : PlexKind → List ℕ
plex_kind_word kind.Data = codes "data"
plex_kind_word kind.Log = codes "log"

abbrev pub layout_word : PlexLayout → List ℕ
layout_word layout.Concat = codes "concat"
layout_word layout.Stripe = codes "stripe"

abbrev pub plex_state_word : PlexState → List ℕ
plex_state_word plex.Empty = codes "EMPTY"
plex_state_word plex.Clean = codes "CLEAN"
plex_state_word plex.Active = codes "ACTIVE"
plex_state_word plex.IoFail = codes "IOFAIL"
plex_state_word plex.Stale = codes "STALE"
plex_state_word plex.SnapAtt = codes "SNAPATT"
plex_state_word plex.SnapDone = codes "SNAPDONE"
plex_state_word plex.DcoSnp = codes "DCOSNP"

abbrev pub vol_state_word : VolState → List ℕ
vol_state_word vol.Empty = codes "EMPTY"
vol_state_word vol.Clean = codes "CLEAN"
vol_state_word vol.Active = codes "ACTIVE"
vol_state_word vol.NeedSync = codes "NEEDSYNC"
vol_state_word vol.Sync = codes "SYNC"

abbrev pub policy_word : PolicyKind → List ℕ
policy_word policy.Round = codes "round"
policy_word policy.Prefer = codes "prefer"
policy_word policy.Select = codes "select"
