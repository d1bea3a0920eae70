-- The kernel states of volumes and plexes, and their words.
use Rattle.std.specs.Prelude.{ℕ, ◌&&◌, if◌then◌else◌, Bool, List, codes}
use Rattle.vx_config_parts.specs.declared.state.PlexState.{PlexState}
use Rattle.vx_config_parts.specs.declared.state.PlexState.TheVariants as plex
use Rattle.vx_hierarchy.specs.declared.kernel.Kernel.{Kernel}
use Rattle.vx_hierarchy.specs.declared.kernel.Kernel.TheVariants.{Enabled, Detached, Disabled}

abbrev pub kernel_word : Kernel → List ℕ
kernel_word Enabled = codes "ENABLED"
kernel_word Detached = codes "DETACHED"
kernel_word Disabled = codes "DISABLED"

-- a volume is enabled where it is started
abbrev pub volume_kernel : Bool → Kernel
volume_kernel started = if started then Enabled else Disabled

-- a plex that is accessible is detached where it is stale
abbrev pub kernel_in : PlexState → Kernel
kernel_in plex.Stale = Detached
kernel_in _ = Enabled

-- a plex is accessible where its volume is started and its disks are good
abbrev pub plex_kernel : Bool → Bool → PlexState → Kernel
plex_kernel started held state = if started && held then kernel_in state else Disabled
