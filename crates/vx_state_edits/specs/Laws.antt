-- No rule refuses what a start, a stop and a recovery record, and nothing but states changes by it.
use Rattle.std.specs.Prelude.{◌≡◌, ◌⊎◌, ℕ, true, false, None, List, [], ◌∷◌, map, if◌then◌else◌}
use Rattle.std.specs.List.{AllZip}
use Rattle.std.specs.Str.{bytes_eq}
use Rattle.vx_base.specs.Named.{Word}
use Rattle.vx_config_parts.specs.declared.object.Object.TheVariants.{VolRecord}
use Rattle.vx_config_parts.specs.declared.plex.Plex.{Plex}
use Rattle.vx_config_parts.specs.declared.state.PlexState.{PlexState}
use Rattle.vx_config_parts.specs.declared.state.VolState.{VolState}
use Rattle.vx_config_parts.specs.declared.state.VolState.TheVariants as vol
use Rattle.vx_config_parts.specs.declared.vol.Vol.{Vol}
use Rattle.vx_config_parts.specs.Objects.{refers}
use Rattle.vx_objects.specs.declared.config.Config.{Config}
use Rattle.vx_objects.specs.Applied.{IsEdited}
use Rattle.vx_objects.specs.Config.{objects_of}
use Rattle.vx_objects.specs.Edits.{refusal_of}
use Rattle.vx_state_edits.specs.Edits.{is_new, recovered, recovered_edits, recovery_edits, started, stopped, start_edits, stop_edits}

-- it is one of these
abbrev pub IsAmong : {X : Type 0} → List X → X → Type 0
IsAmong [] x = ⊥
IsAmong (y ∷ ys) x = (x ≡ y) ⊎ IsAmong ys x

-- the configuration records the volume
abbrev pub IsRecorded : Config → Vol → Type 0
IsRecorded c v = IsAmong (objects_of c) (VolRecord v)

-- ---- no rule refuses it

-- no rule looks at the states of volumes and of data plexes, and a log plex counts when it is new as when it is active
abbrev pub EachStartIsFine : Type 0
EachStartIsFine = (c : Config) (v : Vol) → IsRecorded c v → refusal_of (start_edits c v) (objects_of c) ≡ None

abbrev pub EachStopIsFine : Type 0
EachStopIsFine = (c : Config) (v : Vol) (marks : ℕ) → IsRecorded c v → refusal_of (stop_edits c v marks) (objects_of c) ≡ None

abbrev pub EachRecoveryIsFine : Type 0
EachRecoveryIsFine = (c : Config) (v : Vol) → IsRecorded c v → refusal_of (recovery_edits c v) (objects_of c) ≡ None

abbrev pub EachRecoveredIsFine : Type 0
EachRecoveredIsFine = (c : Config) (v : Vol) (marks : ℕ) → IsRecorded c v → refusal_of (recovered_edits c v marks) (objects_of c) ≡ None

-- ---- nothing but states changes

-- the volume of that name in this state, any other as it is
abbrev pub in_state : Word → VolState → Vol → Vol
in_state vol next v = if bytes_eq v.name vol then record v { state = next } else v

-- the plex is the same but for its state, and that is another for plexes of the volume alone
pub record IsPlexAfter (vol : Word) (after : Plex → PlexState) (p q : Plex) : Type 0 where
  pub same : q ≡ record p { state = q.state }
  pub own : refers p.vol vol ≡ true → q.state ≡ after p
  pub other : refers p.vol vol ≡ false → q.state ≡ p.state

-- of the configuration the states of a volume and of its plexes have changed, and nothing else
pub record Restates (vol : Word) (next : VolState) (after : Plex → PlexState) (c c' : Config) : Type 0 where
  pub group : c'.group ≡ c.group
  pub version : c'.version ≡ c.version
  pub disks : c'.disks ≡ c.disks
  pub subdisks : c'.subdisks ≡ c.subdisks
  pub plexes : AllZip (IsPlexAfter vol after) c.plexes c'.plexes
  pub volumes : c'.volumes ≡ map (in_state vol next) c.volumes
  pub dcos : c'.dcos ≡ c.dcos
  pub snaps : c'.snaps ≡ c.snaps

abbrev pub EachStartRestates : Type 0
EachStartRestates = (c : Config) (v : Vol) → IsRecorded c v → (c' : Config) → IsEdited (start_edits c v) c c' → Restates v.name vol.Active (started (is_new v.state)) c c'

abbrev pub EachStopRestates : Type 0
EachStopRestates = (c : Config) (v : Vol) (marks : ℕ) → IsRecorded c v → (c' : Config) → IsEdited (stop_edits c v marks) c c' → Restates v.name vol.Clean (stopped marks) c c'

abbrev pub EachRecoveryRestates : Type 0
EachRecoveryRestates = (c : Config) (v : Vol) → IsRecorded c v → (c' : Config) → IsEdited (recovery_edits c v) c c' → Restates v.name vol.Sync (λ p. p.state) c c'

abbrev pub EachRecoveredRestates : Type 0
EachRecoveredRestates = (c : Config) (v : Vol) (marks : ℕ) → IsRecorded c v → (c' : Config) → IsEdited (recovered_edits c v marks) c c' → Restates v.name vol.Active (recovered marks) c c'

-- the configuration then records the volume in its new state
abbrev pub EachRestatedVolumeIsRecorded : Type 0
EachRestatedVolumeIsRecorded =
    (c : Config) (v : Vol) (next : VolState) (after : Plex → PlexState) (c' : Config) → IsRecorded c v → Restates v.name next after c c' → IsRecorded c' (record v { state = next })
