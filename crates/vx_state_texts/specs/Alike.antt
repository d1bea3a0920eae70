-- Configurations that are alike but for states of plexes, which are nowhere longer in the one.
use Rattle.std.specs.Prelude.{◌≡◌, ◌||◌, ℕ, ◌≤◌, Bool, false, Option, Some, None, List, length}
use Rattle.std.specs.List.{AllZip}
use Rattle.std.specs.Str.{bytes_eq}
use Rattle.vx_base.specs.Named.{Word}
use Rattle.vx_config_parts.specs.declared.plex.Plex.{Plex}
use Rattle.vx_config_parts.specs.declared.state.PlexState.{PlexState}
use Rattle.vx_config_parts.specs.declared.state.VolState.{VolState}
use Rattle.vx_config_parts.specs.Words.{plex_state_word}
use Rattle.vx_objects.specs.declared.config.Config.{Config}
use Rattle.vx_state_edits.specs.Laws.{Restates}
use Rattle.vx_state_texts.specs.Texts.{IsTextOf}

-- the plex is one of a volume in the set
abbrev pub is_plex_in : (Word → Bool) → Option Word → Bool
is_plex_in done None = false
is_plex_in done (Some vol) = done vol

-- the bytes of the name of a state
abbrev pub word_size : PlexState → ℕ
word_size s = length (plex_state_word s)

-- the plex is the same but for its state, of which the name is no shorter; of a volume outside the set that is the same too
pub record IsNoShorter (done : Word → Bool) (p q : Plex) : Type 0 where
  pub same : q ≡ record p { state = q.state }
  pub word : word_size p.state ≤ word_size q.state
  pub kept : is_plex_in done p.vol ≡ false → q.state ≡ p.state

-- the configurations are alike but for the states of plexes of volumes in the set, which have no shorter names in the other
pub record AreAlike (done : Word → Bool) (c d : Config) : Type 0 where
  pub group : d.group ≡ c.group
  pub version : d.version ≡ c.version
  pub disks : d.disks ≡ c.disks
  pub subdisks : d.subdisks ≡ c.subdisks
  pub plexes : AllZip (IsNoShorter done) c.plexes d.plexes
  pub volumes : d.volumes ≡ c.volumes
  pub dcos : d.dcos ≡ c.dcos
  pub snaps : d.snaps ≡ c.snaps

-- Then the text of the one is no longer, ..
abbrev pub EachAlikeIsNoLonger : Type 0
EachAlikeIsNoLonger = (done : Word → Bool) (c d : Config) → AreAlike done c d → (text other : List ℕ) → IsTextOf c text → IsTextOf d other → length text ≤ length other

-- .. and they stay alike where a volume outside the set gets new states, and its plexes in the other states with no shorter names.
abbrev pub EachChangeStaysAlike : Type 0
EachChangeStaysAlike =
    (done : Word → Bool) (c d : Config) → AreAlike done c d →
    (vol : Word) → done vol ≡ false → (next : VolState) (after more : Plex → PlexState) → ((p : Plex) → word_size (after p) ≤ word_size (more p)) →
    (c' d' : Config) → Restates vol next after c c' → Restates vol next more d d' → AreAlike (λ name. done name || bytes_eq name vol) c' d'
