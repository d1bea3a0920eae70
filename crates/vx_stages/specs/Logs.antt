-- Whether the log of a volume has failed.
use Rattle.std.specs.Prelude.{◌≡◌, Bool, true, false, Contains}
use Rattle.vx_base.specs.Named.{Word}
use Rattle.vx_config_parts.specs.declared.plex.Plex.{Plex}
use Rattle.vx_config_parts.specs.Objects.{is_log_plex_of}
use Rattle.vx_moments.specs.World.{Group}
use Rattle.vx_moments.specs.Owners.{devices_on}

-- no device that a log plex of the volume lies on is among those that have failed
abbrev pub LogIsSpared : Group → Word → (Word → Bool) → Type 0
LogIsSpared g vol failed =
    (p : Plex) → Contains g.config.plexes p → is_log_plex_of vol p ≡ true → (device : Word) → Contains (devices_on g p) device → failed device ≡ false
