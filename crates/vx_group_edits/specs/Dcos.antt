-- A volume of one data plex that gets logs and a DCO by a new configuration, or loses them.
use Rattle.std.specs.Prelude.{◌≡◌, ℕ, true, Contains, Some, None, List, [], ◌∷◌}
use Rattle.vx_base.specs.Named.{Word}
use Rattle.vx_config_parts.specs.declared.object.Object.{Object}
use Rattle.vx_config_parts.specs.declared.plex.Plex.{Plex}
use Rattle.vx_config_parts.specs.declared.state.PlexState.{PlexState}
use Rattle.vx_config_parts.specs.declared.vol.Vol.{Vol}
use Rattle.vx_config_parts.specs.Objects.{is_log_plex_of}
use Rattle.vx_objects.specs.declared.config.Config.{Config}
use Rattle.vx_image.specs.Bytes.{is_held, map_or_zero, relation_maps}
use Rattle.vx_image.specs.UsedPlexes.{IsVolOf}
use Rattle.vx_volume_laws.specs.Keeping.{LiesStill, data_plexes}
use Rattle.vx_group_edits.specs.Joins.{plexes_in}
use Rattle.vx_group_edits.specs.OfVolume.{AreOf}

-- The volume has one data plex in both configurations, which lies where it lay, with number 0 in the new one, and no relation. It may have
-- another DCO, or one where it had none, or none where it had one.
pub record ChangesDco (c : Config) (v : Vol) (c' : Config) (v' : Vol) (p p' : Plex) : Type 0 where
  pub recorded : IsVolOf c' v'
  pub volume : v' ≡ record v { region = v'.region; dco = v'.dco }
  pub was : data_plexes c v.name ≡ p ∷ []
  pub is : data_plexes c' v.name ≡ p' ∷ []
  pub plex : p' ≡ record p { map = p'.map }
  pub number : map_or_zero p'.map ≡ 0
  pub lies : LiesStill c c' p p'
  pub held : (good : ℕ) → is_held c' good p' ≡ is_held c good p
  pub disks : c'.disks ≡ c.disks
  pub alone : relation_maps c.snaps v.name ≡ []
  pub alone_now : relation_maps c'.snaps v.name ≡ []

-- the records are log plexes of the volume in this state, and their subdisks
pub record AreLogsOf (vol : Word) (state : PlexState) (added : List Object) : Type 0 where
  pub of : AreOf vol added
  pub logs : (p : Plex) → Contains (plexes_in added) p → (is_log_plex_of vol p ≡ true) × (p.state ≡ state)

-- The volume had no DCO, and has these logs then, all of which are held by the slots that were good; where they are active they are those
-- that are used, by whatever further slots are good.
pub record GetsLogs (c : Config) (good : ℕ) (v : Vol) (state : PlexState) (added : List Object) (c' : Config) (v' : Vol) : Type 0 where
  pub none : v.dco ≡ None
  pub dco : Word
  pub dco_is : v'.dco ≡ Some dco
  pub logs : AreLogsOf v.name state added
  pub some : (p : Plex) × Contains (plexes_in added) p
  pub held : (p : Plex) → Contains (plexes_in added) p → is_held c' good p ≡ true
