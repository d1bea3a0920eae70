-- Plexes that join a volume of a configuration.
use Rattle.std.specs.Prelude.{◌≡◌, ◌≢◌, ℕ, ◌&&◌, not, Bool, true, Option, Some, None, List, [], ◌∷◌, ◌++◌, map, Contains}
use Rattle.std.specs.List.{filter, filter_map}
use Rattle.vx_base.specs.Named.{Word}
use Rattle.vx_config_parts.specs.declared.object.Object.{Object}
use Rattle.vx_config_parts.specs.declared.plex.Plex.{Plex}
use Rattle.vx_config_parts.specs.declared.subdisk.Subdisk.{Subdisk}
use Rattle.vx_config_parts.specs.declared.vol.Vol.{Vol}
use Rattle.vx_config_parts.specs.Objects.{is_data_plex_of, refers}
use Rattle.vx_objects.specs.declared.config.Config.{Config}
use Rattle.vx_objects.specs.Parts.{as_plex, as_subdisk}
use Rattle.vx_image.specs.Bytes.{Sectors, image_of, is_held, is_log_copy, plex_image, plex_marks}
use Rattle.vx_image.specs.Image.{Image, LogCopy, PlexImage}
use Rattle.vx_image.specs.UsedPlexes.{IsVolOf, held_plexes, is_on, is_used_log, off_plexes, on_plexes, used_logs}
use Rattle.vx_volume_laws.specs.Keeping.{LiesStill, data_plexes}

-- the plexes among records, in their order
abbrev pub plexes_in : List Object → List Plex
plexes_in os = filter_map as_plex os

-- the subdisks among records, in their order
abbrev pub subdisks_in : List Object → List Subdisk
subdisks_in os = filter_map as_subdisk os

-- the subdisks of a plex
abbrev pub subdisks_of : Config → Word → List Subdisk
subdisks_of c name = filter (λ s. refers s.plex name) c.subdisks

-- The plex is recorded as it was, with the subdisks that it had. It lies where it lay, and all its disks are good just where they were.
pub record StaysAsItWas (c c' : Config) (p : Plex) : Type 0 where
  pub there : Contains c'.plexes p
  pub subdisks : subdisks_of c' p.name ≡ subdisks_of c p.name
  pub lies : LiesStill c c' p p
  pub held : (good : ℕ) → is_held c' good p ≡ is_held c good p

-- the plex is one of the volume, and none that was there has its name
pub record IsNewPlex (c : Config) (vol : Word) (p : Plex) : Type 0 where
  pub own : refers p.vol vol ≡ true
  pub name : (q : Plex) → Contains c.plexes q → q.name ≢ p.name

-- The plexes of these records, with their subdisks, stand behind those of the configuration, and all else is as it was. So the volume
-- has them behind its own: those of data, those of which all disks are good, those that are available and those that are not, and
-- those of its log that are used.
pub record Joins (c : Config) (vol : Word) (added : List Object) (c' : Config) : Type 0 where
  pub disks : c'.disks ≡ c.disks
  pub subdisks : c'.subdisks ≡ c.subdisks ++ subdisks_in added
  pub plexes : c'.plexes ≡ c.plexes ++ plexes_in added
  pub volumes : c'.volumes ≡ c.volumes
  pub recorded : (v : Vol) → IsVolOf c v → IsVolOf c' v
  pub dcos : c'.dcos ≡ c.dcos
  pub snaps : c'.snaps ≡ c.snaps
  pub old : (p : Plex) → Contains c.plexes p → StaysAsItWas c c' p
  pub new : (p : Plex) → Contains (plexes_in added) p → IsNewPlex c vol p
  pub own : filter (λ p. refers p.vol vol) c'.plexes ≡ filter (λ p. refers p.vol vol) c.plexes ++ plexes_in added
  pub data_is : data_plexes c' vol ≡ data_plexes c vol ++ filter (is_data_plex_of vol) (plexes_in added)
  pub held : (good : ℕ) → held_plexes c' good vol ≡ held_plexes c good vol ++ filter (λ p. is_data_plex_of vol p && is_held c' good p) (plexes_in added)
  pub on : (good : ℕ) → on_plexes c' good vol ≡ on_plexes c good vol ++ filter (λ p. is_data_plex_of vol p && is_on c' good p) (plexes_in added)
  pub off : (good : ℕ) → off_plexes c' good vol ≡ off_plexes c good vol ++ filter (λ p. is_data_plex_of vol p && not (is_on c' good p)) (plexes_in added)
  pub logs : (dco : Word) (good : ℕ) (fresh : Bool) → used_logs (Some dco) c' good fresh vol ≡ used_logs (Some dco) c good fresh vol ++ filter (is_used_log c' good fresh vol) (plexes_in added)

-- ---- the image

-- the image with one more plex behind its own
abbrev pub with_plex : Image → PlexImage → Image
with_plex v p = record v { plexes = v.plexes ++ p ∷ [] }

-- the images of the data plexes among records
abbrev pub images_in : Config → ℕ → Sectors → Vol → List Object → List PlexImage
images_in c good bytes v os = map (plex_image c good bytes) (filter (is_data_plex_of v.name) (plexes_in os))

-- the copies of a log among records, by the DCO of the volume
abbrev pub copies_in : Option Word → Config → ℕ → Sectors → Vol → List Object → List LogCopy
copies_in None c good bytes v os = []
copies_in (Some dco) c good bytes v os = map (plex_marks c bytes v) (filter (is_log_copy c good bytes v) (plexes_in os))

-- the image of the volume as it was, and behind it what the plexes hold that have joined
abbrev pub joined_image : Config → Config → ℕ → Sectors → Vol → List Object → Image
joined_image c c' good bytes v added =
    record {
      state = v.state;
      length = v.len;
      region = v.region;
      plexes = (image_of c good bytes v).plexes ++ images_in c' good bytes v added;
      snaps = (image_of c good bytes v).snaps;
      copies = (image_of c good bytes v).copies ++ copies_in v.dco c' good bytes v added;
    }
