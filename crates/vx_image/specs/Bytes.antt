-- The image of a volume of a configuration, out of the sectors of its disks.
use Rattle.std.specs.Prelude.{ℕ, ◌&&◌, ◌||◌, not, Bool, true, false, Option, Some, None, List, [], ◌∷◌, map, if◌then◌else◌}
use Rattle.std.specs.List.{list_all, filter}
use Rattle.std.specs.Str.{bytes_eq}
use Rattle.vx_base.specs.Blocks.{Contents}
use Rattle.vx_base.specs.Named.{Word}
use Rattle.vx_block.specs.Regions.{region_count}
use Rattle.vx_mask.specs.Mask.{has}
use Rattle.vx_layout.specs.declared.place.Place.{Place}
use Rattle.vx_layout.specs.Columns.{place_of}
use Rattle.vx_mapfmt.specs.Bits.{marks, is_headed}
use Rattle.vx_config_parts.specs.declared.plex.Plex.{Plex}
use Rattle.vx_config_parts.specs.declared.vol.Vol.{Vol}
use Rattle.vx_config_parts.specs.declared.snap.Snap.{Snap}
use Rattle.vx_config_parts.specs.declared.state.PlexState.{PlexState}
use Rattle.vx_config_parts.specs.declared.state.PlexState.TheVariants as plex
use Rattle.vx_config_parts.specs.Objects.{refers, is_data_plex_of, is_log_plex_of}
use Rattle.vx_objects.specs.declared.config.Config.{Config}
use Rattle.vx_image.specs.Lies.{slot_of, columns_of}
use Rattle.vx_image.specs.Image.{PlexImage, LogCopy, Image}

-- the sectors of the public regions of a group's disks, by slot and sector
abbrev pub Sectors : Type 0
Sectors = ℕ → Contents

-- ---- a plex

-- what lies at a place
abbrev pub bytes_at : Sectors → Option Place → List ℕ
bytes_at bytes None = []
bytes_at bytes (Some place) = bytes place.disk place.sector

-- what a plex holds of each of its blocks
abbrev pub plex_contents : Config → Sectors → Plex → Contents
plex_contents c bytes p b = bytes_at bytes (place_of p.unit (columns_of c p) b)

-- all its disks are good
abbrev pub is_held : Config → ℕ → Plex → Bool
is_held c good p = list_all (λ s. not (refers s.plex p.name) || has good (slot_of c.disks s.disk)) c.subdisks

-- its map; the plex of a volume without a log has number 0
abbrev pub map_or_zero : Option ℕ → ℕ
map_or_zero None = 0
map_or_zero (Some k) = k

abbrev pub plex_image : Config → ℕ → Sectors → Plex → PlexImage
plex_image c good bytes p = record { name = p.name; map = map_or_zero p.map; state = p.state; held = is_held c good p; values = plex_contents c bytes p }

-- ---- the log

abbrev pub is_active : PlexState → Bool
is_active plex.Active = true
is_active _ = false

-- the copies that count: the active log plexes on good disks that begin with the header of the volume's maps
abbrev pub is_log_copy : Config → ℕ → Sectors → Vol → Plex → Bool
is_log_copy c good bytes v p = is_log_plex_of v.name p && (is_active p.state && (is_held c good p && is_headed v.len v.region (plex_contents c bytes p)))

-- what a log plex marks
abbrev pub plex_marks : Config → Sectors → Vol → Plex → LogCopy
plex_marks c bytes v p r k = marks (region_count v.len v.region) (plex_contents c bytes p) k r

-- the copies of a volume's log, by its DCO
abbrev pub log_copies : Option Word → Config → ℕ → Sectors → Vol → List LogCopy
log_copies None c good bytes v = (λ r k. false) ∷ []
log_copies (Some dco) c good bytes v = map (plex_marks c bytes v) (filter (is_log_copy c good bytes v) c.plexes)

-- ---- the volume

-- the map of a relation in the log of the volume, if it is in it, before others
abbrev pub relation_before : Snap → Word → List ℕ → List ℕ
relation_before s vol maps = if bytes_eq s.vol vol then s.map ∷ maps else if bytes_eq s.of vol then s.ofmap ∷ maps else maps

-- the maps of the volume's relations in its own log
abbrev pub relation_maps : List Snap → Word → List ℕ
relation_maps [] vol = []
relation_maps (s ∷ ss) vol = relation_before s vol (relation_maps ss vol)

-- the volume as it is by these good slots and these sectors
abbrev pub image_of : Config → ℕ → Sectors → Vol → Image
image_of c good bytes v =
    record {
      state = v.state;
      length = v.len;
      region = v.region;
      plexes = map (plex_image c good bytes) (filter (is_data_plex_of v.name) c.plexes);
      snaps = relation_maps c.snaps v.name;
      copies = log_copies v.dco c good bytes v;
    }
