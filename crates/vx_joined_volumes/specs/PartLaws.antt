-- A running volume that a plex leaves runs in its place by the new configuration.
use Rattle.std.specs.Prelude.{◌≡◌, ◌≢◌, ◌==◌, not, ℕ, ◌<◌, Bool, true, false, List, [], ◌∷◌, Contains, length}
use Rattle.std.specs.List.{filter}
use Rattle.std.specs.Str.{bytes_eq}
use Rattle.vx_base.specs.Named.{Word}
use Rattle.vx_mask.specs.Mask.{has}
use Rattle.vx_piece.specs.Seen.{Seen}
use Rattle.vx_pages.specs.declared.local_piece.LocalPiece.{Ghosts}
use Rattle.vx_config_parts.specs.declared.plex.Plex.{Plex}
use Rattle.vx_config_parts.specs.declared.vol.Vol.{Vol}
use Rattle.vx_objects.specs.declared.config.Config.{Config}
use Rattle.vx_image.specs.Bytes.{Sectors, image_of, map_or_zero}
use Rattle.vx_image.specs.Image.{PlexImage}
use Rattle.vx_image.specs.UsedPlexes.{IsVolOf}
use Rattle.vx_moments.specs.Owners.{owners_of}
use Rattle.vx_moments.specs.Tracks.{TrackOwner}
use Rattle.vx_moments.specs.World.{Group}
use Rattle.vx_volume.specs.Volume.{volume_seen}
use Rattle.vx_lending.specs.declared.form.VolumeForm.{VolumeForm}
use Rattle.vx_lending.specs.Form.{IsFormOf}
use Rattle.vx_lending.specs.FormLaws.{AreNumbered}
use Rattle.vx_lending.specs.declared.public.Running.{Running}
use Rattle.vx_volume_laws.specs.Leaving.{AreNamedIn}
use Rattle.vx_change_laws.specs.Laws.{IsCutIfDead}
use Rattle.vx_change_laws.specs.Switching.{IsNamed}
use Rattle.vx_group_edits.specs.OfVolume.{AreEditsOf}
use Rattle.vx_group_edits.specs.Stays.{EachStays}
use Rattle.vx_group_volumes.specs.Runs.{Opening}
use Rattle.vx_group_volumes.specs.Places.{RunsInPlace}
use Rattle.vx_group_volumes.specs.Opened.{WereThere, opened_plexes}
use Rattle.vx_joined_volumes.specs.Joined.{good_joined, opening_joined}
use Rattle.vx_joined_volumes.specs.Parted.{HasParted, IsFormParted, IsTakenOut, TakesOut, leaving_edit}

-- ---- its record

-- The edit of a plex that leaves its volume takes that plex out alone.
abbrev pub EachPlexIsTakenOut : Type 0
EachPlexIsTakenOut = (c : Config) (v : Vol) → IsVolOf c v → (p : Plex) (remove : Bool) (c' : Config) → TakesOut c v p remove c' → IsTakenOut c v p c'

-- It is of that volume alone, ..
abbrev pub EachLeavingIsOfItsVolume : Type 0
EachLeavingIsOfItsVolume = (c : Config) (v : Vol) (p : Plex) (remove : Bool) (c' : Config) → TakesOut c v p remove c' → AreEditsOf c v.name (leaving_edit remove p ∷ [])

-- .. and so keeps every other one.
abbrev pub EachLeavingKeepsOthers : Type 0
EachLeavingKeepsOthers = (c : Config) (v : Vol) (p : Plex) (remove : Bool) (c' : Config) → TakesOut c v p remove c' → EachStays (λ u. u.name ≢ v.name) c c'

-- ---- its form, and the volume

-- The form without the plex is that of the volume by the new configuration, and by the disks that were good as it was opened or are good
-- now.
abbrev pub EachPartedFormIsItsOwn : {P : Type 0} {ghosts : Ghosts P} → (P → Seen) → Running P ghosts → Type 0
EachPartedFormIsItsOwn see running =
    (c : Config) (good : ℕ) (numbers : List ℕ) (v : Vol) (placed : RunsInPlace see c good numbers v running) →
    (p : Plex) (remove : Bool) (c' : Config) → TakesOut c v p remove c' →
    (form : VolumeForm) → IsFormParted (map_or_zero p.map) running.form form → IsFormOf c' (good_joined placed.runs.opening good) v false form

-- A volume whose regions the plex has left runs in its place by the new configuration, also as disks fail, where a region is dead only if
-- it is cut still: the piece that was cut may be one of the plex. It counts as opened by that configuration.
abbrev pub EachPartedVolumeRunsInPlace : {P : Type 0} {ghosts : Ghosts P} → (P → Seen) → Running P ghosts → Running P ghosts → Type 0
EachPartedVolumeRunsInPlace see running later =
    (c : Config) (good : ℕ) (numbers : List ℕ) (v : Vol) (placed : RunsInPlace see c good numbers v running) →
    (p : Plex) (remove : Bool) (c' : Config) → TakesOut c v p remove c' →
    IsFormParted (map_or_zero p.map) running.form later.form → HasParted see (map_or_zero p.map) running.volume later.volume →
    ((r : ℕ) → r < length (volume_seen see later.volume).cells → IsCutIfDead (volume_seen see later.volume) r) →
    AreNumbered numbers (good_joined placed.runs.opening good) c'.disks →
    (good' : ℕ) → ((slot : ℕ) → has good' slot ≡ true → has good slot ≡ true) →
    (now : RunsInPlace see c' good' numbers v later) × (now.runs.opening ≡ opening_joined placed.runs.opening c' good v)

-- ---- its names

-- the names but this one
abbrev pub names_without : Word → List Word → List Word
names_without name names = filter (λ n. not (bytes_eq n name)) names

-- the images but those of this map
abbrev pub images_without : ℕ → List PlexImage → List PlexImage
images_without m images = filter (λ (x : PlexImage). not (x.map == m)) images

-- The images without the plex are data plexes of the volume by its new opening and by its new configuration. Each is one of the images, of
-- which the plex is the one with its map, and the one with its name.
pub record AreNamedWithout (opening : Opening) (c : Config) (v : Vol) (p : Plex) (images : List PlexImage) : Type 0 where
  pub were : WereThere opening (images_without (map_or_zero p.map) images)
  pub are : (good : ℕ) (bytes : Sectors) → AreNamedIn (image_of c good bytes v).plexes (images_without (map_or_zero p.map) images)
  pub left : (x : PlexImage) → Contains (images_without (map_or_zero p.map) images) x → ((q : PlexImage) × Contains images q × (q.name ≡ x.name) × (q.map ≡ x.map)) × (x.map ≢ map_or_zero p.map)
  pub named : IsNamed (map_or_zero p.map) p.name images

-- The plexes that it counts as opened with are those of before without that one, and so are its plexes by name and map by the new opening
-- and the new configuration.
abbrev pub EachPartedVolumeIsNamed : {P : Type 0} {ghosts : Ghosts P} → (P → Seen) → Running P ghosts → Type 0
EachPartedVolumeIsNamed see running =
    (c : Config) (good : ℕ) (numbers : List ℕ) (v : Vol) (placed : RunsInPlace see c good numbers v running) →
    (p : Plex) (remove : Bool) (c' : Config) → TakesOut c v p remove c' →
    let o = placed.runs.opening in
    (opened_plexes (opening_joined o c' good v) ≡ names_without p.name (opened_plexes o))
    × ((images : List PlexImage) → WereThere o images → ((bytes : Sectors) → AreNamedIn (image_of c good bytes v).plexes images) → AreNamedWithout (opening_joined o c' good v) c' v p images)

-- ---- its owners

-- the plex is written to just where it was, and lies on the devices that it did where the group has its members
pub record IsOwnerKept (g g' : Group) (old new : TrackOwner) : Type 0 where
  pub available : new.available ≡ old.available
  pub devices : g'.members ≡ g.members → new.devices ≡ old.devices

-- As its tracks see them in the group before and after, the other plexes are as they were.
abbrev pub EachPartedOwnerIsKept : {P : Type 0} {ghosts : Ghosts P} → (P → Seen) → Running P ghosts → Type 0
EachPartedOwnerIsKept see running =
    (g g' : Group) (numbers : List ℕ) (v : Vol) (placed : RunsInPlace see g.config g.good numbers v running) →
    (p : Plex) (remove : Bool) → TakesOut g.config v p remove g'.config →
    (images : List PlexImage) → WereThere placed.runs.opening images →
    let o = placed.runs.opening in
    (x : PlexImage) → Contains (images_without (map_or_zero p.map) images) x →
    IsOwnerKept g g' (owners_of g v.name (opened_plexes o) x.name) (owners_of g' v.name (opened_plexes (opening_joined o g'.config g.good v)) x.name)
