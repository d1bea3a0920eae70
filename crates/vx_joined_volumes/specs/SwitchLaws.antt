-- A running volume of which a plex goes on or off runs in its place by the new configuration.
use Rattle.std.specs.Prelude.{◌≡◌, ℕ, Bool, true, false, List, Contains}
use Rattle.vx_mask.specs.Mask.{has}
use Rattle.vx_piece.specs.Seen.{Seen}
use Rattle.vx_pages.specs.declared.local_piece.LocalPiece.{Ghosts}
use Rattle.vx_config_parts.specs.declared.plex.Plex.{Plex}
use Rattle.vx_config_parts.specs.declared.state.PlexState.{PlexState}
use Rattle.vx_config_parts.specs.declared.vol.Vol.{Vol}
use Rattle.vx_config_parts.specs.Objects.{is_data_plex_of}
use Rattle.vx_objects.specs.declared.config.Config.{Config}
use Rattle.vx_image.specs.Bytes.{Sectors, image_of, is_held, map_or_zero}
use Rattle.vx_image.specs.Image.{PlexImage, is_available_state}
use Rattle.vx_image.specs.UsedPlexes.{IsVolOf}
use Rattle.vx_moments.specs.Holding.{is_among}
use Rattle.vx_moments.specs.Owners.{owners_of}
use Rattle.vx_moments.specs.World.{Group}
use Rattle.vx_volume.specs.Switching.{HasPlex}
use Rattle.vx_volume.specs.Volume.{volume_seen}
use Rattle.vx_lending.specs.RegionsTaken.{is_among as is_map_among}
use Rattle.vx_lending.specs.declared.form.VolumeForm.{VolumeForm}
use Rattle.vx_lending.specs.Form.{IsFormOf}
use Rattle.vx_lending.specs.FormLaws.{AreNumbered}
use Rattle.vx_lending.specs.declared.public.Running.{Running}
use Rattle.vx_volume_laws.specs.Leaving.{AreNamedIn}
use Rattle.vx_change_laws.specs.Switching.{AreSwitched, IsNamed}
use Rattle.vx_group_volumes.specs.Runs.{Opening}
use Rattle.vx_group_volumes.specs.Places.{RunsInPlace}
use Rattle.vx_group_volumes.specs.Opened.{WereThere, opened_plexes}
use Rattle.vx_joined_volumes.specs.Joined.{good_joined, opening_joined}
use Rattle.vx_joined_volumes.specs.Switched.{HasSwitched, IsFormSwitched, IsStateSet, SetsState, WasTaken}

-- ---- its state

-- The edit of a state of a data plex sets that alone.
abbrev pub EachStateIsSet : Type 0
EachStateIsSet = (c : Config) (v : Vol) → IsVolOf c v → (p : Plex) (next : PlexState) (c' : Config) → SetsState c v p next c' → IsStateSet c v p next c'

-- ---- whether it was opened with the plex

-- The volume was opened with the plex where all its disks are good now, where it is on, and where its name is among those that the volume
-- counts as opened with. Then each region has it.
pub record IsKnownPlex {P : Type 0} {ghosts : Ghosts P} (see : P → Seen) (running : Running P ghosts) (opening : Opening) (c : Config) (good : ℕ) (p : Plex) : Type 0 where
  pub held : is_held c good p ≡ true → WasTaken running.form p
  pub on : has running.form.shape.on (map_or_zero p.map) ≡ true → WasTaken running.form p
  pub named : is_among p.name (opened_plexes opening) ≡ true → WasTaken running.form p
  pub there : WasTaken running.form p → HasPlex (map_or_zero p.map) (volume_seen see running.volume)

-- So it is of each data plex.
abbrev pub EachTakenPlexIsThere : {P : Type 0} {ghosts : Ghosts P} → (P → Seen) → Running P ghosts → Type 0
EachTakenPlexIsThere see running =
    (c : Config) (good : ℕ) (numbers : List ℕ) (v : Vol) (placed : RunsInPlace see c good numbers v running) →
    (p : Plex) → Contains c.plexes p → is_data_plex_of v.name p ≡ true → IsKnownPlex see running placed.runs.opening c good p

-- A volume that was opened without the plex is as one in which the plex went off, in its form and in its regions.
abbrev pub EachPlexLeftOutIsOff : {P : Type 0} {ghosts : Ghosts P} → (P → Seen) → Running P ghosts → Type 0
EachPlexLeftOutIsOff see running =
    (c : Config) (good : ℕ) (numbers : List ℕ) (v : Vol) (placed : RunsInPlace see c good numbers v running) →
    (p : Plex) → Contains c.plexes p → is_data_plex_of v.name p ≡ true → is_map_among (map_or_zero p.map) running.form.maps.items ≡ false →
    IsFormSwitched (map_or_zero p.map) false running.form running.form × HasSwitched see (map_or_zero p.map) false running.volume running.volume

-- ---- its form, and the volume

-- The form with the plex on or off is that of the volume by the new configuration, and by the disks that were good as it was opened or
-- are good now. To go on the plex has to be one that the volume was opened with.
abbrev pub EachSwitchedFormIsItsOwn : {P : Type 0} {ghosts : Ghosts P} → (P → Seen) → Running P ghosts → Type 0
EachSwitchedFormIsItsOwn see running =
    (c : Config) (good : ℕ) (numbers : List ℕ) (v : Vol) (placed : RunsInPlace see c good numbers v running) →
    (p : Plex) (next : PlexState) (c' : Config) → SetsState c v p next c' →
    (on : Bool) → is_available_state next ≡ on → (on ≡ true → WasTaken running.form p) →
    (form : VolumeForm) → IsFormSwitched (map_or_zero p.map) on running.form form → IsFormOf c' (good_joined placed.runs.opening good) v false form

-- A volume in which the code has set the plex on or off runs in its place by the new configuration, also as disks fail: it counts as
-- opened by that one.
abbrev pub EachSwitchedVolumeRunsInPlace : {P : Type 0} {ghosts : Ghosts P} → (P → Seen) → Running P ghosts → Running P ghosts → Type 0
EachSwitchedVolumeRunsInPlace see running later =
    (c : Config) (good : ℕ) (numbers : List ℕ) (v : Vol) (placed : RunsInPlace see c good numbers v running) →
    (p : Plex) (next : PlexState) (c' : Config) → SetsState c v p next c' →
    (on : Bool) → is_available_state next ≡ on → (on ≡ true → WasTaken running.form p) →
    IsFormSwitched (map_or_zero p.map) on running.form later.form → HasSwitched see (map_or_zero p.map) on running.volume later.volume →
    AreNumbered numbers (good_joined placed.runs.opening good) c'.disks →
    (good' : ℕ) → ((slot : ℕ) → has good' slot ≡ true → has good slot ≡ true) →
    (now : RunsInPlace see c' good' numbers v later) × (now.runs.opening ≡ opening_joined placed.runs.opening c' good v)

-- ---- its names

-- The images are data plexes of the volume by its new opening and by its new configuration, and the plex is the one among them with its
-- map, and the one with its name.
pub record AreNamedStill (opening : Opening) (c : Config) (v : Vol) (p : Plex) (plexes : List PlexImage) : Type 0 where
  pub were : WereThere opening plexes
  pub are : (good : ℕ) (bytes : Sectors) → AreNamedIn (image_of c good bytes v).plexes plexes
  pub named : IsNamed (map_or_zero p.map) p.name plexes

-- The plexes that it counts as opened with are those of before, and its plexes by name and map are so by the new opening and the new
-- configuration.
abbrev pub EachSwitchedVolumeIsNamed : {P : Type 0} {ghosts : Ghosts P} → (P → Seen) → Running P ghosts → Type 0
EachSwitchedVolumeIsNamed see running =
    (c : Config) (good : ℕ) (numbers : List ℕ) (v : Vol) (placed : RunsInPlace see c good numbers v running) →
    (p : Plex) (next : PlexState) (c' : Config) → SetsState c v p next c' →
    let o = placed.runs.opening in
    (opened_plexes (opening_joined o c' good v) ≡ opened_plexes o)
    × ((plexes : List PlexImage) → WereThere o plexes → ((bytes : Sectors) → AreNamedIn (image_of c good bytes v).plexes plexes) → AreNamedStill (opening_joined o c' good v) c' v p plexes)

-- ---- its owners

-- As its tracks see them in the group before and after, the plex is written to now just where it went on, and the others are as they were.
abbrev pub EachSwitchedOwnerIsSwitched : {P : Type 0} {ghosts : Ghosts P} → (P → Seen) → Running P ghosts → Type 0
EachSwitchedOwnerIsSwitched see running =
    (g g' : Group) (numbers : List ℕ) (v : Vol) (placed : RunsInPlace see g.config g.good numbers v running) →
    (p : Plex) (next : PlexState) → SetsState g.config v p next g'.config →
    (on : Bool) → is_available_state next ≡ on → (on ≡ true → WasTaken running.form p) →
    (plexes : List PlexImage) → WereThere placed.runs.opening plexes →
    let o = placed.runs.opening in
    AreSwitched (map_or_zero p.map) on plexes (owners_of g v.name (opened_plexes o)) (owners_of g' v.name (opened_plexes (opening_joined o g'.config g.good v)))
