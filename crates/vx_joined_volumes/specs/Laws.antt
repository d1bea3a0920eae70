-- A running volume that a plex joins runs in its place by the new configuration.
use Rattle.std.specs.Prelude.{◌≡◌, ℕ, true, false, List, [], ◌∷◌, ◌++◌, map, slice_index}
use Rattle.vx_mask.specs.Mask.{has}
use Rattle.vx_piece.specs.Seen.{Seen}
use Rattle.vx_layout.specs.declared.layout.Layout.{Layout}
use Rattle.vx_pages.specs.declared.local_piece.LocalPiece.{Ghosts}
use Rattle.vx_config_parts.specs.declared.disk.Disk.{Disk}
use Rattle.vx_config_parts.specs.declared.object.Object.{Object}
use Rattle.vx_config_parts.specs.declared.plex.Plex.{Plex}
use Rattle.vx_config_parts.specs.declared.vol.Vol.{Vol}
use Rattle.vx_objects.specs.declared.config.Config.{Config}
use Rattle.vx_image.specs.Bytes.{Sectors, image_of}
use Rattle.vx_image.specs.Image.{PlexImage}
use Rattle.vx_image.specs.UsedPlexes.{held_plexes, used_logs}
use Rattle.vx_lending.specs.declared.form.VolumeForm.{VolumeForm}
use Rattle.vx_lending.specs.Form.{IsFormOf, IsLayoutOf}
use Rattle.vx_lending.specs.FormLaws.{AreNumbered}
use Rattle.vx_lending.specs.declared.public.Running.{Running}
use Rattle.vx_volume_laws.specs.Leaving.{AreNamedIn}
use Rattle.vx_change_laws.specs.Joining.{AreJoinedBy, IsMapOfNone, IsNameOfNone}
use Rattle.vx_group_volumes.specs.Runs.{Opening}
use Rattle.vx_group_volumes.specs.Places.{IsSlotOf, RunsInPlace, disks_at}
use Rattle.vx_group_volumes.specs.Opened.{WereThere, opened_plexes}
use Rattle.vx_joined_volumes.specs.Joined.{HasJoined, IsFormJoined, JoinsOne, good_joined, opening_joined}

-- The form with one plex more is that of the volume by the new configuration, and by the disks that were good as it was opened or
-- are good now.
abbrev pub EachJoinedFormIsItsOwn : {P : Type 0} {ghosts : Ghosts P} → (P → Seen) → Running P ghosts → Type 0
EachJoinedFormIsItsOwn see running =
    (c : Config) (good : ℕ) (numbers : List ℕ) (v : Vol) (placed : RunsInPlace see c good numbers v running) →
    (added : List Object) (c' : Config) (p : Plex) (m : ℕ) → JoinsOne c good v added c' p m →
    (l : Layout) → IsLayoutOf c' p l → (form : VolumeForm) → IsFormJoined m l running.form form →
    IsFormOf c' (good_joined placed.runs.opening good) v false form

-- ---- numbers

-- the slots of these disks have the same numbers
abbrev pub AgreeOn : List Disk → List ℕ → List ℕ → Type 0
AgreeOn disks numbers other = (slot : ℕ) → IsSlotOf disks slot → slice_index other slot ≡ slice_index numbers slot

-- A volume that runs in its place does so by whatever numbers the slots have on which it was not opened.
abbrev pub EachNumberingAgrees : {P : Type 0} {ghosts : Ghosts P} → (P → Seen) → Running P ghosts → Type 0
EachNumberingAgrees see running =
    (c : Config) (good : ℕ) (numbers : List ℕ) (v : Vol) (placed : RunsInPlace see c good numbers v running) →
    (other : List ℕ) → AgreeOn (disks_at placed.runs.opening) numbers other → AreNumbered other placed.runs.opening.good placed.runs.opening.config.disks →
    (now : RunsInPlace see c good other v running) × (now.runs.opening ≡ placed.runs.opening)

-- ---- the volume runs

-- A volume into which the code has put the plex runs in its place by the new configuration, also as disks fail: it counts as opened
-- by that one.
abbrev pub EachJoinedVolumeRunsInPlace : {P : Type 0} {ghosts : Ghosts P} → (P → Seen) → Running P ghosts → Running P ghosts → Type 0
EachJoinedVolumeRunsInPlace see running joined =
    (c : Config) (good : ℕ) (numbers : List ℕ) (v : Vol) (placed : RunsInPlace see c good numbers v running) →
    (added : List Object) (c' : Config) (p : Plex) (m : ℕ) → JoinsOne c good v added c' p m →
    (l : Layout) → IsLayoutOf c' p l → IsFormJoined m l running.form joined.form →
    (runs : List (List Seen)) → HasJoined see numbers v m l runs running.volume joined.volume →
    AreNumbered numbers (good_joined placed.runs.opening good) c'.disks →
    (good' : ℕ) → ((slot : ℕ) → has good' slot ≡ true → has good slot ≡ true) →
    (now : RunsInPlace see c' good' numbers v joined) × (now.runs.opening ≡ opening_joined placed.runs.opening c' good v)

-- ---- its names

-- the images are data plexes of the volume by its new opening and by its new configuration, and those that were there with one more
pub record IsNamedSo (opening : Opening) (c : Config) (v : Vol) (p : Plex) (m : ℕ) (plexes later : List PlexImage) : Type 0 where
  pub were : WereThere opening later
  pub are : (good : ℕ) (bytes : Sectors) → AreNamedIn (image_of c good bytes v).plexes later
  pub joined : AreJoinedBy p.name m plexes later
  pub map : IsMapOfNone m plexes
  pub name : IsNameOfNone p.name plexes

-- The plexes that it counts as opened with are those of before, the new one behind those of data. With the image of the new plex
-- behind them, its plexes by name and map are so by the new opening and the new configuration; name and map are new.
abbrev pub EachJoinedVolumeIsNamed : {P : Type 0} {ghosts : Ghosts P} → (P → Seen) → Running P ghosts → Type 0
EachJoinedVolumeIsNamed see running =
    (c : Config) (good : ℕ) (numbers : List ℕ) (v : Vol) (placed : RunsInPlace see c good numbers v running) →
    (added : List Object) (c' : Config) (p : Plex) (m : ℕ) → JoinsOne c good v added c' p m →
    let o = placed.runs.opening in
    (opened_plexes (opening_joined o c' good v)
    ≡ map (λ (q : Plex). q.name) (held_plexes o.config o.good o.vol.name) ++ p.name ∷ map (λ (q : Plex). q.name) (used_logs o.vol.dco o.config o.good o.fresh o.vol.name))
    × ((plexes : List PlexImage) → WereThere o plexes → ((bytes : Sectors) → AreNamedIn (image_of c good bytes v).plexes plexes) →
    (image : PlexImage) → image.name ≡ p.name → image.map ≡ m → IsNamedSo (opening_joined o c' good v) c' v p m plexes (plexes ++ image ∷ []))
