-- A running volume of one plex that gets another log runs in its place by the new configuration.
use Rattle.std.specs.Prelude.{◌≡◌, ℕ, ◌<◌, nat_lt, is_some, true, false, Contains, List, ◌∷◌, length, map}
use Rattle.vx_mask.specs.Mask.{has}
use Rattle.vx_piece.specs.Seen.{Seen}
use Rattle.vx_layout.specs.declared.layout.Layout.{Layout}
use Rattle.vx_pages.specs.declared.local_piece.LocalPiece.{Ghosts}
use Rattle.vx_config_parts.specs.declared.plex.Plex.{Plex}
use Rattle.vx_config_parts.specs.declared.vol.Vol.{Vol}
use Rattle.vx_objects.specs.declared.config.Config.{Config}
use Rattle.vx_image.specs.Bytes.{Sectors, image_of, map_or_zero}
use Rattle.vx_image.specs.Image.{PlexImage}
use Rattle.vx_image.specs.UsedPlexes.{used_logs}
use Rattle.vx_lending.specs.declared.form.VolumeForm.{VolumeForm}
use Rattle.vx_lending.specs.Form.{AreLayouts, IsFormOf}
use Rattle.vx_lending.specs.FormLaws.{AreNumbered}
use Rattle.vx_lending.specs.declared.public.Running.{Running}
use Rattle.vx_volume.specs.Logging.{IsAlone}
use Rattle.vx_volume.specs.Volume.{volume_seen}
use Rattle.vx_volume_laws.specs.Leaving.{AreNamedIn}
use Rattle.vx_change_laws.specs.Laws.{IsCutIfDead}
use Rattle.vx_group_volumes.specs.Places.{RunsInPlace}
use Rattle.vx_group_volumes.specs.Opened.{WereThere, opened_plexes}
use Rattle.vx_joined_volumes.specs.Joined.{good_joined, opening_joined}
use Rattle.vx_group_edits.specs.Dcos.{ChangesDco}
use Rattle.vx_joined_volumes.specs.Relogged.{HasRelogged, IsFormRelogged}

-- A running volume with one data plex and no relation has that plex alone in each region.
abbrev pub EachLonePlexIsAlone : {P : Type 0} {ghosts : Ghosts P} → (P → Seen) → Running P ghosts → Type 0
EachLonePlexIsAlone see running =
    (c : Config) (good : ℕ) (numbers : List ℕ) (v : Vol) → RunsInPlace see c good numbers v running →
    (c' : Config) (v' : Vol) (p p' : Plex) → ChangesDco c v c' v' p p' → v'.region ≡ v.region → IsAlone (map_or_zero p.map) (volume_seen see running.volume)

-- The form with the other logs is that of the volume by the new configuration, and by the disks that were good as it was opened or are good
-- now.
abbrev pub EachReloggedFormIsItsOwn : {P : Type 0} {ghosts : Ghosts P} → (P → Seen) → Running P ghosts → Type 0
EachReloggedFormIsItsOwn see running =
    (c : Config) (good : ℕ) (numbers : List ℕ) (v : Vol) (placed : RunsInPlace see c good numbers v running) →
    (c' : Config) (v' : Vol) (p p' : Plex) → ChangesDco c v c' v' p p' → v'.region ≡ v.region →
    (logs : List Layout) → AreLayouts c' (used_logs v'.dco c' (good_joined placed.runs.opening good) false v.name) logs →
    (form : VolumeForm) → IsFormRelogged logs running.form form → IsFormOf c' (good_joined placed.runs.opening good) v' false form

-- A volume that the code has given the other log runs in its place by the new configuration, also as disks fail: it counts as opened by that
-- one.
abbrev pub EachReloggedVolumeRunsInPlace : {P : Type 0} {ghosts : Ghosts P} → (P → Seen) → Running P ghosts → Running P ghosts → Type 0
EachReloggedVolumeRunsInPlace see running later =
    (c : Config) (good : ℕ) (numbers : List ℕ) (v : Vol) (placed : RunsInPlace see c good numbers v running) →
    (c' : Config) (v' : Vol) (p p' : Plex) → ChangesDco c v c' v' p p' → v'.region ≡ v.region →
    (logs : List Layout) → AreLayouts c' (used_logs v'.dco c' (good_joined placed.runs.opening good) false v.name) logs → nat_lt 0 (length logs) ≡ is_some v'.dco →
    IsFormRelogged logs running.form later.form → HasRelogged see numbers logs running.volume later.volume →
    ((r : ℕ) → r < length (volume_seen see later.volume).cells → IsCutIfDead (volume_seen see later.volume) r) →
    AreNumbered numbers (good_joined placed.runs.opening good) c'.disks →
    (good' : ℕ) → ((slot : ℕ) → has good' slot ≡ true → has good slot ≡ true) →
    (now : RunsInPlace see c' good' numbers v' later) × (now.runs.opening ≡ opening_joined placed.runs.opening c' good v')

-- It counts as opened with its data plex and those logs. By its new opening its one plex by name and map is so, with number 0.
abbrev pub EachReloggedVolumeIsNamed : {P : Type 0} {ghosts : Ghosts P} → (P → Seen) → Running P ghosts → Type 0
EachReloggedVolumeIsNamed see running =
    (c : Config) (good : ℕ) (numbers : List ℕ) (v : Vol) (placed : RunsInPlace see c good numbers v running) →
    (c' : Config) (v' : Vol) (p p' : Plex) → ChangesDco c v c' v' p p' → v'.region ≡ v.region →
    let now = opening_joined placed.runs.opening c' good v' in
    (opened_plexes now ≡ p.name ∷ map (λ (q : Plex). q.name) (used_logs v'.dco c' (good_joined placed.runs.opening good) false v.name))
    × ((some : Sectors) → WereThere now (image_of c' good some v').plexes
    × ((bytes : Sectors) → AreNamedIn (image_of c' good bytes v').plexes (image_of c' good some v').plexes)
    × ((q : PlexImage) → Contains (image_of c' good some v').plexes q → (q.name ≡ p.name) × (q.map ≡ 0)))
