-- A running volume that a plex of its log leaves runs in its place by the new configuration, whether a copy of the log was on the plex or not.
use Rattle.std.specs.Prelude.{◌≡◌, ◌≢◌, ℕ, ◌<◌, Bool, true, false, List, [], ◌∷◌, Contains, length, slice_index_or}
use Rattle.vx_base.specs.Named.{Word}
use Rattle.vx_mask.specs.Mask.{has}
use Rattle.vx_piece.specs.Seen.{Seen}
use Rattle.vx_layout.specs.declared.layout.Layout.{Layout}
use Rattle.vx_pages.specs.declared.local_piece.LocalPiece.{Ghosts}
use Rattle.vx_config_parts.specs.declared.plex.Plex.{Plex}
use Rattle.vx_config_parts.specs.declared.vol.Vol.{Vol}
use Rattle.vx_config_parts.specs.Objects.{is_log_plex_of}
use Rattle.vx_objects.specs.declared.config.Config.{Config}
use Rattle.vx_image.specs.Bytes.{Sectors, image_of}
use Rattle.vx_image.specs.Image.{PlexImage}
use Rattle.vx_image.specs.UsedPlexes.{IsVolOf}
use Rattle.vx_moments.specs.Holding.{is_among}
use Rattle.vx_moments.specs.Owners.{owners_of}
use Rattle.vx_moments.specs.World.{Group}
use Rattle.vx_volume.specs.Volume.{volume_seen}
use Rattle.vx_lending.specs.declared.form.VolumeForm.{VolumeForm}
use Rattle.vx_lending.specs.Form.{IsFormOf, IsLayoutOf}
use Rattle.vx_lending.specs.FormLaws.{AreNumbered}
use Rattle.vx_lending.specs.declared.public.Running.{Running}
use Rattle.vx_volume_laws.specs.Leaving.{AreNamedIn}
use Rattle.vx_change_laws.specs.Laws.{IsCutIfDead}
use Rattle.vx_group_edits.specs.OfVolume.{AreEditsOf}
use Rattle.vx_group_edits.specs.Stays.{EachStays}
use Rattle.vx_group_volumes.specs.Runs.{Opening}
use Rattle.vx_group_volumes.specs.Places.{RunsInPlace}
use Rattle.vx_group_volumes.specs.Opened.{WereThere, opened_plexes}
use Rattle.vx_joined_volumes.specs.Joined.{good_joined, opening_joined}
use Rattle.vx_joined_volumes.specs.Parted.{IsTakenOut, leaving_edit}
use Rattle.vx_joined_volumes.specs.PartLaws.{IsOwnerKept, names_without}
use Rattle.vx_yielded_volumes.specs.Yielded.{HasYielded, IsCopyOn, IsFormYielded, IsOnNoCopy, TakesLogOut, opened_logs}

-- ---- its record

-- The edit of a log plex that leaves its volume takes that plex out alone.
abbrev pub EachLogIsTakenOut : Type 0
EachLogIsTakenOut = (c : Config) (v : Vol) → IsVolOf c v → (p : Plex) (remove : Bool) (c' : Config) → TakesLogOut c v p remove c' → IsTakenOut c v p c'

-- It is of that volume alone, ..
abbrev pub EachLogLeavingIsOfItsVolume : Type 0
EachLogLeavingIsOfItsVolume = (c : Config) (v : Vol) (p : Plex) (remove : Bool) (c' : Config) → TakesLogOut c v p remove c' → AreEditsOf c v.name (leaving_edit remove p ∷ [])

-- .. and so keeps every other one.
abbrev pub EachLogLeavingKeepsOthers : Type 0
EachLogLeavingKeepsOthers = (c : Config) (v : Vol) (p : Plex) (remove : Bool) (c' : Config) → TakesLogOut c v p remove c' → EachStays (λ u. u.name ≢ v.name) c c'

-- ---- its copy

-- The copy at a place is on the plex: by name this is the log plex at that place that the volume was opened with, and it has one for each copy.
pub record IsLogAt (opening : Opening) (logs : List Layout) (p : Plex) (copy : ℕ) : Type 0 where
  pub long : length (opened_logs opening) ≡ length logs
  pub at : (d : Word) → slice_index_or (opened_logs opening) copy d ≡ p.name
  pub among : is_among p.name (opened_plexes opening) ≡ true

-- A copy that lies where the layout of a log plex does is on that plex, ..
abbrev pub EachLogIsFound : {P : Type 0} {ghosts : Ghosts P} → (P → Seen) → Running P ghosts → Type 0
EachLogIsFound see running =
    (c : Config) (good : ℕ) (numbers : List ℕ) (v : Vol) (placed : RunsInPlace see c good numbers v running) →
    (p : Plex) → Contains c.plexes p → is_log_plex_of v.name p ≡ true → (l : Layout) → IsLayoutOf c p l →
    (copy : ℕ) → IsCopyOn running.form.logs.items copy l → IsLogAt placed.runs.opening running.form.logs.items p copy

-- .. and where none does just so, no copy is on that plex: the volume was opened without it.
abbrev pub EachLogIsMissed : {P : Type 0} {ghosts : Ghosts P} → (P → Seen) → Running P ghosts → Type 0
EachLogIsMissed see running =
    (c : Config) (good : ℕ) (numbers : List ℕ) (v : Vol) (placed : RunsInPlace see c good numbers v running) →
    (p : Plex) → Contains c.plexes p → is_log_plex_of v.name p ≡ true → (l : Layout) → IsLayoutOf c p l →
    IsOnNoCopy running.form.logs.items l → is_among p.name (opened_plexes placed.runs.opening) ≡ false

-- Where it is the only copy, the volume was opened with no other log plex.
abbrev pub EachLoneCopyIsAlone : {P : Type 0} {ghosts : Ghosts P} → (P → Seen) → Running P ghosts → Type 0
EachLoneCopyIsAlone see running =
    (c : Config) (good : ℕ) (numbers : List ℕ) (v : Vol) (placed : RunsInPlace see c good numbers v running) →
    (p : Plex) → Contains c.plexes p → is_log_plex_of v.name p ≡ true → (l : Layout) → IsLayoutOf c p l →
    (copy : ℕ) → IsCopyOn running.form.logs.items copy l → length running.form.logs.items ≡ 1 →
    (q : Plex) → Contains c.plexes q → is_log_plex_of v.name q ≡ true → is_among q.name (opened_plexes placed.runs.opening) ≡ true → q.name ≡ p.name

-- ---- its form, and the volume

-- The form without the copy that is on the plex is that of the volume by the new configuration, and by the disks that were good as it was
-- opened or are good now, ..
abbrev pub EachYieldedFormIsItsOwn : {P : Type 0} {ghosts : Ghosts P} → (P → Seen) → Running P ghosts → Type 0
EachYieldedFormIsItsOwn see running =
    (c : Config) (good : ℕ) (numbers : List ℕ) (v : Vol) (placed : RunsInPlace see c good numbers v running) →
    (p : Plex) (remove : Bool) (c' : Config) → TakesLogOut c v p remove c' → (l : Layout) → IsLayoutOf c p l →
    (copy : ℕ) → IsCopyOn running.form.logs.items copy l →
    (form : VolumeForm) → IsFormYielded copy running.form form → IsFormOf c' (good_joined placed.runs.opening good) v false form

-- .. and where no copy is on the plex so is the form as it was.
abbrev pub EachUnloggedFormIsItsOwn : {P : Type 0} {ghosts : Ghosts P} → (P → Seen) → Running P ghosts → Type 0
EachUnloggedFormIsItsOwn see running =
    (c : Config) (good : ℕ) (numbers : List ℕ) (v : Vol) (placed : RunsInPlace see c good numbers v running) →
    (p : Plex) (remove : Bool) (c' : Config) → TakesLogOut c v p remove c' → (l : Layout) → IsLayoutOf c p l →
    IsOnNoCopy running.form.logs.items l → IsFormOf c' (good_joined placed.runs.opening good) v false running.form

-- A volume whose log has given up the copy on the plex, one of two, runs in its place by the new configuration, also as disks fail, where a region
-- is dead only if it is cut still: the piece that was cut may be one of that copy. It counts as opened by that configuration.
abbrev pub EachYieldedVolumeRunsInPlace : {P : Type 0} {ghosts : Ghosts P} → (P → Seen) → Running P ghosts → Running P ghosts → Type 0
EachYieldedVolumeRunsInPlace see running later =
    (c : Config) (good : ℕ) (numbers : List ℕ) (v : Vol) (placed : RunsInPlace see c good numbers v running) →
    (p : Plex) (remove : Bool) (c' : Config) → TakesLogOut c v p remove c' → (l : Layout) → IsLayoutOf c p l →
    (copy : ℕ) → IsCopyOn running.form.logs.items copy l →
    IsFormYielded copy running.form later.form → HasYielded see copy running.volume later.volume →
    ((r : ℕ) → r < length (volume_seen see later.volume).cells → IsCutIfDead (volume_seen see later.volume) r) →
    AreNumbered numbers (good_joined placed.runs.opening good) c'.disks →
    (good' : ℕ) → ((slot : ℕ) → has good' slot ≡ true → has good slot ≡ true) →
    (now : RunsInPlace see c' good' numbers v later) × (now.runs.opening ≡ opening_joined placed.runs.opening c' good v)

-- So does the volume as it is where no copy is on the plex.
abbrev pub EachUnloggedVolumeRunsInPlace : {P : Type 0} {ghosts : Ghosts P} → (P → Seen) → Running P ghosts → Type 0
EachUnloggedVolumeRunsInPlace see running =
    (c : Config) (good : ℕ) (numbers : List ℕ) (v : Vol) (placed : RunsInPlace see c good numbers v running) →
    (p : Plex) (remove : Bool) (c' : Config) → TakesLogOut c v p remove c' → (l : Layout) → IsLayoutOf c p l →
    IsOnNoCopy running.form.logs.items l →
    AreNumbered numbers (good_joined placed.runs.opening good) c'.disks →
    (good' : ℕ) → ((slot : ℕ) → has good' slot ≡ true → has good slot ≡ true) →
    (now : RunsInPlace see c' good' numbers v running) × (now.runs.opening ≡ opening_joined placed.runs.opening c' good v)

-- ---- its names

-- the images are data plexes of the volume by its new opening and by its new configuration
pub record AreNamedYet (opening : Opening) (c : Config) (v : Vol) (images : List PlexImage) : Type 0 where
  pub were : WereThere opening images
  pub are : (good : ℕ) (bytes : Sectors) → AreNamedIn (image_of c good bytes v).plexes images

-- The plexes that it counts as opened with are those of before without that one, whether a copy was on it or not. Its data plexes by name and map
-- are so by the new opening and the new configuration.
abbrev pub EachYieldedVolumeIsNamed : {P : Type 0} {ghosts : Ghosts P} → (P → Seen) → Running P ghosts → Type 0
EachYieldedVolumeIsNamed see running =
    (c : Config) (good : ℕ) (numbers : List ℕ) (v : Vol) (placed : RunsInPlace see c good numbers v running) →
    (p : Plex) (remove : Bool) (c' : Config) → TakesLogOut c v p remove c' →
    let o = placed.runs.opening in
    (opened_plexes (opening_joined o c' good v) ≡ names_without p.name (opened_plexes o))
    × ((images : List PlexImage) → WereThere o images → ((bytes : Sectors) → AreNamedIn (image_of c good bytes v).plexes images) → AreNamedYet (opening_joined o c' good v) c' v images)

-- ---- its owners

-- As its tracks see them in the group before and after, its data plexes are as they were.
abbrev pub EachYieldedOwnerIsKept : {P : Type 0} {ghosts : Ghosts P} → (P → Seen) → Running P ghosts → Type 0
EachYieldedOwnerIsKept see running =
    (g g' : Group) (numbers : List ℕ) (v : Vol) (placed : RunsInPlace see g.config g.good numbers v running) →
    (p : Plex) (remove : Bool) → TakesLogOut g.config v p remove g'.config →
    (images : List PlexImage) → WereThere placed.runs.opening images →
    let o = placed.runs.opening in
    (x : PlexImage) → Contains images x →
    IsOwnerKept g g' (owners_of g v.name (opened_plexes o) x.name) (owners_of g' v.name (opened_plexes (opening_joined o g'.config g.good v)) x.name)
