-- A running volume that a plex has joined runs on, in the house and in the world.
use Rattle.std.specs.Prelude.{◌≡◌, ℕ, true, List}
use Rattle.vx_mask.specs.Mask.{has}
use Rattle.vx_base.specs.Named.{Word}
use Rattle.vx_piece.specs.Seen.{Seen}
use Rattle.vx_pages.specs.declared.local_piece.LocalPiece.{Ghosts}
use Rattle.vx_layout.specs.declared.layout.Layout.{Layout}
use Rattle.vx_config_parts.specs.declared.object.Object.{Object}
use Rattle.vx_config_parts.specs.declared.plex.Plex.{Plex}
use Rattle.vx_objects.specs.declared.config.Config.{Config}
use Rattle.vx_copies.specs.Disks.{DiskSeen}
use Rattle.vx_moments.specs.World.{Group, Volume}
use Rattle.vx_lending.specs.declared.public.Running.{Running}
use Rattle.vx_change_laws.specs.Joining.{volume_joined}
use Rattle.vx_group_volumes.specs.Opened.{opened_plexes}
use Rattle.vx_joined_volumes.specs.Joined.{opening_joined}
use Rattle.vx_house.specs.Runs.{IsInPlace, IsRunOf}
use Rattle.vx_stage_mirrors.specs.Joins.{AreNewIn, AreNumbersIn, AreNumbersOn, AreStillDisks, GoesOn, IsJoinedBy}

-- A volume that runs in its place, and that a plex has joined, is in its place by the new configuration, also as disks fail.
abbrev pub EachJoinedPlexIsInPlace : {P : Type 0} {ghosts : Ghosts P} → (P → Seen) → Running P ghosts → Running P ghosts → Type 0
EachJoinedPlexIsInPlace see before after =
    (hs hs' : List DiskSeen) → AreStillDisks hs hs' → (c : Config) (good : ℕ) (name : Word) (is : IsInPlace see hs c good name before) →
    (numbers : List ℕ) → AreNumbersOn numbers hs good →
    (added : List Object) (c' : Config) (p : Plex) (m : ℕ) (l : Layout) (runs : List (List Seen)) → IsJoinedBy see c good is.of numbers added c' p m l runs before after →
    (good' : ℕ) → ((slot : ℕ) → has good' slot ≡ true → has good slot ≡ true) → IsInPlace see hs' c' good' name after

-- One that runs as a volume of the world runs then as the one which the plex has joined, on the plexes that it counts as opened with.
abbrev pub EachJoinedPlexRuns : {P : Type 0} {ghosts : Ghosts P} → (P → Seen) → Running P ghosts → Running P ghosts → Type 0
EachJoinedPlexRuns see before after =
    (hs hs' : List DiskSeen) → AreStillDisks hs hs' → (g g' : Group) → GoesOn g g' → (name : Word) (w : Volume) (run : IsRunOf see hs g name before w) →
    (numbers : List ℕ) → AreNumbersIn numbers hs g →
    (added : List Object) (p : Plex) (m : ℕ) (l : Layout) (runs : List (List Seen)) → IsJoinedBy see g.config g.good run.of numbers added g'.config p m l runs before after →
    AreNewIn see m runs before →
    IsRunOf see hs' g' name after (volume_joined (opened_plexes (opening_joined run.placed.runs.opening g'.config g.good run.of)) p.name w)
