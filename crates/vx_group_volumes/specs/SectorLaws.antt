-- The pieces of a running volume have sectors of the volume alone, and what is called changes no other.
use Rattle.std.specs.Prelude.{◌≡◌, ℕ, Bool, true, false, List, [], ◌++◌, Option}
use Rattle.std.specs.List.{list_any}
use Rattle.std.specs.List.Sorted.{IsPermutation}
use Rattle.vx_base.specs.Named.{Word}
use Rattle.vx_piece.specs.Seen.{Seen, Keeps}
use Rattle.vx_runs.specs.Run.{EachPiece}
use Rattle.vx_carve.specs.Carved.{HaveNumbers}
use Rattle.vx_carve.specs.Together.{AreOnce, SameSectors, covers}
use Rattle.vx_pages.specs.declared.local_piece.LocalPiece.{Ghosts}
use Rattle.vx_config_parts.specs.declared.vol.Vol.{Vol}
use Rattle.vx_objects.specs.declared.config.Config.{Config}
use Rattle.vx_image.specs.Image.{IsFilled}
use Rattle.vx_copies.specs.Disks.{DiskSeen}
use Rattle.vx_copies.specs.Lists.{AllOf, Each}
use Rattle.vx_fronts.specs.Laws.{whole_disks}
use Rattle.vx_fronts.specs.Parted.{AreParted}
use Rattle.vx_fronts.specs.Rests.{AllTell, rests_of, sector_in}
use Rattle.vx_moments.specs.World.{Device, Group}
use Rattle.vx_moments.specs.Group.{ChangesOnly}
use Rattle.vx_lending.specs.Form.{IsFormOf}
use Rattle.vx_lending.specs.FormLaws.{AreNumbered}
use Rattle.vx_image.specs.UsedPlexes.{IsVolOf}
use Rattle.vx_lending.specs.Left.{held_pieces}
use Rattle.vx_volume_laws.specs.Keeping.{ChangesStates}
use Rattle.vx_lending.specs.declared.public.Public.{Public}
use Rattle.vx_lending.specs.declared.public.Running.{Running}
use Rattle.vx_group_start.specs.Fresh.{is_fresh}
use Rattle.vx_group_start.specs.Started.{IsStarted}
use Rattle.vx_group_volumes.specs.Runs.{RunsIn}
use Rattle.vx_group_volumes.specs.Places.{IsOwnSector, KeepsPlaces, RunsInPlace, disks_at}
use Rattle.vx_group_volumes.specs.Disks.{AreCalled, AreDevicesOf, DiskGoesOn, IsMemberOn, OtherDevicesStay}

-- ---- places

-- A configuration keeps where the plexes of its own volumes lie, ..
abbrev pub PlacesStay : Type 0
PlacesStay = (c : Config) (vol : Word) → KeepsPlaces c vol c vol

-- .. what keeps it after another has kept it keeps it, ..
abbrev pub PlacesGoOn : Type 0
PlacesGoOn = (c0 : Config) (vol0 : Word) (c : Config) (vol : Word) (c' : Config) (vol' : Word) → KeepsPlaces c0 vol0 c vol → KeepsPlaces c vol c' vol' → KeepsPlaces c0 vol0 c' vol'

-- .. and so does one of which states have changed, and of which disks may have failed.
abbrev pub RestatedKeepPlaces : Type 0
RestatedKeepPlaces =
    (c0 : Config) (good0 : ℕ) (v0 : Vol) (fresh : Bool) (c : Config) (good : ℕ) (v : Vol) → ChangesStates c0 good0 v0 fresh c good v → KeepsPlaces c0 v0.name c v.name

-- ---- pieces

-- Each sector that a piece of a running volume has is one of the volume's, by the configuration that it was opened by, on a disk
-- that was good then, ..
abbrev pub EachPieceIsOwn : {P : Type 0} {ghosts : Ghosts P} → (P → Seen) → Running P ghosts → Type 0
EachPieceIsOwn see running =
    (c : Config) (good : ℕ) (numbers : List ℕ) (v : Vol) (runs : RunsIn see c good numbers v running) →
    (device k : ℕ) → list_any (covers device k) (held_pieces see running.volume) ≡ true →
    IsOwnSector runs.opening.config runs.opening.vol.name (disks_at runs.opening) numbers device k

-- .. and by each configuration that keeps where its plexes lie.
abbrev pub EachKeptPieceIsOwn : {P : Type 0} {ghosts : Ghosts P} → (P → Seen) → Running P ghosts → Type 0
EachKeptPieceIsOwn see running =
    (c : Config) (good : ℕ) (numbers : List ℕ) (v : Vol) (runs : RunsIn see c good numbers v running) →
    (c' : Config) (vol : Word) → KeepsPlaces runs.opening.config runs.opening.vol.name c' vol →
    (device k : ℕ) → list_any (covers device k) (held_pieces see running.volume) ≡ true → IsOwnSector c' vol (disks_at runs.opening) numbers device k

-- ---- volumes in their places

-- A volume that was started out of the pieces of its group runs in its place, by each configuration of which states have changed since, ..
abbrev pub StartRunsInPlace : {P : Type 0} {ghosts : Ghosts P} → (P → Seen) → Public P ghosts → Public P ghosts → Running P ghosts → Type 0
StartRunsInPlace see old new running =
    (c : Config) (good : ℕ) (v : Vol) (numbers : List ℕ) → IsVolOf c v → IsFormOf c good v (is_fresh v.state) running.form → IsStarted see v numbers old new running →
    AreNumbered numbers good c.disks →
    (c' : Config) (good' : ℕ) (v' : Vol) → IsVolOf c' v' → IsFilled v'.state → ChangesStates c good v (is_fresh v.state) c' good' v' →
    RunsInPlace see c' good' numbers v' running

-- .. and one that does so goes on with it as states change and disks fail.
abbrev pub RecordedRunsInPlace : {P : Type 0} {ghosts : Ghosts P} → (P → Seen) → Running P ghosts → Type 0
RecordedRunsInPlace see running =
    (c : Config) (good : ℕ) (numbers : List ℕ) (v : Vol) → RunsInPlace see c good numbers v running →
    (c' : Config) (good' : ℕ) (v' : Vol) → IsVolOf c' v' → IsFilled v'.state → ChangesStates c good v false c' good' v' →
    RunsInPlace see c' good' numbers v' running

-- ---- calls

-- Where pieces among others stay in their places, all together hold what they did in each sector that none of these has, ..
abbrev pub HeldChangeTheirOwn : Type 0
HeldChangeTheirOwn =
    (before held held' behind : List Seen) → EachPiece Keeps held held' → (device k : ℕ) → list_any (covers device k) held ≡ false →
    sector_in (before ++ (held' ++ behind)) device k ≡ sector_in (before ++ (held ++ behind)) device k

-- .. in whatever order they lie, if no sector is in two of them, ..
abbrev pub AnyOrderChangesItsOwn : Type 0
AnyOrderChangesItsOwn =
    (others held held' ps ps' : List Seen) → EachPiece Keeps held held' → IsPermutation (others ++ held) ps → IsPermutation (others ++ held') ps' → AreOnce (others ++ held) →
    (device k : ℕ) → list_any (covers device k) held ≡ false → sector_in ps' device k ≡ sector_in ps device k

-- .. and however they are moved, cut and joined, if all tell besides.
abbrev pub AnyCutChangesItsOwn : Type 0
AnyCutChangesItsOwn =
    (others held held' ps ps' : List Seen) → EachPiece Keeps held held' → SameSectors (others ++ held) ps → SameSectors (others ++ held') ps' →
    AreOnce (others ++ held) → AllTell (others ++ held) → AllTell (others ++ held') →
    (device k : ℕ) → list_any (covers device k) held ≡ false → sector_in ps' device k ≡ sector_in ps device k

-- Of the disks of a group, parted into fronts, pieces that lie still and those of running volumes, calls on the pieces of one volume
-- leave the whole disks as they were, but for what these pieces hold. They stay parted if these pieces tell still.
abbrev pub EachDiskGoesOn : Type 0
EachDiskGoesOn =
    (hs : List DiskSeen) (still before held held' behind : List Seen) → AreParted hs (still ++ (before ++ (held ++ behind))) → AreCalled held held' →
    ((AllTell held → AllTell held') → AreParted hs (still ++ (before ++ (held' ++ behind)))) ×
    Each (DiskGoesOn held) (whole_disks (rests_of (still ++ (before ++ (held ++ behind))) []) hs) (whole_disks (rests_of (still ++ (before ++ (held' ++ behind))) []) hs)

-- ---- the world

-- Where the devices of a world are the whole disks of the group, before and after, and all others stay, calls on the pieces of a volume
-- that runs in its place change the devices in the sectors of the volume alone.
abbrev pub EachCallChangesOnly : {P : Type 0} {ghosts : Ghosts P} → (P → Seen) → Running P ghosts → Type 0
EachCallChangesOnly see running =
    (g : Group) (numbers : List ℕ) (v : Vol) → HaveNumbers numbers → RunsInPlace see g.config g.good numbers v running →
    (hs : List DiskSeen) (still before held' behind : List Seen) → AllOf (IsMemberOn g numbers) hs →
    AreParted hs (still ++ (before ++ (held_pieces see running.volume ++ behind))) → AreCalled (held_pieces see running.volume) held' →
    (old new : Word → Option Device) →
    AreDevicesOf old (whole_disks (rests_of (still ++ (before ++ (held_pieces see running.volume ++ behind))) []) hs) →
    AreDevicesOf new (whole_disks (rests_of (still ++ (before ++ (held' ++ behind))) []) hs) →
    OtherDevicesStay hs old new → ChangesOnly g v.name old new
