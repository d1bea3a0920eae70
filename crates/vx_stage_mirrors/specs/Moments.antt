-- A plex that was parked joins a running volume of the group, in the moments of a house.
use Rattle.std.specs.Prelude.{◌≡◌, ℕ, is_some, List, [], ◌∷◌, ◌++◌, Some, Err}
use Rattle.vx_base.specs.Named.{Word, put}
use Rattle.vx_piece.specs.Seen.{Seen}
use Rattle.vx_pages.specs.declared.local_piece.LocalPiece.{Ghosts}
use Rattle.vx_layout.specs.declared.layout.Layout.{Layout}
use Rattle.vx_config_parts.specs.declared.object.Object.{Object}
use Rattle.vx_config_parts.specs.declared.plex.Plex.{Plex}
use Rattle.vx_config_parts.specs.declared.vol.Vol.{Vol}
use Rattle.vx_objects.specs.declared.config.Config.{Config}
use Rattle.vx_objects.specs.declared.edit.Edit.TheVariants.{Make}
use Rattle.vx_objects.specs.Applied.{IsEdited}
use Rattle.vx_image.specs.UsedPlexes.{IsVolOf}
use Rattle.vx_copies.specs.Disks.{DiskSeen}
use Rattle.vx_confdb.specs.Groups.{members}
use Rattle.vx_answers.specs.declared.answer.End.{End}
use Rattle.vx_moments.specs.Commit.{IsCommitted, IsStopped, Writing}
use Rattle.vx_moments.specs.Moment.{AreLater, Moment}
use Rattle.vx_moments.specs.World.{Group, OnPlexes, Volume}
use Rattle.vx_stages.specs.Ends.{IsChange}
use Rattle.vx_volume.specs.Opening.{regions_seen}
use Rattle.vx_lending.specs.Form.{IsLayoutOf}
use Rattle.vx_lending.specs.RegionsTaken.{AreTakenRegions}
use Rattle.vx_lending.specs.declared.public.Remains.{Remains}
use Rattle.vx_lending.specs.declared.public.Running.{Running}
use Rattle.vx_lending.specs.Public.{running_at}
use Rattle.vx_change_laws.specs.Joining.{volume_joined}
use Rattle.vx_joined_volumes.specs.Joined.{JoinsOne}
use Rattle.vx_house.specs.Runs.{IsRunOf}
use Rattle.vx_house.specs.Scene.{FaultsGoOn, Shelved}
use Rattle.vx_house.specs.View.{IsMoment, IsMomentButGroup, Keeps, KeepsButGroup, at, scene}
use Rattle.vx_house.specs.declared.house.House.{House}
use Rattle.vx_house.specs.declared.house.Imported.{Imported}
use Rattle.vx_house.specs.declared.stop.Stop.TheVariants as stops
use Rattle.vx_house_calls.specs.Passes.{with_group}
use Rattle.vx_stage_changes.specs.Planning.{IsShortText}
use Rattle.vx_stage_changes.specs.declared.planning.NextConfig.{NextConfig}
use Rattle.vx_stage_volumes.specs.Opening.{AreSlotNumbers, good_of}
use Rattle.vx_stage_mirrors.specs.Joining.{IsJoinedIn, JoinEnds, MayJoin}

-- The plex that joins the volume of the name was planned for the group: the next configuration adds it, on good disks, and what is left over
-- last was taken by its layout.
pub record IsPlannedFor {P : Type 0} {ghosts : Ghosts P} (see : P → Seen) (g : Imported P ghosts) (name : Word) (m : ℕ) (l : Layout) (next : NextConfig) (last : Remains P ghosts) : Type 0 where
  pub vol : Vol
  pub of : IsVolOf g.config vol
  pub named : vol.name ≡ name
  pub added : List Object
  pub plex : Plex
  pub joins : JoinsOne g.config (good_of see g) vol added next.config plex m
  pub printed : IsShortText next.config next.text.items
  pub layout : IsLayoutOf next.config plex l
  pub numbers : List ℕ
  pub slots : AreSlotNumbers see g numbers
  pub taken : AreTakenRegions numbers (m ∷ []) (l ∷ []) vol.len vol.region (regions_seen see last.regions.items)

-- The moment behind it: the commit is done, and then the volume runs that the plex has joined. It lies on the data plexes that it lay on, the
-- new one behind them, and on those of its log.
pub record IsJoinedAt {P : Type 0} {ghosts : Ghosts P} (see : P → Seen) (shelf : Shelved) (h : House P ghosts) (hs : List DiskSeen) (name : Word) (added : List Object) (config : Config) (plex : Word) (after : Running P ghosts) (m : Moment) : Type 0 where
  pub recorded : Moment
  pub writing : Writing
  pub config_is : writing.config ≡ config
  pub change : IsChange (Make added ∷ []) m.world writing
  pub committed : IsCommitted writing m recorded
  pub before : Volume
  pub was : recorded.world.volumes name ≡ Some before
  pub data_plexes : List Word
  pub logs : List Word
  pub lay : before.lies ≡ OnPlexes (data_plexes ++ logs)
  pub then : Moment
  pub is : IsMoment see (at shelf h) then
  pub later : AreLater m.counts then.counts
  pub world : then.world ≡ record recorded.world { volumes = put name (Some (volume_joined (data_plexes ++ plex ∷ logs) plex before)) recorded.world.volumes }
  pub counts : then.counts ≡ recorded.counts
  pub group : Group
  pub there : then.world.group ≡ Some group
  pub run : IsRunOf see hs group name after (volume_joined (data_plexes ++ plex ∷ logs) plex before)

-- What it does to a house: it is kept, no count of faults falls, and each moment that it was goes to one in which the plex has joined.
pub record JoinGoes {P : Type 0} {ghosts : Ghosts P} (see : P → Seen) (shelf : Shelved) (h : House P ghosts) (name : Word) (added : List Object) (config : Config) (plex : Word) (new : Imported P ghosts) (after : Running P ghosts) : Type 0 where
  pub keeps : Keeps see (at shelf (with_group h new))
  pub faults : FaultsGoOn (scene see (at shelf h)) (scene see (at shelf (with_group h new)))
  pub moments : (m : Moment) → IsMoment see (at shelf h) m → IsJoinedAt see shelf (with_group h new) (members see new.base) name added config plex after m

-- A parked plex that was planned for the group and has joined does so.
abbrev pub EachJoinGoesOn : {P : Type 0} {ghosts : Ghosts P} → (P → Seen) → House P ghosts → Imported P ghosts → Imported P ghosts → Type 0
EachJoinGoesOn {P = P} see h old new =
    (shelf : Shelved) (name : Word) (m : ℕ) (l : Layout) (next : NextConfig) → ((p q : P) → is_some (see p).told ≡ is_some (see q).told) →
    h.group ≡ Some old → Keeps see (at shelf h) → (room : ℕ) (may : MayJoin see m room old.public.left.items (running_at old.public name)) →
    (plan : IsPlannedFor see old name m l next may.last) → (has : IsJoinedIn see name m l next old new) →
    JoinGoes see shelf h name plan.added next.config plan.plex.name new has.runs.after

-- ---- a commit that was not done

-- The moment behind a commit that was stopped: its volumes run as they did.
pub record IsNotJoinedAt {P : Type 0} {ghosts : Ghosts P} (see : P → Seen) (shelf : Shelved) (h : House P ghosts) (added : List Object) (end : End) (m : Moment) : Type 0 where
  pub then : Moment
  pub is : IsMomentButGroup see (at shelf h) then
  pub later : AreLater m.counts then.counts
  pub writing : Writing
  pub change : IsChange (Make added ∷ []) m.world writing
  pub stopped : IsStopped writing m end then

-- What it does to a house: all is kept but what the group carries, no count of faults falls, and each moment goes to one behind the commit.
pub record JoinStops {P : Type 0} {ghosts : Ghosts P} (see : P → Seen) (shelf : Shelved) (h : House P ghosts) (added : List Object) (new : Imported P ghosts) (end : End) : Type 0 where
  pub keeps : KeepsButGroup see (at shelf (with_group h new))
  pub faults : FaultsGoOn (scene see (at shelf h)) (scene see (at shelf (with_group h new)))
  pub moments : (m : Moment) → IsMoment see (at shelf h) m → IsNotJoinedAt see shelf (with_group h new) added end m

-- A commit that ends the command in place of joining the plex does so.
abbrev pub EachFailedJoinStops : {P : Type 0} {ghosts : Ghosts P} → (P → Seen) → House P ghosts → Imported P ghosts → Imported P ghosts → Type 0
EachFailedJoinStops see h old new =
    (shelf : Shelved) (name : Word) (m : ℕ) (l : Layout) (next : NextConfig) (added : List Object) → h.group ≡ Some old → Keeps see (at shelf h) →
    IsEdited (Make added ∷ []) old.config next.config → IsShortText next.config next.text.items →
    (end : End) → JoinEnds see name m l next (Err (stops.Ended end)) old new → JoinStops see shelf h added new end
