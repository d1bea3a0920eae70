-- How `vxplex det` goes in the world and ends its command: the volume comes to rest, and its plex is recorded as out of use by a commit. The
-- volume runs on as the same one, which does not write to the plex any more.
use Rattle.std.specs.Prelude.{◌≡◌, ◌≢◌, ◌⊎◌, ℕ, ◌<◌, true, false, None, MatchOption, Some, Contains, List}
use Rattle.vx_base.specs.Named.{Word}
use Rattle.vx_block.specs.Regions.{region_count}
use Rattle.vx_config_parts.specs.declared.plex.Plex.{Plex}
use Rattle.vx_config_parts.specs.declared.state.PlexState.TheVariants as plex_state
use Rattle.vx_config_parts.specs.declared.vol.Vol.{Vol}
use Rattle.vx_config_parts.specs.Objects.{is_data_plex_of}
use Rattle.vx_answers.specs.declared.answer.End.{End}
use Rattle.vx_answers.specs.declared.refusal.Refusal.TheVariants as refusal
use Rattle.vx_moments.specs.Commit.{IsCommitted, Writing}
use Rattle.vx_moments.specs.Moment.{AreLater, Moment, Rests}
use Rattle.vx_moments.specs.Owners.{owners_of}
use Rattle.vx_moments.specs.World.{Group, Volume}
use Rattle.vx_stages.specs.Ends.{EndsIn, IsChange, StopsBy, refused}
use Rattle.vx_stages.specs.Plexes.{IsDetachRefused, MayDetach, state_edits}
use Rattle.vx_stages.specs.Recorded.{IsSoundAs}
use Rattle.vx_stages.specs.Stopping.{ComesToRest, RestStops, rested_volume, runs_on_plexes}

-- ---- the plexes beside it

-- another data plex of the volume, which is written to where the volume lies on these plexes
pub record IsBesides (g : Group) (vol : Word) (plexes : List Word) (p q : Plex) : Type 0 where
  pub there : Contains g.config.plexes q
  pub data_is : is_data_plex_of vol q ≡ true
  pub other : q.name ≢ p.name
  pub written : (owners_of g vol plexes q.name).available ≡ true

-- in some region of the volume each of these may miss something
pub record IsNeeded (g : Group) (vol : Word) (plexes : List Word) (p : Plex) (run : Volume) : Type 0 where
  pub region : ℕ
  pub inside : region < region_count run.length run.region
  pub missed : (q : Plex) → IsBesides g vol plexes p q → (run.tracks q.name).possible region ≡ true

-- in each region of the volume one of these surely misses nothing
abbrev pub CanBeSpared : Group → Word → List Word → Plex → Volume → Type 0
CanBeSpared g vol plexes p run = (r : ℕ) → r < region_count run.length run.region → (q : Plex) × IsBesides g vol plexes p q × ((run.tracks q.name).sure r ≡ false)

-- ---- the volume at rest

-- No test refuses that the plex of the name goes out of use, and its volume has come to rest, so far as its devices let it.
pub record IsRestedFor (name : Word) (old mid : Moment) : Type 0 where
  pub group : Group
  pub here : old.world.group ≡ Some group
  pub volume : Vol
  pub plex : Plex
  pub may : MayDetach (runs_on_plexes old.world) group.config name volume plex
  pub rest : ComesToRest volume.name old mid

-- ---- it is done

-- The volume is at rest, without the plex each region has another, and the plex is recorded as out of use.
pub record IsDetached (name : Word) (old new : Moment) : Type 0 where
  pub mid : Moment
  pub rested : IsRestedFor name old mid
  pub spared : rested.rest.volume.sound ≡ true → CanBeSpared rested.rest.group rested.volume.name rested.rest.plexes rested.plex (rested_volume rested.rest)
  pub writing : Writing
  pub change : IsChange (state_edits rested.volume.name rested.plex plex_state.Stale) mid.world writing
  pub committed : IsCommitted writing mid new
  pub after : AreLater mid.counts new.counts

-- ---- how it ends its command

-- the volume could not be brought to rest
pub record StopsUnrested (g : Group) (name : Word) (old : Moment) (end : End) (new : Moment) : Type 0 where
  pub volume : Vol
  pub plex : Plex
  pub may : MayDetach (runs_on_plexes old.world) g.config name volume plex
  pub stops : RestStops volume.name old end new

-- it has come to rest, and some region has no other plex that is current
pub record StopsNeeded (name : Word) (old : Moment) (end : End) (new : Moment) : Type 0 where
  pub rested : IsRestedFor name old new
  pub needed : rested.rest.volume.sound ≡ true → IsNeeded rested.rest.group rested.volume.name rested.rest.plexes rested.plex (rested_volume rested.rest)
  pub end_is : end ≡ refused (refusal.OnlyPlex name)

-- it has come to rest, and the commit is stopped: the volume runs on with the plex
pub record StopsUndetached (name : Word) (old : Moment) (end : End) (new : Moment) : Type 0 where
  pub mid : Moment
  pub rested : IsRestedFor name old mid
  pub rest : AreLater mid.counts new.counts
  pub stops : StopsBy (IsChange (state_edits rested.volume.name rested.plex plex_state.Stale) mid.world) mid end new
  -- with the plex out of use the volume is sound by its bytes, if they were as it began
  pub sound : rested.rest.volume.sound ≡ true → IsSoundAs rested.rest.group stops.0.config rested.volume.name mid.world

-- how it ends its command in a group
abbrev pub DetachStopsIn : Group → Word → Moment → End → Moment → Type 0
DetachStopsIn g name old end new =
    (IsDetachRefused (runs_on_plexes old.world) g name end × Rests old new) ⊎ (StopsUnrested g name old end new ⊎ (StopsNeeded name old end new ⊎ StopsUndetached name old end new))

abbrev pub DetachStops : Word → Moment → End → Moment → Type 0
DetachStops name old end new = MatchOption old.world.group (EndsIn (refusal.NoGroup None) old end new) (λ g. DetachStopsIn g name old end new)

-- what want of memory leaves of it: the world as it was, or the volume at rest, which runs still
abbrev pub DetachWants : Word → Moment → Moment → Type 0
DetachWants name old new = (new.world ≡ old.world) ⊎ IsRestedFor name old new
