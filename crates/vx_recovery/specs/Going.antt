-- How `vxrecover` goes over the volumes of the imported group, by name, and what it tells.
use Rattle.std.specs.Prelude.{◌≡◌, ◌⊎◌, ℕ, not, is_some, Bool, true, false, if◌then◌else◌, Option, Some, None, List, [], ◌∷◌, map}
use Rattle.std.specs.List.{filter}
use Rattle.std.specs.List.Sorted.{IsPermutation, IsSorted}
use Rattle.std.specs.Cmp.Lexicographic.{slice_cmp}
use Rattle.std.specs.Ordering.{nat_cmp}
use Rattle.vx_base.specs.Named.{Word}
use Rattle.vx_config_parts.specs.declared.state.VolState.{VolState}
use Rattle.vx_config_parts.specs.declared.state.VolState.TheVariants as vol
use Rattle.vx_config_parts.specs.declared.vol.Vol.{Vol}
use Rattle.vx_answers.specs.declared.answer.End.{End}
use Rattle.vx_answers.specs.declared.answer.End.TheVariants as ends
use Rattle.vx_answers.specs.declared.answer.View.{View}
use Rattle.vx_answers.specs.declared.answer.View.TheVariants as view
use Rattle.vx_answers.specs.declared.refusal.Refusal.{Refusal}
use Rattle.vx_answers.specs.declared.refusal.Refusal.TheVariants as refusal
use Rattle.vx_moments.specs.Moment.{AreLater, Moment}
use Rattle.vx_moments.specs.World.{Group, World}
use Rattle.vx_stages.specs.Ends.{EndsIn}
use Rattle.vx_stages.specs.Starting.{StartStops, StartWants, first_of}
use Rattle.vx_stages.specs.Tests.{fails, volume_in}
use Rattle.vx_stages.specs.declared.test.Test.TheVariants as tests
use Rattle.vx_recovery.specs.Edits.{AreShort, AreTooLong}
use Rattle.vx_recovery.specs.Recovering.{IsRecovered, RecoveryStops, RecoveryWants}

-- ---- what each volume needs

-- of a volume that does not run, by its state: it is passed over, started, or recovered
pub data Need : Type 0 where
  Pass : Need
  Begin : Need
  Heal : Need

abbrev pub need_by : VolState → Need
need_by vol.Empty = Pass
need_by vol.Clean = Begin
need_by vol.Active = Pass
need_by vol.NeedSync = Heal
need_by vol.Sync = Heal

abbrev pub need_among : Option Vol → Need
need_among None = Pass
need_among (Some v) = need_by v.state

abbrev pub need_in : Word → Option Group → Need
need_in name None = Pass
need_in name (Some g) = need_among (volume_in name g.config.volumes)

-- a volume that runs is passed over
abbrev pub need_of : Word → World → Need
need_of name w = if is_some (w.volumes name) then Pass else need_in name w.group

-- ---- the volumes, one after the other

-- all was done, and nothing is told beside
abbrev pub all_done : End
all_done = ends.Done None [] []

-- the command goes on behind it
abbrev pub is_done : End → Bool
is_done (ends.Done copied parts blocks) = true
is_done other = false

-- a clean volume is started and the rest follows, or its start ends the command
abbrev pub SeesClean : Word → (Moment → List View → End → Moment → Type 0) → Moment → List View → End → Moment → Type 0
SeesClean name Rest old views end new =
    ((mid : Moment) × (began : End) × AreLater old.counts mid.counts × StartStops name old began mid × (is_done began ≡ true) × Rest mid views end new)
    ⊎ ((views ≡ []) × AreLater old.counts new.counts × StartStops name old end new × (is_done end ≡ false))

-- a volume is recovered and its line told, and the rest follows, or its recovery ends the command
abbrev pub SeesHealed : Word → (Moment → List View → End → Moment → Type 0) → Moment → List View → End → Moment → Type 0
SeesHealed name Rest old views end new =
    ((mid : Moment) × (dirty : ℕ) × (copied : ℕ) × (rest : List View) × AreLater old.counts mid.counts
    × IsRecovered name dirty copied old mid × (views ≡ view.Recovered name dirty copied ∷ rest) × Rest mid rest end new)
    ⊎ ((views ≡ []) × AreLater old.counts new.counts × RecoveryStops name old end new)

abbrev pub SeesOne : Need → Word → (Moment → List View → End → Moment → Type 0) → Moment → List View → End → Moment → Type 0
SeesOne Pass name Rest old views end new = Rest old views end new
SeesOne Begin name Rest old views end new = SeesClean name Rest old views end new
SeesOne Heal name Rest old views end new = SeesHealed name Rest old views end new

-- The volumes of these names were seen to, one after the other, each by what it needs then. A line tells of each that was recovered.
abbrev pub Sees : List Word → Moment → List View → End → Moment → Type 0
Sees [] old views end new = (views ≡ []) × (end ≡ all_done) × (new ≡ old)
Sees (name ∷ names) old views end new = SeesOne (need_of name old.world) name (Sees names) old views end new

-- ---- the command

-- the volumes' names, in order
pub record AreAllByName (g : Group) (names : List Word) : Type 0 where
  pub all : IsPermutation (map (λ (v : Vol). v.name) g.config.volumes) names
  pub ordered : IsSorted (slice_cmp nat_cmp) names

-- the names that the command goes over: the one that it gives, or all
abbrev pub AreNamesOf : Option Word → Group → List Word → Type 0
AreNamesOf None g names = AreAllByName g names
AreNamesOf (Some vol) g names = names ≡ vol ∷ []

-- those that do not run
abbrev pub at_rest : World → List Word → List Word
at_rest w names = filter (λ name. not (is_some (w.volumes name))) names

-- the group has no volume of the name that is given
abbrev pub volume_refusal : Option Word → World → Option Refusal
volume_refusal None w = None
volume_refusal (Some name) w = fails (tests.HasVolume name) [] w

-- the group is another, or it has no such volume
abbrev pub refusal_of : Option Word → Option Word → World → Option Refusal
refusal_of dg vol w = first_of (fails (tests.GroupIs dg) [] w) (volume_refusal vol w)

-- the texts of its commits would be too long, and nothing was done
abbrev pub RefusesAsLong : Group → List Word → Moment → End → Moment → Type 0
RefusesAsLong g names old end new = (bytes : ℕ) × AreTooLong (at_rest old.world names) g.config bytes × EndsIn (refusal.TooLong bytes) old end new

-- no text of its commits is too long, and the volumes are seen to
abbrev pub SeesAll : Group → List Word → Moment → List View → End → Moment → Type 0
SeesAll g names old views end new = AreShort (at_rest old.world names) g.config × Sees names old views end new

-- What the command does: a test refuses it, or it goes over the volumes.
abbrev pub Recovers : Option Word → Option Word → Moment → List View → End → Moment → Type 0
Recovers dg vol old views end new =
    ((r : Refusal) × (refusal_of dg vol old.world ≡ Some r) × (views ≡ []) × EndsIn r old end new)
    ⊎ ((refusal_of dg vol old.world ≡ None) × (g : Group) × (old.world.group ≡ Some g) × (names : List Word) × AreNamesOf vol g names
    × (((views ≡ []) × RefusesAsLong g names old end new) ⊎ SeesAll g names old views end new))

-- ---- want of memory

-- memory was wanting for one of these volumes, behind those that were seen to
abbrev pub SeesShortOne : Need → Word → (Moment → Moment → Type 0) → Moment → Moment → Type 0
SeesShortOne Pass name Rest old new = Rest old new
SeesShortOne Begin name Rest old new =
    ((mid : Moment) × (began : End) × AreLater old.counts mid.counts × StartStops name old began mid × (is_done began ≡ true) × Rest mid new) ⊎ StartWants name old new
SeesShortOne Heal name Rest old new =
    ((mid : Moment) × (dirty : ℕ) × (copied : ℕ) × AreLater old.counts mid.counts × IsRecovered name dirty copied old mid × Rest mid new) ⊎ RecoveryWants name old new

abbrev pub SeesShort : List Word → Moment → Moment → Type 0
SeesShort [] old new = ⊥
SeesShort (name ∷ names) old new = SeesShortOne (need_of name old.world) name (SeesShort names) old new

-- what want of memory leaves of the command: the world as it was, or the volumes seen to so far
abbrev pub RecoversShort : Option Word → Moment → Moment → Type 0
RecoversShort vol old new =
    (new.world ≡ old.world) ⊎ ((g : Group) × (old.world.group ≡ Some g) × (names : List Word) × AreNamesOf vol g names × SeesShort names old new)
