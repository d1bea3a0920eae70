-- How the recovery of one volume of the imported group goes, and how it ends the command.
use Rattle.std.specs.Prelude.{◌≡◌, ◌⊎◌, ℕ, Bool, true, false, Some, None}
use Rattle.vx_base.specs.Named.{Word}
use Rattle.vx_config_parts.specs.declared.state.VolState.{VolState}
use Rattle.vx_config_parts.specs.declared.state.VolState.TheVariants as vol
use Rattle.vx_config_parts.specs.declared.vol.Vol.{Vol}
use Rattle.vx_answers.specs.declared.answer.End.{End}
use Rattle.vx_answers.specs.declared.refusal.Refusal.{Refusal}
use Rattle.vx_moments.specs.Commit.{Writing, IsCommitted}
use Rattle.vx_moments.specs.Group.{image_on}
use Rattle.vx_moments.specs.Moment.{AreLater, Moment}
use Rattle.vx_moments.specs.World.{Group, World}
use Rattle.vx_stages.specs.Ends.{EndsIn, IsChange, StopsBy}
use Rattle.vx_stages.specs.Recorded.{IsSoundAs}
use Rattle.vx_image.specs.Soundness.{IsSoundImage}
use Rattle.vx_stages.specs.Starting.{BeginsIn, StopsUnopened, refusal_at_once}
use Rattle.vx_stages.specs.Tests.{volume_in}
use Rattle.vx_stages.specs.Touching.{IsTouched, Narrows, PassHasCause}
use Rattle.vx_state_edits.specs.Edits.{recovered_edits, recovery_edits}
use Rattle.vx_recovery.specs.Healing.{IsHealed, IsHealing}

-- a volume in this state is recovered: it ran as the power went, or its recovery was begun
abbrev pub is_recovered : VolState → Bool
is_recovered vol.Empty = false
is_recovered vol.Clean = false
is_recovered vol.Active = false
is_recovered vol.NeedSync = true
is_recovered vol.Sync = true

-- the imported group has this volume under the name
pub record IsOf (name : Word) (w : World) (g : Group) (v : Vol) : Type 0 where
  pub group : w.group ≡ Some g
  pub volume : volume_in name g.config.volumes ≡ Some v

-- The volume does not run, and its recovery is recorded as begun: it is this volume of the group then.
pub record IsRecoveryBegun (name : Word) (old : Moment) (g : Group) (v : Vol) (new : Moment) : Type 0 where
  pub group : Group
  pub of : Vol
  pub was : IsOf name old.world group of
  pub state : is_recovered of.state ≡ true
  pub free : old.world.volumes name ≡ None
  pub writing : Writing
  pub change : IsChange (recovery_edits group.config of) old.world writing
  pub committed : IsCommitted writing old new
  pub is : IsOf name new.world g v
  pub later : AreLater old.counts new.counts

-- It is opened again over what was healed: only the copies of its log have come nearer to one another.
pub record IsReopened (g : Group) (v : Vol) (old new : Moment) : Type 0 where
  pub touched : IsTouched g v.name old new
  pub narrows : Narrows g v old new
  pub later : AreLater old.counts new.counts

-- The volume, whose bytes are healed, is opened again, the end of its recovery is recorded, and it runs over them.
pub record IsRecoveryEnded (g : Group) (v : Vol) (marks : ℕ) (old new : Moment) : Type 0 where
  pub untested : refusal_at_once g v ≡ None
  pub free : old.world.volumes v.name ≡ None
  pub opened : Moment
  pub opens : IsReopened g v old opened
  pub writing : Writing
  pub change : IsChange (recovered_edits g.config v marks) opened.world writing
  pub recorded : Moment
  pub committed : IsCommitted writing opened recorded
  pub rest : AreLater opened.counts recorded.counts
  pub runs : BeginsIn g v (image_on old.world.devices g v) recorded new

-- The volume is recovered, with these numbers of regions: its recovery is recorded as begun, its bytes are healed, and the end is recorded.
pub record IsRecovered (name : Word) (dirty copied : ℕ) (old new : Moment) : Type 0 where
  pub group : Group
  pub of : Vol
  pub begun : Moment
  pub begins : IsRecoveryBegun name old group of begun
  pub healed : Moment
  pub marks : ℕ
  pub heals : IsHealed group of dirty copied marks begun healed
  pub later : AreLater begun.counts healed.counts
  pub ends : IsRecoveryEnded group of marks healed new

-- ---- how it ends the command

-- the commit of its beginning is stopped
pub record StopsAtBegin (name : Word) (old : Moment) (end : End) (new : Moment) : Type 0 where
  pub group : Group
  pub of : Vol
  pub was : IsOf name old.world group of
  pub state : is_recovered of.state ≡ true
  pub free : old.world.volumes name ≡ None
  pub stops : StopsBy (IsChange (recovery_edits group.config of) old.world) old end new

-- what is recorded as begun ends so
pub record StopsBegun (name : Word) (Ends : Group → Vol → Moment → End → Moment → Type 0) (old : Moment) (end : End) (new : Moment) : Type 0 where
  pub group : Group
  pub of : Vol
  pub begun : Moment
  pub begins : IsRecoveryBegun name old group of begun
  pub later : AreLater begun.counts new.counts
  pub ends : Ends group of begun end new

-- a test refuses it, and nothing was called
abbrev pub IsRefusedBegun : Group → Vol → Moment → End → Moment → Type 0
IsRefusedBegun g v old end new = (r : Refusal) × (refusal_at_once g v ≡ Some r) × EndsIn r old end new

-- a device has failed or the power is gone as it was healed
abbrev pub StopsHealing : Group → Vol → Moment → End → Moment → Type 0
StopsHealing g v old end new = IsHealing g v old new × PassHasCause g v.name old.counts new.counts end

-- the commit of the end is stopped, once the volume was opened again
pub record StopsAtEnd (g : Group) (v : Vol) (marks : ℕ) (old : Moment) (end : End) (new : Moment) : Type 0 where
  pub opened : Moment
  pub opens : IsReopened g v old opened
  pub rest : AreLater opened.counts new.counts
  pub stops : StopsBy (IsChange (recovered_edits g.config v marks) opened.world) opened end new
  -- as the end records it the volume is sound by its bytes, if it was as they were healed
  pub sound : IsSoundImage (image_on old.world.devices g v) → IsSoundAs g stops.0.config v.name opened.world

-- it is healed, and not opened again, or the commit of the end is stopped
pub record StopsHealed (g : Group) (v : Vol) (old : Moment) (end : End) (new : Moment) : Type 0 where
  pub dirty : ℕ
  pub copied : ℕ
  pub marks : ℕ
  pub healed : Moment
  pub heals : IsHealed g v dirty copied marks old healed
  pub first : AreLater old.counts healed.counts
  pub rest : AreLater healed.counts new.counts
  pub ends : StopsUnopened g v healed end new ⊎ StopsAtEnd g v marks healed end new

-- How the recovery of the volume ends the command, in each case.
abbrev pub RecoveryStops : Word → Moment → End → Moment → Type 0
RecoveryStops name old end new =
    StopsAtBegin name old end new
    ⊎ (StopsBegun name IsRefusedBegun old end new
    ⊎ (StopsBegun name StopsUnopened old end new
    ⊎ (StopsBegun name StopsHealing old end new
    ⊎ StopsBegun name StopsHealed old end new)))

-- What want of memory leaves of the healing: the world as it was, or the volume opened or healed so far, which does not run.
abbrev pub HealingWants : Group → Vol → Moment → Moment → Type 0
HealingWants g v old new = (new.world ≡ old.world) ⊎ ((IsTouched g v.name old new × Narrows g v old new) ⊎ IsHealing g v old new)

-- what it leaves of the end
abbrev pub EndWants : Group → Vol → Moment → Moment → Type 0
EndWants g v old new = (new.world ≡ old.world) ⊎ (IsTouched g v.name old new × Narrows g v old new)

-- What want of memory leaves of the recovery: the world as it was, or its recovery recorded as begun, or the volume healed too.
abbrev pub RecoveryWants : Word → Moment → Moment → Type 0
RecoveryWants name old new =
    (new.world ≡ old.world)
    ⊎ ((g : Group) × (v : Vol) × (begun : Moment) × IsRecoveryBegun name old g v begun
    × (HealingWants g v begun new ⊎ ((healed : Moment) × IsHealing g v begun healed × EndWants g v healed new)))
