-- The history of each volume of a transcript.
use Rattle.std.specs.Prelude.{◌≡◌, ◌⊎◌, ℕ, ◌-◌, ◌<◌, ◌==◌, true, MatchBool, List, [], ◌∷◌, ◌++◌, Some, None}
use Rattle.vx_base.specs.Blocks.{Contents}
use Rattle.vx_base.specs.Named.{Word}
use Rattle.vx_life.specs.Candidates.{Candidates, known}
use Rattle.vx_life.specs.Entry.{Entry, candidates_of, IsHistory}
use Rattle.vx_life.specs.Life.{Life}
use Rattle.vx_config_parts.specs.declared.vol.Vol.{Vol}
use Rattle.vx_image.specs.Meaning.{candidates_read}
use Rattle.vx_script_forms.specs.declared.form.Form.{Form}
use Rattle.vx_script_forms.specs.declared.form.Form.TheVariants.{AssistMake, Recover}
use Rattle.vx_script.specs.declared.command.Command.{Command}
use Rattle.vx_answers.specs.declared.answer.Answer.{Answer}
use Rattle.vx_moments.specs.World.{Group, World, Volume, Lies, OnDevice, OnPlexes}
use Rattle.vx_moments.specs.Moment.{Moment}
use Rattle.vx_moments.specs.Group.{image_on}
use Rattle.vx_stages.specs.Stages.{IsDone}
use Rattle.vx_stages.specs.Starting.{may_start}
use Rattle.vx_stages.specs.Tests.{volume_in}
use Rattle.vx_stages.specs.declared.stage.Source.TheVariants as source
use Rattle.vx_stages.specs.declared.stage.Stage.TheVariants as stage
use Rattle.vx_recovery.specs.Healing.{IsHealed}
use Rattle.vx_recovery.specs.Recovering.{IsRecoveryBegun}
use Rattle.vx_plans.specs.Plans.{new_volume}
use Rattle.vx_plans.specs.Recoveries.{HasComeTo}
use Rattle.vx_plans.specs.Steps.{IsTranscript}

-- the numbers of the region's entries, the newest first, are n down to 1
abbrev pub CountsDown : ℕ → ℕ → List Entry → Type 0
CountsDown region n [] = n ≡ 0
CountsDown region n (e ∷ es) = MatchBool (region == e.part.region) ((e.part.number ≡ n) × (0 < n) × CountsDown region (n - 1) es) (CountsDown region n es)

-- the life's entries are a legal history from these candidates, its candidates are what they leave, and its numbers count
pub record HasHistory (first : Candidates) (life : Life) : Type 0 where
  pub legal : IsHistory first life.entries
  pub now : (k : ℕ) → life.candidates k ≡ candidates_of first life.entries k
  pub numbers : (region : ℕ) → CountsDown region (life.last region) life.entries

-- before some command of the transcript a device of this name and size was there, and held these blocks
pub record WasThere (place : ℕ) (old : Moment) (commands : List Command) (answers : List Answer) (name : Word) (sectors : ℕ) (blocks : Contents) : Type 0 where
  pub before : List Command
  pub others : List Command
  pub commands_are : commands ≡ before ++ others
  pub told : List Answer
  pub later : List Answer
  pub answers_are : answers ≡ told ++ later
  pub moment : Moment
  pub transcript : IsTranscript place old before told moment
  pub here : moment.world.devices name ≡ Some (record { sectors = sectors; contents = blocks })

-- a command of this form has come to where it starts the volume of this name next: it has added the records of a new volume, or it is a recovery
-- of volumes that has come to it
abbrev pub StartsNext : Form → Word → Moment → Moment → Type 0
StartsNext (AssistMake vol length attrs disks) name old new = (name ≡ vol) × IsDone (stage.Make (source.Volume (new_volume vol length attrs disks))) [] old new
StartsNext (Recover vol) name old new = HasComeTo vol old name new
StartsNext other name old new = ⊥

-- the first of these commands has
abbrev pub FirstStartsNext : List Command → Word → Moment → Moment → Type 0
FirstStartsNext [] name old new = ⊥
FirstStartsNext (c ∷ cs) name old new = StartsNext c.form name old new

-- a command of this form is a recovery of volumes that has come to the one of this name, has recorded its recovery as begun, by which it is this
-- volume of the group, and has healed its bytes
abbrev pub HasHealed : Form → Word → Group → Vol → Moment → Moment → Type 0
HasHealed (Recover vol) name g v old new =
    (mid : Moment) × HasComeTo vol old name mid × (begun : Moment) × IsRecoveryBegun name mid g v begun × (dirty copied marks : ℕ) × IsHealed g v dirty copied marks begun new
HasHealed other name g v old new = ⊥

abbrev pub FirstHasHealed : List Command → Word → Group → Vol → Moment → Moment → Type 0
FirstHasHealed [] name g v old new = ⊥
FirstHasHealed (c ∷ cs) name g v old new = HasHealed c.form name g v old new

-- before some command of the transcript, or in one that starts it next, a group was imported that recorded a volume of this name and size, in a
-- state from which it can be started; or it did so in a recovery that had healed the bytes of the volume; and these candidates are read from the
-- bytes that it had then
pub record WasRead (place : ℕ) (old : Moment) (commands : List Command) (answers : List Answer) (name : Word) (sectors : ℕ) (first : Candidates) : Type 0 where
  pub before : List Command
  pub others : List Command
  pub commands_are : commands ≡ before ++ others
  pub told : List Answer
  pub later : List Answer
  pub answers_are : answers ≡ told ++ later
  pub moment : Moment
  pub transcript : IsTranscript place old before told moment
  pub at : Moment
  pub group : Group
  pub imported : at.world.group ≡ Some group
  pub of : Vol
  pub recorded : volume_in name group.config.volumes ≡ Some of
  pub size : of.len ≡ sectors
  pub reached : ((may_start of.state ≡ true) × ((at ≡ moment) ⊎ FirstStartsNext others name moment at)) ⊎ FirstHasHealed others name group of moment at
  pub candidates : first ≡ candidates_read (image_on at.world.devices group of)

-- A volume on a device has a history from blocks that the device held. One on plexes of the group has one where its bytes were sound as
-- it began, from the candidates that they were read as.
abbrev pub IsHistoriedOn : (Word → ℕ → Contents → Type 0) → (Word → ℕ → Candidates → Type 0) → Word → Lies → Volume → Type 0
IsHistoriedOn Held Read vol (OnDevice name) v = (first : Contents) × Held name v.length first × HasHistory (known first) v.life
IsHistoriedOn Held Read vol (OnPlexes plexes) v = v.sound ≡ true → (first : Candidates) × Read vol v.length first × HasHistory first v.life

-- by where it lies
abbrev pub IsHistoried : (Word → ℕ → Contents → Type 0) → (Word → ℕ → Candidates → Type 0) → Word → Volume → Type 0
IsHistoried Held Read vol v = IsHistoriedOn Held Read vol v.lies v

-- each started volume has a history
abbrev pub HaveHistories : (Word → ℕ → Contents → Type 0) → (Word → ℕ → Candidates → Type 0) → World → Type 0
HaveHistories Held Read w = (vol : Word) (v : Volume) → w.volumes vol ≡ Some v → IsHistoried Held Read vol v

-- no volume is started
abbrev pub NoneStarted : World → Type 0
NoneStarted w = (vol : Word) → w.volumes vol ≡ None

abbrev pub EachVolumeHasAHistory : Type 0
EachVolumeHasAHistory = (place : ℕ) (old new : Moment) (commands : List Command) (answers : List Answer) → NoneStarted old.world → IsTranscript place old commands answers new → HaveHistories (WasThere place old commands answers) (WasRead place old commands answers) new.world
