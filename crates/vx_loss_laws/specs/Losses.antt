-- What is left of a volume of a group that is lost, and what a recovery makes of it.
use Rattle.std.specs.Prelude.{◌≡◌, ◌+◌, length, ℕ, ◌<◌, Bool, true, false, if◌then◌else◌, Option, Some, None, List, [], ◌∷◌, Contains}
use Rattle.vx_base.specs.Blocks.{Contents, is_in}
use Rattle.vx_base.specs.Named.{Word}
use Rattle.vx_life.specs.Candidates.{Candidates, IsAmong}
use Rattle.vx_life.specs.Entry.{Entry}
use Rattle.vx_life.specs.declared.EntryKind.{EntryKind}
use Rattle.vx_life.specs.declared.EntryKind.TheVariants.{Read, Write, Torn, Missed}
use Rattle.vx_config_parts.specs.declared.vol.Vol.{Vol}
use Rattle.vx_script_forms.specs.declared.form.Form.TheVariants as forms
use Rattle.vx_image.specs.Image.{Image, PlexImage, has_no_copy, is_available, regions_of}
use Rattle.vx_image.specs.Meaning.{ReadsOneList, dirty_read, possible_read}
use Rattle.vx_script.specs.declared.command.Command.{Command}
use Rattle.vx_answers.specs.declared.answer.Answer.{Answer}
use Rattle.vx_answers.specs.declared.answer.Answer.TheVariants.{One}
use Rattle.vx_answers.specs.declared.answer.View.{View}
use Rattle.vx_answers.specs.declared.answer.End.{End}
use Rattle.vx_answers.specs.declared.answer.End.TheVariants as ends
use Rattle.vx_moments.specs.Group.{image_on}
use Rattle.vx_moments.specs.Moment.{Moment}
use Rattle.vx_moments.specs.World.{Group, Volume}
use Rattle.vx_recovery.specs.Healing.{IsHealed}
use Rattle.vx_recovery.specs.Recovering.{IsRecoveryBegun}
use Rattle.vx_plans.specs.Recoveries.{HasComeTo}
use Rattle.vx_plans.specs.Steps.{IsTranscript, Step, done}
use Rattle.vx_sound.specs.Laws.{FormWritesNoHeader, WriteNoHeader}

-- ---- what is left

-- the group, or the power, is lost by this end
abbrev pub is_loss : End → Bool
is_loss ends.GroupLost = true
is_loss (ends.Lost parts) = true
is_loss (ends.Done copied parts blocks) = false
is_loss (ends.Refused refusal) = false
is_loss (ends.Fault told device parts) = false
is_loss ends.ShelfFailed = false

-- ---- what a recovery makes of it

-- One list is read, of which each block is among these candidates; no region is dirty, and no plex that is available misses anything. So where
-- a copy of the log counts, or the volume has none, each plex that is available holds the list.
pub record AgreesOn (v : Image) (candidates : Candidates) (list : Contents) : Type 0 where
  pub reads : ReadsOneList v candidates list
  pub clear : (r : ℕ) → r < regions_of v → dirty_read v r ≡ false
  pub whole : (p : PlexImage) → Contains v.plexes p → is_available p ≡ true → (r : ℕ) → r < regions_of v → possible_read v p.map r ≡ false
  pub held : has_no_copy v ≡ false → (p : PlexImage) → Contains v.plexes p → is_available p ≡ true → (b : ℕ) → b < v.length → p.values b ≡ list b

-- A recovery of volumes has come to the one of the name, has recorded its recovery as begun, by which it is this volume of the group, and has healed
-- its bytes, with these numbers of regions.
pub record HasHealed (vol : Option Word) (name : Word) (dirty copied : ℕ) (old : Moment) (g : Group) (v : Vol) (healed : Moment) : Type 0 where
  pub mid : Moment
  pub come : HasComeTo vol old name mid
  pub begun : Moment
  pub begins : IsRecoveryBegun name mid g v begun
  pub marks : ℕ
  pub heals : IsHealed g v dirty copied marks begun healed

-- The recovery from the one moment to the other has made one list of what the volume might hold: the bytes agree on it once they are healed, and
-- the volume runs again, of which each block has the value of the list for its only candidate.
pub record IsOneAgain (vol : Option Word) (name : Word) (dirty copied : ℕ) (candidates : Candidates) (old new : Moment) : Type 0 where
  pub group : Group
  pub of : Vol
  pub named : of.name ≡ name
  pub healed : Moment
  pub heals : HasHealed vol name dirty copied old group of healed
  pub list : Contents
  pub agrees : AgreesOn (image_on healed.world.devices group of) candidates list
  pub run : Volume
  pub runs : new.world.volumes name ≡ Some run
  pub fresh : run.life.entries ≡ []
  pub known : (b : ℕ) → b < of.len → (value : List ℕ) → IsAmong (run.life.candidates b) value → value ≡ list b

-- ---- a loss, and what follows

-- One after the other: commands that put no header at the front of a volume, the last of which loses its group or the power; an import of the
-- group; and a recovery that is done, with these views.
pub record IsLostAndRecovered (place : ℕ) (old : Moment) (vol : Option Word) (views : List View) (new : Moment) : Type 0 where
  pub commands : List Command
  pub answers : List Answer
  pub last : Moment
  pub before : IsTranscript place old commands answers last
  pub headers : WriteNoHeader commands
  pub command : Command
  pub answer : Answer
  pub left : Moment
  pub loss : Step (place + length commands) command last answer left
  pub header : FormWritesNoHeader command.form
  pub lost : is_loss loss.end ≡ true
  pub group : Group
  pub here : loss.over.world.group ≡ Some group
  pub import : Command
  pub told : Answer
  pub back : Moment
  pub import_is : import.form ≡ forms.DgImport group.config.group
  pub imports : Step (place + length commands + 1) import left told back
  pub recovery : Command
  pub recovery_is : recovery.form ≡ forms.Recover vol
  pub recovers : Step (place + length commands + 1 + 1) recovery back (One views done) new

-- ---- what was acknowledged

-- an entry of this kind tells what the block holds, or that it may hold something else; one that missed it tells nothing
abbrev pub tells : EntryKind → Bool
tells Read = true
tells Write = true
tells Torn = true
tells Missed = false

-- the newest of these entries, which stand with the newest first, that tells something of the block
abbrev pub last_of : ℕ → List Entry → Option Entry
last_of b [] = None
last_of b (e ∷ es) = if is_in e.start e.count b then (if tells e.kind then Some e else last_of b es) else last_of b es
