-- A volume that ran as its group or the power was lost comes back by an import and a recovery, over one list of what it might hold.
use Rattle.std.specs.Prelude.{◌≡◌, ℕ, ◌<◌, ◌+◌, true, Option, Some, None, List, Contains}
use Rattle.vx_base.specs.Named.{Word}
use Rattle.vx_life.specs.Candidates.{Candidates, IsAmong}
use Rattle.vx_life.specs.Entry.{Entry, candidates_of}
use Rattle.vx_life.specs.declared.EntryKind.TheVariants.{Write}
use Rattle.vx_script_forms.specs.declared.form.Form.TheVariants as forms
use Rattle.vx_script.specs.declared.command.Command.{Command}
use Rattle.vx_answers.specs.declared.answer.Answer.{Answer}
use Rattle.vx_answers.specs.declared.answer.Answer.TheVariants.{One}
use Rattle.vx_answers.specs.declared.answer.View.{View}
use Rattle.vx_answers.specs.declared.answer.View.TheVariants.{Recovered}
use Rattle.vx_moments.specs.Leaving.{grouped}
use Rattle.vx_moments.specs.Moment.{Moment}
use Rattle.vx_moments.specs.World.{Group, Volume}
use Rattle.vx_plans.specs.Steps.{Step, done}
use Rattle.vx_sound.specs.Laws.{FormWritesNoHeader, IsIdle}
use Rattle.vx_sound_imports.specs.Left.{IsLeft}
use Rattle.vx_sound_imports.specs.Offered.{AreAllSound}
use Rattle.vx_sound_imports.specs.Laws.{AreDevicesSound}
use Rattle.vx_loss_laws.specs.Losses.{IsLostAndRecovered, IsOneAgain, is_loss, last_of}

-- A command in which the group or the power is lost, at whichever device call, leaves each volume that ran on plexes of the group: what is read of
-- it then is among what it might hold.
abbrev pub EachLossLeaves : Type 0
EachLossLeaves =
    (place : ℕ) (c : Command) (old : Moment) (answer : Answer) (new : Moment) (step : Step place c old answer new) (g : Group)
    → FormWritesNoHeader c.form → AreAllSound place old.world → is_loss step.end ≡ true → step.over.world.group ≡ Some g
    → (name : Word) (u : Volume) → grouped (step.over.world.volumes name) ≡ Some u → IsLeft g.config.group new.world name u.life.candidates

-- What is left is made one again: an import of the group, and a recovery that is done and tells of the volume, behind whatever was lost.
abbrev pub EachLeftIsRecovered : Type 0
EachLeftIsRecovered =
    (place : ℕ) (left : Moment) (dg name : Word) (candidates : Candidates) → AreAllSound place left.world → left.world.group ≡ None → IsLeft dg left.world name candidates
    → (import : Command) (told : Answer) (back : Moment) → import.form ≡ forms.DgImport dg → Step place import left told back
    → (recovery : Command) (vol : Option Word) (views : List View) (new : Moment) → recovery.form ≡ forms.Recover vol → Step (place + 1) recovery back (One views done) new
    → (dirty copied : ℕ) → Contains views (Recovered name dirty copied) → IsOneAgain vol name dirty copied candidates back new

-- A block whose newest entry is an acknowledged write has the value of that for its only candidate, and so whatever list is made one of them has it.
abbrev pub EachAcknowledgedWriteIsHeld : Type 0
EachAcknowledgedWriteIsHeld =
    (first : Candidates) (entries : List Entry) (e : Entry) (b : ℕ) → last_of b entries ≡ Some e → e.kind ≡ Write
    → (value : List ℕ) → IsAmong (candidates_of first entries b) value → value ≡ e.values b

-- All of it together: in a run from sound devices, with no volume started, a loss, an import and a recovery that tells of a volume leave one list of
-- what it might hold, and each block of which the newest entry was an acknowledged write as it was lost has the value of that.
abbrev pub EachAcknowledgedWriteOutlivesLoss : Type 0
EachAcknowledgedWriteOutlivesLoss =
    (place : ℕ) (old : Moment) (vol : Option Word) (views : List View) (new : Moment) → IsIdle old.world → AreDevicesSound old.world → (r : IsLostAndRecovered place old vol views new)
    → (name : Word) (dirty copied : ℕ) → Contains views (Recovered name dirty copied) → (u : Volume) → grouped (r.loss.over.world.volumes name) ≡ Some u
    → (after : IsOneAgain vol name dirty copied u.life.candidates r.back new) × ((b : ℕ) (e : Entry) → b < after.of.len → last_of b u.life.entries ≡ Some e → e.kind ≡ Write → after.list b ≡ e.values b)
