-- What stages have in common: what a commit writes, and how a test or a commit may end the command.
use Rattle.std.specs.Prelude.{◌≡◌, ℕ, ◌+◌, ◌<◌, Some, List, [], length}
use Rattle.vx_base.specs.Named.{Word}
use Rattle.vx_objects.specs.declared.config.Config.{Config}
use Rattle.vx_objects.specs.declared.edit.Edit.{Edit}
use Rattle.vx_objects.specs.Applied.{IsEdited}
use Rattle.vx_answers.specs.declared.answer.End.{End}
use Rattle.vx_answers.specs.declared.answer.End.TheVariants as ends
use Rattle.vx_answers.specs.declared.refusal.Refusal.{Refusal}
use Rattle.vx_answers.specs.declared.refusal.Refusal.TheVariants as refusal
use Rattle.vx_moments.specs.World.{World}
use Rattle.vx_moments.specs.Moment.{Moment, Rests}
use Rattle.vx_moments.specs.Copies.{IsTextOf}
use Rattle.vx_moments.specs.Commit.{Writing, IsCommitted, IsStopped}

-- nothing is told of the parts of a call
abbrev pub fault_of : Word → End
fault_of name = ends.Fault name name []

abbrev pub lost : End
lost = ends.Lost []

-- the command ends so
abbrev pub refused : Refusal → End
refused r = ends.Refused r

-- the imported group, and what is to be written to it by these edits
pub record IsChange (edits : List Edit) (w : World) (x : Writing) : Type 0 where
  pub group : w.group ≡ Some x.group
  pub edited : IsEdited edits x.group.config x.config
  pub joiners : x.joiners ≡ []
  pub carriers : x.carriers ≡ x.group.members

-- the text of the configuration is too long by so many bytes
abbrev pub RefusedAsLong : Config → End → Type 0
RefusedAsLong config end = (text : List ℕ) × IsTextOf config text × (522240 < length text) × (end ≡ refused (refusal.TooLong (length text)))

-- the text of the configuration, and so many bytes by which a later commit of the command makes it longer, are too many
abbrev pub RefusedAsGrown : ℕ → Config → End → Type 0
RefusedAsGrown more config end = (text : List ℕ) × IsTextOf config text × (522240 < length text + more) × (end ≡ refused (refusal.TooLong (length text + more)))

-- the writing of a commit
abbrev pub CommitsBy : (Writing → Type 0) → Moment → Moment → Type 0
CommitsBy IsWriting old new = (x : Writing) × IsWriting x × IsCommitted x old new

-- a test has refused the command, and nothing was called
abbrev pub EndsIn : Refusal → Moment → End → Moment → Type 0
EndsIn r old end new = (end ≡ refused r) × Rests old new

-- the commit is stopped
abbrev pub StopsBy : (Writing → Type 0) → Moment → End → Moment → Type 0
StopsBy IsWriting old end new = (x : Writing) × IsWriting x × IsStopped x old end new
