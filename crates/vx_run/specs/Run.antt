-- A run of commands over a house and its shelf, and one that was cut short.
use Rattle.std.specs.Prelude.{◌≡◌, ◌⊎◌, ℕ, ◌≤◌, Bool, List, [], ◌∷◌, ◌++◌, length, take, Option, Some}
use Rattle.std.specs.List.{flat_map}
use Rattle.vx_pages.specs.declared.local_piece.LocalPiece.{Ghosts}
use Rattle.vx_piece.specs.Seen.{Seen}
use Rattle.vx_copies.specs.Lists.{AllOf}
use Rattle.vx_script.specs.declared.command.Command.{Command}
use Rattle.vx_answers.specs.Lines.{lines_of}
use Rattle.vx_answers.specs.declared.answer.Answer.{Answer}
use Rattle.vx_moments.specs.Moment.{Moment}
use Rattle.vx_plans.specs.Steps.{IsTranscript}
use Rattle.vx_house.specs.Scene.{Scene, FaultsGoOn}
use Rattle.vx_house.specs.View.{View, scene}
use Rattle.vx_run.specs.Serving.{AnswerBlamed}
use Rattle.vx_run.specs.Fine.{are_fine}
use Rattle.vx_run.specs.Powers.{FaultsAreLater, GoesOn, IsOffBy}

-- the lines of all answers
abbrev pub text_of : List Answer → List ℕ
text_of answers = flat_map lines_of answers

-- each fault that is told has its cause
abbrev pub AreBlamed : List Answer → Scene → Scene → Type 0
AreBlamed answers old new = AllOf (λ a. AnswerBlamed a old new) answers

-- There is a transcript of the commands from each moment to one that is now, with the same answers. Their text was
-- written behind each text, and fine tells whether all are.
pub record HasRun {P : Type 0} {ghosts : Ghosts P} (see : P → Seen) (place : ℕ) (commands : List Command) (old : View P ghosts) (taken : Option (List ℕ)) (new : View P ghosts) (taken' : Option (List ℕ)) (fine : Bool) : Type 0 where
  pub answers : List Answer
  pub goes : GoesOn see (λ m n. IsTranscript place m commands answers n) old new
  pub written : (text : List ℕ) → taken ≡ Some text → taken' ≡ Some (text ++ text_of answers)
  pub fine_is : fine ≡ are_fine answers
  pub faults : FaultsGoOn (scene see old) (scene see new)
  pub blamed : AreBlamed answers (scene see old) (scene see new)

-- so many bytes of the text of these answers hold each line but the last
pub record HoldsButLast (answers : List Answer) (bytes : ℕ) : Type 0 where
  pub whole : List Answer
  pub last : List Answer
  pub parts : answers ≡ whole ++ last
  pub one : length last ≤ 1
  pub holds : length (text_of whole) ≤ bytes

-- a front of the text of these answers was written, which holds each line but the last
pub record WritesFront (answers : List Answer) (text : List ℕ) (taken : Option (List ℕ)) : Type 0 where
  pub bytes : ℕ
  pub written : taken ≡ Some (text ++ take bytes (text_of answers))
  pub stopped : HoldsButLast answers bytes

-- nothing of the world was changed, or the first of these commands was begun, and left off for want of memory
abbrev pub RestsIn : List Command → Moment → Moment → Type 0
RestsIn [] m n = n.world ≡ m.world
RestsIn (c ∷ cs) m n = (n.world ≡ m.world) ⊎ IsOffBy c m n

-- a transcript to a moment, behind which the commands that are left were not carried out
abbrev pub IsTranscriptThen : ℕ → Moment → List Command → List Answer → List Command → Moment → Type 0
IsTranscriptThen place m commands answers left n = (last : Moment) × IsTranscript place m commands answers last × FaultsAreLater last.counts n.counts × RestsIn left last n

-- The same of the first of the commands, those that were answered; of their text a front was written. The next may have been begun
-- where memory was wanting. No command was begun where a line before it was not written whole.
pub record HasRunPartly {P : Type 0} {ghosts : Ghosts P} (see : P → Seen) (place : ℕ) (commands : List Command) (old : View P ghosts) (taken : Option (List ℕ)) (new : View P ghosts) (taken' : Option (List ℕ)) : Type 0 where
  pub begun : List Command
  pub left : List Command
  pub split : commands ≡ begun ++ left
  pub answers : List Answer
  pub goes : GoesOn see (λ m n. IsTranscriptThen place m begun answers left n) old new
  pub written : (text : List ℕ) → taken ≡ Some text → WritesFront answers text taken'
  pub faults : FaultsGoOn (scene see old) (scene see new)
  pub blamed : AreBlamed answers (scene see old) (scene see new)
