-- How far a recovery of volumes has come.
use Rattle.std.specs.Prelude.{◌≡◌, Option, Some, List, ◌∷◌, ◌++◌}
use Rattle.vx_base.specs.Named.{Word}
use Rattle.vx_answers.specs.declared.answer.View.{View}
use Rattle.vx_moments.specs.Moment.{Moment}
use Rattle.vx_moments.specs.World.{Group}
use Rattle.vx_recovery.specs.Going.{AreNamesOf, Sees, all_done}

-- of these volumes, one after the other, all before the one of this name were seen to
pub record HasSeen (names : List Word) (old : Moment) (name : Word) (mid : Moment) : Type 0 where
  pub before : List Word
  pub behind : List Word
  pub names_are : names ≡ before ++ name ∷ behind
  pub views : List View
  pub seen : Sees before old views all_done mid

-- A recovery of all volumes of the group, or of one, has come to the volume of this name.
pub record HasComeTo (vol : Option Word) (old : Moment) (name : Word) (mid : Moment) : Type 0 where
  pub group : Group
  pub here : old.world.group ≡ Some group
  pub names : List Word
  pub are : AreNamesOf vol group names
  pub seen : HasSeen names old name mid
