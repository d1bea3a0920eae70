use Rattle.std.proofs.Common.{map}
use Rattle.vx_copies.proofs.StepLaws.{each_refl}
use Rattle.vx_import.specs.Looks.{looked}
use Rattle.vx_import.specs.Toggles.{Inspects}
use Rattle.vx_import.specs.Answers.{IsOf}
use Rattle.vx_import.proofs.Looks.{all_on}
use Rattle.vx_import.proofs.Passes.{inspects_refl, of_over, rising_over}
use Rattle.vx_import.proofs.Topmost.{all_newest}
use Rattle.vx_import.proofs.inspecting.inspect.Goals as goal

pub returns-in_default-clause-inspects : goal.returns-in_default-clause-inspects
returns-in_default-clause-inspects g c = each_refl Inspects inspects_refl _

pub returns-clause-answers : goal.returns-clause-answers
returns-clause-answers g c = λ group of. c.judge.ensures.answers group (all_on Inspects (IsOf group) (of_over group) _ _ c.take_newest-taken.ensures.inspects of)

pub returns-clause-newest : goal.returns-clause-newest
returns-clause-newest g c = λ group of.
    all_newest group c.judge.result (map (looked g.P.Piece.seen) c.take_newest-taken.new.found) (rising_over _ _ c.take_newest-taken.ensures.inspects c.requires.rising)
    (c.judge.ensures.answers group (all_on Inspects (IsOf group) (of_over group) _ _ c.take_newest-taken.ensures.inspects of))
