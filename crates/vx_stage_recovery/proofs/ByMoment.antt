-- What a moment says of the volumes is what its house says.
use Rattle.std.proofs.Common.{◌≡◌, ◌∙◌, cond, List, [], ◌∷◌, Option, Some, None, refl, ap}
use Rattle.std.specs.Prelude.{is_some, not, if◌then◌else◌}
use Rattle.vx_pages.specs.declared.local_piece.LocalPiece.{Ghosts}
use Rattle.vx_base.specs.Named.{Word}
use Rattle.vx_piece.specs.Seen.{Seen}
use Rattle.vx_moments.specs.Moment.{Moment}
use Rattle.vx_moments.specs.World.{World}
use Rattle.vx_house.specs.Plain.{plain}
use Rattle.vx_house.specs.Scene.{Shelved}
use Rattle.vx_house.specs.View.{IsMoment, at}
use Rattle.vx_house.specs.declared.house.House.{House}
use Rattle.vx_house.proofs.Runs.{started_same}
use Rattle.vx_answers.specs.declared.refusal.Refusal.TheVariants as refusal
use Rattle.vx_recovery.specs.Going.{Pass, at_rest, need_in, need_of, refusal_of, volume_refusal}
use Rattle.vx_stages.specs.Starting.{first_of}
use Rattle.vx_stages.specs.Tests.{fails, is_here, recorded, unless}
use Rattle.vx_stages.specs.declared.test.Test.TheVariants as tests

-- two worlds with one group, in which the same volumes are started
module _ (w p : World) (group : w.group ≡ p.group) (started : (name : Word) → is_some (w.volumes name) ≡ is_some (p.volumes name)) where
  pub need_same : (name : Word) → need_of name w ≡ need_of name p
  need_same name = ap (λ g. if is_some (w.volumes name) then Pass else need_in name g) group ∙ ap (λ b. if b then Pass else need_in name p.group) (started name)

  pub rest_same : (names : List Word) → at_rest w names ≡ at_rest p names
  rest_same [] = refl
  rest_same (n ∷ ns) = ap (λ b. cond (not b) (n ∷ at_rest w ns) (at_rest w ns)) (started n) ∙ ap (λ rest. cond (not (is_some (p.volumes n))) (n ∷ rest) rest) (rest_same ns)

  here_same : (dg : Option Word) → fails (tests.GroupIs dg) [] w ≡ fails (tests.GroupIs dg) [] p
  unfolding fails
  here_same dg = ap (λ g. unless (is_here dg g) (refusal.NoGroup dg)) group

  volume_same : (vol : Option Word) → volume_refusal vol w ≡ volume_refusal vol p
  unfolding fails
  volume_same None = refl
  volume_same (Some name) = ap (λ g. unless (is_some (recorded name g)) (refusal.NoObject name)) group

  pub refusal_same : (dg vol : Option Word) → refusal_of dg vol w ≡ refusal_of dg vol p
  refusal_same dg vol = ap (λ r. first_of r (volume_refusal vol w)) (here_same dg) ∙ ap (first_of (fails (tests.GroupIs dg) [] p)) (volume_same vol)

-- a moment of the house and what the house tells
module _ {P : Type 0} {ghosts : Ghosts P} (see : P → Seen) (shelf : Shelved) (h : House P ghosts) (m : Moment) (is : IsMoment see (at shelf h) m) where
  started_there : (name : Word) → is_some (m.world.volumes name) ≡ is_some ((plain see h).volumes name)
  started_there = started_same see h m.world is.volumes_are is.runs_are

  pub need_there : (name : Word) → need_of name m.world ≡ need_of name (plain see h)
  need_there = need_same m.world (plain see h) is.group_is started_there

  pub rest_there : (names : List Word) → at_rest m.world names ≡ at_rest (plain see h) names
  rest_there = rest_same m.world (plain see h) is.group_is started_there

  pub refusal_there : (dg vol : Option Word) → refusal_of dg vol m.world ≡ refusal_of dg vol (plain see h)
  refusal_there = refusal_same m.world (plain see h) is.group_is started_there
