use Rattle.vx_copies.proofs.Choice.{gives, below_all}
use Rattle.vx_copies.proofs.AfterDone.{ok_is}
use Rattle.vx_copies.proofs.writing.commit.Goals as goal

pub returns-clause-old_or_new : goal.returns-clause-old_or_new
returns-clause-old_or_new g c = λ group below. gives group c.args.sequence.now c.commit_on.new.sequence c.args.text.now _ _ below c.commit_on.ensures.goes

pub returns-clause-below : goal.returns-clause-below
returns-clause-below g c = λ group below. below_all group c.args.sequence.now c.commit_on.new.sequence c.args.text.now _ _ c.commit_on.ensures.more below c.commit_on.ensures.goes

pub returns-clause-ok : goal.returns-clause-ok
returns-clause-ok g c = λ group below. ok_is c.commit_on.result group c.args.carriers c.args.sequence.now c.commit_on.new.sequence c.args.text.now _ _ c.commit_on.ensures.next c.commit_on.ensures.older c.commit_on.ensures.ends below (gives group c.args.sequence.now c.commit_on.new.sequence c.args.text.now _ _ below c.commit_on.ensures.goes)
