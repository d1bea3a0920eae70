use Rattle.vx_import.specs.Answers.{Answers}
use Rattle.vx_stage_import.proofs.Inspections.{few_at, private_at, unread_at, rising_at, of_at, each_written, read_as, are_looked}
use Rattle.vx_stage_import.proofs.inspecting.look_into.Goals as goal

pub inspect-requires-clause-few : goal.inspect-requires-clause-few
inspect-requires-clause-few g c κs within = few_at g.P.Piece.seen c.requires.finds.0 _ c.args.finds.now.items c.requires.finds.1 c.deref_mut.result.now c.deref_mut.ensures.value

pub inspect-requires-clause-private : goal.inspect-requires-clause-private
inspect-requires-clause-private g c κs within = private_at g.P.Piece.seen c.requires.finds.0 _ c.args.finds.now.items c.requires.finds.1 c.deref_mut.result.now c.deref_mut.ensures.value

pub inspect-requires-clause-unread : goal.inspect-requires-clause-unread
inspect-requires-clause-unread g c κs within = unread_at g.P.Piece.seen c.requires.finds.0 _ c.args.finds.now.items c.requires.finds.1 c.deref_mut.result.now c.deref_mut.ensures.value

pub inspect-requires-clause-rising : goal.inspect-requires-clause-rising
inspect-requires-clause-rising g c κs within = rising_at g.P.Piece.seen c.requires.finds.0 _ c.args.finds.now.items c.requires.finds.1 c.deref_mut.result.now c.deref_mut.ensures.value

pub returns-clause-inspected : goal.returns-clause-inspected
returns-clause-inspected g c = each_written g.P.Piece.seen c.args.finds.now c.deref_mut.result.now c.inspect.new.found c.deref_mut.ensures.value c.inspect.ensures.inspects

pub returns-clause-looked : goal.returns-clause-looked
returns-clause-looked g c = λ dg are.
    are_looked g.P.Piece.seen dg _ c.args.finds.now.items are _
    (each_written g.P.Piece.seen c.args.finds.now c.deref_mut.result.now c.inspect.new.found c.deref_mut.ensures.value c.inspect.ensures.inspects)

pub returns-clause-answers : goal.returns-clause-answers
returns-clause-answers g c = λ dg are.
    read_as g.P.Piece.seen c.args.finds.now c.deref_mut.result.now c.inspect.new.found c.deref_mut.ensures.value c.inspect.ensures.inspects (λ ls. Answers c.inspect.result dg ls)
    (c.inspect.ensures.answers dg (of_at g.P.Piece.seen dg _ c.args.finds.now.items are c.deref_mut.result.now c.deref_mut.ensures.value))
