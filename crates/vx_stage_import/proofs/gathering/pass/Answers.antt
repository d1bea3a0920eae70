use Rattle.std.proofs.Common.{◌∙◌, ap, Err, map}
use Rattle.vx_import.specs.Looks.{looked}
use Rattle.vx_house.specs.Scene.{shelved}
use Rattle.vx_stage_import.proofs.Passes.{look_goes, look_before, look_more, pass_absent, pass_failed, pass_starved}
use Rattle.vx_stage_import.proofs.gathering.pass.Goals as goal
use Rattle.vx_house.proofs.Refusals.{nowhere_gone, held_gone}

pub returns-in-Ok-clause-goes : goal.returns-in-Ok-clause-goes
returns-in-Ok-clause-goes g c = λ others are.
    look_goes c.args.dg.now c.args.name.now (shelved g.S.Shelf.free g.S.Shelf.held g.S.Shelf.counted g.S.Shelf.faults c.args.shelf.now) (shelved g.S.Shelf.free g.S.Shelf.held g.S.Shelf.counted g.S.Shelf.faults c.take.new.self) (shelved g.S.Shelf.free g.S.Shelf.held g.S.Shelf.counted g.S.Shelf.faults c.look.new.shelf)
    (map (looked g.S.P.Piece.seen) c.args.finds.now.items) (map (looked g.S.P.Piece.seen) c.look.new.finds.items) (g.S.P.Piece.seen c.in-Ok.piece) c.look.ensures.ends.after
    (record { taken = c.in-Ok.ensures.taken; left = c.in-Ok.ensures.left; quiet = c.take.ensures.quiet (λ e. cc (c.in-Ok.is, e)); counted = c.in-Ok.ensures.counted; counts = c.take.ensures.counts; law = g.met.S.Shelf.counts_are c.args.shelf.now; numbers = g.met.S.Shelf.numbers_differ c.take.new.self })
    c.look.ensures.ends.kept c.look.ensures.ends.same c.look.ensures.ends.most others are c.requires.before c.look.result c.look.ensures.ends.ends

pub returns-in-Ok-clause-before : goal.returns-in-Ok-clause-before
returns-in-Ok-clause-before g c =
    look_before c.args.dg.now c.args.name.now (shelved g.S.Shelf.free g.S.Shelf.held g.S.Shelf.counted g.S.Shelf.faults c.args.shelf.now) (shelved g.S.Shelf.free g.S.Shelf.held g.S.Shelf.counted g.S.Shelf.faults c.take.new.self) (shelved g.S.Shelf.free g.S.Shelf.held g.S.Shelf.counted g.S.Shelf.faults c.look.new.shelf)
    (map (looked g.S.P.Piece.seen) c.args.finds.now.items) (map (looked g.S.P.Piece.seen) c.look.new.finds.items) (g.S.P.Piece.seen c.in-Ok.piece) c.look.ensures.ends.after
    (record { taken = c.in-Ok.ensures.taken; left = c.in-Ok.ensures.left; quiet = c.take.ensures.quiet (λ e. cc (c.in-Ok.is, e)); counted = c.in-Ok.ensures.counted; counts = c.take.ensures.counts; law = g.met.S.Shelf.counts_are c.args.shelf.now; numbers = g.met.S.Shelf.numbers_differ c.take.new.self })
    c.look.ensures.ends.kept c.look.ensures.ends.same c.look.result c.look.ensures.ends.ends

pub returns-in-Ok-clause-more : goal.returns-in-Ok-clause-more
returns-in-Ok-clause-more g c =
    look_more c.args.dg.now c.args.name.now (shelved g.S.Shelf.free g.S.Shelf.held g.S.Shelf.counted g.S.Shelf.faults c.args.shelf.now) (shelved g.S.Shelf.free g.S.Shelf.held g.S.Shelf.counted g.S.Shelf.faults c.take.new.self) (shelved g.S.Shelf.free g.S.Shelf.held g.S.Shelf.counted g.S.Shelf.faults c.look.new.shelf)
    (map (looked g.S.P.Piece.seen) c.args.finds.now.items) (map (looked g.S.P.Piece.seen) c.look.new.finds.items) (g.S.P.Piece.seen c.in-Ok.piece) c.look.ensures.ends.after
    (record { taken = c.in-Ok.ensures.taken; left = c.in-Ok.ensures.left; quiet = c.take.ensures.quiet (λ e. cc (c.in-Ok.is, e)); counted = c.in-Ok.ensures.counted; counts = c.take.ensures.counts; law = g.met.S.Shelf.counts_are c.args.shelf.now; numbers = g.met.S.Shelf.numbers_differ c.take.new.self })
    c.look.ensures.ends.kept c.look.ensures.ends.same c.look.result c.look.ensures.ends.ends

pub returns-in-Err-OutOfMemory-clause-goes : goal.returns-in-Err-OutOfMemory-clause-goes
returns-in-Err-OutOfMemory-clause-goes g c = λ others are.
    pass_starved (shelved g.S.Shelf.free g.S.Shelf.held g.S.Shelf.counted g.S.Shelf.faults c.args.shelf.now) (shelved g.S.Shelf.free g.S.Shelf.held g.S.Shelf.counted g.S.Shelf.faults c.take.new.self) c.in-Err-OutOfMemory.ensures.same c.in-Err-OutOfMemory.ensures.stays c.take.ensures.counts c.take.ensures.later c.args.dg.now c.args.name.now others (map (looked g.S.P.Piece.seen) c.args.finds.now.items) are

pub returns-in-Err-NoDisk-clause-goes : goal.returns-in-Err-NoDisk-clause-goes
returns-in-Err-NoDisk-clause-goes g c = λ others are.
    pass_absent (shelved g.S.Shelf.free g.S.Shelf.held g.S.Shelf.counted g.S.Shelf.faults c.args.shelf.now) (shelved g.S.Shelf.free g.S.Shelf.held g.S.Shelf.counted g.S.Shelf.faults c.take.new.self) c.in-Err-NoDisk.ensures.same c.in-Err-NoDisk.ensures.stays c.take.ensures.counts c.take.ensures.later c.args.dg.now c.args.name.now others (map (looked g.S.P.Piece.seen) c.args.finds.now.items) are
    (nowhere_gone c.args.name.now (g.S.Shelf.free c.args.shelf.now) (g.S.Shelf.held c.args.shelf.now) c.take.result (c.in-Err-NoDisk.is ∙ ap Err c.in-Err-NoDisk.field-0-is) c.take.ensures.no_disk)

pub returns-in-Err-Held-clause-goes : goal.returns-in-Err-Held-clause-goes
returns-in-Err-Held-clause-goes g c = λ others are.
    pass_absent (shelved g.S.Shelf.free g.S.Shelf.held g.S.Shelf.counted g.S.Shelf.faults c.args.shelf.now) (shelved g.S.Shelf.free g.S.Shelf.held g.S.Shelf.counted g.S.Shelf.faults c.take.new.self) c.in-Err-Held.ensures.same c.in-Err-Held.ensures.stays c.take.ensures.counts c.take.ensures.later c.args.dg.now c.args.name.now others (map (looked g.S.P.Piece.seen) c.args.finds.now.items) are
    (held_gone c.args.name.now (g.S.Shelf.free c.args.shelf.now) c.take.result (c.in-Err-Held.is ∙ ap Err c.in-Err-Held.field-0-is) c.take.ensures.away)

pub returns-in-Err-Failed-clause-goes : goal.returns-in-Err-Failed-clause-goes
returns-in-Err-Failed-clause-goes g c = λ others are.
    pass_failed (shelved g.S.Shelf.free g.S.Shelf.held g.S.Shelf.counted g.S.Shelf.faults c.args.shelf.now) (shelved g.S.Shelf.free g.S.Shelf.held g.S.Shelf.counted g.S.Shelf.faults c.take.new.self) c.in-Err-Failed.ensures.same c.in-Err-Failed.ensures.stays c.take.ensures.counts c.take.ensures.later c.args.dg.now c.args.name.now others (map (looked g.S.P.Piece.seen) c.args.finds.now.items) are
    (c.take.ensures.failed (c.in-Err-Failed.is ∙ ap Err c.in-Err-Failed.field-0-is))

pub returns-in-Err-Exists-clause-goes : goal.returns-in-Err-Exists-clause-goes
returns-in-Err-Exists-clause-goes g c = absurd (c.take.ensures.never (c.in-Err-Exists.is ∙ ap Err c.in-Err-Exists.field-0-is))
