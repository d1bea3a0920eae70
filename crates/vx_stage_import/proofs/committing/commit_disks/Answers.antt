use Rattle.std.proofs.Common.{◌≡◌, ◌∙◌, refl, ap}
use Rattle.vx_house.specs.Holders.{IsTakenFrom, holders}
use Rattle.vx_house.proofs.AllLaws.{all_back}
use Rattle.vx_stage_import.specs.Giving.{disk_holders}
use Rattle.vx_stage_import.proofs.committing.commit_disks.Goals as goal
use Rattle.vx_house.proofs.Lists.{apart_back}
use Rattle.vx_stage_import.proofs.Grouped.{grouped}

pub give_disks-requires-clause-each : goal.give_disks-requires-clause-each
give_disks-requires-clause-each g c κs within =
    let ends = rw c.in-Err-OutOfMemory.field-0-is at c.in-Err-OutOfMemory.ensures.ends in
    let same : c.deport.result.items ≡ c.args.disks.items = c.deport.ensures ∙ ap (λ b. b.disks.items) (ends ∙ c.of-base.ensures) in
    rw same (all_back (IsTakenFrom (g.S.Shelf.held c.args.shelf.now)) (holders g.S.P.Piece.seen c.args.house.now) (disk_holders g.S.P.Piece.seen c.args.disks.items) c.requires.held.each)

pub give_disks-requires-clause-apart : goal.give_disks-requires-clause-apart
give_disks-requires-clause-apart g c κs within =
    let ends = rw c.in-Err-OutOfMemory.field-0-is at c.in-Err-OutOfMemory.ensures.ends in
    let same : c.deport.result.items ≡ c.args.disks.items = c.deport.ensures ∙ ap (λ b. b.disks.items) (ends ∙ c.of-base.ensures) in
    rw same (apart_back (holders g.S.P.Piece.seen c.args.house.now) (disk_holders g.S.P.Piece.seen c.args.disks.items) c.requires.held.apart)

pub returns-in-Err-Ended : goal.returns-in-Err-Ended
returns-in-Err-Ended g c = record { takes = record { base = c.commit.new.base; ends = rw (c.in-Err-Ended.field-0-is, c.of-base.ensures) at c.in-Err-Ended.ensures.ends; public = c.of.result.public; still = c.of.ensures.still; lent = c.of.ensures.lent; idle = record { running = c.of.ensures.idle.running; left = c.of.ensures.idle.left; stuck = c.of.ensures.idle.stuck }; house_is = grouped c.args.house.now c.of.result c.args.config c.commit.new.base c.of.ensures.config c.of.ensures.base; shelf_is = refl } }

pub returns-in-Ok : goal.returns-in-Ok
returns-in-Ok g c = record { takes = record { base = c.commit.new.base; ends = rw c.of-base.ensures at c.in-Ok.ensures.ends; public = c.of-in-Ok.result.public; still = c.of-in-Ok.ensures.still; lent = c.of-in-Ok.ensures.lent; idle = record { running = c.of-in-Ok.ensures.idle.running; left = c.of-in-Ok.ensures.idle.left; stuck = c.of-in-Ok.ensures.idle.stuck }; house_is = grouped c.args.house.now c.of-in-Ok.result c.args.config c.commit.new.base c.of-in-Ok.ensures.config c.of-in-Ok.ensures.base; shelf_is = refl } }
