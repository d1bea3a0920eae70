use Rattle.std.proofs.Common.{[], ◌∷◌, rules}
use Rattle.vx_house.specs.Scene.{shelved}
use Rattle.vx_stage_devices.proofs.Seeks.{looked_back, claims_seen, only_still, passed_by, shelf_failed, not_held_so, held_told, none_told}
use Rattle.vx_stage_devices.proofs.searching.look_under.Goals as goal

pub returns-in-Ok : goal.returns-in-Ok
returns-in-Ok g c =
    looked_back c.args.dg.now c.args.name.now (g.S.P.Piece.seen c.in-Ok.piece) (g.S.P.Piece.seen c.look_in-looked.new.piece)
    (shelved g.S.Shelf.free g.S.Shelf.held g.S.Shelf.counted g.S.Shelf.faults c.args.shelf.now) (shelved g.S.Shelf.free g.S.Shelf.held g.S.Shelf.counted g.S.Shelf.faults c.take.new.self) (shelved g.S.Shelf.free g.S.Shelf.held g.S.Shelf.counted g.S.Shelf.faults c.give.new.self)
    (record {
      taken = c.in-Ok.ensures.taken;
      left = c.in-Ok.ensures.left;
      given = c.give.ensures.given;
      back = c.give.ensures.back;
      counted = c.in-Ok.ensures.counted;
      first = c.in-Ok.ensures.counts;
      given_counts = c.give.ensures.counts;
      quiet = c.in-Ok.ensures.quiet (search rules);
      still = c.give.ensures.quiet;
      law = g.met.S.Shelf.counts_are c.args.shelf.now;
    })
    (claims_seen c.args.dg.now c.args.name.now (g.S.P.Piece.seen c.in-Ok.piece) (g.S.P.Piece.seen c.look_in-looked.new.piece) c.look_in-looked.result c.look_in-looked.ensures)
    c.look_in-looked.result c.look_in-looked.ensures

pub returns-in-Err-OutOfMemory : goal.returns-in-Err-OutOfMemory
returns-in-Err-OutOfMemory g c =
    only_still c.args.dg.now c.args.name.now (shelved g.S.Shelf.free g.S.Shelf.held g.S.Shelf.counted g.S.Shelf.faults c.args.shelf.now) (shelved g.S.Shelf.free g.S.Shelf.held g.S.Shelf.counted g.S.Shelf.faults c.take.new.self)
    c.in-Err-OutOfMemory.ensures.same c.in-Err-OutOfMemory.ensures.stays c.in-Err-OutOfMemory.ensures.counts (c.args.name.now ∷ []) c.in-Err-OutOfMemory.ensures.later

pub returns-in-Err-Failed : goal.returns-in-Err-Failed
returns-in-Err-Failed g c = rw c.fault.ensures
    (shelf_failed c.args.dg.now c.args.name.now (shelved g.S.Shelf.free g.S.Shelf.held g.S.Shelf.counted g.S.Shelf.faults c.args.shelf.now) (shelved g.S.Shelf.free g.S.Shelf.held g.S.Shelf.counted g.S.Shelf.faults c.take.new.self)
    c.in-Err-Failed.ensures.same c.in-Err-Failed.ensures.stays c.in-Err-Failed.ensures.counts
    (not_held_so (g.S.Shelf.held c.args.shelf.now c.args.name.now) c.in-Err-Failed.ensures.held (search rules)) (c.in-Err-Failed.ensures.failed (search rules)) c.in-Err-Failed.ensures.later)

pub returns-in-Err-NoDisk : goal.returns-in-Err-NoDisk
returns-in-Err-NoDisk g c =
    passed_by c.args.dg.now c.args.name.now (shelved g.S.Shelf.free g.S.Shelf.held g.S.Shelf.counted g.S.Shelf.faults c.args.shelf.now) (shelved g.S.Shelf.free g.S.Shelf.held g.S.Shelf.counted g.S.Shelf.faults c.take.new.self)
    c.in-Err-NoDisk.ensures.same c.in-Err-NoDisk.ensures.stays c.in-Err-NoDisk.ensures.counts
    (none_told c.args.name.now (g.S.Shelf.held c.args.shelf.now) (g.S.Shelf.free c.args.shelf.now) c.in-Err-NoDisk.ensures.no_disk (search rules)) (c.in-Err-NoDisk.ensures.quiet (search rules))

pub returns-in-Err-Held : goal.returns-in-Err-Held
returns-in-Err-Held g c =
    passed_by c.args.dg.now c.args.name.now (shelved g.S.Shelf.free g.S.Shelf.held g.S.Shelf.counted g.S.Shelf.faults c.args.shelf.now) (shelved g.S.Shelf.free g.S.Shelf.held g.S.Shelf.counted g.S.Shelf.faults c.take.new.self)
    c.in-Err-Held.ensures.same c.in-Err-Held.ensures.stays c.in-Err-Held.ensures.counts
    (held_told c.args.name.now (g.S.Shelf.free c.args.shelf.now) c.in-Err-Held.ensures.away (search rules)) (c.in-Err-Held.ensures.quiet (search rules))
