use Rattle.std.proofs.Common.{[], rules}
use Rattle.vx_house.specs.Scene.{shelved}
use Rattle.vx_house.specs.View.{at}
use Rattle.vx_stage_devices.proofs.Seeks.{only_still}
use Rattle.vx_stage_devices.proofs.Searches.{seeks_same}
use Rattle.vx_stage_devices.proofs.Ends.{search_stage, refused_by, shelf_ends, seeks_after}
use Rattle.vx_stage_devices.proofs.searching.search.Goals as goal

pub returns-in-Ok : goal.returns-in-Ok
returns-in-Ok g c =
    let old = shelved g.S.Shelf.free g.S.Shelf.held g.S.Shelf.counted g.S.Shelf.faults c.args.shelf.now in
    let mid = shelved g.S.Shelf.free g.S.Shelf.held g.S.Shelf.counted g.S.Shelf.faults c.names.new.self in
    let new = shelved g.S.Shelf.free g.S.Shelf.held g.S.Shelf.counted g.S.Shelf.faults c.look_through.new.shelf in
    record {
      goes = search_stage g.S.P.Piece.seen (at old c.args._house.now) c.requires.keeps new c.args.dg.now c.args._disks.now c.requires.ready.wants.0 c.in-Ok.names.items c.in-Ok.ensures.all c.look_through.result
          (seeks_after c.args.dg.now c.in-Ok.names.items old mid new
          (seeks_same c.args.dg.now old mid c.in-Ok.ensures.same c.in-Ok.ensures.stays c.in-Ok.ensures.counts (c.in-Ok.ensures.quiet (search rules)))
          c.look_through.result (rw c.as_slice.ensures.value at c.look_through.ensures));
    }

pub returns-in-Err-OutOfMemory : goal.returns-in-Err-OutOfMemory
returns-in-Err-OutOfMemory g c =
    let old = shelved g.S.Shelf.free g.S.Shelf.held g.S.Shelf.counted g.S.Shelf.faults c.args.shelf.now in
    let mid = shelved g.S.Shelf.free g.S.Shelf.held g.S.Shelf.counted g.S.Shelf.faults c.names.new.self in
    record {
      goes = refused_by g.S.P.Piece.seen (at old c.args._house.now) c.requires.keeps mid c.args.dg.now c.args._disks.now c.requires.ready.wants.0 []
          (only_still c.args.dg.now c.args.dg.now old mid c.in-Err-OutOfMemory.ensures.same c.in-Err-OutOfMemory.ensures.stays c.in-Err-OutOfMemory.ensures.counts [] c.in-Err-OutOfMemory.ensures.later);
    }

pub returns-in-Err-Failed : goal.returns-in-Err-Failed
returns-in-Err-Failed g c =
    let old = shelved g.S.Shelf.free g.S.Shelf.held g.S.Shelf.counted g.S.Shelf.faults c.args.shelf.now in
    let mid = shelved g.S.Shelf.free g.S.Shelf.held g.S.Shelf.counted g.S.Shelf.faults c.names.new.self in
    let rose = rw c.in-Err-Failed.field-0-is at c.in-Err-Failed.ensures.cause in
    record {
      goes = shelf_ends g.S.P.Piece.seen (at old c.args._house.now) c.requires.keeps mid c.args.dg.now c.args._disks.now c.requires.ready.wants.0
          (only_still c.args.dg.now c.args.dg.now old mid c.in-Err-Failed.ensures.same c.in-Err-Failed.ensures.stays c.in-Err-Failed.ensures.counts [] c.in-Err-Failed.ensures.later) rose;
    }
