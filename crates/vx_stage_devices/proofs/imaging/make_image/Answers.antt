use Rattle.std.proofs.Common.{Err, ap, rules}
use Rattle.vx_house.specs.Scene.{shelved}
use Rattle.vx_house.specs.View.{at}
use Rattle.vx_stage_devices.proofs.Images.{image_made, image_exists, image_failed, image_refused, is_used, is_unused}
use Rattle.vx_stage_devices.proofs.imaging.make_image.Goals as goal

pub returns-in-Ok : goal.returns-in-Ok
returns-in-Ok g c = record {
  goes = λ disks. image_made g.S.P.Piece.seen (at (shelved g.S.Shelf.free g.S.Shelf.held g.S.Shelf.counted g.S.Shelf.faults c.args.shelf.now) c.args._house.now) c.requires.keeps (shelved g.S.Shelf.free g.S.Shelf.held g.S.Shelf.counted g.S.Shelf.faults c.make.new.self) c.args.device.now c.args.sectors disks
      c.in-Ok.ensures.same c.in-Ok.ensures.counts c.in-Ok.ensures.made
      (is_unused (g.S.Shelf.free c.args.shelf.now) (g.S.Shelf.held c.args.shelf.now) c.args.device.now _ (λ e. cc) c.in-Ok.ensures.exists) (c.in-Ok.ensures.quiet (λ e. cc));
}

pub returns-in-Err-Exists : goal.returns-in-Err-Exists
returns-in-Err-Exists g c = record {
  goes = λ disks. rw c.refused.ensures (image_exists g.S.P.Piece.seen (at (shelved g.S.Shelf.free g.S.Shelf.held g.S.Shelf.counted g.S.Shelf.faults c.args.shelf.now) c.args._house.now) c.requires.keeps (shelved g.S.Shelf.free g.S.Shelf.held g.S.Shelf.counted g.S.Shelf.faults c.make.new.self) c.args.device.now c.args.sectors disks
      c.in-Err-Exists.ensures.same c.in-Err-Exists.ensures.counts c.in-Err-Exists.ensures.stays
      (is_used (g.S.Shelf.free c.args.shelf.now) (g.S.Shelf.held c.args.shelf.now) c.args.device.now _ (ap Err c.in-Err-Exists.field-0-is) c.in-Err-Exists.ensures.exists) (search rules));
}

pub returns-in-Err-Failed : goal.returns-in-Err-Failed
returns-in-Err-Failed g c =
    let rose = rw c.in-Err-Failed.field-0-is at c.in-Err-Failed.ensures.cause in
    record {
      goes = λ disks. rw c.fault.ensures (image_failed g.S.P.Piece.seen (at (shelved g.S.Shelf.free g.S.Shelf.held g.S.Shelf.counted g.S.Shelf.faults c.args.shelf.now) c.args._house.now) c.requires.keeps (shelved g.S.Shelf.free g.S.Shelf.held g.S.Shelf.counted g.S.Shelf.faults c.make.new.self) c.args.device.now c.args.sectors disks
          c.in-Err-Failed.ensures.same c.in-Err-Failed.ensures.counts c.in-Err-Failed.ensures.stays rose c.in-Err-Failed.ensures.later);
    }

pub returns-in-Err-OutOfMemory : goal.returns-in-Err-OutOfMemory
returns-in-Err-OutOfMemory g c = record {
  goes = λ disks. image_refused g.S.P.Piece.seen (at (shelved g.S.Shelf.free g.S.Shelf.held g.S.Shelf.counted g.S.Shelf.faults c.args.shelf.now) c.args._house.now) c.requires.keeps (shelved g.S.Shelf.free g.S.Shelf.held g.S.Shelf.counted g.S.Shelf.faults c.make.new.self) c.args.device.now c.args.sectors disks
      c.in-Err-OutOfMemory.ensures.same c.in-Err-OutOfMemory.ensures.counts c.in-Err-OutOfMemory.ensures.stays (search rules);
}
