use Rattle.std.proofs.Common.{arith}
use Rattle.std.specs.Vec.{with_items}
use Rattle.std.proofs.lemmas.List.{with_items_is}
use Rattle.vx_stage_devices.proofs.Blanks.{blank_look}
use Rattle.vx_stage_devices.proofs.looking.look_blank.Goals as goal

pub returns : goal.returns
returns g c =
    let whole = with_items_is c.args.house.now.hand c.look_through.new.hand (omega arith) in
    record {
      goes = λ name disks shelf ready are. blank_look g.P.Piece.seen c.args.house.now (record c.args.house.now { hand = with_items c.args.house.now.hand c.look_through.new.hand }) shelf are c.requires.keeps name disks c.look_through.result ready.wants.0
          (rw whole (rw c.deref_mut.ensures.value at c.look_through.ensures));
    }
