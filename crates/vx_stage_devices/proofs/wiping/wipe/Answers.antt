use Rattle.std.proofs.Common.{subst}
use Rattle.std.specs.Vec.{with_item}
use Rattle.vx_stages.specs.declared.stage.Stage.TheVariants.{Wipe}
use Rattle.vx_house.specs.Goes.{StageGoes}
use Rattle.vx_house.specs.View.{at}
use Rattle.vx_stage_devices.proofs.Wipes.{wipe_stage}
use Rattle.vx_stage_devices.proofs.wiping.wipe.Goals as goal
use Rattle.vx_house.proofs.OnlyInHand.{only_one, only_set}

pub returns : goal.returns
returns g c =
    let items = c.args.house.now.hand.items in
    let only = only_one items c.args._device.now c.index_mut.result.now c.requires.ready.wants.0 in
    let k = record c.args.house.now { hand = with_item c.args.house.now.hand 0 c.wipe_at.new.taken } in
    record {
      goes = λ shelf are. subst (λ name. StageGoes g.P.Piece.seen (Wipe name) c.args._disks.now c.wipe_at.result (at shelf c.args.house.now) (at shelf k)) only.device
          (wipe_stage g.P.Piece.seen c.args.house.now k _ c.wipe_at.new.taken only.list (only_set items _ c.wipe_at.new.taken only.list) shelf are c.requires.keeps c.args._disks.now c.wipe_at.result (rw (← c.index_mut.ensures.value) c.wipe_at.ensures));
    }
