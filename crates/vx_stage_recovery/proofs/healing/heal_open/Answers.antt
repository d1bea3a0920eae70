use Rattle.std.proofs.Common.{◌∙◌, inl, List, Err, refl, ap}
use Rattle.vx_copies.specs.declared.disk.Disk.{Disk}
use Rattle.vx_house.specs.declared.stop.Stop.{Stop}
use Rattle.vx_stage_volumes.specs.Naming.{copied}
use Rattle.vx_stage_recovery.proofs.HealSteps.{ended_so}
use Rattle.vx_stage_recovery.proofs.healing.heal_open.Goals as goal

pub returns-in-Ok : goal.returns-in-Ok
returns-in-Ok g c = record {
  ends = ended_so g.P.Piece.seen c.args.name c.args.vol.now c.args.running (record c.args.running { volume = c.heal.new.volume }) c.in-Ok.healed
      (record {
        heals = c.in-Ok.ensures.heals;
        whole = c.in-Ok.ensures.whole;
        form_is = refl;
        shape = c.in-Ok.ensures.shape;
        follows = c.in-Ok.ensures.follows;
      })
      c.end_open.result c.args.group.now c.end_open.new.group c.end_open.ensures.ends;
}

pub returns-in-Err : goal.returns-in-Err
returns-in-Err g c = record {
  ends = inl (record {
    after = record c.args.running { volume = c.heal.new.volume };
    result = Err c.in-Err.fault;
    heals = record {
      heals = c.in-Err.ensures.heals;
      whole = c.in-Err.ensures.whole;
      form_is = refl;
      shape = c.in-Err.ensures.shape;
      follows = c.in-Err.ensures.follows;
    };
    back = record { same = refl; entries = ap (λ r. r.entries) c.put_back.ensures.running; stuck = c.put_back.ensures.stuck; together = c.put_back.ensures.together };
    told_is = ap (λ (s : Stop). Err s) (c.copied.ensures ∙ ap (λ (ds : List (Disk g.row.P.Denot)). copied g.P.Piece.seen ds (Err c.in-Err.fault)) c.disks.ensures);
  });
}
