use Rattle.vx_volume.specs.Volume.{log_of, volume_seen}
use Rattle.vx_stage_mirrors.proofs.LogTells.{firm_tight, log_tells}
use Rattle.vx_stage_mirrors.proofs.settling.settle_volume.Goals as goal

pub returns-in-Ok-clause-comes : goal.returns-in-Ok-clause-comes
returns-in-Ok-clause-comes g c =
    let see = g.P.Piece.seen in (
      record { mid = volume_seen see c.settle_all.new.self; settled = c.in_ok-settle_all.ensures.ends; firms = c.in-Ok.ensures.firms },
      firm_tight (volume_seen see c.settle_all.new.self) (volume_seen see c.firm.new.self) c.in-Ok.ensures.firms
          (log_tells (log_of c.settle_all.new.self) (log_of c.firm.new.self) c.in-Ok.ensures.follows),
    )
