-- What noting a call leaves of a piece.
use Rattle.std.specs.Prelude.{◌≡◌}
use Rattle.vx_store_rows.specs.declared.watch.Watch.{Watch}

-- nothing is counted, and the piece is not cut by it
pub record SameCounts (old new : Watch) : Type 0 where
  pub cut : new.cut ≡ old.cut
  pub failed : new.failed ≡ old.failed
  pub writes : new.writes ≡ old.writes
  pub reads : new.reads ≡ old.reads
