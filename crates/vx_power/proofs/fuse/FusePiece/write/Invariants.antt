use Rattle.vx_power.specs.Drawn.{handed}
use Rattle.vx_power.proofs.fuse.FusePiece.write.Given as goal

abbrev pub ghosts-acts : goal.ghosts-acts
ghosts-acts g a = record { writes = handed (g.P.Piece.seen a.inner.now).cut a.bytes.now; reads = 0 }
