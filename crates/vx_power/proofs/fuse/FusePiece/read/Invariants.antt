use Rattle.vx_power.specs.Drawn.{handed}
use Rattle.vx_power.proofs.fuse.FusePiece.read.Given as goal

abbrev pub ghosts-acts : goal.ghosts-acts
ghosts-acts g a = record { writes = 0; reads = handed (g.P.Piece.seen a.inner.now).cut a.bytes.now }
