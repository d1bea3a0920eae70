use Rattle.std.proofs.Common.{◌≡◌, ℕ, ◌+◌, ◌≤◌, List, length, map, take}
use Rattle.vx_base.specs.Named.{Word}
use Rattle.vx_copies.specs.Lists.{Each, AllOf}
use Rattle.vx_copies.specs.Disks.{disk_seen, CommitGoes, IsReady, IsBelow, good_count}
use Rattle.vx_copies.specs.Chain.{Copy, IsGoodMember, IsLed, IsOrdered, IsSound}
use Rattle.vx_copies.specs.Written.{Touches, IsMaskOf, IsQuiet}
use Rattle.vx_copies.proofs.writing.commit_on.Given as goal

abbrev pub invariant-again : goal.invariant-again
invariant-again g l = record {
  size : length l.sector ≡ 512;
  long : length l.disks ≡ length l.fn.disks;
  later : l.fn.sequence ≤ l.sequence;
  bound : l.sequence + good_count (map (disk_seen g.P.Piece.seen) l.disks) ≤ l.fn.sequence + 32;
  ready : AllOf IsReady (map (disk_seen g.P.Piece.seen) l.disks);
  goes : Each (CommitGoes (l.fn.sequence + 1) l.sequence l.text) (map (disk_seen g.P.Piece.seen) l.fn.disks) (map (disk_seen g.P.Piece.seen) l.disks);
  touches : Each (Touches (l.fn.sequence + 1) l.sequence l.text (IsMaskOf (map (disk_seen g.P.Piece.seen) l.fn.disks) (map (disk_seen g.P.Piece.seen) l.disks))) (map (disk_seen g.P.Piece.seen) l.fn.disks) (map (disk_seen g.P.Piece.seen) l.disks);
  quiet : Each IsQuiet (map (disk_seen g.P.Piece.seen) l.fn.disks) (map (disk_seen g.P.Piece.seen) l.disks) → (map (disk_seen g.P.Piece.seen) l.disks ≡ map (disk_seen g.P.Piece.seen) l.fn.disks) × (l.sequence ≡ l.fn.sequence);
  sound : (group : Word) (missing : ℕ) (others : List Copy) → IsSound group missing others l.fn.sequence l.carriers (map (disk_seen g.P.Piece.seen) l.fn.disks) → IsSound group missing others l.sequence l.carriers (map (disk_seen g.P.Piece.seen) l.disks);
  order : (group : Word) (before : ℕ) → AllOf (IsBelow group before) (map (disk_seen g.P.Piece.seen) l.fn.disks) → IsOrdered group before l.sequence (map (disk_seen g.P.Piece.seen) l.disks);
  lead : (group : Word) (before : ℕ) → before ≤ l.fn.sequence → AllOf (IsBelow group before) (map (disk_seen g.P.Piece.seen) l.fn.disks) → AllOf (IsGoodMember group) (take l.carriers (map (disk_seen g.P.Piece.seen) l.fn.disks)) → IsLed group before l.carriers (map (disk_seen g.P.Piece.seen) l.disks);
}

abbrev pub decreases-again : goal.decreases-again
decreases-again g l = good_count (map (disk_seen g.P.Piece.seen) l.disks)
