-- What a piece of a file shows: it tells nothing of what its sectors hold, and it is never cut.
use Rattle.std.specs.Prelude.{ℕ, false, None}
use Rattle.vx_piece.specs.Seen.{Seen}
use Rattle.vx_files.specs.declared.file_piece.FilePiece.{FilePiece}

abbrev pub file_seen : {R : Type 0} → FilePiece R → Seen
file_seen p = record {
  device = p.device;
  start = p.start;
  sectors = p.sectors;
  told = None;
  faults = p.faults;
  writes = p.writes;
  reads = p.reads;
  cut = false;
  stop = p.stop;
}

-- a whole device as it comes from a shelf, with its count of faults
abbrev pub new_file : ℕ → ℕ → ℕ → Seen
new_file device sectors faults = record {
  device = device;
  start = 0;
  sectors = sectors;
  told = None;
  faults = faults;
  writes = 0;
  reads = 0;
  cut = false;
  stop = None;
}
