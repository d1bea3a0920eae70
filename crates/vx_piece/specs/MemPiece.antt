-- What a piece in memory shows: all of it, and it is never cut. And what its Bads do to its calls.
use Rattle.std.specs.Prelude.{◌≡◌, ℕ, ◌+◌, ◌-◌, ◌*◌, ◌/◌, Bool, false, List, take, Some}
use Rattle.vx_base.specs.Blocks.{block_at, blocks_in, written}
use Rattle.vx_piece.specs.Seen.{Seen}
use Rattle.vx_piece.specs.Bads.{good_sectors, bads_after, bads_in}
use Rattle.vx_piece.specs.declared.bad.Bad.{Bad}
use Rattle.vx_piece.specs.declared.mem_piece.MemPiece.{MemPiece}

abbrev pub mem_seen : MemPiece → Seen
mem_seen p = record {
  device = p.device;
  start = p.start;
  sectors = blocks_in p.bytes.items;
  told = Some (block_at p.bytes.items);
  faults = p.faults;
  writes = p.writes;
  reads = p.reads;
  cut = false;
  stop = p.stop;
}

abbrev pub bads_of : MemPiece → List Bad
bads_of p = p.bad.items

-- how many sectors of a call on so many bytes stand before the first that fails
abbrev pub good_of : MemPiece → ℕ → ℕ → Bool → ℕ
good_of p at bytes is_write = good_sectors (p.start + at) (bytes / 512) is_write (bads_of p)

-- each Bad that the call touches has counted it
abbrev pub HasCounted : ℕ → ℕ → Bool → MemPiece → MemPiece → Type 0
HasCounted at bytes is_write old new = bads_of new ≡ bads_after (old.start + at) (bytes / 512) is_write (bads_of old)

-- the sectors before the first that fails are new, and all others are old
abbrev pub WritesGood : ℕ → List ℕ → ℕ → MemPiece → MemPiece → Type 0
WritesGood at from good old new = (k : ℕ) → block_at new.bytes.items k ≡ written at (take (512 * good) from) (block_at old.bytes.items) k

-- each part has the Bads that overlap it, cut to it
pub record PartsBads (at : ℕ) (whole first second : MemPiece) : Type 0 where
  pub front : bads_of first ≡ bads_in whole.start at (bads_of whole)
  pub back : bads_of second ≡ bads_in (whole.start + at) ((mem_seen whole).sectors - at) (bads_of whole)
