-- What layouts and pools are to each other, so that plexes can be taken out one after the other.
use Rattle.std.specs.Prelude.{◌≡◌, ◌≢◌, ◌⊎◌, ℕ, ◌<◌, ◌≤◌, List, true, length, slice_index_or}
use Rattle.std.specs.List.{All}
use Rattle.vx_piece.specs.Seen.{Seen}
use Rattle.vx_layout.specs.declared.layout.Layout.{Layout}
use Rattle.vx_layout.specs.declared.run.Run.{Run}
use Rattle.vx_layout.specs.declared.strip.Strip.{Strip}
use Rattle.vx_layout.specs.Columns.{capacity, place_of}
use Rattle.vx_carve.specs.Together.{AreOnce}
use Rattle.vx_carve.specs.Carved.{ArePieces, HaveNumbers, AreOn, AreFreeBlocks, AreApartBlocks, IsFreeAt, StaysElsewhere, StaysBeside}
use Rattle.vx_carve.specs.Strips.{EachStrip, HasNumber, IsFreeStrip, AreApartStrips, ArePlexes, AreOfDisks, HaveTogether, IsOpenRun, all_lie_in}

-- The pieces of runs have together the sectors of the runs.
abbrev pub PiecesHaveSectors : Type 0
PiecesHaveSectors = (numbers : List ℕ) (runs : List Run) (ps : List Seen) → ArePieces numbers runs ps → HaveTogether numbers runs ps

-- Pieces that are together stretches of disks, one of each disk, have each sector once, and all of theirs.
abbrev pub StretchesAreFree : Type 0
StretchesAreFree = (numbers : List ℕ) (stretches : List Run) (ps : List Seen) → HaveNumbers numbers → AreOfDisks numbers stretches → HaveTogether numbers stretches ps → AreOnce ps × All (IsOpenRun numbers ps) stretches

-- Strips that lie in runs that are in pieces have numbers and are in pieces.
abbrev pub StripsAreFree : Type 0
StripsAreFree =
    (numbers : List ℕ) (runs : List Run) (ps : List Seen) (columns : List (List Strip)) → All (IsOpenRun numbers ps) runs → all_lie_in runs columns ≡ true →
    EachStrip (HasNumber numbers) columns × EachStrip (IsFreeStrip numbers ps) columns

-- Where the strips have numbers, the blocks lie on the devices.
abbrev pub BlocksAreOn : Type 0
BlocksAreOn = (l : Layout) (numbers : List ℕ) (start end : ℕ) → end ≤ capacity l.columns → EachStrip (HasNumber numbers) l.columns → AreOn numbers l.unit l.columns start end

-- Where the strips are in pieces, the blocks are.
abbrev pub BlocksAreFree : Type 0
BlocksAreFree = (l : Layout) (numbers : List ℕ) (ps : List Seen) (start end : ℕ) → end ≤ capacity l.columns → EachStrip (IsFreeStrip numbers ps) l.columns → AreFreeBlocks numbers l.unit l.columns start end ps

-- Where the strips of two layouts are apart, their blocks are.
abbrev pub BlocksAreApart : Type 0
BlocksAreApart =
    (numbers : List ℕ) (ls : List Layout) → HaveNumbers numbers → ArePlexes numbers ls → (j k : ℕ) (d : Layout) → j < length ls → k < length ls → j ≢ k →
    (start end : ℕ) → end ≤ capacity (slice_index_or ls j d).columns → end ≤ capacity (slice_index_or ls k d).columns →
    AreApartBlocks numbers (slice_index_or ls j d).unit (slice_index_or ls j d).columns (slice_index_or ls k d).unit (slice_index_or ls k d).columns start end

-- Once blocks of a plex were taken, the strips of each other plex are in pieces as before.
abbrev pub OtherPlexesStay : Type 0
OtherPlexesStay =
    (numbers : List ℕ) (ls : List Layout) → HaveNumbers numbers → ArePlexes numbers ls → (j k : ℕ) (d : Layout) → j < length ls → k < length ls → j ≢ k →
    (start end : ℕ) (ps qs : List Seen) → end ≤ capacity (slice_index_or ls j d).columns → StaysElsewhere numbers (slice_index_or ls j d).unit (slice_index_or ls j d).columns start end ps qs →
    EachStrip (IsFreeStrip numbers ps) (slice_index_or ls k d).columns → EachStrip (IsFreeStrip numbers qs) (slice_index_or ls k d).columns

-- Once a range of blocks of the plexes of a volume was taken, the strips of a plex of another volume are in pieces as before.
abbrev pub OtherVolumesStay : Type 0
OtherVolumesStay =
    (numbers : List ℕ) (ls : List Layout) (m : Layout) → HaveNumbers numbers → All (λ (l : Layout). EachStrip (HasNumber numbers) l.columns) ls → EachStrip (HasNumber numbers) m.columns →
    All (λ (l : Layout). AreApartStrips l.columns m.columns) ls →
    (start end : ℕ) (ps qs : List Seen) → ((j : ℕ) (d : Layout) → j < length ls → end ≤ capacity (slice_index_or ls j d).columns) → StaysBeside numbers ls start end ps qs →
    EachStrip (IsFreeStrip numbers ps) m.columns → EachStrip (IsFreeStrip numbers qs) m.columns

-- Once a range of blocks of some plexes was taken, their other blocks are in pieces as before.
abbrev pub OtherBlocksStay : Type 0
OtherBlocksStay =
    (numbers : List ℕ) (ls : List Layout) → HaveNumbers numbers → ArePlexes numbers ls → (start end : ℕ) (ps qs : List Seen) → ((j : ℕ) (d : Layout) → j < length ls → end ≤ capacity (slice_index_or ls j d).columns) → StaysBeside numbers ls start end ps qs →
    (k : ℕ) (d : Layout) → k < length ls → (b : ℕ) → b < capacity (slice_index_or ls k d).columns → (b < start) ⊎ (end ≤ b) →
    IsFreeAt numbers ps (place_of (slice_index_or ls k d).unit (slice_index_or ls k d).columns b) → IsFreeAt numbers qs (place_of (slice_index_or ls k d).unit (slice_index_or ls k d).columns b)
