-- What the marks of one region are from some moment on: told by the writes that ended, and by the plexes to which one failed.
use Rattle.std.specs.Prelude.{◌≡◌, ◌⊎◌, ℕ, ◌<◌, ◌==◌, ◌&&◌, ◌||◌, Bool, true, false, List, [], ◌∷◌}
use Rattle.std.specs.List.{list_any}
use Rattle.vx_life.specs.declared.EntryKind.{EntryKind}
use Rattle.vx_life.specs.declared.EntryKind.TheVariants as kinds
use Rattle.vx_life.specs.Entry.{Entry}
use Rattle.vx_mask.specs.Mask.{has}
use Rattle.vx_core.specs.declared.stage.Event.{Event}
use Rattle.vx_core.specs.declared.stage.Act.{Act}
use Rattle.vx_core.specs.declared.stage.Phase.{Phase}
use Rattle.vx_core.specs.declared.stage.Stage.{Stage}
use Rattle.vx_core.specs.declared.stage.Event.TheVariants.{WriteFailed}
use Rattle.vx_core.specs.declared.stage.Act.TheVariants.{WriteCall, WriteRegion, Done, Fault, Lost}
use Rattle.vx_core.specs.declared.stage.Phase.TheVariants.{Unsettled, Busy}
use Rattle.vx_core.specs.Table.{act_at, next_of}
use Rattle.vx_core.specs.History.{Pending, NoCall, Reads, Writes}
use Rattle.vx_core.specs.Region.{RegionState, pending_at}
use Rattle.vx_core.specs.Soundness.{IsStray}
use Rattle.vx_core.specs.Follow.{SameMasks}
use Rattle.vx_core.specs.Schedule.{Happening, Comes, Elsewhere, happens, IsIdle}
use Rattle.vx_core.specs.Recovery.{region_after}
use Rattle.vx_core_laws.specs.Course.{IsKeptState, EachFits}

-- a write that was done, ..
abbrev pub is_write : EntryKind → Bool
is_write kinds.Write = true
is_write kinds.Torn = false
is_write kinds.Read = false
is_write kinds.Missed = false

-- .. and one that is torn
abbrev pub is_torn : EntryKind → Bool
is_torn kinds.Torn = true
is_torn kinds.Write = false
is_torn kinds.Read = false
is_torn kinds.Missed = false

-- some of the entries is a write that was done, or one that is torn
abbrev pub was_written : List Entry → Bool
was_written es = list_any (λ e. is_write e.kind) es

abbrev pub was_torn : List Entry → Bool
was_torn es = list_any (λ e. is_torn e.kind) es

-- ---- what is noted of a region from some moment on

-- whether a write was done, and whether one is torn; the plexes to which a write failed, and those that may lack something
pub record Notes : Type 0 where
  pub written : Bool
  pub torn : Bool
  pub failed : ℕ → Bool
  pub possible : ℕ → Bool

abbrev pub no_notes : Notes
no_notes = record { written = false; torn = false; failed = λ k. false; possible = λ k. false }

-- the event tells that a write to plex k failed
abbrev pub fails_at : Act → Event → ℕ → Bool
fails_at (WriteCall j) WriteFailed k = k == j
fails_at (WriteRegion j) WriteFailed k = k == j
fails_at _ _ k = false

abbrev pub fails_in : Stage → Phase → Event → ℕ → Bool
fails_in s (Busy w) event k = fails_at (act_at s w w.step) event k
fails_in s _ event k = false

-- the act ends a call that writes: it is done, ..
abbrev pub ends_done : Act → Pending → Bool
ends_done Done (Writes call values) = true
ends_done _ _ = false

-- .. or torn
abbrev pub ends_torn : Act → Pending → Bool
ends_torn Fault (Writes call values) = true
ends_torn Lost (Writes call values) = true
ends_torn _ _ = false

abbrev pub ends_write : Act → Pending → Bool
ends_write act call = ends_done act call || ends_torn act call

-- A plex that has failed may lack what a write ended with; and where a write to it fails, what an earlier torn write left,
-- or what was dirty as the life began.
abbrev pub notes_after : Bool → RegionState → Happening → Notes → Notes
notes_after dirty r (Elsewhere marks) notes = notes
notes_after dirty r (Comes event now call values) notes =
    record {
      written = ends_done (next_of r.stage event).1 (pending_at r.around.pending event call) || notes.written;
      torn = ends_torn (next_of r.stage event).1 (pending_at r.around.pending event call) || notes.torn;
      failed = λ k. fails_in r.stage r.stage.phase event k || notes.failed k;
      possible = λ k.
          (fails_in r.stage r.stage.phase event k && (dirty || notes.torn))
          || (((fails_in r.stage r.stage.phase event k || notes.failed k) && ends_write (next_of r.stage event).1 (pending_at r.around.pending event call))
          || notes.possible k);
    }

-- ---- one region

abbrev pub notes_of : Bool → List Happening → RegionState → Notes → Notes
notes_of dirty [] r notes = notes
notes_of dirty (h ∷ hs) r notes = notes_of dirty hs (happens r h) (notes_after dirty r h notes)

-- a plex that is not written to, or a relation
abbrev pub IsOther : Stage → ℕ → Type 0
IsOther s k = (has s.off k ≡ true) ⊎ (has s.snaps k ≡ true)

-- a copy of the log may show the mark
abbrev pub IsSeen : RegionState → ℕ → Type 0
IsSeen r k = (has r.stage.bits k ≡ true) ⊎ IsStray r.stage.phase r.around k

abbrev pub IsWriting : Pending → Type 0
IsWriting NoCall = ⊥
IsWriting (Reads call) = ⊥
IsWriting (Writes call values) = Unit {0}

-- The region may be marked: it was written to, or is, in the dirty map and those of what is not written to; or in the map
-- of a plex that may lack something, or has failed in the write that is under way.
abbrev pub IsMarkable : RegionState → Notes → ℕ → Type 0
IsMarkable r notes k =
    (((k ≡ 30) ⊎ IsOther r.stage k) × (((notes.written || notes.torn) ≡ true) ⊎ IsWriting r.around.pending))
    ⊎ ((notes.possible k ≡ true) ⊎ ((notes.failed k ≡ true) × IsWriting r.around.pending))

-- The marks of a region go with what is noted: where a write was done, what is not written to is surely marked, and what was
-- marked stays so; and whatever a copy shows was seen before, or the region may be marked so. The entries are as noted.
pub record IsTracked (dirty : Bool) (was r : RegionState) (notes : Notes) : Type 0 where
  pub sure : (k : ℕ) → IsOther r.stage k → (notes.written ≡ true) ⊎ (has was.stage.bits k ≡ true) → has r.stage.bits k ≡ true
  pub possible : (n k : ℕ) → n < r.around.fixed.copies → r.around.disks.marks.shows n k ≡ true → IsSeen was k ⊎ IsMarkable r notes k
  pub settles : r.stage.phase ≡ Unsettled → (was.stage.phase ≡ Unsettled) ⊎ (notes.torn ≡ true)
  pub seen : (k : ℕ) → IsSeen r k → IsSeen was k ⊎ IsMarkable r notes k
  -- a plex that may lack something has failed, and is one that is written to
  pub lacks : (k : ℕ) → notes.possible k ≡ true → (notes.failed k ≡ true) × ((dirty ≡ true) ⊎ ((notes.written || notes.torn) ≡ true))
  pub fails : (k : ℕ) → notes.failed k ≡ true → has r.stage.on k ≡ true
  pub written : was_written r.around.entries ≡ (notes.written || was_written was.around.entries)
  pub torn : was_torn r.around.entries ≡ (notes.torn || was_torn was.around.entries)
  pub masks : SameMasks was.stage r.stage

-- From any moment at which no job is under way: `dirty` tells that the region was unsettled then, if it was.
abbrev pub EachTrackHolds : Type 0
EachTrackHolds =
    (was : RegionState) (dirty : Bool) (happenings : List Happening) →
    IsKeptState was → IsIdle was.stage.phase → (was.stage.phase ≡ Unsettled → dirty ≡ true) →
    EachFits happenings was →
    IsTracked dirty was (region_after happenings was) (notes_of dirty happenings was no_notes)
