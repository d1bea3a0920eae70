-- Whole schedules: any happenings, in any number of regions.
use Rattle.std.specs.Prelude.{◌≡◌, ℕ, ◌==◌, true, false, List, [], ◌∷◌, reverse, if◌then◌else◌}
use Rattle.vx_core.specs.declared.stage.Event.{Event}
use Rattle.vx_core.specs.declared.stage.Phase.{Phase}
use Rattle.vx_core.specs.declared.stage.Phase.TheVariants.{Busy}
use Rattle.vx_base.specs.Blocks.{Contents}
use Rattle.vx_life.specs.Entry.{IsLegal}
use Rattle.vx_life.specs.Order.{IsInOrder}
use Rattle.vx_mask.specs.Mask.{has}
use Rattle.vx_mask.specs.Marks.{Marks, MayTidy}
use Rattle.vx_core.specs.Table.{next_of}
use Rattle.vx_core.specs.History.{Pending, NoCall, IsRecord}
use Rattle.vx_core.specs.Region.{Around, Disks, RegionState, FitsIn, around_after, told}
use Rattle.vx_core.specs.Soundness.{IsSound}
use Rattle.vx_core.specs.Form.{IsStage}

-- What happens to a region: an event, with what becomes of the devices, the call that begins and the values that a read
-- gives; or a call on another region of the same page of the log, which at most tidies the marks of this one.
pub data Happening : Type 0 where
  Comes : Event → Disks → Pending → Contents → Happening
  Elsewhere : Marks → Happening

abbrev pub with_marks : Around → Marks → Around
with_marks a marks =
    record { disks = record { blocks = a.disks.blocks; marks = marks }; fixed = a.fixed; entries = a.entries; pending = a.pending; last = a.last }

abbrev pub Fits : RegionState → Happening → Type 0
Fits r (Comes event now call values) = FitsIn r.stage r.stage.phase r.around event now call values
Fits r (Elsewhere marks) = MayTidy r.around.disks.marks marks

-- the region afterwards: the stage and the act are those of the table
abbrev pub happens : RegionState → Happening → RegionState
happens r (Comes event now call values) =
    record { stage = (next_of r.stage event).0; around = around_after r.around (next_of r.stage event).1 event now call values }
happens r (Elsewhere marks) = record { stage = r.stage; around = with_marks r.around marks }

-- regions by their numbers, and a happening in one of them
abbrev pub happens_in : (ℕ → RegionState) → ℕ × Happening → ℕ → RegionState
happens_in regions h n = if n == h.0 then happens (regions n) h.1 else regions n

abbrev pub run : List (ℕ × Happening) → (ℕ → RegionState) → ℕ → RegionState
run [] regions = regions
run (h ∷ hs) regions = run hs (happens_in regions h)

-- each happening fits the region as it is then
abbrev pub AllFit : List (ℕ × Happening) → (ℕ → RegionState) → Type 0
AllFit [] regions = Unit {0}
AllFit (h ∷ hs) regions = Fits (regions h.0) h.1 × AllFit hs (happens_in regions h)

abbrev pub IsIdle : Phase → Type 0
IsIdle (Busy w) = ⊥
IsIdle _ = Unit {0}

-- a region as a life begins: sound, with no job under way and no entries
pub record IsFresh (r : RegionState) : Type 0 where
  pub stage : IsStage r.stage r.around.fixed.held
  pub apart : (k : ℕ) → r.around.disks.marks.loose k ≡ true → has r.stage.bits k ≡ false
  pub sound : IsSound r.stage r.stage.phase r.around
  pub idle : IsIdle r.stage.phase
  pub no_call : r.around.pending ≡ NoCall
  pub no_entries : r.around.entries ≡ []
  pub no_number : r.around.last ≡ r.around.fixed.from

-- at this moment the region is sound, and its entries are a legal history in order
pub record IsGood (r : RegionState) : Type 0 where
  pub sound : IsSound r.stage r.stage.phase r.around
  -- the entries, the oldest first
  pub legal : IsLegal r.around.fixed.first (reverse r.around.entries)
  pub history : IsRecord r.around.fixed.region r.around.fixed.from r.around.fixed.first (told r.around) r.around.last
  -- where the numbers began with 1, they are those of a life
  pub in_order : r.around.fixed.from ≡ 0 → IsInOrder (told r.around)

-- over every list of happenings that fit, each region stays good
abbrev pub EachStaysSound : Type 0
EachStaysSound =
    (regions : ℕ → RegionState) (happenings : List (ℕ × Happening)) →
    ((n : ℕ) → IsFresh (regions n)) →
    AllFit happenings regions →
    (n : ℕ) →
    IsGood (run happenings regions n)
