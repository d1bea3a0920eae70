-- What is done to the plexes of a region between jobs.
use Rattle.std.specs.Prelude.{◌≡◌, ◌≢◌, ℕ, ◌&&◌, ◌||◌, not, Bool, true, false, ◌⊎◌}
use Rattle.vx_core.specs.declared.stage.Phase.{Phase}
use Rattle.vx_core.specs.declared.stage.Stage.{Stage}
use Rattle.vx_core.specs.declared.stage.Phase.TheVariants.{Settled}
use Rattle.vx_base.specs.Blocks.{Contents}
use Rattle.vx_mask.specs.Mask.{has, only, union, without}
use Rattle.vx_core.specs.Region.{Around}
use Rattle.vx_core.specs.Soundness.{IsData, IsUnmarked}
use Rattle.vx_core.specs.Kept.{IsKept}
use Rattle.vx_core.specs.Schedule.{IsIdle}

-- the plex goes on, ..
abbrev pub set_on : Stage → ℕ → Stage
set_on s plex = record s { on = union s.on (only plex); off = without s.off (only plex) }

-- .. or off
abbrev pub set_off : Stage → ℕ → Stage
set_off s plex = record s { on = without s.on (only plex); off = union s.off (only plex) }

-- the plex leaves, ..
abbrev pub take_out : Stage → ℕ → Stage
take_out s plex = record s { on = without s.on (only plex); off = without s.off (only plex) }

-- .. or comes, and is off until it is set on
abbrev pub put_in : Stage → ℕ → Stage
put_in s plex = record s { off = union s.off (only plex) }

-- what stands round the stage, with these plexes held and these blocks
abbrev pub with_held : Around → (ℕ → Bool) → (ℕ → Contents) → Around
with_held a held blocks =
    record {
      disks = record { blocks = blocks; marks = a.disks.marks };
      fixed = record {
        held = held;
        copies = a.fixed.copies;
        base = a.fixed.base;
        first = a.fixed.first;
        region = a.fixed.region;
        from = a.fixed.from;
      };
      entries = a.entries;
      pending = a.pending;
      last = a.last;
    }

abbrev pub taken_from : Around → ℕ → Around
taken_from a plex = with_held a (λ k. a.fixed.held k && not (has (only plex) k)) a.disks.blocks

abbrev pub put_into : Around → ℕ → (ℕ → Contents) → Around
put_into a plex blocks = with_held a (λ k. a.fixed.held k || has (only plex) k) blocks

-- no mark is loose, and another plex is on and unmarked
pub record IsSpare (s : Stage) (a : Around) (plex : ℕ) : Type 0 where
  pub tight : (k : ℕ) → a.disks.marks.loose k ≡ false
  pub other : (j : ℕ) × (has s.on j ≡ true) × (has s.bits j ≡ false) × (j ≢ plex)

-- the plex is one that the region may get: it was not held, and its map is no other thing's
pub record IsNew (s : Stage) (a : Around) (plex : ℕ) (blocks : ℕ → Contents) : Type 0 where
  pub logged : s.logged ≡ true
  pub absent : a.fixed.held plex ≡ false
  pub no_snap : has s.snaps plex ≡ false
  pub not_dirty : plex ≢ 30
  pub others : (k i : ℕ) → k ≢ plex → blocks k i ≡ a.disks.blocks k i

-- the plex is marked, or the region is settled and the plex holds the blocks of an unmarked one
abbrev pub IsFitting : Stage → Phase → Around → ℕ → (ℕ → Contents) → Type 0
IsFitting s phase a plex blocks =
    (has s.bits plex ≡ true)
    ⊎ ((phase ≡ Settled) × (j : ℕ) × IsUnmarked a (has s.bits) j × ((i : ℕ) → blocks plex i ≡ a.disks.blocks j i))

-- a held plex may always be set on between jobs
abbrev pub SetOnKeeps : Type 0
SetOnKeeps =
    (s : Stage) (phase : Phase) (a : Around) (plex : ℕ) →
    IsIdle phase → a.fixed.held plex ≡ true → IsKept s phase a → IsKept (set_on s plex) phase a

-- a data plex may be set off in a settled region where it can be spared
abbrev pub SetOffKeeps : Type 0
SetOffKeeps =
    (s : Stage) (a : Around) (plex : ℕ) → IsData s plex → IsSpare s a plex → IsKept s Settled a → IsKept (set_off s plex) Settled a

-- a plex may be taken out of a settled region where it can be spared
abbrev pub TakeKeeps : Type 0
TakeKeeps =
    (s : Stage) (a : Around) (plex : ℕ) → IsSpare s a plex → IsKept s Settled a → IsKept (take_out s plex) Settled (taken_from a plex)

-- a plex that fits may be put in between jobs
abbrev pub PutKeeps : Type 0
PutKeeps =
    (s : Stage) (phase : Phase) (a : Around) (plex : ℕ) (blocks : ℕ → Contents) →
    IsIdle phase → IsNew s a plex blocks → IsFitting s phase a plex blocks → IsKept s phase a → IsKept (put_in s plex) phase (put_into a plex blocks)
