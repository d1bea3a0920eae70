-- The facts of a step, of its masks and its blocks together.
use Rattle.std.proofs.Common.{◌≡◌, ℕ, ◌⊎◌, true, false}
use Rattle.vx_base.specs.Blocks.{Contents}
use Rattle.vx_mask.specs.Mask.{has}
use Rattle.vx_core.specs.History.{Pending, overlaid}
use Rattle.vx_core.specs.Form.{IsParted, IsLevel}
use Rattle.vx_core.specs.Kept.{HasReached, AreLevel}

-- a write on its way
pub record IsWriting (all left good failed : ℕ) (call : Pending) (blocks : ℕ → Contents) : Type 0 where
  pub parted : IsParted all left good failed
  pub old : Contents
  pub before : (k i : ℕ) → has left k ≡ true → blocks k i ≡ old i
  pub after : (k i : ℕ) → has good k ≡ true → blocks k i ≡ overlaid call old i
  pub torn : (k i : ℕ) → has failed k ≡ true → (blocks k i ≡ old i) ⊎ (blocks k i ≡ overlaid call old i)

pub writing_of : {all left good failed : ℕ} {call : Pending} {blocks : ℕ → Contents} → IsParted all left good failed → HasReached left good failed call blocks → IsWriting all left good failed call blocks
writing_of parted reached = record { parted = parted; old = reached.old; before = reached.before; after = reached.after; torn = reached.torn }

pub reached_of : {all left good failed : ℕ} {call : Pending} {blocks : ℕ → Contents} → IsWriting all left good failed call blocks → HasReached left good failed call blocks
reached_of writing = record { old = writing.old; before = writing.before; after = writing.after; torn = writing.torn }

-- a settling on its way
pub record IsLevelling (all source left failed : ℕ) (blocks : ℕ → Contents) : Type 0 where
  pub source_current : has all source ≡ true
  pub source_kept : (has left source ≡ false) × (has failed source ≡ false)
  pub left_current : (k : ℕ) → has left k ≡ true → has all k ≡ true
  pub failed_current : (k : ℕ) → has failed k ≡ true → has all k ≡ true
  pub equal : AreLevel all source left failed blocks

pub levelling_of : {all source left failed : ℕ} {blocks : ℕ → Contents} → IsLevel all source left failed → AreLevel all source left failed blocks → IsLevelling all source left failed blocks
levelling_of l equal =
    record { source_current = l.source_current; source_kept = l.source_kept; left_current = l.left_current; failed_current = l.failed_current; equal = equal }

pub level_of : {all source left failed : ℕ} {blocks : ℕ → Contents} → IsLevelling all source left failed blocks → IsLevel all source left failed
level_of l = record { source_current = l.source_current; source_kept = l.source_kept; left_current = l.left_current; failed_current = l.failed_current }
