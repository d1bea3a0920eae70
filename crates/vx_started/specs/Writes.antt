-- The calls that write.
use Rattle.std.specs.Prelude.{◌≡◌, ℕ, ◌+◌, ◌-◌, ◌<◌, ◌≤◌, List, []}
use Rattle.vx_base.specs.Blocks.{block_at}
use Rattle.vx_life.specs.declared.EntryKind.TheVariants as kinds
use Rattle.vx_script_forms.specs.declared.call.Call.{Call}
use Rattle.vx_stages.specs.Calls.{start_of, count_of, values_of, done_kind, failed_kind, printed_length}

-- the call writes these bytes to so many blocks from there on
pub record IsWriteOf (start count : ℕ) (bytes : List ℕ) (call : Call) : Type 0 where
  pub starts : start_of call ≡ start
  pub counts : count_of call ≡ count
  pub done : done_kind call ≡ kinds.Write
  pub failed : failed_kind call ≡ kinds.Torn
  pub prints : printed_length call ≡ 0
  pub values : (k : ℕ) → start ≤ k → k < start + count → block_at bytes (k - start) ≡ values_of call [] k
