-- A buffer that holds the first blocks of a range holds more of them once more are read behind these.
use Rattle.std.proofs.Common.{◌≡◌, ℕ, ◌+◌, ◌-◌, ◌*◌, ◌/◌, ◌≤◌, List, ◌++◌, length, take, drop, Option, Some, None, IfSome, ap, ◌∙◌, inl, inr, arith}
use Rattle.std.proofs.lemmas.Bool.{cases_lt}
use Rattle.vx_base.specs.Blocks.{Contents, block_at, AreBlocks, written}
use Rattle.vx_base.proofs.BlockLemmas.{block_at-put, written_in, written_out, is_in-before}
use Rattle.vx_started.specs.Buffers.{HoldsFirst}

pub holds_more : (old new bytes : List ℕ) (told : Option Contents) (start o n to : ℕ) → length bytes ≡ 512 * n → 512 * (o + n) ≤ length old → to ≡ 512 * o + 512 * n → new ≡ take (512 * o) old ++ bytes ++ drop to old → IfSome told (λ contents. AreBlocks bytes contents (start + o)) → HoldsFirst old told start o → HoldsFirst new told start (o + n)
holds_more old new bytes None start o n to len room end is fits holds = tt
holds_more old new bytes (Some contents) start o n to len room end is fits holds = λ k lt.
    let place : to ≡ 512 * o + length bytes = omega (arith, end, len) in
    let shape : new ≡ take (512 * o) old ++ bytes ++ drop (512 * o + length bytes) old = is ∙ ap (λ t. take (512 * o) old ++ bytes ++ drop t old) place in
    let put : block_at new k ≡ written o bytes (block_at old) k = ap (λ l. block_at l k) shape ∙ block_at-put old bytes o (omega (arith, len, room)) (omega (arith, len)) k in
    put ∙ elim (cases_lt k o) [
      | inl before ↦ written_out o bytes (block_at old) k (is_in-before o (length bytes / 512) k before) ∙ holds k before
      | inr behind ↦
          let there : start + o + (k - o) ≡ start + k = omega (arith, behind) in
          written_in o bytes (block_at old) k behind (omega (arith, lt, len)) ∙ fits (k - o) (omega (arith, lt, behind, len)) ∙ ap contents there
    ]
