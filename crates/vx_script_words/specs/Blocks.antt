-- Blocks as they are kept, and their bytes.
use Rattle.std.specs.Prelude.{ℕ, ◌*◌, ◌==◌, Bool, List, length, take, drop, replicate}
use Rattle.vx_script_words.specs.declared.block.BlockOf.{BlockOf}
use Rattle.vx_script_words.specs.declared.block.BlockOf.TheVariants.{Equal, Whole}

-- a block of equal bytes is kept as the byte
abbrev pub block_bytes : BlockOf → List ℕ
block_bytes (Equal byte) = replicate 512 byte
block_bytes (Whole bytes) = bytes.value

abbrev pub is_whole : BlockOf → Bool
is_whole b = length (block_bytes b) == 512

-- the bytes of a block among others
abbrev pub block_at : ℕ → List ℕ → List ℕ
block_at index bytes = take 512 (drop (512 * index) bytes)
