-- What is a geometry: a size of regions that is allowed, and not too many of them.
use Rattle.std.specs.Prelude.{ℕ, ◌*◌, Bool, ◌&&◌, ◌||◌, ◌==◌, nat_lt, nat_le}

-- a power of two of 32 to 2,048 blocks
abbrev pub is_region_size : ℕ → Bool
is_region_size n = n == 32 || n == 64 || n == 128 || n == 256 || n == 512 || n == 1024 || n == 2048

-- some blocks, in at most 262,144 regions
abbrev pub is_geometry : ℕ → ℕ → Bool
is_geometry length region = is_region_size region && nat_lt 0 length && nat_le length (262144 * region)
