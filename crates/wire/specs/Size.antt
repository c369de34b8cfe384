-- Which block lengths L and image lengths T are allowed, and the block numbers (01, 'Tree and labels' and refusals 5 and 11).
use Rattle.std.specs.Prelude.{Bool, not, ◌||◌, ℕ, eqb, ltb}
use Rattle.merkle.specs.Limits.{max_blocks}
use Rattle.merkle.specs.Blocks.{block_count}

unfoldable pub allowed_length : ℕ → Bool
allowed_length L = eqb L 64 || (eqb L 128 || (eqb L 256 || (eqb L 512 || eqb L 1024)))

-- refusal 5: L not allowed, T = 0, or n above the limit
unfoldable pub wrong_size : ℕ → ℕ → Bool
wrong_size L T = not (allowed_length L) || (eqb T 0 || ltb max_blocks (block_count L T))

-- i is outside 1..n
unfoldable pub outside : ℕ → ℕ → Bool
outside n i = eqb i 0 || ltb n i
