-- The blocks of an image or of the flash. A block is named by the number of blocks before it, and blocks are a function from that number to bytes.
use Rattle.std.specs.Prelude.{ℕ, ◌+◌, ◌-◌, ◌*◌, ◌/◌, cond, List, take, drop, ◌==◌}

-- The count n of blocks of an image of T bytes: T/L rounded up.
-- With L = 256, 256 bytes are 1 block, and 257 bytes are 2.
unfoldable pub block_count : (L T : ℕ) → ℕ
block_count L T = (T + (L - 1)) / L

-- The blocks of a run of bytes: L bytes each, and the last one what is left.
unfoldable pub cut : (L : ℕ) (bytes : List ℕ) (before : ℕ) → List ℕ
cut L bytes before = take L (drop (before * L) bytes)

-- Blocks with one of them replaced.
unfoldable pub overlay : (blocks : ℕ → List ℕ) (at : ℕ) (block : List ℕ) (before : ℕ) → List ℕ
overlay blocks at block before = cond (before == at) block (blocks before)
