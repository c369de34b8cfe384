-- A program's blocks in the flash (01, 'Tree and labels' and 'Slip, messages, state'; 02, change 2): how many there are, where each stands and how long it is, all
-- of which follows from L and T; and the root of the tree over them.
use Rattle.std.specs.Prelude.{List, ◌++◌, ℕ, pred, ◌+◌, ◌-◌, ◌*◌, min, length, take, drop}
use Rattle.merkle.specs.Blocks.{block_count, cut}
use Rattle.merkle.specs.Hash.{plain, root_over}
use Rattle.wire.specs.declared.manifest.Manifest.{Manifest}

-- n: "The count is stored nowhere; it follows from T and L."
unfoldable pub count_of : Manifest → ℕ
count_of s = block_count s.block_len s.image_len

-- where block i, from 1, starts
abbrev pub block_start : (L i : ℕ) → ℕ
block_start L i = pred i * L

-- The bytes of block i, from 1, of an image of T bytes: L, or what is left of the image. "the last block travels with the bytes it has"
-- With L = 256 and T = 257, block 1 has 256 and block 2 has 1.
unfoldable pub block_length : (L T i : ℕ) → ℕ
block_length L T i = min L (T - block_start L i)

-- the blocks of a manifest's program, by the number of blocks before: those of the flash's first T bytes
unfoldable pub blocks_of : Manifest → List ℕ → ℕ → List ℕ
blocks_of s flash = cut s.block_len (take s.image_len flash)

-- "writes block i to its place and nothing else": the flash with block i, from 1, written
unfoldable pub with_block : (L : ℕ) → List ℕ → (i : ℕ) → List ℕ → List ℕ
with_block L flash i block = let at = block_start L i in take at flash ++ block ++ drop (at + length block) flash

-- "The tree over an area is that over its first n blocks": its root
unfoldable pub tree_over : (List ℕ → List ℕ) → Manifest → List ℕ → List ℕ
tree_over H s flash = root_over (plain H) (blocks_of s flash) (count_of s)
