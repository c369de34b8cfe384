-- What a block message costs the device that takes it (02, change 7), in SHA-256 compressions; s is the device's manifest.
use Rattle.std.specs.Prelude.{cond, List, ℕ, pred, ◌+◌, eqb}
use Rattle.merkle.specs.Shape.{shape}
use Rattle.merkle.specs.Hash.{plain}
use Rattle.merkle.specs.Frontier.{carried_count}
use Rattle.merkle.specs.Held.{hashes_in}
use Rattle.merkle.specs.Cost.{cost, climb_cost, known_cost}
use Rattle.wire.specs.declared.manifest.Manifest.{Manifest}
use Rattle.wire.specs.Geometry.{count_of, block_length, blocks_of, with_block}
use Rattle.wire.specs.Message.{block_in, hashes_after}

-- of the tree over the flash, as `tree_over` has it
unfoldable pub tree_cost : (List ℕ → List ℕ) → Manifest → List ℕ → ℕ
tree_cost H s flash = cost (plain H) (blocks_of s flash) 0 (shape (count_of s))

-- i is the message's number, from 1
module _ (H : List ℕ → List ℕ) (s : Manifest) (i : ℕ) where
  -- the bytes of its block
  abbrev k : ℕ
  k = block_length s.block_len s.image_len i

  -- "its comparison's": of the block and the hashes that the message carries
  unfoldable pub comparison_cost : (m : List ℕ) → ℕ
  comparison_cost m = climb_cost (plain H) (block_in k m) (hashes_in (carried_count (count_of s) i) (hashes_after k m))

  -- "and for the last block Change 5's whole tree besides": over the flash with that block in place
  unfoldable pub last_cost : (flash m : List ℕ) → ℕ
  last_cost flash m = cond (eqb i (count_of s)) (tree_cost H s (with_block s.block_len flash i (block_in k m))) 0

  -- "its total". With L = 256 and T = 2,048, message 1 costs 11.
  unfoldable pub block_cost : (flash m : List ℕ) → ℕ
  block_cost flash m = comparison_cost m + last_cost flash m

  -- the same by lengths alone, which follow from L, T and i (Claims, `CostDue`)
  unfoldable pub cost_due : ℕ
  cost_due = known_cost (plain H) s.block_len (count_of s) (pred i) k
