-- The held hashes in one flat array: they stand at its end, one behind the other in block order, so that the next one needed comes first.
use Rattle.std.specs.Prelude.{ℕ, zero, suc, ◌+◌, ◌-◌, ◌*◌, Bool, List, [], ◌∷◌, ◌++◌, length, take, drop, replicate}
use Rattle.octets.specs.Octets.{joined, equal}
use Rattle.merkle.specs.Limits.{hash_length, held_bytes}
use Rattle.merkle.specs.Shape.{shape}
use Rattle.merkle.specs.Hash.{Hashing, hashes, climb}
use Rattle.merkle.specs.Frontier.{siblings, carried_count, held_count}

-- The first c hashes of a run of bytes.
unfoldable pub hashes_in : (c : ℕ) (bytes : List ℕ) → List (List ℕ)
hashes_in zero bytes = []
hashes_in (suc c) bytes = take hash_length bytes ∷ hashes_in c (drop hash_length bytes)

-- Where the hashes that are held after i of n blocks begin; these hashes; the first of them.
unfoldable pub held_start : (n i : ℕ) → ℕ
held_start n i = held_bytes - hash_length * held_count n i

unfoldable pub held_in : (n i : ℕ) (array : List ℕ) → List (List ℕ)
held_in n i array = hashes_in (held_count n i) (drop (held_start n i) array)

unfoldable pub next_held : (n i : ℕ) (array : List ℕ) → List ℕ
next_held n i array = take hash_length (drop (held_start n i) array)

-- Before the first block the root alone is held.
unfoldable pub begun : List ℕ → List ℕ
begun root = replicate (held_bytes - hash_length) 0 ++ root

-- A message's hashes, one behind the other, take the place of the first held one, and the others stay.
unfoldable pub advanced : (n i : ℕ) (array message : List ℕ) → List ℕ
advanced n i array message = let end = held_start n i + hash_length in take (end - length message) array ++ message ++ drop end array

module _ (H : Hashing) where
  -- Whether the hash worked out from block and message, i blocks before them, is the held one.
  unfoldable pub fits : (n i : ℕ) (array block message : List ℕ) → Bool
  fits n i array block message = equal (next_held n i array) (climb H block (hashes_in (carried_count n (suc i)) message))

  -- The hashes that the sender puts into the message of the block with i blocks before it.
  unfoldable pub sent : (n : ℕ) (blocks : ℕ → List ℕ) (i : ℕ) → List ℕ
  sent n blocks i = joined (hashes H blocks (siblings 0 (shape n) i))
