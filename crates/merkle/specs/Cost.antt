-- What hashing costs, in SHA-256 compressions (02, change 7): those of each digest that the definitions of Hash, Path and Held take, by their own recursions.
use Rattle.std.specs.Prelude.{ℕ, suc, ◌+◌, ◌-◌, ◌*◌, Bool, cond, List, [], ◌∷◌, length, ◌==◌}
use Rattle.sha256.specs.Sha256.{compressions, compressions_for}
use Rattle.merkle.specs.Limits.{hash_length}
use Rattle.merkle.specs.Shape.{Shape, leaf, node, size, Place}
use Rattle.merkle.specs.Hash.{Hashing, leaf_input, node_input, leaf_hash, node_hash, hash}
use Rattle.merkle.specs.Frontier.{carried_count}
use Rattle.merkle.specs.Path.{way, beside_input}
use Rattle.merkle.specs.Held.{hashes_in}

module _ (H : Hashing) where
  -- Of the tree that has o blocks before it: one digest at each place.
  unfoldable pub cost : (blocks : ℕ → List ℕ) (o : ℕ) (s : Shape) → ℕ
  cost blocks o leaf = compressions (leaf_input H (blocks o))
  cost blocks o (node l r) =
      cost blocks o l + cost blocks (o + size l) r + compressions (node_input H (hash H blocks o l) (hash H blocks (o + size l) r))

  -- From a hash up over right siblings, and from a block.
  unfoldable pub climb_from_cost : List ℕ → List (List ℕ) → ℕ
  climb_from_cost x [] = 0
  climb_from_cost x (y ∷ siblings) = compressions (node_input H x y) + climb_from_cost (node_hash H x y) siblings

  unfoldable pub climb_cost : (block : List ℕ) (siblings : List (List ℕ)) → ℕ
  climb_cost block siblings = compressions (leaf_input H block) + climb_from_cost (leaf_hash H block) siblings

  -- From a hash up a way over siblings, and from a block to the root.
  unfoldable pub ascend_cost : List ℕ → List (Place × Bool) → List (List ℕ) → ℕ
  ascend_cost x [] ys = 0
  ascend_cost x (w ∷ ws) [] = 0
  ascend_cost x (w ∷ ws) (y ∷ ys) = compressions (beside_input H x w.1 y) + ascend_cost (H.function (beside_input H x w.1 y)) ws ys

  unfoldable pub path_cost : ℕ → Shape → ℕ → List ℕ → List (List ℕ) → ℕ
  path_cost o s i block ys = compressions (leaf_input H block) + ascend_cost (leaf_hash H block) (way o s i) ys

  -- Of a block message's comparison, i of n blocks before it.
  unfoldable pub fits_cost : (n i : ℕ) (block message : List ℕ) → ℕ
  fits_cost n i block message = climb_cost block (hashes_in (carried_count n (suc i)) message)

  -- By lengths alone (Claims, `CostKnown`): of a block of k bytes, and of two hashes.
  abbrev pub leaf_cost : (k : ℕ) → ℕ
  leaf_cost k = compressions_for (length H.leaf_prefix + k)

  abbrev pub node_cost : ℕ
  node_cost = compressions_for (length H.node_prefix + (hash_length + hash_length))

  -- Of a block message whose block has k bytes: its comparison, and where it is the last one the whole tree, n - 1 blocks of L bytes and this one. With L = 256 and
  -- n = 8, message 1 costs 11.
  unfoldable pub known_cost : (L n i k : ℕ) → ℕ
  known_cost L n i k =
      leaf_cost k + carried_count n (suc i) * node_cost + cond (suc i == n) ((n - 1) * (leaf_cost L + node_cost) + leaf_cost k) 0

  -- For the code alone: of the tree but for block `at`, whose hash is made before.
  unfoldable pub cost_without : (at : ℕ) (blocks : ℕ → List ℕ) (o : ℕ) (s : Shape) → ℕ
  cost_without at blocks o leaf = cond (o == at) 0 (compressions (leaf_input H (blocks o)))
  cost_without at blocks o (node l r) =
      cost_without at blocks o l + cost_without at blocks (o + size l) r + compressions (node_input H (hash H blocks o l) (hash H blocks (o + size l) r))

-- No block message within the limits costs more (Claims, `CostMost`): the last of 1,536 blocks of 1,024 bytes takes 17 for its comparison, and for the tree 17 for each
-- block and 2 for each of 1,535 nodes.
abbrev pub most_cost : ℕ
most_cost = 29199
